-- A vertex lies where document 01 places it: no position is so far out that it could not be kept. Assumes nothing.
use mathlib.Core.Path.{◌≡◌}
use Prim.Native.Nat.{ℕ, suc, ◌+◌, ◌-◌, ◌*◌, ◌^◌, ◌≤◌}
use native.Mathlib.Omega.{arith}
use lib.IntN.{ℤ, pos, negsuc, nat_abs, sub_ℕ, ◌+ℤ◌, ◌*ℤ◌}
use lib.Pow.{pow-add, pow_mono}
use Rattle.units.specs.Units.{meant_sixteenths, sixteenth_at, meant_translation}
use Rattle.units.proofs.AnyDisplacement.{by_side, times-most}
use Rattle.units.proofs.Meaning.{sixteenth-at}
use Rattle.engine.specs.declared.context.Placing.{Placing}
use Rattle.engine.specs.Vertex.{unit_of, placed2f, placed2ii}
use Rattle.invariant.specs.Numbers.{MeantVertices}
use Rattle.words.specs.Fields.{InBits}
use Rattle.invariant.specs.State.{ValidPlacing}
use Rattle.words.proofs.Integers.{field-most}

-- how large a sum is
sub-most : (a b : ℕ) → nat_abs (sub_ℕ a b) ≤ a + b
sub-most a b = by_side a b (λ (z : ℤ). nat_abs z ≤ a + b) (λ h. omega arith) (λ h. omega arith)

sum-most : (a b : ℤ) → nat_abs (a +ℤ b) ≤ nat_abs a + nat_abs b
sum-most (pos a) (pos b) = omega arith
sum-most (pos a) (negsuc b) = sub-most a (suc b)
sum-most (negsuc a) (pos b) = omega (arith, sub-most b (suc a))
sum-most (negsuc a) (negsuc b) = omega arith

moved : (z : ℤ) (n : ℕ) → nat_abs z ≤ 2 ^ 18 → InBits 17 (meant_translation n) → meant_sixteenths (sixteenth_at (z +ℤ meant_translation n)) ≡ z +ℤ meant_translation n
moved z n l h =
    (sixteenth-at (z +ℤ meant_translation n) (omega (arith, sum-most z (meant_translation n), field-most 17 (meant_translation n) h))).meant

scaled : (z : ℤ) (frac n : ℕ) → InBits 15 z → InBits 17 (meant_translation n) → meant_sixteenths (sixteenth_at (z *ℤ pos (unit_of frac) +ℤ meant_translation n)) ≡ z *ℤ pos (unit_of frac) +ℤ meant_translation n
scaled z frac n h t =
    let l : 4 - frac ≤ 4 = omega arith in
    moved (z *ℤ pos (unit_of frac)) n (times-most z (unit_of frac) (2 ^ 14) (2 ^ 4) (field-most 15 z h) (pow_mono l)) t

unit-of : (frac : ℕ) → frac ≤ 4 → unit_of frac * 2 ^ frac ≡ 16
unit-of frac l = let e : 4 - frac + frac ≡ 4 = omega arith in rw (← pow-add 2 (4 - frac) frac, e)

pub vertices-meant : (p : Placing) → ValidPlacing p → MeantVertices p
unfolding placed2f placed2ii
vertices-meant p v = record {
  unit = unit-of p.frac v.frac;
  x2f = λ x y h. scaled x p.frac p.dx h v.dx;
  y2f = λ x y h. scaled y p.frac p.dy h v.dy;
  x2ii = λ x y handle cell h. moved (pos (16 * x)) p.dx (omega arith) v.dx;
  y2ii = λ x y handle cell h. moved (pos (16 * y)) p.dy (omega arith) v.dy;
}
