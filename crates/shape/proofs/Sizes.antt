-- No product of the test is too large for 64 bits. Assumes nothing.
use mathlib.Core.Path.{◌≡◌, ap}
use mathlib.Core.Bool.{true}
use Prim.Native.Nat.{ℕ, ◌+◌, ◌-◌, ◌*◌, ◌/◌, ◌^◌, ◌≤◌, ◌<◌}
use native.Mathlib.Nat.{mul-le-mul}
use native.Mathlib.Omega.{arith}
use borrow.Author.Tests.{leb-true, ltb-true}
use Rattle.truth.proofs.Bools.{both_true}
use Rattle.units.specs.declared.Pixels.{Pixels}
use Rattle.units.specs.declared.Sixteenths.{Sixteenths}
use Rattle.units.specs.Units.{is_short, short_from, short_to, sampled}
use Rattle.action.specs.declared.shape.End.{End}
use Rattle.action.specs.declared.shape.Segment.{Segment}
use Rattle.action.specs.Ends.{short_end, short_ends}
use Rattle.shape.specs.Cover.{sample_at}
use Rattle.shape.specs.Lines.{Close, OnScreen}
use Rattle.shape.proofs.Squares.{square_le}
use Rattle.shape.proofs.Weights.{two-squares}

short-close : (s : Sixteenths) → is_short s ≡ true → (short_from ≤ s.0) × (s.0 < short_to)
unfolding is_short
short-close s e = let t = both_true _ _ e in (leb-true _ _ t.0, ltb-true _ _ t.1)

end-close : (e : End) → short_end e ≡ true → Close e
unfolding short_end
end-close e h = let t = both_true _ _ h in (short-close e.x t.0, short-close e.y t.1)

pub ends_close : (d : Segment) → short_ends d ≡ true → Close d.from × Close d.to
unfolding short_ends
ends_close d h = let t = both_true _ _ h in (end-close d.from t.0, end-close d.to t.1)

-- a position that is kept as a pixel's sample is
pub at-sample : (s : Sixteenths) (p : Pixels) → s.0 ≡ 16 * p.0 → s ≡ sampled p
at-sample s p e = ap (λ (n : ℕ). record { 0 = n }) e

pub sample_close : (p q : Pixels) → OnScreen p.0 → OnScreen q.0 → Close (sample_at p q)
sample_close p q h k = ((omega arith, omega arith), (omega arith, omega arith))

pub leg_small : (r a b : ℕ) → r ≡ (a - b) + (b - a) → (short_from ≤ a) × (a < short_to) → (short_from ≤ b) × (b < short_to) → r * r ≤ 65535 * 65535
leg_small r a b e h k = square_le {b = 65535} (omega arith)

-- the product of two numbers, by their sum
pub product_small : (x y sum : ℕ) → x + y ≤ sum → sum < 2 ^ 33 → x * y < 2 ^ 64
product_small x y sum l m =
    let s : (x + y) * (x + y) ≤ (2 ^ 33 - 1) * (2 ^ 33 - 1) = square_le {b = 2 ^ 33 - 1} (omega arith) in
    omega (arith, two-squares x y)

pub halves_small : (rest : ℕ) → rest < 2 ^ 33 → rest / 2 * (rest - rest / 2) < 2 ^ 64
halves_small rest l =
    let s : rest / 2 * (rest - rest / 2) ≤ (2 ^ 32 - 1) * 2 ^ 32 = mul-le-mul {n₂ = 2 ^ 32 - 1} {m₂ = 2 ^ 32} (omega arith) (omega arith) in
    omega arith

pub slack_small : (w r : ℕ) → w < 2 ^ 32 → r ≤ 131070 → w * r ≤ (2 ^ 32 - 1) * 131070
slack_small w r h k = mul-le-mul {n₂ = 2 ^ 32 - 1} {m₂ = 131070} (omega arith) k

pub short-product : (a b : ℕ) → a < 2 ^ 16 → b < 2 ^ 16 → a * b ≤ 65535 * 65535
short-product a b h k = mul-le-mul {n₂ = 65535} {m₂ = 65535} (omega arith) (omega arith)
