use mathlib.Core.Path.{◌≡◌}
use Prim.Native.Nat.{ℕ, ◌*◌, ◌^◌, ◌≤◌}
use native.Mathlib.Omega.{arith}
use lib.IntN.{ℤ, pos, nat_abs, ◌+ℤ◌, ◌*ℤ◌}
use mir.Facts.{to_z-of_z, to_z_pos}
use mir.Syntax.{w32, w64}
use mir.Val.{to_z, of_z, SFits}
use Rattle.units.specs.Units.{displacement, sixteenth_at}
use Rattle.units.proofs.AnyDisplacement.{times-most}
use Rattle.units.proofs.Meaning.{sixteenth-at}
use Rattle.units.proofs.Sums.{widened, widens, i32-most, most-fits, sum_fits, sum-read, sum-cast}
use Rattle.units.proofs.Sixteenths.of.Goals as goal

module _ (n : ℤ) (unit : ℕ) (fits : SFits w32 n) (h : unit ≤ 16) where
  most : nat_abs (n *ℤ pos unit) ≤ 2 ^ 31 * 16
  most = times-most n unit (2 ^ 31) 16 (i32-most fits) h

  -- the product and the sum that the code takes
  product : to_z w64 (of_z w64 (to_z w32 (of_z w32 n))) *ℤ to_z w64 unit ≡ n *ℤ pos unit
  product = rw (widened fits, to_z_pos w64 {n = unit} (omega arith))

  product-fits : SFits w64 (n *ℤ pos unit)
  product-fits = most-fits (omega (arith, most))

  sum :
      pos (16 * displacement) +ℤ to_z w64 (of_z w64 (to_z w64 (of_z w64 (to_z w32 (of_z w32 n))) *ℤ to_z w64 unit))
      ≡ pos (16 * displacement) +ℤ n *ℤ pos unit
  sum = rw (product, to_z-of_z product-fits)

pub overflow_cast-kept : goal.overflow_cast-kept
overflow_cast-kept c =
    widens c.ranges.n

pub overflow_mul-kept : goal.overflow_mul-kept
overflow_mul-kept c =
    rw (product c.args.n c.args.unit c.ranges.n c.requires) (product-fits _ _ c.ranges.n c.requires)

pub overflow_add-kept : goal.overflow_add-kept
overflow_add-kept c =
    let m = most c.args.n c.args.unit c.ranges.n c.requires in
    rw (sum c.args.n c.args.unit c.ranges.n c.requires)
    (sum_fits (16 * displacement) _ (c.args.n *ℤ pos c.args.unit) m (omega arith) (omega arith))

pub overflow_cast-kept-3 : goal.overflow_cast-kept-3
overflow_cast-kept-3 c =
    let m = most c.args.n c.args.unit c.ranges.n c.requires in
    rw (sum c.args.n c.args.unit c.ranges.n c.requires)
    (sum-cast (16 * displacement) _ (c.args.n *ℤ pos c.args.unit) m (omega arith) (omega arith))

pub returns : goal.returns
unfolding sixteenth_at
returns c =
    let m = most c.args.n c.args.unit c.ranges.n c.requires in
    rw (
      sum c.args.n c.args.unit c.ranges.n c.requires,
      sum-read (16 * displacement) _ (c.args.n *ℤ pos c.args.unit) m (omega arith) (omega arith),
    )
    (sixteenth-at _ (omega arith))
