-- `floor16 z` is the one integer q with 16 q ≤ z < 16 q + 16. Assumes nothing.
use mathlib.Core.Path.{◌≡◌, ◌∙◌, ap}
use Prim.Native.Nat.{ℕ, zero, suc, ◌+◌, ◌*◌, ◌/◌, ◌≤◌}
use native.Mathlib.Omega.{arith}
use lib.Dec.{leb→le, le→leb, ltb→lt, lt→ltb}
use lib.IntN.{ℤ, pos, negsuc, ◌+ℤ◌, ◌*ℤ◌}
use lib.Signed.{◌≤ℤ◌, ◌<ℤ◌}
use Rattle.units.specs.Units.{floor16, RoundedDown}
use Rattle.units.proofs.AnyDisplacement.{sub-below}

-- for a negative q: 16 q, and the multiple after it, which for -16 is 0
times : (m : ℕ) → pos 16 *ℤ negsuc m ≡ negsuc (16 * m + 15)
times m = let e : 16 * suc m ≡ suc (16 * m + 15) = omega arith in rw e

next : (m : ℕ) → pos 16 *ℤ negsuc (suc m) +ℤ pos 16 ≡ negsuc (16 * m + 15)
next m =
    rw (times (suc m))
    (sub-below 16 (suc (16 * suc m + 15)) (omega arith) ∙ ap negsuc (omega arith))

before-next : (n m : ℕ) → 16 * m ≤ n → negsuc n <ℤ (pos 16 *ℤ negsuc m +ℤ pos 16)
before-next n zero h = record { lt = tt }
before-next n (suc m) h = rw (next m) (record { lt = lt→ltb (16 * m + 15) n (omega arith) })

next-after : (n m : ℕ) → negsuc n <ℤ (pos 16 *ℤ negsuc m +ℤ pos 16) → 16 * m ≤ n
next-after n zero h = omega arith
next-after n (suc m) h =
    let k : negsuc n <ℤ negsuc (16 * m + 15) = rw (next m) at h in
    omega (arith, ltb→lt (16 * m + 15) n k.lt)

next-not-after : (n m : ℕ) → pos n <ℤ (pos 16 *ℤ negsuc m +ℤ pos 16) → ⊥
next-not-after n zero h = omega (arith, ltb→lt n 0 h.lt)
next-not-after n (suc m) h = let k : pos n <ℤ negsuc (16 * m + 15) = rw (next m) at h in k.lt

pub floor16-rounds : (z : ℤ) → RoundedDown z (floor16 z)
unfolding floor16
floor16-rounds (pos n) = record {
  reached = record { le = le→leb (16 * (n / 16)) n (omega arith) };
  last = record { lt = lt→ltb n (16 * (n / 16) + 16) (omega arith) };
}
floor16-rounds (negsuc n) = record {
  reached = rw (times (n / 16)) (record { le = le→leb n (16 * (n / 16) + 15) (omega arith) });
  last = before-next n (n / 16) (omega arith);
}

pub floor16-only : (z q : ℤ) → RoundedDown z q → q ≡ floor16 z
unfolding floor16
floor16-only (pos n) (pos m) r =
    ap pos (omega (arith, leb→le (16 * m) n r.reached.le, ltb→lt n (16 * m + 16) r.last.lt))
floor16-only (pos n) (negsuc m) r = absurd (next-not-after n m r.last)
floor16-only (negsuc n) (pos m) r = absurd r.reached.le
floor16-only (negsuc n) (negsuc m) r =
    let k : negsuc (16 * m + 15) ≤ℤ negsuc n = rw (times m) at r.reached in
    ap negsuc (omega (arith, leb→le n (16 * m + 15) k.le, next-after n m r.last))
