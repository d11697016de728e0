-- One law of signs for every signed field: the integer that its bits stand for.
-- Assumes nothing.
use Prim.Native.Nat.{ℕ, suc, zero, ◌+◌, ◌-◌, ◌^◌, ◌<◌, ◌≤◌}
use mathlib.Core.Path.{◌≡◌, ap}
use native.Mathlib.Nat.{not-suc-le-zero}
use native.Mathlib.Omega.{arith}
use lib.IntN.{pos, negsuc, ◌-ℤ◌}
use borrow.Author.Tests.{lt-ltb, le-ltb}
use Rattle.words.specs.Fields.{int, extended}

pub sub-below : (n h : ℕ) → n < h → pos n -ℤ pos h ≡ negsuc (h - suc n)
sub-below n zero l = absurd (not-suc-le-zero l)
sub-below n (suc k) l = rw (lt-ltb n (suc k) l)

-- a field's number as an integer
pub int-low : (half n : ℕ) → n < half → half ≤ 2 ^ 23 → int (extended half n) ≡ pos n
int-low half n l h = rw (lt-ltb n half l, lt-ltb n (2 ^ 31) (omega arith))

pub int-high : (half n : ℕ) → half ≤ n → n < half + half → half ≤ 2 ^ 23 → int (extended half n) ≡ negsuc (half + half - suc n)
int-high half n l u h =
    rw (le-ltb n half l, le-ltb (2 ^ 32 - (half + half) + n) (2 ^ 31) (omega arith))
    (ap negsuc (omega arith))
