-- Numbers of signed fields: which integers they are, and how large. Assumes nothing.
use mathlib.Core.Path.{◌≡◌}
use mathlib.Core.Bool.{true}
use mathlib.Core.Logic.{⊎_elim}
use Prim.Native.Nat.{ℕ, zero, suc, ◌-◌, ◌/◌, ◌^◌, ◌<◌, ◌≤◌}
use native.Mathlib.Omega.{arith}
use lib.Dec.{leb, ltb, leb→le, le→leb, ltb→lt, lt→ltb}
use lib.IntN.{ℤ, pos, negsuc, neg_ℤ, nat_abs}
use lib.Signed.{◌≤ℤ◌}
use lib.Pow.{pow_mono}
use borrow.Author.Tests.{ltb-true, leb-true, lt-ltb, le-ltb}
use Rattle.truth.proofs.Bools.{both_true, either_true}
use Rattle.words.specs.Fields.{InBits, int, holds_signed}

from-below : (h m : ℕ) → m < h → neg_ℤ (pos h) ≤ℤ negsuc m
from-below zero m l = absurd (omega arith)
from-below (suc h) m l = record { le = le→leb m h (omega arith) }

from_zero : (h n : ℕ) → neg_ℤ (pos h) ≤ℤ pos n
from_zero zero n = record { le = le→leb 0 n (omega arith) }
from_zero (suc h) n = record { le = tt }

-- a signed field's number, as an integer
pub signed-in : (k n : ℕ) → k ≤ 30 → holds_signed (2 ^ k / 2) n ≡ true → InBits k (int n)
unfolding holds_signed
signed-in k n w h =
    ⊎_elim
    (λ a.
    let l : n < 2 ^ k / 2 = ltb-true _ _ a in
    rw (lt-ltb n (2 ^ 31) (omega (arith, small)))
    (record { from = from_zero (2 ^ k / 2) n; to = record { lt = lt→ltb n (2 ^ k / 2) l } }))
    (λ b.
    let l : 2 ^ 32 - 2 ^ k / 2 ≤ n = leb-true _ _ (both_true (leb (2 ^ 32 - 2 ^ k / 2) n) _ b).0 in
    let u : n < 2 ^ 32 = ltb-true _ _ (both_true (leb (2 ^ 32 - 2 ^ k / 2) n) _ b).1 in
    rw (le-ltb n (2 ^ 31) (omega (arith, small)))
    (record { from = from-below (2 ^ k / 2) (2 ^ 32 - suc n) (omega (arith, small)); to = record { lt = tt } }))
    (either_true (ltb n (2 ^ k / 2)) _ h)
  where
    small : 2 ^ k ≤ 2 ^ 30
    small = pow_mono w

at_most : (h n : ℕ) → neg_ℤ (pos h) ≤ℤ negsuc n → suc n ≤ h
at_most zero n l = absurd l.le
at_most (suc h) n l = omega (arith, leb→le n h l.le)

pub field-most : (k : ℕ) (z : ℤ) → InBits k z → nat_abs z ≤ 2 ^ k / 2
field-most k (pos n) h = omega (arith, ltb→lt n (2 ^ k / 2) h.to.lt)
field-most k (negsuc n) h = at_most (2 ^ k / 2) n h.from
