-- Squares: what is too far along one leg alone is not within the size, and what one leg leaves is for the other. Assumes nothing.
use mathlib.Core.Path.{◌≡◌, refl}
use mathlib.Core.Bool.{Bool, true, false, ◌&&◌}
use Prim.Native.Nat.{ℕ, ◌+◌, ◌-◌, ◌*◌, ◌^◌, ◌≤◌, ◌<◌}
use native.Mathlib.Nat.{mul-le-mul, mul-le-mul_left, mul-lt-mul_of_pos_right, le_of_lt, lt_of_le_of_lt}
use native.Mathlib.Omega.{arith}
use lib.Dec.{leb, ltb}
use borrow.Author.Tests.{ltb-true, ltb-false, leb-true, lt-leb}
use Rattle.shape.specs.Cover.{within}
use Rattle.shape.proofs.Bools.{same_tests}

pub square-lt : (a b : ℕ) → a < b → a * a < b * b
square-lt a b h = lt_of_le_of_lt (mul-le-mul_left a (le_of_lt h)) (mul-lt-mul_of_pos_right h (omega arith))

pub square_le : {a b : ℕ} → a ≤ b → a * a ≤ b * b
square_le h = mul-le-mul h h

pub root-le : (a b : ℕ) → a * a ≤ b * b → a ≤ b
root-le a b h = go (ltb b a) refl
  where
    go : (t : Bool) → ltb b a ≡ t → a ≤ b
    go true e = absurd (omega (arith, square-lt b a (ltb-true b a e)))
    go false e = ltb-false b a e

-- neither leg is longer than the size
pub within-legs : (a b size : ℕ) → within a b size ≡ true → (a ≤ size) × (b ≤ size)
unfolding within
within-legs a b size e =
    let h : a * a + b * b ≤ size * size = leb-true (a * a + b * b) (size * size) e in
    (root-le a size (omega arith), root-le b size (omega arith))

pub down-too-far : (a b size : ℕ) → size < b → within a b size ≡ false
unfolding within
down-too-far a b size h = lt-leb (a * a + b * b) (size * size) (omega (arith, square-lt size b h))

-- what b leaves of the size is for a, which no size reaches from 2 ^ 32 on
pub within-left : (a b size : ℕ) → b ≤ size → size < 2 ^ 32 → within a b size ≡ (ltb a (2 ^ 32) && ltb (a * a) (size * size - b * b + 1))
unfolding within
within-left a b size h k = go (ltb a (2 ^ 32)) refl
  where
    go : (t : Bool) → ltb a (2 ^ 32) ≡ t → leb (a * a + b * b) (size * size) ≡ (t && ltb (a * a) (size * size - b * b + 1))
    go true e =
        let l : b * b ≤ size * size = square_le h in
        same_tests (a * a + b * b) (size * size) (a * a) (size * size - b * b + 1) (λ m. omega arith) (λ m. omega arith)
    go false e =
        lt-leb (a * a + b * b) (size * size) (omega (arith, square-lt size a (omega (arith, ltb-false a (2 ^ 32) e))))
