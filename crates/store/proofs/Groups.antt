-- The groups of one length that a list is cut into, and a list with values stored at its front. Assumes nothing.
use mathlib.Core.Path.{◌≡◌, refl, sym, ap, ◌∙◌}
use mathlib.Core.List.{List, [], ◌∷◌, ◌++◌}
use Prim.Native.Nat.{ℕ, suc, ◌+◌, ◌*◌, ◌<◌, ◌≤◌}
use native.Mathlib.Nat.{mul-le-mul_left, mul-suc, le_of_suc-le-suc, not-suc-le-zero}
use native.Mathlib.Omega.{arith}
use lib.ListN.{length, take, drop, length-append, length-take, length-drop, length-set, set, take-append-drop}
use lib.Seq.{take_at, drop_at, take-append-le, drop-append-le, length-take-le}
use Rattle.store.specs.Store.{group_of}
use Rattle.store.specs.Writing.{stored_from}

stored_past : (i x : ℕ) (xs vs : List ℕ) → stored_from (suc i) (x ∷ xs) vs ≡ x ∷ stored_from i xs vs
stored_past i x xs [] = refl
stored_past i x xs (v ∷ vs) = stored_past (suc i) x (set xs i v) vs

-- values stored from the front on stand there, with the rest of the list behind them
pub stored-all : (xs vs : List ℕ) → length vs ≤ length xs → stored_from 0 xs vs ≡ vs ++ drop (length vs) xs
stored-all xs [] h = refl
stored-all [] (v ∷ vs) h = absurd (not-suc-le-zero h)
stored-all (x ∷ xs) (v ∷ vs) h = stored_past 0 v xs vs ∙ ap (λ ys. v ∷ ys) (stored-all xs vs (le_of_suc-le-suc h))

pub stored-long : (i : ℕ) (xs vs : List ℕ) → length (stored_from i xs vs) ≡ length xs
stored-long i xs [] = refl
stored-long i xs (v ∷ vs) = stored-long (suc i) (set xs i v) vs ∙ length-set xs i v

pub group-long : (n k : ℕ) (xs : List ℕ) → n * k + n ≤ length xs → length (group_of n k xs) ≡ n
group-long n k xs h = simp (length-take, length-drop) (omega arith)

-- the list after its k-th group became ys
abbrev pub replaced : ℕ → ℕ → List ℕ → List ℕ → List ℕ
replaced n k xs ys = take (n * k) xs ++ (ys ++ drop n (drop (n * k) xs))

module _ (n k : ℕ) (xs ys : List ℕ) (room : n * k + n ≤ length xs) where
  pub replaced-here : length ys ≡ n → group_of n k (replaced n k xs ys) ≡ ys
  replaced-here e =
      ap (take n) (drop_at (take (n * k) xs) _ (n * k) (length-take-le (n * k) xs (omega arith)))
      ∙ take_at ys _ n e

  pub replaced-before : (j : ℕ) → j < k → group_of n j (replaced n k xs ys) ≡ group_of n j xs
  replaced-before j l =
      front (ys ++ drop n (drop (n * k) xs))
      ∙ sym (front (drop (n * k) xs))
      ∙ ap (group_of n j) (take-append-drop (n * k) xs)
    where
      below : n * j + n ≤ n * k
      below = let m : n * suc j ≤ n * k = mul-le-mul_left n l in rw mul-suc at m

      long : length (take (n * k) xs) ≡ n * k
      long = length-take-le (n * k) xs (omega arith)

      front : (zs : List ℕ) → group_of n j (take (n * k) xs ++ zs) ≡ take n (drop (n * j) (take (n * k) xs))
      front zs =
          ap (take n) (drop-append-le (n * j) (take (n * k) xs) zs (omega (arith, below, long)))
          ∙ take-append-le n (drop (n * j) (take (n * k) xs)) zs (simp length-drop (omega (arith, below, long)))

  pub replaced-long : length ys ≡ n → length (replaced n k xs ys) ≡ length xs
  replaced-long e = simp (length-append, length-take, length-drop) (omega (arith, e))
