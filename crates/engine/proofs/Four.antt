-- A list of four, shifted in at its front and out at its front. Assumes nothing.
use mathlib.Core.Path.{◌≡◌, refl, sym, ◌∙◌}
use Prim.Native.Nat.{ℕ, zero, suc, ◌<◌}
use mathlib.Core.List.{List, [], ◌∷◌, ◌++◌, map}
use native.Mathlib.Omega.{arith}
use lib.ListN.{length, length-map, take, drop, get_or, set}

pub long : {A B : Type 0} (f : A → B) (l : List A) (n : ℕ) → length (map f l) ≡ n → length l ≡ n
long f l n e = sym (length-map l f) ∙ e

-- an element that is there does not depend on the default
pub any : {A : Type 0} (d e : A) (l : List A) (n : ℕ) → n < length l → get_or l n d ≡ get_or l n e
any d e [] n h = absurd (omega arith)
any d e (a ∷ l) zero h = refl
any d e (a ∷ l) (suc n) h = any d e l n (omega arith)

-- what holds of every four holds of a list of four
pub by-four : {A : Type 0} (P : List A → Type 0) → ((a b c d : A) → P (a ∷ b ∷ c ∷ d ∷ [])) → (l : List A) → length l ≡ 4 → P l
by-four P p (a ∷ b ∷ c ∷ d ∷ []) h = p a b c d
by-four P p [] h = absurd (omega arith)
by-four P p (a ∷ []) h = absurd (omega arith)
by-four P p (a ∷ b ∷ []) h = absurd (omega arith)
by-four P p (a ∷ b ∷ c ∷ []) h = absurd (omega arith)
by-four P p (a ∷ b ∷ c ∷ d ∷ f ∷ l) h = absurd (omega arith)

module _ {A : Type 0} (d x : A) where
  pub shift_in : (l : List A) → length l ≡ 4 → x ∷ get_or l 0 d ∷ get_or l 1 d ∷ get_or l 2 d ∷ [] ≡ take 4 (x ∷ l)
  shift_in = by-four (λ l. x ∷ get_or l 0 d ∷ get_or l 1 d ∷ get_or l 2 d ∷ [] ≡ take 4 (x ∷ l)) (λ _ _ _ _. refl)

  pub shift-set : (l : List A) → length l ≡ 4 → set (set (set (set l 0 (get_or l 1 d)) 1 (get_or l 2 d)) 2 (get_or l 3 d)) 3 x ≡ drop 1 l ++ (x ∷ [])
  shift-set = by-four (λ l. set (set (set (set l 0 (get_or l 1 d)) 1 (get_or l 2 d)) 2 (get_or l 3 d)) 3 x ≡ drop 1 l ++ (x ∷ [])) (λ _ _ _ _. refl)

  pub shift-out : (l : List A) → length l ≡ 4 → get_or l 1 d ∷ get_or l 2 d ∷ get_or l 3 d ∷ x ∷ [] ≡ drop 1 l ++ (x ∷ [])
  shift-out = by-four (λ l. get_or l 1 d ∷ get_or l 2 d ∷ get_or l 3 d ∷ x ∷ [] ≡ drop 1 l ++ (x ∷ [])) (λ _ _ _ _. refl)
