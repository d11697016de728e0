-- What holds of each element of a list, after the list was changed. Assumes nothing.
use mathlib.Core.Path.{◌≡◌, refl, ap}
use mathlib.Core.List.{List, [], ◌∷◌, ◌++◌}
use Prim.Native.Nat.{ℕ, zero, suc}
use lib.ListN.{get_or, set, take, drop}
use Rattle.invariant.specs.Each.{Each}

module _ {A : Type 0} (P : A → Type 0) where
  pub each_set : (l : List A) (n : ℕ) (x : A) → P x → Each P l → Each P (set l n x)
  each_set [] n x p h = tt
  each_set (y ∷ l) zero x p h = (p, h.1)
  each_set (y ∷ l) (suc n) x p h = (h.0, each_set l n x p h.1)

  pub each_take : (n : ℕ) (l : List A) → Each P l → Each P (take n l)
  each_take zero l h = tt
  each_take (suc n) [] h = tt
  each_take (suc n) (y ∷ l) h = (h.0, each_take n l h.1)

  each-end : (l : List A) (x : A) → P x → Each P l → Each P (l ++ (x ∷ []))
  each-end [] x p h = (p, tt)
  each-end (y ∷ l) x p h = (h.0, each-end l x p h.1)

  -- the first out, and another in at the end
  pub each-moved : (l : List A) (x : A) → P x → Each P l → Each P (drop 1 l ++ (x ∷ []))
  each-moved [] x p h = (p, tt)
  each-moved (y ∷ l) x p h = each-end l x p h.1

  pub each_at : (l : List A) (n : ℕ) (d : A) → P d → Each P l → P (get_or l n d)
  each_at [] n d p h = p
  each_at (y ∷ l) zero d p h = h.0
  each_at (y ∷ l) (suc n) d p h = each_at l n d p h.1

  -- an element after one was set: the one that was set, or the one that was there
  pub set_at : (l : List A) (i n : ℕ) (x d : A) → P (get_or l n d) → (n ≡ i → P x) → P (get_or (set l i x) n d)
  set_at [] i n x d p q = p
  set_at (y ∷ l) zero zero x d p q = q refl
  set_at (y ∷ l) zero (suc n) x d p q = p
  set_at (y ∷ l) (suc i) zero x d p q = p
  set_at (y ∷ l) (suc i) (suc n) x d p q = set_at l i n x d p (λ e. q (ap suc e))

pub each-so : {A : Type 0} {P Q : A → Type 0} → ((x : A) → P x → Q x) → (l : List A) → Each P l → Each Q l
each-so so [] h = tt
each-so so (x ∷ l) h = (so x h.0, each-so so l h.1)
