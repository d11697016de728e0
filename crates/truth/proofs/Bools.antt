-- What answers say, alone and two together. Assumes nothing.
use mathlib.Core.Path.{◌≡◌, refl, sym, ◌∙◌}
use mathlib.Core.Bool.{Bool, true, false, false≢true, not, cond, ◌&&◌, ◌||◌}
use mathlib.Core.Logic.{◌⊎◌, inl, inr}
use borrow.Author.Tests.{not-true, not-false}

pub never : {P : Type 0} → false ≡ true → P
never e = absurd (false≢true e)

pub not_so : (a : Bool) → (a ≡ true → ⊥) → a ≡ false
not_so true f = absurd (f refl)
not_so false f = refl

pub both_true : (a b : Bool) → a && b ≡ true → (a ≡ true) × (b ≡ true)
both_true true b e = (refl, e)
both_true false b e = (e, never e)

pub both-made : {a b : Bool} → a ≡ true → b ≡ true → a && b ≡ true
both-made h k = rw (h, k)

pub both-alike : {a b p q : Bool} → a ≡ p → b ≡ q → (a && b) ≡ (p && q)
both-alike e f = rw (e, f)

pub either_true : (a b : Bool) → a || b ≡ true → (a ≡ true) ⊎ (b ≡ true)
either_true true b e = inl refl
either_true false b e = inr e

-- two answers that are true of the same
pub same_truth : (a b : Bool) → (a ≡ true → b ≡ true) → (b ≡ true → a ≡ true) → a ≡ b
same_truth true b f g = sym (f refl)
same_truth false true f g = g refl
same_truth false false f g = refl

-- the first of two answers says no more than the second
pub and-implied : (a b : Bool) → (b ≡ true → a ≡ true) → a && b ≡ b
and-implied a true f = rw (f refl)
and-implied true false f = refl
and-implied false false f = refl

-- what a test decides between
pub by-test : {A : Type 0} {a b : A} (P : A → Type 0) (t : Bool) → (t ≡ true → P a) → (t ≡ false → P b) → P (cond t a b)
by-test P true p q = p refl
by-test P false p q = q refl

-- a function answers what a definition says: an `if !answer` that was passed, and one that was entered
pub answered-yes : {answer said : Bool} → answer ≡ said → not answer ≡ false → said ≡ true
answered-yes e h = sym e ∙ not-false _ h

pub answered-no : {answer said : Bool} → answer ≡ said → not answer ≡ true → said ≡ false
answered-no e h = sym e ∙ not-true _ h
