-- Answers that tell whether two values are equal: how they combine, and that there is one only. Assumes nothing.
use mathlib.Core.Path.{◌≡◌, refl, sym, ◌∙◌, ap}
use mathlib.Core.Bool.{Bool, true, false, ◌&&◌}
use Prim.Native.Nat.{ℕ}
use lib.Dec.{eqb}
use borrow.Author.Tests.{eqb-true, eq-eqb}
use Rattle.truth.proofs.Bools.{both_true, never}
use Rattle.action.specs.Same.{Tells}

-- no second answer fits
pub tells-once : {a b : Bool} {P : Type 0} → Tells a P → Tells b P → a ≡ b
tells-once {a = true} {b} h k = sym (k.told (h.holds refl))
tells-once {a = false} {b = true} h k = h.told (k.holds refl)
tells-once {a = false} {b = false} h k = refl

-- what does not hold is told false
pub tells-no : {P : Type 0} → (P → ⊥) → Tells false P
tells-no h = record { holds = λ e. never e; told = λ p. absurd (h p) }

pub tells-number : (m n : ℕ) → Tells (eqb m n) (m ≡ n)
tells-number m n = record { holds = eqb-true m n; told = eq-eqb m n }

-- two values side by side
infixl 20 ◌beside◌
pub ◌beside◌ : {A B : Type 0} {x y : A} {u v : B} {a b : Bool} → Tells a (x ≡ y) → Tells b (u ≡ v) → Tells (a && b) (◌≡◌ {A = A × B} (x, u) (y, v))
◌beside◌ {a} {b} h k = record {
  holds = λ e. let t = both_true a b e in rw (h.holds t.0, k.holds t.1);
  told = λ e. rw (h.told (ap (λ p. p.0) e), k.told (ap (λ p. p.1) e));
}

-- what holds exactly when P does
pub tells_as : {P Q : Type 0} {a : Bool} → (P → Q) → (Q → P) → Tells a P → Tells a Q
tells_as to from h = record { holds = λ e. to (h.holds e); told = λ q. h.told (from q) }

-- values of any type, by what they are taken apart into
pub tells-by : {A B : Type 0} {x y : A} {a : Bool} (split : A → B) (join : B → A) → ((z : A) → join (split z) ≡ z) → Tells a (split x ≡ split y) → Tells a (x ≡ y)
tells-by {x} {y} split join back h =
    tells_as (λ e. sym (back x) ∙ ap join e ∙ back y) (λ e. ap split e) h
