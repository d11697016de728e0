-- That no second answer of a ring call fits, and no other bytes. Assumes nothing.
use mathlib.Core.Path.{◌≡◌, sym, ◌∙◌}
use mathlib.Core.List.{List}
use Prim.Native.Nat.{ℕ}
use Rattle.ring.specs.declared.marks.Marks.{Marks}
use Rattle.ring.specs.Command.{lent}
use Rattle.jokulvisp.specs.declared.ringing.JvRing.{JvRing}
use Rattle.jokulvisp.specs.Ring.{RingRunAnswer, RingWriteAnswer, RingResetAnswer}

pub ring-run-once : {ring list shown memory : List ℕ} {m : Marks} {a b : JvRing} {list₁ shown₁ memory₁ list₂ shown₂ memory₂ : List ℕ} →
    RingRunAnswer ring list shown memory m a list₁ shown₁ memory₁ → RingRunAnswer ring list shown memory m b list₂ shown₂ memory₂ →
    (a ≡ b) × (lent list₁ shown₁ memory₁ ≡ lent list₂ shown₂ memory₂)
ring-run-once p q = (p.answered ∙ sym q.answered, p.left ∙ sym q.left)

pub ring-write-once : {ring words : List ℕ} {m : Marks} {a b : JvRing} {ring₁ ring₂ : List ℕ} →
    RingWriteAnswer ring words m a ring₁ → RingWriteAnswer ring words m b ring₂ → (a ≡ b) × (ring₁ ≡ ring₂)
ring-write-once p q = (p.answered ∙ sym q.answered, p.left ∙ sym q.left)

pub ring-reset-once : {a b : JvRing} → RingResetAnswer a → RingResetAnswer b → a ≡ b
unfolding RingResetAnswer
ring-reset-once p q = p ∙ sym q
