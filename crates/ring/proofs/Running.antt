-- A turn of the run's loop, where a step was told. Assumes nothing.
use mathlib.Core.Path.{◌≡◌, sym, ap, ◌∙◌}
use mathlib.Core.List.{List}
use Prim.Native.Nat.{ℕ, ◌+◌, ◌≤◌, ◌<◌}
use native.Mathlib.Omega.{arith}
use Rattle.ring.specs.declared.marks.Answer.{Answer}
use Rattle.ring.specs.declared.marks.Marks.{Marks}
use Rattle.ring.specs.Command.{Runs, lent}
use Rattle.ring.specs.Ring.{waiting}
use Rattle.ring.specs.Run.{Ran, step, run, Tells}
use Rattle.ring.proofs.Steps.{Onward, Ended, onward-idle, onward-left, onward-more, onward-stop, step_fewer, step-most, step-one}

ended-told : {r : Ran} {number place count : ℕ} {m : Marks} {list shown memory : List ℕ} → Ended r number place count m (lent list shown memory) →
    Tells r (record { number = number; place = place; count = count; marks = m }) list shown memory
ended-told e = record { answered = sym e.tells; left = e.leaves }

module _ {ring : List ℕ} {m₀ : Marks} {x₀ : Runs} {count : ℕ} {m : Marks} {list shown memory : List ℕ} (on : Onward ring m₀ x₀ count m (lent list shown memory)) where
  pub turn-idle : m.read ≡ m.write → Tells (run ring 1023 m₀ x₀) (record { number = 0; place = 0; count = count; marks = m }) list shown memory
  turn-idle e = ended-told (onward-idle on e)

  module _ (busy : m.read ≡ m.write → ⊥) (done : Answer) {list' shown' memory' : List ℕ} (t : Tells (step ring m (lent list shown memory)) done list' shown' memory') where
    one_more : done.count ≤ 1
    one_more = omega (arith, step-most ring m (lent list shown memory), ap (λ a. a.count) t.answered)

    pub turn-count : count + done.count ≤ 1023
    turn-count = omega (arith, one_more, onward-left on busy)

    went_on : done.number ≡ 0 → (step ring m (lent list shown memory)).number ≡ 0
    went_on z = sym (ap (λ a. a.number) t.answered) ∙ z

    pub turn-fewer : done.number ≡ 0 → waiting done.marks < waiting m
    turn-fewer z = rw t.answered (step_fewer ring m (lent list shown memory) on.places (went_on z))

    pub turn_more : done.number ≡ 0 → Onward ring m₀ x₀ (count + done.count) done.marks (lent list' shown' memory')
    turn_more z = rw (t.answered, step-one ring m (lent list shown memory) on.places (went_on z), ← t.left) (onward-more on busy (went_on z))

    pub turn_last : (done.number ≡ 0 → ⊥) →
        Tells (run ring 1023 m₀ x₀) (record { number = done.number; place = done.place; count = count + done.count; marks = done.marks }) list' shown' memory'
    turn_last z = rw t.answered (ended-told (rw t.left at (onward-stop on busy (λ e. z (ap (λ a. a.number) t.answered ∙ e)))))
