-- What a run takes: the words at the front of those that wait, at most one command a turn, and all that wait if its turns suffice. Assumes nothing.
use mathlib.Core.Path.{◌≡◌, refl, sym, ap, ◌∙◌}
use mathlib.Core.Bool.{true}
use mathlib.Core.List.{List, [], ◌∷◌, ◌++◌, append_assoc, append-nil}
use Prim.Native.Nat.{ℕ, zero, suc, ◌+◌, ◌*◌, ◌/◌, ◌≤◌, ◌<◌}
use native.Mathlib.Nat.{add-suc, add-zero, suc-add, zero-add}
use native.Mathlib.Decide.{ℕ_discrete}
use native.Mathlib.Omega.{arith}
use lib.ListN.{length, length-append}
use Rattle.ring.specs.declared.marks.Marks.{Marks}
use Rattle.std.specs.Prelude.{Ok, Err}
use Rattle.ring.specs.Command.{Runs, Outcome, size_of}
use Rattle.ring.specs.Flow.{all_obeyed, joined, offset_after}
use Rattle.ring.specs.Ring.{around, waiting, word_from, words_from, each, queue, are_places}
use Rattle.ring.specs.Run.{Ran, stopped, moved_on, command_at, words_at, settled, step, run}
use Rattle.ring.proofs.Places.{Placed, placed, around-around, waiting_none, none-waiting, waiting-moved}
use Rattle.ring.proofs.Steps.{Comes, obeyed-comes, words_long, now, step-took, step-cases, step-places, step-exact, step-four, step-most, run-idle, run-stop, run_on}

-- WORDS ONE AFTER ANOTHER
pub each-split : (f : ℕ → ℕ) (k a b : ℕ) → each f k (a + b) ≡ each f k a ++ each f (k + a) b
each-split f k zero b = rw (zero-add, add-zero)
each-split f k (suc a) b = rw (suc-add, add-suc k a) (rw (← suc-add) (ap (λ (l : List ℕ). f k ∷ l) (each-split f (suc k) a b)))

pub each_same : (f g : ℕ → ℕ) (k l n : ℕ) → ((j : ℕ) → j < n → f (k + j) ≡ g (l + j)) → each f k n ≡ each g l n
each_same f g k l zero h = refl
each_same f g k l (suc n) h =
    let e : f k ≡ g l = simp add-zero at (h 0 (omega arith)) in
    let r : each f (suc k) n ≡ each g (suc l) n = each_same f g (suc k) (suc l) n (λ j i. simp suc-add (simp add-suc at (h (suc j) (omega arith)))) in
    rw (e, r)

joined-append : (a b : List (List ℕ)) → joined (a ++ b) ≡ joined a ++ joined b
joined-append [] b = refl
joined-append (words ∷ a) b = rw (joined-append a b) (sym (append_assoc words (joined a) (joined b)))

word_on : (ring : List ℕ) (at k j : ℕ) → word_from ring at (k + j) ≡ word_from ring (around at (4 * k)) j
unfolding word_from
word_on ring at k j =
    let e : 4 * (k + j) ≡ 4 * k + 4 * j = omega arith in
    rw (e, around-around)

-- A STEP TAKES THE FRONT
module _ (ring : List ℕ) where
  -- the words behind the first k are those from a read mark that has moved past these
  moved-queue : (m : Marks) → Placed m → (k offset : ℕ) → 4 * k ≤ waiting m → queue ring m ≡ words_from ring m.read k ++ queue ring (moved_on m k offset)
  unfolding queue
  moved-queue m p k offset h =
      let n = waiting (moved_on m k offset) / 4 in
      let v = waiting-moved p k offset h in
      let w : waiting m / 4 ≡ k + n = omega arith in
      let later = each_same (word_from ring m.read) (word_from ring (around m.read (4 * k))) (0 + k) 0 n (λ j l. simp zero-add (word_on ring m.read k j)) in
      rw w (each-split (word_from ring m.read) 0 k n ∙ ap (λ (l : List ℕ). words_from ring m.read k ++ l) later)

  module _ (m : Marks) (x : Runs) (e : are_places m ≡ true) where
    settled-queue : (k : ℕ) (out : Outcome) (y : Runs) → 4 * k ≤ waiting m →
        queue ring m ≡ joined (settled m (words_from ring m.read k) out y).commands ++ queue ring (settled m (words_from ring m.read k) out y).marks
    unfolding queue waiting
    settled-queue k (Ok taken) y h = rw (append-nil, words_long ring m.read k) (moved-queue m (placed m e) k taken.offset h)
    settled-queue k (Err why) y h = refl

    step-queue : queue ring m ≡ joined (step ring m x).commands ++ queue ring (step ring m x).marks
    step-queue =
        step-cases ring m x (λ r. queue ring m ≡ joined r.commands ++ queue ring r.marks) refl
        (λ h. settled-queue (size_of (command_at ring m)) (now ring m x).outcome (now ring m x).runs (rw words_long at h))

  -- A RUN, by induction on its turns
  pub turn-cases : (P : Ran → Type 0) (m : Marks) (x : Runs) (n : ℕ) →
      (m.read ≡ m.write → P (stopped 0 m x)) →
      ((m.read ≡ m.write → ⊥) → ((step ring m x).number ≡ 0 → ⊥) → P (step ring m x)) →
      ((m.read ≡ m.write → ⊥) → (step ring m x).number ≡ 0 →
      P (let rest = run ring n (step ring m x).marks (step ring m x).runs in
      record { number = rest.number; place = rest.place; commands = (step ring m x).commands ++ rest.commands; marks = rest.marks; runs = rest.runs })) →
      P (run ring (suc n) m x)
  turn-cases P m x n idle stop on =
      elim (ℕ_discrete m.read m.write) [
        | yes e ↦ rw (run-idle ring m x (suc n) e) (idle e)
        | no busy ↦ elim (ℕ_discrete (step ring m x).number 0) [
          | yes z ↦ rw (run_on ring m x n busy z) (on busy z)
          | no z ↦ rw (run-stop ring m x n busy z) (stop busy z)
        ]
      ]

  pub run-most : (n : ℕ) (m : Marks) (x : Runs) → length (run ring n m x).commands ≤ n
  unfolding run
  run-most zero m x = omega arith
  run-most (suc n) m x =
      let s = step-most ring m x in
      turn-cases (λ r. length r.commands ≤ suc n) m x n (λ e. omega arith) (λ busy z. omega arith)
      (λ busy z. simp length-append (omega (arith, run-most n (step ring m x).marks (step ring m x).runs)))

  pub run-queue : (n : ℕ) (m : Marks) (x : Runs) → are_places m ≡ true → queue ring m ≡ joined (run ring n m x).commands ++ queue ring (run ring n m x).marks
  unfolding run
  run-queue zero m x e = refl
  run-queue (suc n) m x e =
      let s = step-queue m x e in
      let r = run-queue n (step ring m x).marks (step ring m x).runs (step-places ring m x e) in
      turn-cases (λ r. queue ring m ≡ joined r.commands ++ queue ring r.marks) m x n (λ i. refl) (λ busy z. s)
      (λ busy z. rw (joined-append, append_assoc, ← r) s)

  pub run-exact : (n : ℕ) (m : Marks) (x : Runs) → are_places m ≡ true →
      4 * length (joined (run ring n m x).commands) + waiting (run ring n m x).marks ≡ waiting m
  unfolding run
  run-exact zero m x e = omega arith
  run-exact (suc n) m x e =
      let s = step-exact ring m x e in
      let r = run-exact n (step ring m x).marks (step ring m x).runs (step-places ring m x e) in
      turn-cases (λ r. 4 * length (joined r.commands) + waiting r.marks ≡ waiting m) m x n (λ i. omega arith) (λ busy z. s)
      (λ busy z. rw joined-append (rw length-append (omega arith)))

  -- what it leaves is what its commands leave, one after another
  module _ (m : Marks) (x : Runs) (e : are_places m ≡ true) where
    abbrev left : Ran → Type 0
    left r = r.runs ≡ all_obeyed r.commands m.offset x

    settled-left : (out : Outcome) (y : Runs) → out ≡ (now ring m x).outcome → y ≡ (now ring m x).runs → Comes x out y → left (settled m (words_at ring m) out y)
    settled-left (Ok taken) y p q k = q
    settled-left (Err why) y p q k = k.1

    step_left : left (step ring m x)
    step_left =
        step-cases ring m x left refl
        (λ h. settled-left (now ring m x).outcome (now ring m x).runs refl refl (obeyed-comes (words_at ring m) m.offset x (placed m e).offset-most (placed m e).offset-whole))

    settled-offset : (out : Outcome) (y : Runs) → (settled m (words_at ring m) out y).marks.offset ≡ offset_after out m.offset
    settled-offset (Ok taken) y = refl
    settled-offset (Err why) y = refl

    step-offset : (step ring m x).number ≡ 0 → (step ring m x).marks.offset ≡ offset_after (now ring m x).outcome m.offset
    step-offset =
        step-cases ring m x (λ r. r.number ≡ 0 → r.marks.offset ≡ offset_after (now ring m x).outcome m.offset) (λ z. absurd (omega arith))
        (λ h z. settled-offset (now ring m x).outcome (now ring m x).runs)

  pub run-commands : (n : ℕ) (m : Marks) (x : Runs) → are_places m ≡ true → (run ring n m x).runs ≡ all_obeyed (run ring n m x).commands m.offset x
  unfolding run
  run-commands zero m x e = refl
  run-commands (suc n) m x e =
      turn-cases (λ r. r.runs ≡ all_obeyed r.commands m.offset x) m x n (λ i. refl) (λ busy z. step_left m x e)
      (λ busy z.
      let took = step-took ring m x e z in
      let l : (step ring m x).runs ≡ (now ring m x).runs = rw took at (step_left m x e) in
      let rest = (run ring n (step ring m x).marks (step ring m x).runs).commands in
      rw took
      (run-commands n (step ring m x).marks (step ring m x).runs (step-places ring m x e)
      ∙ ap (λ (k : ℕ). all_obeyed rest k (step ring m x).runs) (step-offset m x e z)
      ∙ ap (λ (y : Runs). all_obeyed rest (offset_after (now ring m x).outcome m.offset) y) l))

  -- turns for all that waits: number 0 is an empty ring, and more turns change nothing
  pub run-empty : (n : ℕ) (m : Marks) (x : Runs) → are_places m ≡ true → waiting m ≤ 4 * n → (run ring n m x).number ≡ 0 → waiting (run ring n m x).marks ≡ 0
  unfolding run
  run-empty zero m x e h = λ z. omega arith
  run-empty (suc n) m x e h =
      turn-cases (λ r. r.number ≡ 0 → waiting r.marks ≡ 0) m x n
      (λ i z. waiting_none m (placed m e).read-most i)
      (λ busy n z. absurd (n z))
      (λ busy z. run-empty n (step ring m x).marks (step ring m x).runs (step-places ring m x e) (omega (arith, step-four ring m x e z)))

  pub run-longer : (n more : ℕ) (m : Marks) (x : Runs) → are_places m ≡ true → waiting m ≤ 4 * n → run ring (n + more) m x ≡ run ring n m x
  unfolding run
  run-longer zero more m x e h = run-idle ring m x (0 + more) (none-waiting (placed m e) (omega arith))
  run-longer (suc n) more m x e h =
      rw suc-add
      (elim (ℕ_discrete m.read m.write) [
        | yes i ↦ run-idle ring m x (suc (n + more)) i ∙ sym (run-idle ring m x (suc n) i)
        | no busy ↦ elim (ℕ_discrete (step ring m x).number 0) [
          | yes z ↦
              let r = run-longer n more (step ring m x).marks (step ring m x).runs (step-places ring m x e) (omega (arith, step-four ring m x e z)) in
              run_on ring m x (n + more) busy z ∙ rw r (sym (run_on ring m x n busy z))
          | no z ↦ run-stop ring m x (n + more) busy z ∙ sym (run-stop ring m x n busy z)
        ]
      ])
