-- One step of a run: what a command comes to, which marks stay places, and what it takes of what waits; then the run
-- turn by turn, and how far it has come. Assumes nothing.
use mathlib.Core.Path.{◌≡◌, refl, sym, ap, ◌∙◌}
use mathlib.Core.Bool.{Bool, true, false, cond, ◌&&◌}
use mathlib.Core.List.{List, [], ◌∷◌, ◌++◌, append-nil}
use Prim.Native.Nat.{ℕ, zero, suc, ◌+◌, ◌*◌, ◌-◌, ◌%◌, ◌≤◌, ◌<◌}
use native.Mathlib.Nat.{add-zero, zero-add}
use native.Mathlib.Omega.{arith}
use Rattle.std.specs.Prelude.{Ok, Err}
use lib.Dec.{eqb, leb, ltb}
use borrow.Author.Tests.{eqb-true, leb-true, ltb-false, eq-eqb, ne_eqb}
use lib.ListN.{get_or, length, length-append}
use Rattle.truth.proofs.Bools.{both_true}
use Rattle.runs.specs.Runs.{bytes_of, laid, part}
use Rattle.runs.proofs.Laws.{part-long}
use Rattle.ring.specs.declared.command.Command.{Command}
use Rattle.ring.specs.declared.command.Command.TheVariants as c
use Rattle.ring.specs.declared.command.Fault.{Fault}
use Rattle.ring.specs.declared.command.Fault.TheVariants as f
use Rattle.ring.specs.declared.marks.Marks.{Marks}
use Rattle.ring.specs.Command.{Runs, Outcome, Done, fault_number, size_of, command_of, is_inside, stored, listed}
use Rattle.ring.specs.Command.{appended, does, obeyed, with_list, taken, fault}
use Rattle.ring.specs.Flow.{joined}
use Rattle.ring.specs.Ring.{waiting, word_from, words_from, each, are_places}
use Rattle.ring.specs.Run.{Ran, stopped, command_at, words_at, settled, step, then, run, are_sized, run_answer}
use Rattle.ring.proofs.Places.{Placed, placed, arranged, placed-moved, placed-faulted, waiting-moved, waiting-faulted, waiting-most, waiting-some}

-- THE WORDS OF A COMMAND
each_long : (f : ℕ → ℕ) (k n : ℕ) → length (each f k n) ≡ n
each_long f k zero = refl
each_long f k (suc n) = ap suc (each_long f (suc k) n)

pub words_long : (ring : List ℕ) (at n : ℕ) → length (words_from ring at n) ≡ n
words_long ring at n = each_long (word_from ring at) 0 n

pub size-some : (command : Command) → 0 < size_of command
unfolding size_of
size-some c.Plain = omega arith
size-some c.DlStart = omega arith
size-some c.Swap = omega arith
size-some c.ColdStart = omega arith
size-some c.MemSet = omega arith
size-some c.MemZero = omega arith
size-some c.MemCpy = omega arith
size-some c.Append = omega arith
size-some c.Unknown = omega arith

first_of : (ring : List ℕ) (at n : ℕ) → 0 < n → get_or (words_from ring at n) 0 0 ≡ word_from ring at 0
first_of ring at zero h = absurd (omega arith)
first_of ring at (suc n) h = refl

pub first_word : (ring : List ℕ) (at : ℕ) (command : Command) → get_or (words_from ring at (size_of command)) 0 0 ≡ word_from ring at 0
first_word ring at command = first_of ring at (size_of command) (size-some command)

-- WHAT A COMMAND COMES TO: a list offset that is a place, or a fault, whose number is not 0, and no effect
abbrev pub Comes : Runs → Outcome → Runs → Type 0
Comes x (Ok taken) y = (taken.offset ≤ 8192) × (taken.offset % 4 ≡ 0)
Comes x (Err why) y = (0 < fault_number why) × (y ≡ x)

fault-some : (why : Fault) → 0 < fault_number why
unfolding fault_number
fault-some f.Unknown = omega arith
fault-some f.ListFull = omega arith
fault-some f.BadRange = omega arith

listed-comes : (new : List ℕ) (offset : ℕ) (x : Runs) → offset % 4 ≡ 0 → length new % 4 ≡ 0 → Comes x (listed new offset x).outcome (listed new offset x).runs
unfolding listed
listed-comes new offset x w h = go (leb (offset + length new) 8192) refl
  where
    go : (t : Bool) → leb (offset + length new) 8192 ≡ t →
        Comes x (cond t (taken (offset + length new) (with_list (laid offset new x.list) x)) (fault f.ListFull x)).outcome
        (cond t (taken (offset + length new) (with_list (laid offset new x.list) x)) (fault f.ListFull x)).runs
    go true e = (leb-true _ _ e, omega arith)
    go false e = (fault-some f.ListFull, refl)

stored-comes : (fits : Bool) (at : ℕ) (new : List ℕ) (offset : ℕ) (x : Runs) → offset ≤ 8192 → offset % 4 ≡ 0 →
    Comes x (stored fits at new offset x).outcome (stored fits at new offset x).runs
unfolding stored
stored-comes true at new offset x l w = (l, w)
stored-comes false at new offset x l w = (fault-some f.BadRange, refl)

pub inside : (at count : ℕ) (memory : List ℕ) → is_inside at count memory ≡ true → at + count ≤ length memory
unfolding is_inside
inside at count memory e = leb-true (at + count) (length memory) e

appended-comes : (at count offset : ℕ) (x : Runs) → offset % 4 ≡ 0 → Comes x (appended at count offset x).outcome (appended at count offset x).runs
unfolding appended
appended-comes at count offset x w = go (is_inside at count x.memory && eqb (count % 4) 0) refl
  where
    go : (t : Bool) → is_inside at count x.memory && eqb (count % 4) 0 ≡ t →
        Comes x (cond t (listed (part at count x.memory) offset x) (fault f.BadRange x)).outcome
        (cond t (listed (part at count x.memory) offset x) (fault f.BadRange x)).runs
    go true e =
        let b = both_true (is_inside at count x.memory) (eqb (count % 4) 0) e in
        let n = part-long at count x.memory (inside at count x.memory b.0) in
        listed-comes (part at count x.memory) offset x w (rw n (eqb-true (count % 4) 0 b.1))
    go false e = (fault-some f.BadRange, refl)

pub does-comes : (command : Command) (words : List ℕ) (offset : ℕ) (x : Runs) → offset ≤ 8192 → offset % 4 ≡ 0 →
    Comes x (does command words offset x).outcome (does command words offset x).runs
unfolding does bytes_of
does-comes c.Plain words offset x l w = listed-comes (bytes_of (get_or words 0 0)) offset x w refl
does-comes c.DlStart words offset x l w = (omega arith, refl)
does-comes c.Swap words offset x l w = (l, w)
does-comes c.ColdStart words offset x l w = (l, w)
does-comes c.MemSet words offset x l w = stored-comes _ _ _ offset x l w
does-comes c.MemZero words offset x l w = stored-comes _ _ _ offset x l w
does-comes c.MemCpy words offset x l w = stored-comes _ _ _ offset x l w
does-comes c.Append words offset x l w = appended-comes _ _ offset x w
does-comes c.Unknown words offset x l w = (fault-some f.Unknown, refl)

pub obeyed-comes : (words : List ℕ) (offset : ℕ) (x : Runs) → offset ≤ 8192 → offset % 4 ≡ 0 →
    Comes x (obeyed words offset x).outcome (obeyed words offset x).runs
unfolding obeyed
obeyed-comes words offset x l w = does-comes (command_of (get_or words 0 0)) words offset x l w

-- number 37's test of the runs as they are
abbrev pub is_sized : List ℕ → Runs → Bool
is_sized ring x = are_sized (length ring) (length x.list) (length x.shown) (length x.memory)

-- A STEP is number 30, a command taken or a fault
module _ (ring : List ℕ) (m : Marks) (x : Runs) where
  -- what the command at the read mark comes to
  abbrev pub now : Done
  now = obeyed (words_at ring m) m.offset x

  pub step-cases : (P : Ran → Type 0) →
      P (stopped 30 m x) →
      (4 * length (words_at ring m) ≤ waiting m → P (settled m (words_at ring m) now.outcome now.runs)) →
      P (step ring m x)
  unfolding step
  step-cases P short there = go (ltb (waiting m) (4 * size_of (command_at ring m))) refl
    where
      go : (t : Bool) → ltb (waiting m) (4 * size_of (command_at ring m)) ≡ t →
          P (cond t (stopped 30 m x) (settled m (words_at ring m) now.outcome now.runs))
      go true e = short
      go false e = there (rw (words_long ring m.read (size_of (command_at ring m))) (ltb-false _ _ e))

  settled-most : (words : List ℕ) (out : Outcome) (y : Runs) → length (settled m words out y).commands ≤ 1
  settled-most words (Ok taken) y = omega arith
  settled-most words (Err why) y = omega arith

  pub step-most : length (step ring m x).commands ≤ 1
  step-most = step-cases (λ r. length r.commands ≤ 1) (omega arith) (λ h. settled-most (words_at ring m) now.outcome now.runs)

  module _ (e : are_places m ≡ true) where
    p : Placed m
    p = placed m e

    comes : Comes x now.outcome now.runs
    comes = obeyed-comes (words_at ring m) m.offset x p.offset-most p.offset-whole

    settled-places : (words : List ℕ) (out : Outcome) (y : Runs) → Comes x out y → Placed (settled m words out y).marks
    settled-places words (Ok taken) y k = placed-moved p (length words) taken.offset k.0 k.1
    settled-places words (Err why) y k = placed-faulted p

    pub step-places : are_places (step ring m x).marks ≡ true
    step-places =
        arranged (step ring m x).marks
        (step-cases (λ r. Placed r.marks) p (λ h. settled-places (words_at ring m) now.outcome now.runs comes))

    settled-exact : (words : List ℕ) (out : Outcome) (y : Runs) → 4 * length words ≤ waiting m →
        4 * length (joined (settled m words out y).commands) + waiting (settled m words out y).marks ≡ waiting m
    settled-exact words (Ok taken) y h = rw append-nil (omega (arith, waiting-moved p (length words) taken.offset h))
    settled-exact words (Err why) y h = omega (arith, waiting-faulted m)

    -- what was taken and what waits now is what waited
    pub step-exact : 4 * length (joined (step ring m x).commands) + waiting (step ring m x).marks ≡ waiting m
    step-exact =
        step-cases (λ r. 4 * length (joined r.commands) + waiting r.marks ≡ waiting m) (omega arith)
        (λ h. settled-exact (words_at ring m) now.outcome now.runs h)

    settled-one : (words : List ℕ) (out : Outcome) (y : Runs) → (settled m words out y).number ≡ 0 →
        (settled m words out y).commands ≡ words ∷ []
    settled-one words (Ok taken) y z = refl
    settled-one words (Err why) y z = let h = fault-some why in absurd (omega arith)

    -- with number 0 one command was taken
    pub step-took : (step ring m x).number ≡ 0 → (step ring m x).commands ≡ words_at ring m ∷ []
    step-took =
        step-cases (λ r. r.number ≡ 0 → r.commands ≡ words_at ring m ∷ []) (λ z. absurd (omega arith))
        (λ h. settled-one (words_at ring m) now.outcome now.runs)

    pub step-one : (step ring m x).number ≡ 0 → length (step ring m x).commands ≡ 1
    step-one z = rw (step-took z)

    pub step-four : (step ring m x).number ≡ 0 → waiting (step ring m x).marks + 4 ≤ waiting m
    step-four z =
        let s = size-some (command_at ring m) in
        let n = words_long ring m.read (size_of (command_at ring m)) in
        omega (arith, rw (step-took z, append-nil) at step-exact)

    pub step_fewer : (step ring m x).number ≡ 0 → waiting (step ring m x).marks < waiting m
    step_fewer z = let h = step-four z in omega arith

-- A RUN, one turn at a time
module _ (ring : List ℕ) (m : Marks) (x : Runs) where
  pub run-idle : (n : ℕ) → m.read ≡ m.write → run ring n m x ≡ stopped 0 m x
  unfolding run
  run-idle zero e = refl
  run-idle (suc n) e = rw (eq-eqb _ _ e)

  module _ (n : ℕ) (busy : m.read ≡ m.write → ⊥) where
    pub run-turn : run ring (suc n) m x ≡ then (step ring m x) (run ring n (step ring m x).marks (step ring m x).runs)
    unfolding run
    run-turn = rw (ne_eqb _ _ busy)

    pub run-stop : ((step ring m x).number ≡ 0 → ⊥) → run ring (suc n) m x ≡ step ring m x
    unfolding then
    run-stop h = run-turn ∙ rw (ne_eqb _ _ h)

    -- the run from here on, with the commands of the step in front
    pub run_on : (step ring m x).number ≡ 0 →
        run ring (suc n) m x ≡
        (let rest = run ring n (step ring m x).marks (step ring m x).runs in
        record { number = rest.number; place = rest.place; commands = (step ring m x).commands ++ rest.commands; marks = rest.marks; runs = rest.runs })
    unfolding then
    run_on h = run-turn ∙ rw (eq-eqb _ _ h)

-- HOW FAR A RUN HAS COME: so many commands were taken, and the whole run is these and the run from here, which has enough turns left
pub record Onward (ring : List ℕ) (m₀ : Marks) (x₀ : Runs) (count : ℕ) (m : Marks) (x : Runs) : Type 0 where
  pub number : (run ring 1023 m₀ x₀).number ≡ (run ring (1023 - count) m x).number
  pub place : (run ring 1023 m₀ x₀).place ≡ (run ring (1023 - count) m x).place
  pub marks : (run ring 1023 m₀ x₀).marks ≡ (run ring (1023 - count) m x).marks
  pub runs : (run ring 1023 m₀ x₀).runs ≡ (run ring (1023 - count) m x).runs
  pub taken : length (run ring 1023 m₀ x₀).commands ≡ count + length (run ring (1023 - count) m x).commands
  pub places : are_places m ≡ true
  pub waits : waiting m ≤ 4 * (1023 - count)

-- how it ended
pub record Ended (r : Ran) (number place count : ℕ) (m : Marks) (x : Runs) : Type 0 where
  pub tells : run_answer r ≡ record { number = number; place = place; count = count; marks = m }
  pub leaves : r.runs ≡ x

pub onward-none : (ring : List ℕ) (m : Marks) (x : Runs) → are_places m ≡ true → Onward ring m x 0 m x
onward-none ring m x e =
    record {
      number = refl;
      place = refl;
      marks = refl;
      runs = refl;
      taken = sym (zero-add _);
      places = e;
      waits = waiting-most (placed m e);
    }

module _ {ring : List ℕ} {m₀ : Marks} {x₀ : Runs} {count : ℕ} {m : Marks} {x : Runs} (on : Onward ring m₀ x₀ count m x) where
  pub onward-idle : m.read ≡ m.write → Ended (run ring 1023 m₀ x₀) 0 0 count m x
  onward-idle e =
      let i = run-idle ring m x (1023 - count) e in
      let t : length (run ring 1023 m₀ x₀).commands ≡ count = rw (i, add-zero) at on.taken in
      record { tells = rw (on.number, on.place, on.marks, t, i); leaves = on.runs ∙ ap (λ r. r.runs) i }

  pub onward-left : (m.read ≡ m.write → ⊥) → count < 1023
  onward-left busy = let w = waiting-some (placed m on.places) busy in omega (arith, on.waits)

  -- the turns left are one and those after it
  turns : (m.read ≡ m.write → ⊥) → 1023 - count ≡ suc (1023 - (count + 1))
  turns busy = let l = onward-left busy in omega arith

  pub onward-stop : (m.read ≡ m.write → ⊥) → ((step ring m x).number ≡ 0 → ⊥) →
      Ended (run ring 1023 m₀ x₀) (step ring m x).number (step ring m x).place (count + length (step ring m x).commands) (step ring m x).marks (step ring m x).runs
  onward-stop busy h =
      let i : run ring (1023 - count) m x ≡ step ring m x = rw (turns busy) (run-stop ring m x (1023 - (count + 1)) busy h) in
      record { tells = rw (on.number, on.place, on.marks, on.taken, i); leaves = on.runs ∙ ap (λ r. r.runs) i }

  pub onward-more : (m.read ≡ m.write → ⊥) → (step ring m x).number ≡ 0 → Onward ring m₀ x₀ (count + 1) (step ring m x).marks (step ring m x).runs
  onward-more busy h =
      let n = 1023 - (count + 1) in
      let i = rw (← turns busy) at (run_on ring m x n busy h) in
      let f = step-four ring m x on.places h in
      let l = onward-left busy in
      record {
        number = on.number ∙ ap (λ r. r.number) i;
        place = on.place ∙ ap (λ r. r.place) i;
        marks = on.marks ∙ ap (λ r. r.marks) i;
        runs = on.runs ∙ ap (λ r. r.runs) i;
        taken = omega (arith, on.taken, simp length-append at (ap (λ r. length r.commands) i), step-one ring m x on.places h);
        places = step-places ring m x on.places;
        waits = omega (arith, on.waits);
      }
