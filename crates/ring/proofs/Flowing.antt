-- What holds of the host's words and the run together: words are taken in the order in which they were written, a run stops, idle is empty, what was taken
-- is free again, and a fault halts all. Assumes nothing.
use mathlib.Core.Path.{◌≡◌, refl, sym, ap, ◌∙◌}
use mathlib.Core.Bool.{Bool, true, false, cond, ◌&&◌}
use mathlib.Core.List.{List, [], ◌∷◌, ◌++◌, append_assoc, append-nil}
use Prim.Native.Nat.{ℕ, ◌+◌, ◌*◌, ◌-◌, ◌%◌, ◌≤◌, ◌<◌}
use native.Mathlib.Omega.{arith}
use lib.Dec.{eqb, leb}
use lib.ListN.{length}
use borrow.Author.Tests.{eqb-true, leb-true, ne_eqb}
use Rattle.truth.specs.Must.{must}
use Rattle.truth.proofs.Bools.{both_true, never}
use Rattle.ring.specs.declared.marks.Marks.{Marks}
use Rattle.ring.specs.Command.{Runs}
use Rattle.ring.specs.Flow.{words_in, joined, all_obeyed, Call, host, coprocessor, Site, after, words_put, words_taken, finally, all, waits, Flows}
use Rattle.ring.specs.Host.{Put, put, refused, laid_around, room, past_words}
use Rattle.ring.specs.Ring.{queue, waiting, are_places, is_free}
use Rattle.ring.specs.Run.{Ran, run, ran, stopped}
use Rattle.ring.proofs.Joining.{host-queue}
use Rattle.ring.proofs.Numbering.{ran-regular}
use Rattle.ring.proofs.Places.{placed, waiting-most}
use Rattle.ring.proofs.Steps.{is_sized}
use Rattle.ring.proofs.Taking.{run-commands, run-most, run-queue, run-exact, run-empty, run-longer}

-- THE RUN'S CALL is refused with a number that is not 0, or it is the run
abbrev tested : Marks → Runs → Ran → Bool → Bool → Bool → Ran
tested m x r sized places free = must sized (stopped 37 m x) (must places (stopped 33 m x) (must free (stopped 36 m x) r))

module _ (ring : List ℕ) (m : Marks) (x : Runs) where
  ran-cases : (P : Ran → Type 0) → ((number : ℕ) → 0 < number → P (stopped number m x)) → (are_places m ≡ true → P (run ring 1023 m x)) → P (ran ring m x)
  unfolding ran
  ran-cases P refuses runs = go (is_sized ring x) (are_places m) (is_free m) refl
    where
      go : (a b c : Bool) → are_places m ≡ b → P (tested m x (run ring 1023 m x) a b c)
      go false b c e = refuses 37 (omega arith)
      go true false c e = refuses 33 (omega arith)
      go true true false e = refuses 36 (omega arith)
      go true true true e = runs e

  ran-halted : (P : Ran → Type 0) → ((number : ℕ) → 0 < number → P (stopped number m x)) → is_free m ≡ false → P (ran ring m x)
  unfolding ran
  ran-halted P refuses h = go (is_sized ring x) (are_places m) (is_free m) h
    where
      go : (a b c : Bool) → c ≡ false → P (tested m x (run ring 1023 m x) a b c)
      go false b c e = refuses 37 (omega arith)
      go true false c e = refuses 33 (omega arith)
      go true true false e = refuses 36 (omega arith)
      go true true true e = never (sym e)

-- THE HOST'S CALL is refused with a number that is not 0, or its words join those that wait
abbrev tested_for : Marks → List ℕ → Put → Bool → Bool → Bool → Bool → Put
tested_for m ring p sized places free fits =
    must sized (refused 37 m ring) (must places (refused 33 m ring) (must free (refused 36 m ring) (must fits (refused 38 m ring) p)))

module _ (ring bytes : List ℕ) (m : Marks) where
  abbrev done : Put
  done = record { number = 0; marks = past_words m (length bytes); ring = laid_around m.write bytes ring }

  put-cases : (P : Put → Type 0) → ((number : ℕ) → 0 < number → P (refused number m ring)) →
      (length ring ≡ 4096 → length bytes % 4 ≡ 0 → are_places m ≡ true → length bytes ≤ room m → P done) → P (put ring bytes m)
  unfolding put
  put-cases P refuses joins =
      go (eqb (length ring) 4096 && eqb (length bytes % 4) 0) (are_places m) (is_free m) (leb (length bytes) (room m)) refl refl refl
    where
      go : (a b c d : Bool) → eqb (length ring) 4096 && eqb (length bytes % 4) 0 ≡ a → are_places m ≡ b → leb (length bytes) (room m) ≡ d →
          P (tested_for m ring done a b c d)
      go false b c d i j k = refuses 37 (omega arith)
      go true false c d i j k = refuses 33 (omega arith)
      go true true false d i j k = refuses 36 (omega arith)
      go true true true false i j k = refuses 38 (omega arith)
      go true true true true i j k =
          let t = both_true (eqb (length ring) 4096) (eqb (length bytes % 4) 0) i in
          joins (eqb-true _ _ t.0) (eqb-true _ _ t.1) j (leb-true _ _ k)

  put-halted : (P : Put → Type 0) → ((number : ℕ) → 0 < number → P (refused number m ring)) → is_free m ≡ false → P (put ring bytes m)
  unfolding put
  put-halted P refuses h = go (eqb (length ring) 4096 && eqb (length bytes % 4) 0) (are_places m) (is_free m) h
    where
      go : (a b c : Bool) → c ≡ false → P (tested_for m ring done a b c (leb (length bytes) (room m)))
      go false b c e = refuses 37 (omega arith)
      go true false c e = refuses 33 (omega arith)
      go true true false e = refuses 36 (omega arith)
      go true true true e = never (sym e)

  -- the host's words join the end
  host-joins : queue (put ring bytes m).ring (put ring bytes m).marks ≡ queue ring m ++ cond (eqb (put ring bytes m).number 0) (words_in bytes) []
  host-joins =
      put-cases (λ p. queue p.ring p.marks ≡ queue ring m ++ cond (eqb p.number 0) (words_in bytes) [])
      (λ number h. rw (ne_eqb number 0 (λ z. omega arith), append-nil))
      (λ r w e l. host-queue ring bytes (placed m e) r w l)

-- a run takes the front
run-takes : (ring : List ℕ) (m : Marks) (x : Runs) → queue ring m ≡ joined (ran ring m x).commands ++ queue ring (ran ring m x).marks
run-takes ring m x =
    ran-cases ring m x (λ r. queue ring m ≡ joined r.commands ++ queue ring r.marks) (λ number h. refl) (λ e. run-queue ring 1023 m x e)

in_order_lem : (calls : List Call) (s : Site) → waits s ++ all words_put calls s ≡ all words_taken calls s ++ waits (finally calls s)
in_order_lem [] s = append-nil (waits s)
in_order_lem (host bytes ∷ calls) s =
    let next = after (host bytes) s in
    sym (append_assoc (waits s) (words_put (host bytes) s) (all words_put calls next))
    ∙ ap (λ (l : List ℕ). l ++ all words_put calls next) (sym (host-joins s.ring bytes s.marks))
    ∙ in_order_lem calls next
in_order_lem (coprocessor ∷ calls) s =
    let next = after coprocessor s in
    let took = words_taken coprocessor s in
    ap (λ (l : List ℕ). l ++ all words_put calls next) (run-takes s.ring s.marks s.runs)
    ∙ append_assoc took (waits next) (all words_put calls next)
    ∙ ap (λ (l : List ℕ). took ++ l) (in_order_lem calls next)
    ∙ sym (append_assoc took (all words_taken calls next) (waits (finally calls next)))

empty : (ring : List ℕ) (m : Marks) → waiting m ≡ 0 → queue ring m ≡ []
unfolding queue
empty ring m e = rw e

idle-empty : (ring : List ℕ) (m : Marks) (x : Runs) → (ran ring m x).number ≡ 0 → queue ring (ran ring m x).marks ≡ []
idle-empty ring m x =
    ran-cases ring m x (λ r. r.number ≡ 0 → queue ring r.marks ≡ []) (λ number h z. absurd (omega arith))
    (λ e z. empty ring (run ring 1023 m x).marks (run-empty ring 1023 m x e (waiting-most (placed m e)) z))

free-again : (ring : List ℕ) (m : Marks) (x : Runs) → are_places m ≡ true →
    room (ran ring m x).marks ≡ room m + 4 * length (joined (ran ring m x).commands)
unfolding room
free-again ring m x e =
    let w = waiting-most (placed m e) in
    ran-cases ring m x (λ r. 4092 - waiting r.marks ≡ 4092 - waiting m + 4 * length (joined r.commands)) (λ number h. omega arith)
    (λ d. omega (arith, run-exact ring 1023 m x e))

by-commands : (ring : List ℕ) (m : Marks) (x : Runs) → (ran ring m x).runs ≡ all_obeyed (ran ring m x).commands m.offset x
by-commands ring m x =
    ran-cases ring m x (λ r. r.runs ≡ all_obeyed r.commands m.offset x) (λ number h. refl) (λ e. run-commands ring 1023 m x e)

pub flows : Flows
flows =
    record {
      in_order = in_order_lem;
      by_commands = by-commands;
      regular = ran-regular;
      at_most = λ ring m x. ran-cases ring m x (λ r. length r.commands ≤ 1023) (λ number h. omega arith) (λ e. run-most ring 1023 m x);
      stops = λ ring m x n e. run-longer ring 1023 n m x e (waiting-most (placed m e));
      idle = idle-empty;
      freed = free-again;
      halted = λ ring bytes m x h. (
        ran-halted ring m x (λ r. (0 < r.number) × (r ≡ stopped r.number m x)) (λ number k. (k, refl)) h,
        put-halted ring bytes m (λ p. (0 < p.number) × (p ≡ refused p.number m ring)) (λ number k. (k, refl)) h,
      );
    }
