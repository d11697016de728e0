-- How long the runs of a ring's call are, and that a step leaves them so. Assumes nothing.
use mathlib.Core.Path.{◌≡◌, refl, ◌∙◌}
use mathlib.Core.Bool.{Bool, true, false, cond, ◌&&◌}
use mathlib.Core.List.{List}
use Prim.Native.Nat.{ℕ, ◌+◌, ◌%◌, ◌≤◌}
use native.Mathlib.Omega.{arith}
use Rattle.std.specs.Prelude.{Ok, Err}
use lib.Dec.{eqb, leb}
use borrow.Author.Tests.{eqb-true, leb-true}
use lib.ListN.{get_or, length, replicate, length-replicate}
use Rattle.truth.proofs.Bools.{both_true}
use Rattle.runs.specs.Runs.{laid, part}
use Rattle.runs.proofs.Laws.{laid-long, part-long}
use Rattle.ring.specs.declared.command.Command.{Command}
use Rattle.ring.specs.declared.command.Command.TheVariants as c
use Rattle.ring.specs.declared.command.Fault.TheVariants as f
use Rattle.ring.specs.declared.marks.Marks.{Marks}
use Rattle.ring.specs.Command.{Runs, Outcome, command_of, is_inside, stored, listed, appended, does, obeyed, with_list}
use Rattle.ring.specs.Command.{taken, fault}
use Rattle.ring.specs.Run.{words_at, settled, step, are_sized}
use Rattle.ring.proofs.Refusing.{measured}
use Rattle.ring.proofs.Steps.{inside, is_sized, now, step-cases}

-- THE LENGTHS OF THE RUNS
pub record Sized (ring : List ℕ) (x : Runs) : Type 0 where
  pub ring_long : length ring ≡ 4096
  pub list-long : length x.list ≡ 8192
  pub shown-long : length x.shown ≡ 8192
  pub memory-most : length x.memory ≤ 1048576

pub sized : (ring : List ℕ) (x : Runs) → is_sized ring x ≡ true → Sized ring x
unfolding are_sized
sized ring x e =
    let t = both_true (eqb (length ring) 4096 && eqb (length x.list) 8192 && eqb (length x.shown) 8192) (leb (length x.memory) 1048576) e in
    let s = both_true (eqb (length ring) 4096 && eqb (length x.list) 8192) (eqb (length x.shown) 8192) t.0 in
    let r = both_true (eqb (length ring) 4096) (eqb (length x.list) 8192) s.0 in
    record {
      ring_long = eqb-true _ _ r.0;
      list-long = eqb-true _ _ r.1;
      shown-long = eqb-true _ _ s.1;
      memory-most = leb-true _ _ t.1;
    }

-- a command leaves RAM_DL and the shown list at 8,192 bytes and RAM_G as long as it was
pub record Long (x y : Runs) : Type 0 where
  pub list-long : length y.list ≡ 8192
  pub shown-long : length y.shown ≡ 8192
  pub memory-long : length y.memory ≡ length x.memory

module _ (x : Runs) (l : Long x x) where
  listed-long : (new : List ℕ) (offset : ℕ) → Long x (listed new offset x).runs
  unfolding listed
  listed-long new offset = go (leb (offset + length new) 8192) refl
    where
      go : (t : Bool) → leb (offset + length new) 8192 ≡ t →
          Long x (cond t (taken (offset + length new) (with_list (laid offset new x.list) x)) (fault f.ListFull x)).runs
      go true e =
          let h = leb-true (offset + length new) 8192 e in
          record { list-long = laid-long offset new x.list (omega arith) ∙ l.list-long; shown-long = l.shown-long; memory-long = refl }
      go false e = l

  stored-long : (fits : Bool) (at : ℕ) (new : List ℕ) (offset : ℕ) → (fits ≡ true → at + length new ≤ length x.memory) → Long x (stored fits at new offset x).runs
  unfolding stored
  stored-long true at new offset h = record { list-long = l.list-long; shown-long = l.shown-long; memory-long = laid-long at new x.memory (h refl) }
  stored-long false at new offset h = l

  appended-long : (at count offset : ℕ) → Long x (appended at count offset x).runs
  unfolding appended
  appended-long at count offset = go (is_inside at count x.memory && eqb (count % 4) 0)
    where
      go : (t : Bool) → Long x (cond t (listed (part at count x.memory) offset x) (fault f.BadRange x)).runs
      go true = listed-long (part at count x.memory) offset
      go false = l

  filled-long : (at count value offset : ℕ) → Long x (stored (is_inside at count x.memory) at (replicate count value) offset x).runs
  filled-long at count value offset = stored-long _ at _ offset (λ e. rw length-replicate (inside at count x.memory e))

  copied-long : (at from count offset : ℕ) →
      Long x (stored (is_inside at count x.memory && is_inside from count x.memory) at (part from count x.memory) offset x).runs
  copied-long at from count offset =
      stored-long _ at _ offset
      (λ e.
      let t = both_true (is_inside at count x.memory) (is_inside from count x.memory) e in
      rw (part-long from count x.memory (inside from count x.memory t.1)) (inside at count x.memory t.0))

  pub does-long : (command : Command) (words : List ℕ) (offset : ℕ) → Long x (does command words offset x).runs
  unfolding does
  does-long c.Plain words offset = listed-long _ offset
  does-long c.DlStart words offset = l
  does-long c.Swap words offset = record { list-long = l.list-long; shown-long = l.list-long; memory-long = refl }
  does-long c.ColdStart words offset = l
  does-long c.MemSet words offset = filled-long _ _ _ offset
  does-long c.MemZero words offset = filled-long _ _ _ offset
  does-long c.MemCpy words offset = copied-long _ _ _ offset
  does-long c.Append words offset = appended-long _ _ offset
  does-long c.Unknown words offset = l

  pub obeyed-long : (words : List ℕ) (offset : ℕ) → Long x (obeyed words offset x).runs
  unfolding obeyed
  obeyed-long words offset = does-long (command_of (get_or words 0 0)) words offset

-- A STEP leaves them so
module _ (ring : List ℕ) (m : Marks) (x : Runs) where
  settled-runs : (words : List ℕ) (out : Outcome) (y : Runs) → (settled m words out y).runs ≡ y
  settled-runs words (Ok taken) y = refl
  settled-runs words (Err why) y = refl

  step-long : Long x x → Long x (step ring m x).runs
  step-long l =
      step-cases ring m x (λ r. Long x r.runs) l
      (λ h. rw (settled-runs (words_at ring m) (now ring m x).outcome (now ring m x).runs) (obeyed-long x l (words_at ring m) m.offset))

  pub step-sized : is_sized ring x ≡ true → is_sized ring (step ring m x).runs ≡ true
  step-sized e =
      let s = sized ring x e in
      let l = step-long (record { list-long = s.list-long; shown-long = s.shown-long; memory-long = refl }) in
      measured ring (step ring m x).runs s.ring_long l.list-long l.shown-long (rw l.memory-long s.memory-most)
