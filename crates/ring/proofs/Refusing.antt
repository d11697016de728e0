-- Calls that the tests refuse, and the run that they let through. Assumes nothing.
use mathlib.Core.Path.{◌≡◌}
use mathlib.Core.Bool.{true}
use mathlib.Core.List.{List}
use Prim.Native.Nat.{ℕ, ◌%◌, ◌≤◌}
use lib.ListN.{length}
use borrow.Author.Tests.{eq-eqb, le-leb}
use Rattle.ring.specs.declared.marks.Marks.{Marks}
use Rattle.ring.specs.declared.refusal.Refusal.{Refusal}
use Rattle.ring.specs.declared.refusal.Refusal.TheVariants as r
use Rattle.ring.specs.Command.{Runs}
use Rattle.ring.specs.Host.{put, refused}
use Rattle.ring.specs.Refusal.{refusal_number, Refuses}
use Rattle.ring.specs.Ring.{are_places, is_free}
use Rattle.ring.specs.Run.{are_sized, run, ran, stopped}
use Rattle.ring.proofs.Steps.{is_sized}

pub measured : (ring : List ℕ) (x : Runs) → length ring ≡ 4096 → length x.list ≡ 8192 → length x.shown ≡ 8192
    → length x.memory ≤ 1048576 → is_sized ring x ≡ true
unfolding are_sized
measured ring x r l s m = rw (eq-eqb _ _ r, eq-eqb _ _ l, eq-eqb _ _ s, le-leb _ _ m)

pub ran-goes : (ring : List ℕ) (m : Marks) (x : Runs) → is_sized ring x ≡ true → are_places m ≡ true → is_free m ≡ true
    → ran ring m x ≡ run ring 1023 m x
unfolding ran
ran-goes ring m x s p f = rw (s, p, f)

pub ran-refused : (ring : List ℕ) (m : Marks) (x : Runs) → is_sized ring x ≡ true → (why : Refusal) → Refuses m why
    → ran ring m x ≡ stopped (refusal_number why) m x
unfolding ran refusal_number
ran-refused ring m x s r.BadMark e = rw (s, e)
ran-refused ring m x s r.Faulty e = rw (s, e.0, e.1)
ran-refused ring m x s r.BadRun e = absurd e
ran-refused ring m x s r.NoRoom e = absurd e

pub put-refused : (ring bytes : List ℕ) (m : Marks) → length ring ≡ 4096 → length bytes % 4 ≡ 0 → (why : Refusal)
    → Refuses m why → put ring bytes m ≡ refused (refusal_number why) m ring
unfolding put refusal_number
put-refused ring bytes m l w r.BadMark e = rw (eq-eqb _ _ l, eq-eqb _ _ w, e)
put-refused ring bytes m l w r.Faulty e = rw (eq-eqb _ _ l, eq-eqb _ _ w, e.0, e.1)
put-refused ring bytes m l w r.BadRun e = absurd e
put-refused ring bytes m l w r.NoRoom e = absurd e
