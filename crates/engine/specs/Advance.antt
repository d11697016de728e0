-- A run gone on with, from one drawing action to the next. No sentence of a document stands behind these contracts: they say that what `advance` answers,
-- followed by the run of the engine that it hands back, is the run that Run defines.
use Rattle.std.specs.Prelude.{◌≡◌, Bool, true, false, ◌&&◌, List, ℕ, ◌+◌, ◌-◌, ◌<◌, ◌≤◌, ltb, leb}
use Rattle.engine.specs.declared.handles.Handles.{Handles}
use Rattle.engine.specs.declared.kept.Engine.{Engine}
use Rattle.engine.specs.declared.kept.Kept.{Kept}
use Rattle.engine.specs.declared.machine.Machine.{Machine}
use Rattle.engine.specs.declared.run.Advanced.{Advanced}
use Rattle.engine.specs.declared.run.Find.{Find}
use Rattle.engine.specs.declared.run.Find.TheVariants as f
use Rattle.engine.specs.declared.run.Reached.{Reached}
use Rattle.engine.specs.Run.{State, Ran, acted, stopped, run}

-- what was found first and then the rest of the run, when so many words were fetched up to it
abbrev pub more : ℕ → Ran → Ran
more k r = record { actions = r.actions; stop = r.stop; count = k + r.count }

unfoldable pub then : ℕ → Find → Ran → Ran
then k (f.Drew action) rest = acted action (more k rest)
then k (f.Over stop) rest = stopped stop k

-- a context is kept
unfoldable pub is_kept : ℕ → Bool
is_kept count = ltb 0 count && leb count 4

abbrev pub found : Machine → Kept → ℕ → Find → Advanced
found now kept left find = record { engine = record { now = now; kept = kept }; left = left; find = find }

-- the same where the engine was lent: it stands where the run does
abbrev pub standing : Engine → Reached → Advanced
standing engine r = record { engine = engine; left = r.left; find = r.find }

-- a run of which the actions are asked for, or only how it ends
unfoldable pub heard : Bool → Ran → Ran
heard true r = r
heard false r = stopped r.stop r.count

-- an action is found only where it is asked for, and took a word at least
unfoldable pub Spent : Bool → ℕ → ℕ → Find → Type 0
Spent halt allowed left (f.Drew action) = (halt ≡ true) × (left < allowed)
Spent halt allowed left (f.Over stop) = left ≤ allowed

-- the contract of `advance`: what it answers, with the run from there, is the whole run from here
pub record Advances (list : List ℕ) (memory allowed : ℕ) (halt : Bool) (from : State) (a : Advanced) (after : Handles) : Type 0 where
  pub spent : Spent halt allowed a.left a.find
  pub whole :
      heard halt (run list memory allowed from) ≡
      heard halt (then (allowed - a.left) a.find (run list memory a.left (record { engine = a.engine; handles = after })))
