-- What `advance` answers where no action is asked for: the run's end. Assumes nothing.
use mathlib.Core.Path.{◌≡◌, ap, sym}
use mathlib.Core.Bool.{false, false≢true}
use mathlib.Core.List.{List}
use Prim.Native.Nat.{ℕ, ◌-◌, ◌≤◌}
use Rattle.action.specs.declared.Action.{Action}
use Rattle.engine.specs.declared.handles.Handles.{Handles}
use Rattle.engine.specs.declared.run.Advanced.{Advanced}
use Rattle.engine.specs.declared.run.Find.TheVariants as f
use Rattle.std.specs.Prelude.{Option}
use Rattle.engine.specs.declared.run.Stop.{Stop}
use Rattle.engine.specs.Advance.{Advances, Spent, then, heard}
use Rattle.engine.specs.Run.{State, run, ending_of}

module _ (list : List ℕ) (memory allowed : ℕ) (from : State) (a : Advanced) (hs : Handles) (h : Advances list memory allowed false from a hs) where
  pub within : (stop : Option Stop) → a.find ≡ f.Over stop → a.left ≤ allowed
  unfolding Spent
  within stop e = rw e at h.spent

  pub never : (d : Action) → a.find ≡ f.Drew d → ⊥
  unfolding Spent
  never d e = let s = rw e at h.spent in false≢true s.0

  pub ending : (stop : Option Stop) → a.find ≡ f.Over stop → record { stop = stop; count = allowed - a.left } ≡ ending_of (run list memory allowed from)
  unfolding then heard
  ending stop e = sym (ap ending_of (rw e at h.whole))
