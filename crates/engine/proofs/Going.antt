-- The actions that are left of a run, from one to the next.
use mathlib.Core.Bool.{true}
use mathlib.Core.List.{List, [], ◌∷◌}
use mathlib.Core.Path.{◌≡◌, refl, ◌∙◌, ap}
use Prim.Native.Nat.{ℕ}
use Rattle.action.specs.declared.Action.{Action}
use Rattle.engine.specs.Advance.{Advances, heard, then}
use Rattle.engine.specs.Run.{Ran, run}
use Rattle.engine.specs.declared.handles.Handles.{Handles}
use Rattle.engine.specs.declared.kept.Engine.{Engine}
use Rattle.engine.specs.declared.run.Advanced.{Advanced}
use Rattle.engine.specs.declared.run.Find.TheVariants as f
use Rattle.std.specs.Prelude.{Option}
use Rattle.engine.specs.declared.run.Stop.{Stop}

abbrev pub actions_from : List ℕ → ℕ → ℕ → Engine → Handles → List Action
actions_from list memory left engine handles = (run list memory left (record { engine = engine; handles = handles })).actions

-- none where no word is allowed
pub none_allowed : (list : List ℕ) (memory : ℕ) (engine : Engine) (handles : Handles) → actions_from list memory 0 engine handles ≡ []
unfolding run
none_allowed list memory engine handles = refl

module _ {list : List ℕ} {memory left : ℕ} {engine : Engine} {handles after : Handles} {a : Advanced}
    (went : Advances list memory left true (record { engine = engine; handles = handles }) a after) where
  pub next-action :
      (action : Action) → a.find ≡ f.Drew action → actions_from list memory left engine handles ≡ action ∷ actions_from list memory a.left a.engine after
  unfolding heard then
  next-action action e = ap (λ (r : Ran). r.actions) went.whole ∙ rw e

  pub no-action : (stop : Option Stop) → a.find ≡ f.Over stop → actions_from list memory left engine handles ≡ []
  unfolding heard then
  no-action stop e = ap (λ (r : Ran). r.actions) went.whole ∙ rw e
