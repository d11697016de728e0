-- Every action of a run is orderly, and covers what the documents say of integers. Assumes nothing.
use mathlib.Core.Path.{◌≡◌, refl, sym, ◌∙◌}
use mathlib.Core.Bool.{Bool, true, false, cond}
use mathlib.Core.List.{List}
use Prim.Native.Nat.{ℕ}
use Rattle.units.specs.declared.Pixels.{Pixels}
use Rattle.action.specs.declared.Action.{Action}
use Rattle.action.specs.declared.Drawing.{Drawing}
use Rattle.action.specs.declared.Drawing.TheVariants as d
use Rattle.action.specs.Flags.{is_any}
use Rattle.action.specs.Same.{Tells}
use Rattle.shape.specs.declared.Outline.TheVariants as o
use Rattle.shape.specs.Cover.{covers, outline_of}
use Rattle.shape.proofs.Meaning.{meant}
use Rattle.engine.specs.Run.{at_start, actions_of}
use Rattle.invariant.specs.Actions.{Orderly, Covered, CoveredAsSaid, ActionsAsSaid}
use Rattle.invariant.specs.Each.{Each}
use Rattle.invariant.proofs.Lists.{each-so}
use Rattle.invariant.proofs.Running.{run-valid}
use Rattle.invariant.proofs.States.{start-valid}

-- a test that is equal to another tells that the other passes
tells-same : {a b : Bool} → a ≡ b → Tells a (b ≡ true)
tells-same e = record { holds = λ h. sym e ∙ h; told = λ h. e ∙ h }

all-or-nothing : (any : Bool) (p q : Pixels) → Tells (covers (cond any o.Everything o.Nothing) p q) (any ≡ true)
unfolding covers
all-or-nothing true p q = tells-same refl
all-or-nothing false p q = tells-same refl

covered : (drawing : Drawing) → Orderly drawing → (p q : Pixels) → Tells (covers (outline_of drawing) p q) (Covered drawing p q)
unfolding covers outline_of
covered (d.Clear clear) o p q = all-or-nothing (is_any clear) p q
covered (d.Point point ink) o p q = tells-same (meant.points point p q)
covered (d.Rectangle rectangle ink) o p q = meant.rectangles rectangle o p q
covered (d.Bitmap bitmap ink) o p q = meant.areas bitmap.area p q
covered (d.Segment segment ink) o p q = meant.segments segment o p q

as_said : (action : Action) → Orderly action.drawing → (p q : Pixels) → CoveredAsSaid action p q
as_said action o p q = record { scissor = meant.areas action.scissor p q; drawing = covered action.drawing o p q }

orderly : (list : List ℕ) (memory limit : ℕ) → Each (λ (action : Action). Orderly action.drawing) (actions_of list memory limit)
orderly list memory limit = (run-valid list memory limit at_start start-valid).actions

pub actions-as-said : ActionsAsSaid
actions-as-said = record {
  orderly = orderly;
  covered =
      λ list memory limit.
      each-so as_said (actions_of list memory limit) (orderly list memory limit);
}
