-- A run from one action to the next.
use mathlib.Core.List.{List, ◌∷◌, ◌++◌, append_assoc}
use mathlib.Core.Path.{◌≡◌, ◌∙◌, ap}
use Prim.Native.Nat.{ℕ, ◌+◌}
use Rattle.std.specs.Prelude.{Option, Some, None}
use Rattle.action.specs.declared.Action.{Action}
use Rattle.engine.specs.Running.{actions_left}
use Rattle.engine.specs.declared.running.Run.{Run}
use Rattle.paint.specs.Actions.{AllBands, Keeps, kept_up_to}
use Rattle.paint.specs.declared.kept.Kept.{Kept}
use Rattle.paint.proofs.Folds.{keeps-list}

value : Option ℕ → ℕ
value (Some n) = n
value None = 0

pub some-same : {k n : ℕ} → Some k ≡ Some n → k ≡ n
unfolding value
some-same e = ap value e

-- what holds at each turn while actions are gathered
pub record Gathering (whole : List Action) (kept : Kept) (run : Run) (k : ℕ) : Type 0 where
  pub banded : AllBands kept.numbers kept.places kept.bands k
  pub parts : whole ≡ kept_up_to kept.numbers kept.places k ++ actions_left run

-- one action more is kept
pub joined :
    {whole : List Action} {action : Action} {rest rest' : List Action} {k : ℕ} {old now : Kept} →
    whole ≡ kept_up_to old.numbers old.places k ++ rest → rest ≡ action ∷ rest' → Keeps action k old now →
    whole ≡ kept_up_to now.numbers now.places (k + 1) ++ rest'
joined e n keeps = e ∙ rw (n, keeps-list keeps, append_assoc)
