use mathlib.Core.Path.{◌∙◌, sym}
use Rattle.shape.proofs.Reaching.{reach_off}
use Rattle.shape.proofs.Outline.reach.Goals as goal

pub returns : goal.returns
returns c =
    rw c.none.ensures (reach_off _ _ _ _ (sym c.has_row.ensures ∙ c.if-has_row.false))
