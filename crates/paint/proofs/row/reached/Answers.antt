use mathlib.Core.Path.{◌∙◌}
use Rattle.paint.proofs.row.reached.Goals as goal

pub returns-clause-exact : goal.returns-clause-exact
returns-clause-exact c =
    λ k h. (rw c.outline.ensures at c.reach.ensures).exact k h ∙ c.columns.ensures.exact k h
