use mathlib.Core.Path.{◌∙◌}
use Rattle.repaint.proofs.Runs.{came}
use Rattle.repaint.proofs.Side.start.Goals as goal

pub returns : goal.returns
returns c = came _ _ _ c.next-here.ensures.steps ∙ c.run-run.ensures
