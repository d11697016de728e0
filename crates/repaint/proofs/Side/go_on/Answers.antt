use Rattle.repaint.proofs.Runs.{came}
use Rattle.repaint.proofs.Side.go_on.Goals as goal

pub returns : goal.returns
returns c = came _ _ _ c.next-self.ensures.steps
