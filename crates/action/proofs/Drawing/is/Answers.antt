use Rattle.action.proofs.Sameness.{drawing_tells}
use Rattle.action.proofs.Drawing.is.Goals as goal

pub returns : goal.returns
returns c = rw c.eq.ensures (drawing_tells _ _)
