use Rattle.action.proofs.Sameness.{ink_tells}
use Rattle.action.proofs.ink.Ink.is.Goals as goal

pub returns : goal.returns
returns c = rw c.eq.ensures (ink_tells _ _)
