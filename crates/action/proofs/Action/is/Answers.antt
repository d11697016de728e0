use Rattle.action.proofs.Sameness.{action_told}
use Rattle.action.proofs.Action.is.Goals as goal

pub returns : goal.returns
returns c = action_told _ _ c.eq.ensures
