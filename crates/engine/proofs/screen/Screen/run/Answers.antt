use Rattle.engine.specs.Running.{actions_left}
use Rattle.engine.proofs.screen.Screen.run.Goals as goal

pub returns : goal.returns
unfolding actions_left
returns c = rw (c.start.ensures, c.new.ensures)
