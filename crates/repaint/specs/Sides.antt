-- One list of the two in a walk. No sentence of document 01 stands behind these contracts.
use Rattle.std.specs.Prelude.{List}
use Rattle.action.specs.declared.Action.{Action}
use Rattle.engine.specs.Running.{actions_left}
use Rattle.repaint.specs.Rows.{with_rest}
use Rattle.repaint.specs.declared.Side.{Side}

-- the action that its run came to, and those after it
abbrev pub ahead : Side → List Action
ahead s = with_rest s.here (actions_left s.run)

-- what is ahead once that action is passed
abbrev pub passed_by : Side → List Action
passed_by s = actions_left s.run
