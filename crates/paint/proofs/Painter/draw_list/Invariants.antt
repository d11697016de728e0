use Rattle.engine.specs.Running.{actions_in, actions_left}
use Rattle.paint.proofs.Folds.{Rest}
use Rattle.paint.specs.Runs.{pixels}
use Rattle.units.specs.Units.{pixel_at}
use Rattle.paint.proofs.Painter.draw_list.Given as goal

abbrev pub invariant-loop-action : goal.invariant-loop-action
invariant-loop-action l =
    Rest l.self.screen.now.memory.now (actions_in l.self.screen.now) (actions_left l.action-iterator) l.self.width (pixel_at l.y) (pixels l.fn.row) (pixels l.row)
