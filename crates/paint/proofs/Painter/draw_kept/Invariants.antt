use Rattle.paint.specs.Actions.{kept_up_to}
use Rattle.paint.specs.Runs.{DrawnAll, pixels}
use Rattle.units.specs.Units.{pixel_at}
use Rattle.paint.proofs.Painter.draw_kept.Given as goal

abbrev pub invariant-loop-k : goal.invariant-loop-k
invariant-loop-k l =
    DrawnAll l.self.screen.now.memory.now (kept_up_to l.kept.numbers l.kept.places l.k) l.self.width (pixel_at l.y) (pixels l.fn.row) (pixels l.row)
