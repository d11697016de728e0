use Prim.Native.Nat.{◌+◌, ◌-◌}
use lib.ListN.{length}
use Rattle.engine.specs.Running.{actions_in}
use Rattle.repaint.specs.Sides.{ahead}
use Rattle.repaint.proofs.Walking.{Walking}
use Rattle.repaint.proofs.walk.Given as goal

abbrev pub invariant-loop-row : goal.invariant-loop-row
invariant-loop-row l =
    Walking (actions_in l.old) (actions_in l.new) l.width l.y l.initial.marks (ahead l.a) (ahead l.b) l.marks l.row

abbrev pub decreases-loop-row : goal.decreases-loop-row
decreases-loop-row l =
    length (ahead l.a) + length (ahead l.b) + (length l.initial.marks - l.row)
