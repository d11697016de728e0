use Prim.Native.Nat.{◌-◌}
use lib.ListN.{length}
use Rattle.engine.specs.Running.{actions_in}
use Rattle.repaint.proofs.Walking.{Rounds}
use Rattle.repaint.proofs.mark.Given as goal

abbrev pub invariant-loop-y : goal.invariant-loop-y
invariant-loop-y l =
    Rounds (actions_in l.old) (actions_in l.new) l.width (length l.initial.marks) l.marks l.y

abbrev pub decreases-loop-y : goal.decreases-loop-y
decreases-loop-y l =
    length l.initial.marks - l.y
