use Rattle.ring.specs.Command.{lent}
use Rattle.ring.specs.Ring.{waiting}
use Rattle.ring.proofs.Steps.{Onward}
use Rattle.ring.proofs.run_all.Given as goal

abbrev pub invariant-loop-now : goal.invariant-loop-now
invariant-loop-now l =
    Onward l.ring l.initial.now (lent l.initial.list l.initial.shown l.initial.memory) l.count l.now (lent l.list l.shown l.memory)

abbrev pub decreases-loop-now : goal.decreases-loop-now
decreases-loop-now l =
    waiting l.now
