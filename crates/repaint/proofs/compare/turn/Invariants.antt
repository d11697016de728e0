use Rattle.repaint.proofs.Marking.{Done}
use Rattle.repaint.proofs.compare.turn.Given as goal

abbrev pub invariant-loop-y : goal.invariant-loop-y
invariant-loop-y l = Done l.was (λ k. l.then) 0 l.initial.marks l.marks l.y
