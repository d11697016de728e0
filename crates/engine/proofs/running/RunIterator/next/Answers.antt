use borrow.Author.Rules.{rules}
use Rattle.engine.specs.Running.{actions_left}
use Rattle.engine.proofs.Going.{next-action, no-action, none_allowed}
use Rattle.engine.proofs.running.RunIterator.next.Goals as goal

pub returns-in-Drew-clause-steps : goal.returns-in-Drew-clause-steps
unfolding actions_left
returns-in-Drew-clause-steps c = next-action c.advance-advanced.ensures _ c.in-Drew.is

pub returns-in-Drew-clause-goes : goal.returns-in-Drew-clause-goes
returns-in-Drew-clause-goes c =
    let h = returns-in-Drew-clause-steps c in
    search rules

pub returns-in-Over-clause-steps : goal.returns-in-Over-clause-steps
unfolding actions_left
returns-in-Over-clause-steps c = (no-action c.advance-advanced.ensures _ c.in-Over.is, none_allowed _ _ _ _)
