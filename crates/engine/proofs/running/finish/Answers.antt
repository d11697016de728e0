use Rattle.engine.proofs.Endings.{within, never, ending}
use Rattle.engine.proofs.running.finish.Goals as goal

pub overflow_sub-result : goal.overflow_sub-result
overflow_sub-result c =
    let h = c.advance-advanced.ensures in
    within _ _ _ _ _ _ h _ c.in-Over.is

pub returns-in-Drew : goal.returns-in-Drew
returns-in-Drew c =
    let h = c.advance-advanced.ensures in
    absurd (never _ _ _ _ _ _ h _ c.in-Drew.is)

pub returns-in-Over : goal.returns-in-Over
returns-in-Over c =
    let h = c.advance-advanced.ensures in
    rw (← c.start.ensures, ← c.new-handles.ensures) (ending _ _ _ _ _ _ h _ c.in-Over.is)
