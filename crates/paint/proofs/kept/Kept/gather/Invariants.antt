use Rattle.engine.specs.Running.{actions_in}
use Rattle.paint.proofs.Going.{Gathering}
use Rattle.paint.proofs.kept.Kept.gather.Given as goal

abbrev pub invariant-loop-k : goal.invariant-loop-k
invariant-loop-k l = Gathering (actions_in l.screen) l.self l.run l.k
