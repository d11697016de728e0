use Rattle.paint.proofs.Points.{touched_set}
use native.Mathlib.Omega.{arith}
use Rattle.paint.proofs.row.Row.set.Goals as goal

pub returns : goal.returns
returns c =
    touched_set _ _ _ _ _ _ (omega arith) (omega arith) (omega arith) (omega arith)
