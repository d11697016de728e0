use mathlib.Core.Path.{◌∙◌}
use native.Mathlib.Omega.{arith}
use borrow.Author.Tests.{lt-leb}
use Rattle.shape.proofs.Columns.{too_far, by-room}
use Rattle.shape.proofs.Chord.holds.Goals as goal

pub returns-then-d-le-LONGEST : goal.returns-then-d-le-LONGEST
returns-then-d-le-LONGEST c =
    by-room c.args.self c.args.p c.gap-d.result (omega arith) (omega arith)

pub returns-else-d-le-LONGEST : goal.returns-else-d-le-LONGEST
returns-else-d-le-LONGEST c =
    lt-leb _ _ (omega arith) ∙ too_far c.args.self c.args.p c.gap-d.result (omega arith) (omega arith)
