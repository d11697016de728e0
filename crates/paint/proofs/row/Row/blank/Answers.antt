use Rattle.paint.proofs.Rows.{blank_at}
use Rattle.paint.proofs.row.Row.blank.Goals as goal

pub returns : goal.returns
returns c = λ x. blank_at 2400 800 800 800 x
