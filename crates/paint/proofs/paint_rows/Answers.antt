use Rattle.std.proofs.Common.{rules}
use mathlib.Core.Bool.{true}
use Rattle.paint.proofs.paint_rows.Goals as goal

pub returns : goal.returns
returns c =
    let p = c.paint_wanted.ensures (λ _. true) (search rules) in record { picture_after = p.0; tags_after = p.1 }
