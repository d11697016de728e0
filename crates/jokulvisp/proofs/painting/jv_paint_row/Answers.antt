use native.Mathlib.Omega.{arith}
use Rattle.jokulvisp.proofs.Painted.{row-lends, one-row}
use Rattle.jokulvisp.proofs.painting.jv_paint_row.Goals as goal

pub answer_rows-requires : goal.answer_rows-requires
answer_rows-requires c e =
    let l = row-lends _ _ _ c.args.row _ _ c.is_lent.ensures e in
    (omega (arith, l.0), l.1)

pub returns : goal.returns
returns c =
    one-row _ _ _ _ _ _ _ _ _ _ _ _ c.is_lent.ensures c.answer_rows.ensures
