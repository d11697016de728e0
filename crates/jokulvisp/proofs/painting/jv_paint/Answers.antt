use Rattle.jokulvisp.proofs.Painted.{frame-lends, all-rows}
use Rattle.jokulvisp.proofs.painting.jv_paint.Goals as goal

pub answer_rows-requires : goal.answer_rows-requires
answer_rows-requires c =
    frame-lends _ _ _ _ _ c.is_lent-lent.ensures

pub returns : goal.returns
returns c =
    all-rows _ _ _ _ _ _ _ _ _ _ _ c.is_lent-lent.ensures c.answer_rows.ensures
