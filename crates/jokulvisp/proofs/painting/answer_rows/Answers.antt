use native.Mathlib.Omega.{arith}
use Rattle.jokulvisp.proofs.Painted.{may-paint, left-as-lent, rows-painted}
use Rattle.jokulvisp.proofs.painting.answer_rows.Goals as goal

pub returns-then-told-ne0 : goal.returns-then-told-ne0
returns-then-told-ne0 c =
    left-as-lent _ _ _ _ _ _ _ _ _ _ _ c.answer-told.ensures (λ z. omega (arith, z, c.if-told-ne0.true))

pub invariant_of-screen : goal.invariant_of-screen
invariant_of-screen c =
    record { within = (may-paint _ _ _ _ _ _ _ _ _ _ _ c.answer-told.ensures (omega (arith, c.if-told-ne0.false)) c.requires).0 }

pub paint_rows-requires : goal.paint_rows-requires
paint_rows-requires c =
    record { count_bound = (may-paint _ _ _ _ _ _ _ _ _ _ _ c.answer-told.ensures (omega (arith, c.if-told-ne0.false)) c.requires).1 }

pub returns : goal.returns
returns c =
    rows-painted _ _ _ _ _ _ _ _ _ _ _ _ _ c.answer-told.ensures (omega (arith, c.if-told-ne0.false)) (c.paint_rows.ensures.picture_after, c.paint_rows.ensures.tags_after)
