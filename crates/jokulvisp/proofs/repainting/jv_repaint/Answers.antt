use native.Mathlib.Omega.{arith}
use Rattle.jokulvisp.proofs.Repainted.{may-repaint, refused-as-lent, repaint-done}
use Rattle.jokulvisp.proofs.repainting.jv_repaint.Goals as goal

pub returns-then-told-ne0 : goal.returns-then-told-ne0
returns-then-told-ne0 c =
    refused-as-lent (rw c.is_lent.ensures at c.answer-told.ensures) (λ z. omega (arith, z, c.if-told-ne0.true))

pub invariant_of-old : goal.invariant_of-old
invariant_of-old c =
    let m = may-repaint _ _ _ _ _ _ _ _ _ (rw c.is_lent.ensures at c.answer-told.ensures) (omega (arith, c.if-told-ne0.false)) in
    record { within = (m.0.0, m.0.1.1) }

pub invariant_of-new : goal.invariant_of-new
invariant_of-new c =
    let m = may-repaint _ _ _ _ _ _ _ _ _ (rw c.is_lent.ensures at c.answer-told.ensures) (omega (arith, c.if-told-ne0.false)) in
    record { within = m.0.1 }

pub repaint-rows-requires : goal.repaint-rows-requires
repaint-rows-requires c =
    let m = may-repaint _ _ _ _ _ _ _ _ _ (rw c.is_lent.ensures at c.answer-told.ensures) (omega (arith, c.if-told-ne0.false)) in
    record { marks_len_bound = m.1 }

pub returns : goal.returns
returns c =
    let r = c.repaint-rows.ensures in
    repaint-done (rw c.is_lent.ensures at c.answer-told.ensures) (omega (arith, c.if-told-ne0.false)) r.marks r.picture_after r.tags_after r.value
