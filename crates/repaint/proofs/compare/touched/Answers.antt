use borrow.Author.Tests.{not-true}
use Rattle.repaint.proofs.Sides.{touch-both, touch-new, touch-old}
use Rattle.repaint.proofs.compare.touched.Goals as goal

pub returns-then-not-pace : goal.returns-then-not-pace
returns-then-not-pace c =
    touch-old _ _ _ c.rows_of.ensures (not-true _ c.if-not-pace.true)

pub returns-then-not-pace-2 : goal.returns-then-not-pace-2
returns-then-not-pace-2 c =
    touch-new _ _ _ c.rows_of-then-not-pace-2.ensures (not-true _ c.if-not-pace-2.true)

pub returns : goal.returns
returns c =
    rw (c.min.ensures, c.max.ensures)
    (touch-both _ _ _ c.rows_of-a.ensures c.rows_of-b.ensures)
