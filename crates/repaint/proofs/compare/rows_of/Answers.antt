use Rattle.repaint.proofs.Sides.{band-bounds}
use Rattle.repaint.proofs.compare.rows_of.Goals as goal

pub returns-in-Some : goal.returns-in-Some
returns-in-Some c =
    rw c.in-Some.is (band-bounds _ _ _ c.rows_of.ensures)
