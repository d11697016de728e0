use native.Mathlib.Omega.{arith}
use Rattle.repaint.proofs.Settling.{none-patched}
use Rattle.repaint.proofs.repaint.Goals as goal

pub returns-else-rows-gt0 : goal.returns-else-rows-gt0
returns-else-rows-gt0 c =
    let marks = c.mark.ensures in
    let p = c.requires.marks_len_bound.1.1 in
    let rows = c.count-rows.ensures in
    record {
      marks = marks;
      picture_after = none-patched _ _ _ _ (omega (arith, rows, c.if-rows-gt0.false)) (rw marks.long p.0);
      tags_after = none-patched _ _ _ _ (omega (arith, rows, c.if-rows-gt0.false)) (rw marks.long p.1);
      value = rw marks.long at rows;
    }
