use mathlib.Core.Path.{◌∙◌}
use native.Mathlib.Omega.{arith}
use Rattle.repaint.proofs.Marking.{count_none, count-marked, count-unmarked}
use Rattle.repaint.proofs.count.Goals as goal
use Rattle.repaint.proofs.count.Goals.{then-mark-eq1, else-mark-eq1}

pub loop-mark-init : goal.loop-mark-init
loop-mark-init c = (omega arith, count_none _)

pub loop-mark-preserved : goal.loop-mark-preserved
loop-mark-preserved c =
    let v = c.loop-mark.invariant in
    elim c.if-mark-eq1.branch [
      | then-mark-eq1 w ↦ (omega (arith, w.rows-is, v.0), w.rows-is ∙ count-marked _ _ _ v.1 w.if-mark-eq1.true)
      | else-mark-eq1 w ↦ (omega (arith, w.rows-is, v.0), w.rows-is ∙ count-unmarked _ _ _ v.1 w.if-mark-eq1.false)
    ]
