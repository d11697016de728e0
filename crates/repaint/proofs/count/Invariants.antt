use mathlib.Core.Path.{◌≡◌}
use Prim.Native.Nat.{◌≤◌}
use Rattle.repaint.specs.Repaint.{marked}
use Rattle.repaint.proofs.count.Given as goal

abbrev pub invariant-loop-mark : goal.invariant-loop-mark
invariant-loop-mark l =
    (l.rows ≤ l.mark-index) × (l.rows ≡ marked l.marks l.mark-index)
