use mathlib.Core.Logic.{◌⊎◌}
use mathlib.Core.Path.{◌≡◌}
use Prim.Native.Nat.{◌≤◌}
use lib.ListN.{length}
use Rattle.units.specs.Units.{smaller}
use Rattle.repaint.specs.Rows.{beside, meets_row, standing}
use Rattle.repaint.proofs.Marking.{Done}
use Rattle.repaint.proofs.compare.settle.Given as goal

abbrev pub invariant-loop-y : goal.invariant-loop-y
invariant-loop-y l =
    (l.from ≤ l.y) × (((l.y ≤ smaller l.to (length l.initial.marks)) ⊎ (l.y ≡ l.from)) × Done beside (λ k. standing (meets_row l.old l.width k) (meets_row l.new l.width k) l.pace) l.from l.initial.marks l.marks l.y)
