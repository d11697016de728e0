use Rattle.paint.proofs.Sweeps.{Without}
use Prim.Native.Nat.{◌-◌, ◌≤◌}
use Rattle.paint.proofs.row.columns.Given as goal

abbrev pub invariant-loop-from : goal.invariant-loop-from
invariant-loop-from l =
    ((l.initial.from ≤ l.from) × (l.from ≤ l.to)) × Without l.chord l.initial.from l.from

abbrev pub decreases-loop-from : goal.decreases-loop-from
decreases-loop-from l = l.to - l.from

abbrev pub invariant-loop-to : goal.invariant-loop-to
invariant-loop-to l =
    ((l.from ≤ l.to) × (l.to ≤ l.initial.to)) × Without l.chord l.to l.initial.to

abbrev pub decreases-loop-to : goal.decreases-loop-to
decreases-loop-to l = l.to - l.from
