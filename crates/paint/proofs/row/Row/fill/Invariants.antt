use Rattle.paint.proofs.Points.{tinted}
use Rattle.paint.specs.Runs.{Swept, pixels}
use Prim.Native.Nat.{◌-◌, ◌≤◌}
use Rattle.paint.proofs.row.Row.fill.Given as goal

abbrev pub invariant-loop-x : goal.invariant-loop-x
invariant-loop-x l = Swept l.from l.x (λ _. tinted l.fn.with) (pixels l.fn.self) (pixels l.self)

abbrev pub invariant-loop-done : goal.invariant-loop-done
invariant-loop-done l =
    ((l.initial.done ≤ l.done) × (l.done ≤ l.to)) × Swept l.from l.done (λ _. tinted l.fn.with) (pixels l.fn.self) (pixels l.self)

abbrev pub decreases-loop-done : goal.decreases-loop-done
decreases-loop-done l = l.to - l.done
