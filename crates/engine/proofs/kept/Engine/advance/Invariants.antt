use mathlib.Core.Path.{◌≡◌}
use Prim.Native.Nat.{◌-◌, ◌≤◌}
use lib.ListN.{length}
use Rattle.engine.specs.Advance.{more, heard}
use Rattle.engine.specs.Run.{run}
use Rattle.engine.proofs.kept.Engine.advance.Given as goal

abbrev pub invariant-loop-left : goal.invariant-loop-left
invariant-loop-left l =
    (l.left ≤ l.allowed) × ((length l.kept.contexts ≡ 4) ×
    (heard l.halt (run l.list l.memory l.allowed (record { engine = record { now = l.initial.now; kept = l.initial.kept }; handles = l.initial.handles })) ≡
    heard l.halt (more (l.allowed - l.left) (run l.list l.memory l.left (record { engine = record { now = l.now; kept = l.kept }; handles = l.handles })))))

abbrev pub decreases-loop-left : goal.decreases-loop-left
decreases-loop-left l =
    l.left
