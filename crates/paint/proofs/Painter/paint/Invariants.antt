use Rattle.engine.specs.Running.{actions_in}
use Rattle.paint.proofs.Stacks.{Filled}
use Rattle.paint.specs.Picture.{row_colours, row_in, row_tags}
use Rattle.paint.specs.Runs.{Tells}
use mathlib.Core.Bool.{Bool, cond}
use Prim.Native.Nat.{ℕ, ◌+◌, ◌*◌}
use Rattle.paint.proofs.Painter.paint.Given as goal

abbrev pub invariant-loop-y : goal.invariant-loop-y
invariant-loop-y g l =
    (wanted : ℕ → Bool) → Tells (λ y told. goal.W-post g l.is_wanted y told) l.count wanted →
    Filled (λ y. cond (wanted y) (row_colours l.self.screen.now.memory.now (actions_in l.self.screen.now) l.self.width (l.first + y)) (row_in l.fn.picture (3 * l.self.width) y)) (3 * l.self.width) l.count l.fn.picture l.picture l.y
    × Filled (λ y. cond (wanted y) (row_tags l.self.screen.now.memory.now (actions_in l.self.screen.now) l.self.width (l.first + y)) (row_in l.fn.tags l.self.width y)) l.self.width l.count l.fn.tags l.tags l.y
