use Rattle.paint.specs.Runs.{Does, Swept, pixels}
use Rattle.pixel.specs.declared.Pixel.{Pixel}
use Prim.Native.Nat.{ℕ}
use Rattle.paint.proofs.row.Row.sweep.Given as goal

abbrev pub invariant-loop-x : goal.invariant-loop-x
invariant-loop-x g l =
    (does : ℕ → Pixel → Pixel) → Does (λ p before after. goal.F-post g l.step p before after) does → Swept l.from l.x does (pixels l.fn.self) (pixels l.self)
