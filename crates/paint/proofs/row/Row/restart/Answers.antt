use Rattle.paint.proofs.Points.{same-pixel}
use Rattle.paint.proofs.Sweeps.{flooded-first}
use Rattle.paint.specs.Runs.{pixel_in}
use Prim.Native.Nat.{◌+◌, ◌*◌}
use native.Mathlib.Omega.{arith}
use Rattle.paint.proofs.row.Row.restart.Goals as goal

pub returns : goal.returns
unfolding pixel_in
returns c =
    let row = c.args.self.now in
    let colours = flooded-first (3 * c.args.width) 0 row.colours _ (omega arith) (c.fill.ensures.after (λ y h. h)) in
    let tags = flooded-first c.args.width 0 row.tags _ (omega arith) (c.fill-2.ensures.after (λ y h. h)) in
    let alpha = flooded-first c.args.width 0 row.alpha _ (omega arith) (c.fill-3.ensures.after (λ y h. h)) in
    let stencil = flooded-first c.args.width 0 row.stencil _ (omega arith) (c.fill-4.ensures.after (λ y h. h)) in
    λ x l. same-pixel _ _ (colours (3 * x) (omega arith)) (colours (3 * x + 1) (omega arith)) (colours (3 * x + 2) (omega arith)) (alpha x l) (stencil x l) (tags x l)
