use Rattle.paint.proofs.Points.{touched_tinted}
use Rattle.paint.proofs.Sweeps.{flooded, swept-copied, swept-filled, swept-more, swept_none}
use mathlib.Core.Path.{◌≡◌}
use native.Mathlib.Omega.{arith}
use Prim.Native.Nat.{◌≤◌}
use Rattle.paint.proofs.row.Row.fill.Goals as goal

pub loop-x-init : goal.loop-x-init
loop-x-init c = swept_none _ _ _

pub loop-x-preserved : goal.loop-x-preserved
loop-x-preserved c =
    swept-more _ _ _ _ _ _ c.loop-x.auto.x c.loop-x.invariant (touched_tinted _ _ _ _ _ _ (omega arith))

pub loop-done-init : goal.loop-done-init
loop-done-init c =
    let first : c.args.from ≤ c.min-done.result = omega (arith, c.requires.0, c.min-done.ensures) in
    let ended : c.loop-x.x ≡ c.min-done.result = omega (arith, c.loop-x.auto.x-end first) in
    ((omega arith, omega (arith, c.min-done.ensures)), rw ended at c.loop-x.invariant)

pub loop-done-preserved : goal.loop-done-preserved
loop-done-preserved c =
    let copied = c.copy_within.ensures.by_index in
    ((omega (arith, c.loop-done.invariant.0), omega (arith, c.min-more.ensures)), swept-copied c.args.from c.loop-done.done c.min-more.result c.args.with _ _ _ _ _ (omega (arith, c.min-more.ensures, c.min-done.ensures, c.loop-done.invariant.0)) copied.0 copied.1 copied.2 c.loop-done.invariant.1)

pub loop-done-smaller : goal.loop-done-smaller
loop-done-smaller c = omega (arith, c.min-more.ensures, c.min-done.ensures, c.loop-done.invariant.0, c.loop-done-test.true)

pub overflow_sub-done : goal.overflow_sub-done
overflow_sub-done c = omega (arith, c.min-done.ensures, c.loop-done.invariant.0, c.requires.0)

pub returns : goal.returns
returns c =
    let row = c.loop-done.self in
    let ended : c.loop-done.done ≡ c.args.to = omega (arith, c.loop-done.invariant.0, c.loop-done-test.false) in
    swept-filled c.args.from c.args.to c.args.with row.colours row.stencil (rw ended at c.loop-done.invariant.1)
    (flooded _ _ _ _ _ c.requires.0 (omega arith) (c.fill.ensures.after (λ y h. h)))
    (flooded _ _ _ _ _ c.requires.0 (omega arith) (c.fill-2.ensures.after (λ y h. h)))
