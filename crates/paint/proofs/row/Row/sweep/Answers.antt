use Rattle.paint.proofs.Sweeps.{swept_none, swept-more, touched-as}
use Rattle.paint.specs.Runs.{pixels}
use Rattle.units.proofs.Meaning.{pixels-at}
use mathlib.Core.Path.{◌≡◌}
use native.Mathlib.Omega.{arith}
use Rattle.paint.proofs.row.Row.sweep.Goals as goal

pub loop-x-init : goal.loop-x-init
loop-x-init g c =
    λ does same. swept_none _ _ _

pub loop-x-preserved : goal.loop-x-preserved
loop-x-preserved g c =
    λ does same.
    let called = same c.loop-x.x _ _ (rw (pixels-at c.of.ensures) at c.step.ensures) in
    swept-more _ _ _ _ _ _ c.loop-x.auto.x (c.loop-x.invariant does same)
    (touched-as _ does _ {now = pixels c.set.new.self} (rw c.pixel-before.ensures at called) c.set.ensures)

pub returns : goal.returns
returns g c =
    λ does same.
    let ended : c.loop-x.x ≡ c.args.to = omega (arith, c.loop-x.auto.x-end c.requires.0.0) in
    rw ended at (c.loop-x.invariant does same)
