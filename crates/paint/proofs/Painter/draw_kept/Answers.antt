use Rattle.paint.proofs.Banding.{drawn-outside}
use Rattle.paint.proofs.Folds.{kept_next, kept-start}
use Rattle.units.proofs.Meaning.{pixels-at}
use mathlib.Core.Path.{◌≡◌}
use native.Mathlib.Omega.{arith}
use Rattle.paint.proofs.Painter.draw_kept.Goals as goal
use Rattle.paint.proofs.Painter.draw_kept.Goals.{then-band-y, else-band-y}

pub loop-k-init : goal.loop-k-init
loop-k-init c = kept-start _ _ _ _ _ _

pub loop-k-preserved : goal.loop-k-preserved
loop-k-preserved c = elim c.if-band-y.branch [
  | then-band-y w ↦ rw w.row-is (kept_next _ _ _ _ _ _ _ _ _ c.loop-k.invariant (rw (w.get-action.ensures, pixels-at w.of.ensures) at w.draw.ensures))
  | else-band-y w ↦
      rw w.row-is
      (kept_next _ _ _ _ _ _ _ _ _ c.loop-k.invariant
      (λ x h. drawn-outside _ _ _ _ _ _ (c.requires.all.banded c.loop-k.k c.loop-k-test.true) w.if-band-y.false (omega (arith, h, c.args.self.now.ready.0)) c.requires.y_lt_tallest _))
]

pub returns : goal.returns
returns c =
    let e : c.loop-k.k ≡ c.args.count = omega (arith, c.loop-k-test.false, c.loop-k.auto.k-end) in
    rw c.requires.all.whole (rw e at c.loop-k.invariant)
