use Rattle.paint.proofs.Folds.{rest-less, rest-none}
use Rattle.units.proofs.Meaning.{pixels-at}
use Rattle.paint.proofs.Painter.draw_list.Goals as goal

pub loop-action-preserved : goal.loop-action-preserved
loop-action-preserved c =
    rest-less _ _ _ _ _ _ _ _ _ (rw c.in-Some.ensures.steps at c.loop-action.invariant) (rw (pixels-at c.of.ensures) at c.draw.ensures)

pub returns : goal.returns
returns c = rest-none _ _ _ _ _ _ (rw c.in-None.ensures.steps.0 at c.loop-action.invariant)
