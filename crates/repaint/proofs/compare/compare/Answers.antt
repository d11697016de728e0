use mathlib.Core.Path.{sym, ◌∙◌}
use Rattle.truth.proofs.Bools.{never}
use Rattle.repaint.proofs.Sides.{compare-apart, compare-over, compare_same}
use Rattle.repaint.proofs.compare.compare.Goals as goal

pub returns-then-is_some : goal.returns-then-is_some
returns-then-is_some c =
    compare_same _ _ (c.is_same.ensures.holds c.if-is_same.true) (sym c.if-is_some.ensures) c.requires.0.1

pub returns-then-is_same : goal.returns-then-is_same
returns-then-is_same c =
    let p = c.requires.0 in
    compare-over _ _ (c.is_same.ensures.holds c.if-is_same.true) (sym c.if-is_some.ensures) p.0 p.1 c.turn.ensures

pub returns : goal.returns
returns c =
    let p = c.requires.0 in
    rw c.choose-pace.ensures
    (compare-apart _ _ _ _ (λ e. never (sym c.if-is_same.false ∙ c.is_same.ensures.told e)) p.0 p.1
    (rw c.choose-pace.ensures at c.settle.ensures))
