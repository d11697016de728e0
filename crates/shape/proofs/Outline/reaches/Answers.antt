use mathlib.Core.Path.{◌∙◌, sym}
use native.Mathlib.Omega.{arith}
use Rattle.shape.proofs.Reaching.{row-found, row-not-found}
use Rattle.shape.proofs.Outline.reaches.Goals as goal

pub returns-then-holds : goal.returns-then-holds
returns-then-holds c =
    sym (row-found _ _ _ _ _ c.reach-chord.ensures c.loop-x.x (omega (arith, c.loop-x.auto)) (omega (arith, c.loop-x-test.true)) (sym c.holds.ensures ∙ c.if-holds.true))

pub returns : goal.returns
returns c =
    sym (row-not-found _ _ _ _ _ c.reach-chord.ensures (λ x h k. c.loop-x.invariant x h (omega (arith, c.loop-x-test.false))))
