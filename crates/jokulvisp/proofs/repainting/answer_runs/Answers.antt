use mathlib.Core.Path.{◌∙◌, sym}
use Rattle.jokulvisp.proofs.Repainted.{faulty, faultless}
use Rattle.jokulvisp.proofs.repainting.answer_runs.Goals as goal

pub returns-then-number-ne0 : goal.returns-then-number-ne0
returns-then-number-ne0 c =
    c.ended.ensures ∙ faulty 1 _ _ c.finish-former.ensures (λ z. c.if-number-ne0.true (c.number.ensures ∙ z))

pub returns-then-number-ne0-2 : goal.returns-then-number-ne0-2
returns-then-number-ne0-2 c =
    c.ended-then-number-ne0-2.ensures ∙ faulty 2 _ _ c.finish-latter.ensures (λ z. c.if-number-ne0-2.true (c.number-2.ensures ∙ z)) ∙ faultless 1 _ _ c.finish-former.ensures (sym c.number.ensures ∙ c.if-number-ne0.false)

pub returns : goal.returns
returns c =
    faultless 2 _ _ c.finish-latter.ensures (sym c.number-2.ensures ∙ c.if-number-ne0-2.false) ∙ faultless 1 _ _ c.finish-former.ensures (sym c.number.ensures ∙ c.if-number-ne0.false)
