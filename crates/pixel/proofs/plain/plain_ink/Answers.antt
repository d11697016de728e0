use mathlib.Core.Path.{◌∙◌, sym}
use Rattle.truth.proofs.Bools.{both_true}
use Rattle.pixel.proofs.Short.{nothing-painted, fill-painted}
use Rattle.pixel.proofs.plain.plain_ink.Goals as goal

pub returns-then-not-passes_alpha : goal.returns-then-not-passes_alpha
returns-then-not-passes_alpha c =
    nothing-painted _ _ (rw (← c.untextured-source.ensures) (sym c.passes_alpha.ensures ∙ c.if-not-passes_alpha.true))

pub returns-then-replaces-leaves_stencil : goal.returns-then-replaces-leaves_stencil
returns-then-replaces-leaves_stencil c =
    let t = both_true _ _ c.if-replaces-leaves_stencil.true in
    let s = both_true _ _ t.0 in
    let e = c.untextured-source.ensures in
    rw (c.fill_with.ensures, e)
    (fill-painted _ _
    (rw (← e) (sym c.passes_alpha.ensures ∙ c.if-not-passes_alpha.false))
    (λ h. rw (← e) (c.replaces.ensures s.0))
    (λ h. c.leaves_stencil.ensures s.1)
    (sym c.all_set.ensures ∙ t.1))
