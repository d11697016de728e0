use mathlib.Core.Bool.{true, false}
use mathlib.Core.Path.{◌≡◌, ◌∙◌, sym}
use Prim.Native.Nat.{ℕ}
use Rattle.action.specs.declared.ink.Colour.{Colour}
use Rattle.action.specs.declared.ink.Ink.{Ink}
use Rattle.action.specs.declared.ink.Masks.{Masks}
use Rattle.pixel.specs.Blend.{tinted, source}
use Rattle.pixel.specs.Pixel.{stencilled, drawn, painted}
use Rattle.pixel.specs.Tests.{passes_alpha, passes_stencil}
use Rattle.pixel.specs.declared.Pixel.{Pixel}
use Rattle.pixel.proofs.paint.Goals as goal

-- The three ways through the stages.
module _ (ink : Ink) (masks : Masks) (texel : Colour) (before : Pixel) (alpha : ℕ) (e : alpha ≡ tinted texel.alpha ink.colour.alpha) where
  is-left : passes_alpha ink.alpha alpha ≡ false → before ≡ painted ink masks texel before
  unfolding painted source
  is-left h = simp (sym e, h)

  is-failed : passes_alpha ink.alpha alpha ≡ true → passes_stencil ink.stencil before.stencil ≡ false
      → stencilled ink masks ink.actions.fail before ≡ painted ink masks texel before
  unfolding painted source
  is-failed h k = simp (sym e, h, k)

  is-drawn : passes_alpha ink.alpha alpha ≡ true → passes_stencil ink.stencil before.stencil ≡ true
      → drawn ink masks (source texel ink.colour) (stencilled ink masks ink.actions.pass before) ≡ painted ink masks texel before
  unfolding painted source
  is-drawn h k = simp (sym e, h, k)

pub returns-then-not-passes_alpha : goal.returns-then-not-passes_alpha
returns-then-not-passes_alpha c =
    is-left _ _ _ _ _ c.tint.ensures (sym c.passes_alpha.ensures ∙ c.if-not-passes_alpha.true)

pub returns-then-not-passes_stencil : goal.returns-then-not-passes_stencil
returns-then-not-passes_stencil c =
    c.act.ensures ∙ is-failed _ _ _ _ _ c.tint.ensures (sym c.passes_alpha.ensures ∙ c.if-not-passes_alpha.false) (sym c.passes_stencil.ensures ∙ c.if-not-passes_stencil.true)

pub returns : goal.returns
returns c =
    rw (c.draw.ensures, c.act-2.ensures, c.multiply.ensures) (is-drawn _ _ _ _ _ c.tint.ensures (sym c.passes_alpha.ensures ∙ c.if-not-passes_alpha.false) (sym c.passes_stencil.ensures ∙ c.if-not-passes_stencil.false))
