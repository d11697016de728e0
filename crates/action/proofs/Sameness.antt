-- The derived `==` tells whether two values are equal, of each type. The check finds what `is` promises by itself, but of
-- an ink, a drawing and an action; their proofs cite what is shown here. Assumes nothing.
use mathlib.Core.Path.{◌≡◌, refl}
use mathlib.Core.Bool.{Bool, true}
use Rattle.std.proofs.Common.{rules}
use Rattle.truth.proofs.Bools.{both_true, never}
use Rattle.action.specs.declared.Action.{Action}
use Rattle.action.specs.declared.Drawing.{Drawing}
use Rattle.action.specs.declared.Drawing.TheVariants as d
use Rattle.action.specs.declared.ink.Colour.{Colour}
use Rattle.action.specs.declared.ink.AlphaTest.{AlphaTest}
use Rattle.action.specs.declared.ink.StencilTest.{StencilTest}
use Rattle.action.specs.declared.ink.StencilActions.{StencilActions}
use Rattle.action.specs.declared.ink.Blend.{Blend}
use Rattle.action.specs.declared.ink.Clear.{Clear}
use Rattle.action.specs.declared.ink.Ink.{Ink}
use Rattle.action.specs.declared.ink.Masks.{Masks}
use Rattle.action.specs.declared.ink.ClearValues.{ClearValues}
use Rattle.action.specs.declared.numbers.Test.{Test}
use Rattle.action.specs.declared.numbers.StencilAction.{StencilAction}
use Rattle.action.specs.declared.numbers.Factor.{Factor}
use Rattle.action.specs.declared.numbers.Format.{Format}
use Rattle.action.specs.declared.shape.Area.{Area}
use Rattle.action.specs.declared.shape.End.{End}
use Rattle.action.specs.declared.shape.Bitmap.{Bitmap}
use Rattle.action.specs.declared.shape.Point.{Point}
use Rattle.action.specs.declared.shape.Rectangle.{Rectangle}
use Rattle.action.specs.declared.shape.Segment.{Segment}
use Rattle.action.specs.contracts.ActionPartialEq.TheImpl as action
use Rattle.action.specs.contracts.DrawingEq.TheImpl.Laws.{laws-law}
use Rattle.action.specs.contracts.DrawingPartialEq.TheImpl as drawing
use Rattle.action.specs.contracts.ink.ColourPartialEq.TheImpl as colour
use Rattle.action.specs.contracts.ink.AlphaTestPartialEq.TheImpl as alpha
use Rattle.action.specs.contracts.ink.StencilTestPartialEq.TheImpl as stencil
use Rattle.action.specs.contracts.ink.StencilActionsPartialEq.TheImpl as actions
use Rattle.action.specs.contracts.ink.BlendPartialEq.TheImpl as blend
use Rattle.action.specs.contracts.ink.ClearPartialEq.TheImpl as clear
use Rattle.action.specs.contracts.ink.InkPartialEq.TheImpl as ink
use Rattle.action.specs.contracts.ink.MasksPartialEq.TheImpl as masks
use Rattle.action.specs.contracts.ink.ClearValuesPartialEq.TheImpl as values
use Rattle.action.specs.contracts.numbers.TestPartialEq.TheImpl as test
use Rattle.action.specs.contracts.numbers.StencilActionPartialEq.TheImpl as stencil_action
use Rattle.action.specs.contracts.numbers.FactorPartialEq.TheImpl as factor
use Rattle.action.specs.contracts.numbers.FormatPartialEq.TheImpl as format
use Rattle.action.specs.contracts.shape.AreaPartialEq.TheImpl as area
use Rattle.action.specs.contracts.shape.EndPartialEq.TheImpl as end
use Rattle.action.specs.contracts.shape.BitmapPartialEq.TheImpl as bitmap
use Rattle.action.specs.contracts.shape.PointPartialEq.TheImpl as point
use Rattle.action.specs.contracts.shape.RectanglePartialEq.TheImpl as rectangle
use Rattle.action.specs.contracts.shape.SegmentPartialEq.TheImpl as segment
use Rattle.action.specs.Same.{Tells}
use Rattle.action.proofs.Telling.{◌beside◌, tells-by, tells-number}

pub test_tells : (a b : Test) → Tells ((test.ghosts).eq a b) (a ≡ b)
test_tells a b = search rules

pub stencil_action_tells : (a b : StencilAction) → Tells ((stencil_action.ghosts).eq a b) (a ≡ b)
stencil_action_tells a b = search rules

pub factor_tells : (a b : Factor) → Tells ((factor.ghosts).eq a b) (a ≡ b)
factor_tells a b = search rules

pub format_tells : (a b : Format) → Tells ((format.ghosts).eq a b) (a ≡ b)
format_tells a b = search rules

pub values_tells : (a b : ClearValues) → Tells ((values.ghosts).eq a b) (a ≡ b)
values_tells a b = search rules

pub clear_tells : (a b : Clear) → Tells ((clear.ghosts).eq a b) (a ≡ b)
clear_tells a b = search rules

pub point_tells : (a b : Point) → Tells ((point.ghosts).eq a b) (a ≡ b)
point_tells a b = search rules

pub rectangle_tells : (a b : Rectangle) → Tells ((rectangle.ghosts).eq a b) (a ≡ b)
rectangle_tells a b = search rules

pub end_tells : (a b : End) → Tells ((end.ghosts).eq a b) (a ≡ b)
end_tells a b = search rules

pub segment_tells : (a b : Segment) → Tells ((segment.ghosts).eq a b) (a ≡ b)
segment_tells a b = search rules

pub area_tells : (a b : Area) → Tells ((area.ghosts).eq a b) (a ≡ b)
area_tells a b = search rules

pub bitmap_tells : (a b : Bitmap) → Tells ((bitmap.ghosts).eq a b) (a ≡ b)
bitmap_tells a b =
    tells-by
    (λ (it : Bitmap). (it.area, (it.start, (it.format, (it.stride, it.height)))))
    (λ p. record { area = p.0; start = p.1.0; format = p.1.1.0; stride = p.1.1.1.0; height = p.1.1.1.1 })
    (λ _. refl)
    (area_tells a.area b.area
    beside (tells-number a.start b.start
    beside (format_tells a.format b.format
    beside (tells-number a.stride b.stride
    beside tells-number a.height b.height))))

pub colour_tells : (a b : Colour) → Tells ((colour.ghosts).eq a b) (a ≡ b)
colour_tells a b = search rules

pub alpha_tells : (a b : AlphaTest) → Tells ((alpha.ghosts).eq a b) (a ≡ b)
alpha_tells a b = search rules

pub stencil_tells : (a b : StencilTest) → Tells ((stencil.ghosts).eq a b) (a ≡ b)
stencil_tells a b = search rules

pub actions_tells : (a b : StencilActions) → Tells ((actions.ghosts).eq a b) (a ≡ b)
actions_tells a b = search rules

pub blend_tells : (a b : Blend) → Tells ((blend.ghosts).eq a b) (a ≡ b)
blend_tells a b = search rules

pub masks_tells : (a b : Masks) → Tells ((masks.ghosts).eq a b) (a ≡ b)
masks_tells a b = search rules

pub ink_tells : (a b : Ink) → Tells ((ink.ghosts).eq a b) (a ≡ b)
ink_tells a b =
    tells-by
    (λ (it : Ink). (it.colour, (it.alpha, (it.stencil, (it.actions, (it.blend, it.tag))))))
    (λ p. record {
      colour = p.0;
      alpha = p.1.0;
      stencil = p.1.1.0;
      actions = p.1.1.1.0;
      blend = p.1.1.1.1.0;
      tag = p.1.1.1.1.1;
    })
    (λ _. refl)
    (colour_tells a.colour b.colour
    beside (alpha_tells a.alpha b.alpha
    beside (stencil_tells a.stencil b.stencil
    beside (actions_tells a.actions b.actions
    beside (blend_tells a.blend b.blend
    beside tells-number a.tag b.tag)))))

drawing-same : (a b : Drawing) → (drawing.ghosts).eq a b ≡ true → a ≡ b
drawing-same (d.Clear x) (d.Clear y) e = rw ((clear_tells x y).holds e)
drawing-same (d.Point x i) (d.Point y j) e =
    let t = both_true _ _ e in rw ((point_tells x y).holds t.0, (ink_tells i j).holds t.1)
drawing-same (d.Rectangle x i) (d.Rectangle y j) e =
    let t = both_true _ _ e in rw ((rectangle_tells x y).holds t.0, (ink_tells i j).holds t.1)
drawing-same (d.Bitmap x i) (d.Bitmap y j) e =
    let t = both_true _ _ e in rw ((bitmap_tells x y).holds t.0, (ink_tells i j).holds t.1)
drawing-same (d.Segment x i) (d.Segment y j) e =
    let t = both_true _ _ e in rw ((segment_tells x y).holds t.0, (ink_tells i j).holds t.1)
drawing-same (d.Clear _) (d.Point _ _) e = never e
drawing-same (d.Clear _) (d.Rectangle _ _) e = never e
drawing-same (d.Clear _) (d.Bitmap _ _) e = never e
drawing-same (d.Clear _) (d.Segment _ _) e = never e
drawing-same (d.Point _ _) (d.Clear _) e = never e
drawing-same (d.Point _ _) (d.Rectangle _ _) e = never e
drawing-same (d.Point _ _) (d.Bitmap _ _) e = never e
drawing-same (d.Point _ _) (d.Segment _ _) e = never e
drawing-same (d.Rectangle _ _) (d.Clear _) e = never e
drawing-same (d.Rectangle _ _) (d.Point _ _) e = never e
drawing-same (d.Rectangle _ _) (d.Bitmap _ _) e = never e
drawing-same (d.Rectangle _ _) (d.Segment _ _) e = never e
drawing-same (d.Bitmap _ _) (d.Clear _) e = never e
drawing-same (d.Bitmap _ _) (d.Point _ _) e = never e
drawing-same (d.Bitmap _ _) (d.Rectangle _ _) e = never e
drawing-same (d.Bitmap _ _) (d.Segment _ _) e = never e
drawing-same (d.Segment _ _) (d.Clear _) e = never e
drawing-same (d.Segment _ _) (d.Point _ _) e = never e
drawing-same (d.Segment _ _) (d.Rectangle _ _) e = never e
drawing-same (d.Segment _ _) (d.Bitmap _ _) e = never e

pub drawing_tells : (a b : Drawing) → Tells ((drawing.ghosts).eq a b) (a ≡ b)
drawing_tells a b = record { holds = drawing-same a b; told = λ e. rw e (laws-law.refl b) }

pub action_tells : (a b : Action) → Tells ((action.ghosts).eq a b) (a ≡ b)
action_tells a b =
    tells-by
    (λ (it : Action). (it.scissor, (it.masks, it.drawing)))
    (λ p. record { scissor = p.0; masks = p.1.0; drawing = p.1.1 })
    (λ _. refl)
    (area_tells a.scissor b.scissor
    beside (masks_tells a.masks b.masks
    beside drawing_tells a.drawing b.drawing))

-- as the clause of `a == b` has it
pub action_told : {answer : Bool} (a b : Action) → answer ≡ (action.ghosts).eq a b → Tells answer (a ≡ b)
action_told a b e = rw e (action_tells a b)
