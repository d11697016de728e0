-- The numbers and places of an action, in the order in which Reading reads them. That they are read back as the action is a theorem (proofs/Back.antt).
use Rattle.std.specs.Prelude.{ℕ, suc, List, [], ◌∷◌, ◌++◌, set}
use Rattle.action.specs.Numbers.{test_number, stencil_action_number, factor_number, format_number}
use Rattle.action.specs.declared.Action.{Action}
use Rattle.action.specs.declared.Drawing.{Drawing}
use Rattle.action.specs.declared.Drawing.TheVariants as d
use Rattle.action.specs.declared.ink.Clear.{Clear}
use Rattle.action.specs.declared.ink.Ink.{Ink}
use Rattle.action.specs.declared.ink.Masks.{Masks}
use Rattle.action.specs.declared.shape.Area.{Area}
use Rattle.action.specs.declared.shape.Bitmap.{Bitmap}
use Rattle.action.specs.declared.shape.Point.{Point}
use Rattle.action.specs.declared.shape.Rectangle.{Rectangle}
use Rattle.action.specs.declared.shape.Segment.{Segment}

-- a list after some values were stored in it, one after the other from the i-th place on
abbrev pub stored_from : ℕ → List ℕ → List ℕ → List ℕ
stored_from i xs [] = xs
stored_from i xs (v ∷ vs) = stored_from (suc i) (set xs i v) vs

abbrev pub mask_numbers : Masks → List ℕ
mask_numbers m = m.red ∷ m.green ∷ m.blue ∷ m.alpha ∷ m.stencil ∷ m.tag ∷ []

abbrev pub clear_numbers : Clear → List ℕ
clear_numbers c =
    c.colour
    ∷ c.stencil
    ∷ c.tag
    ∷ c.values.red
    ∷ c.values.green
    ∷ c.values.blue
    ∷ c.values.alpha
    ∷ c.values.stencil
    ∷ c.values.tag
    ∷ []

abbrev pub ink_numbers : Ink → List ℕ
ink_numbers i =
    i.colour.red
    ∷ i.colour.green
    ∷ i.colour.blue
    ∷ i.colour.alpha
    ∷ test_number i.alpha.test
    ∷ i.alpha.reference
    ∷ test_number i.stencil.test
    ∷ i.stencil.reference
    ∷ i.stencil.mask
    ∷ stencil_action_number i.actions.fail
    ∷ stencil_action_number i.actions.pass
    ∷ factor_number i.blend.source
    ∷ factor_number i.blend.target
    ∷ i.tag
    ∷ []

abbrev pub bitmap_numbers : Bitmap → List ℕ
bitmap_numbers b = b.start ∷ format_number b.format ∷ b.stride ∷ b.height ∷ []

abbrev pub segment_numbers : Segment → List ℕ
segment_numbers s = s.width.0 ∷ s.primitive ∷ []

abbrev pub area_places : Area → List ℕ
area_places a = a.left.0 ∷ a.top.0 ∷ a.right.0 ∷ a.bottom.0 ∷ []

abbrev pub point_places : Point → List ℕ
point_places p = p.x.0 ∷ p.y.0 ∷ []

abbrev pub rectangle_places : Rectangle → List ℕ
rectangle_places r = r.left.0 ∷ r.top.0 ∷ r.right.0 ∷ r.bottom.0 ∷ []

abbrev pub segment_places : Segment → List ℕ
segment_places s = s.from.x.0 ∷ s.from.y.0 ∷ s.to.x.0 ∷ s.to.y.0 ∷ []

-- the kind, and what follows it
abbrev pub drawing_numbers : Drawing → List ℕ
drawing_numbers (d.Clear clear) = 0 ∷ clear_numbers clear
drawing_numbers (d.Point point ink) = 1 ∷ ink_numbers ink ++ (point.size.0 ∷ [])
drawing_numbers (d.Rectangle rectangle ink) = 2 ∷ ink_numbers ink ++ (rectangle.width.0 ∷ [])
drawing_numbers (d.Bitmap bitmap ink) = 3 ∷ ink_numbers ink ++ bitmap_numbers bitmap
drawing_numbers (d.Segment segment ink) = 4 ∷ ink_numbers ink ++ segment_numbers segment

abbrev pub drawing_places : Drawing → List ℕ
drawing_places (d.Clear clear) = []
drawing_places (d.Point point ink) = point_places point
drawing_places (d.Rectangle rectangle ink) = rectangle_places rectangle
drawing_places (d.Bitmap bitmap ink) = area_places bitmap.area
drawing_places (d.Segment segment ink) = segment_places segment

unfoldable pub numbers_of : Action → List ℕ
numbers_of a = mask_numbers a.masks ++ drawing_numbers a.drawing

unfoldable pub places_of : Action → List ℕ
places_of a = area_places a.scissor ++ drawing_places a.drawing
