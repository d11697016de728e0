-- WHAT EVERY ACTION OF A RUN IS: corners in order, ends that may be drawn. So the documents' sentences about integers, which shape's Meaning.antt
-- claims of such shapes, hold of all that any list draws, without condition.
use Rattle.std.specs.Prelude.{◌≡◌, true, List, ℕ}
use Rattle.units.specs.declared.Pixels.{Pixels}
use Rattle.units.specs.Units.{meant_sixteenths}
use Rattle.action.specs.declared.Action.{Action}
use Rattle.action.specs.declared.Drawing.{Drawing}
use Rattle.action.specs.declared.Drawing.TheVariants as d
use Rattle.action.specs.Corners.{InOrder}
use Rattle.action.specs.Ends.{short_ends}
use Rattle.action.specs.Flags.{is_any}
use Rattle.action.specs.Same.{Tells}
use Rattle.shape.specs.Cover.{area_covers, covers, outline_of}
use Rattle.shape.specs.Meaning.{near_place, NearBox, NearSegment, InArea}
use Rattle.engine.specs.Run.{actions_of}
use Rattle.invariant.specs.Each.{Each}

-- Document 01: 'corners are put in order, x and y apart'. Wish 1 of document 02: '20 when an end lies outside -32768..32767 sixteenths'
abbrev pub Orderly : Drawing → Type 0
Orderly (d.Clear clear) = Unit {0}
Orderly (d.Point point ink) = Unit {0}
Orderly (d.Rectangle rectangle ink) = InOrder rectangle
Orderly (d.Bitmap bitmap ink) = Unit {0}
Orderly (d.Segment segment ink) = short_ends segment ≡ true

-- what the documents say of integers, of pixel (p, q): a CLEAR has 'any of its three flags'; 'the squared distance to the vertex is at most the squared size';
-- some place of 'the closed box', or of 'the closed segment', is no further than the line width; the pixel lies in the bitmap's area
abbrev pub Covered : Drawing → Pixels → Pixels → Type 0
Covered (d.Clear clear) p q = is_any clear ≡ true
Covered (d.Point point ink) p q = near_place p q (meant_sixteenths point.x) (meant_sixteenths point.y) point.size.0 ≡ true
Covered (d.Rectangle rectangle ink) p q = NearBox rectangle p q
Covered (d.Bitmap bitmap ink) p q = InArea bitmap.area p q
Covered (d.Segment segment ink) p q = NearSegment segment p q

-- the two tests that a picture is made with tell just that: 'Only pixels in both frame and scissor count.'
pub record CoveredAsSaid (action : Action) (p q : Pixels) : Type 0 where
  pub scissor : Tells (area_covers action.scissor p q) (InArea action.scissor p q)
  pub drawing : Tells (covers (outline_of action.drawing) p q) (Covered action.drawing p q)

-- THE CLAIM, for every list, RAM_G and step limit
pub record ActionsAsSaid : Type 0 where
  pub orderly : (list : List ℕ) (memory limit : ℕ) → Each (λ action. Orderly action.drawing) (actions_of list memory limit)
  pub covered : (list : List ℕ) (memory limit : ℕ) → Each (λ action. (p q : Pixels) → CoveredAsSaid action p q) (actions_of list memory limit)
