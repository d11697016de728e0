-- An outline, row by row: which rows it can cover, and which columns of a row it does. No sentence of document 01 stands behind these contracts: they
-- say that the few numbers handed back for a row settle what Cover defines pixel by pixel.
use Rattle.std.specs.Prelude.{◌≡◌, Bool, true, ◌&&◌, ℕ, ◌-◌, ◌*◌, ◌^◌, ◌≤◌, ◌<◌, ltb}
use Rattle.units.specs.declared.Pixels.{Pixels}
use Rattle.units.specs.Units.{larger, pixel_at, sampled, smaller, tallest, widest}
use Rattle.action.specs.declared.shape.Area.{Area}
use Rattle.action.specs.declared.shape.Point.{Point}
use Rattle.action.specs.declared.shape.Rectangle.{Rectangle}
use Rattle.shape.specs.declared.Outline.{Outline}
use Rattle.shape.specs.declared.Outline.TheVariants as o
use Rattle.shape.specs.declared.Chord.{Chord}
use Rattle.shape.specs.declared.Rows.{Rows}
use Rattle.shape.specs.Cover.{outside, between, covers, reaches}
use Rattle.shape.specs.Lines.{box_of}

-- the first pixel whose sample is no number of 64 bits, and the pixels before it
abbrev pub unsampled : Pixels
unsampled = record { 0 = 2 ^ 60 }

abbrev pub Sampled : Pixels → Type 0
Sampled p = p.0 < unsampled.0

-- the row is one of a frame's, and the frame is no wider than a frame may be
abbrev pub InFrame : ℕ → Pixels → Type 0
InFrame width q = (width ≤ widest) × (((pixel_at 0).0 ≤ q.0) × (q.0 < (pixel_at tallest).0))

-- The column's sample is near enough to the chord. A size has 32 bits, so that a distance of more is too far whatever the room.
unfoldable pub near_enough : ℕ → ℕ → Bool
near_enough d room = ltb d (2 ^ 32) && ltb (d * d) room

unfoldable pub holds_in : Chord → Pixels → Bool
holds_in c p = near_enough (outside (sampled p) c.near c.far) c.room

-- the chord holds every column; told of no chord that does not
pub record Flat (c : Chord) (told : Bool) : Type 0 where
  pub all : told ≡ true → (p : Pixels) → Sampled p → holds_in c p ≡ true

-- the column is one of the chord's
abbrev pub has_column : Chord → Pixels → Bool
has_column c p = between c.left.0 c.right.0 p.0 && holds_in c p

-- what is covered of row q are the chord's columns
pub record Chords (outline : Outline) (q : Pixels) (c : Chord) : Type 0 where
  pub exact : (p : Pixels) → Sampled p → covers outline p q ≡ has_column c p

-- what counts of row q in a frame of this width are the chord's columns, and it has none outside of the frame
pub record Reached (outline : Outline) (scissor : Area) (width : ℕ) (q : Pixels) (c : Chord) : Type 0 where
  pub exact : (x : ℕ) → x < width → reaches outline scissor (pixel_at x) q ≡ has_column c (pixel_at x)
  pub from : (pixel_at 0).0 ≤ c.left.0
  pub to : c.right.0 ≤ (pixel_at width).0

-- no row outside of these has a covered pixel
pub record Bounds (outline : Outline) (r : Rows Pixels) : Type 0 where
  pub bound : (p q : Pixels) → Sampled p → Sampled q → covers outline p q ≡ true → (r.top.0 ≤ q.0) × (q.0 < r.bottom.0)

-- A point covers what a rectangle does whose corners both lie at its vertex.
abbrev pub square_of : Point → Rectangle
square_of d = record { left = d.x; top = d.y; right = d.x; bottom = d.y; width = d.size }

-- the outline around a segment, and any other itself
abbrev pub boxed : Outline → Outline
boxed o.Nothing = o.Nothing
boxed o.Everything = o.Everything
boxed (o.Point d) = o.Point d
boxed (o.Rectangle d) = o.Rectangle d
boxed (o.Area a) = o.Area a
boxed (o.Segment d) = o.Rectangle (box_of d)

-- the chord's columns are columns of a frame
abbrev pub Shown : Chord → Type 0
Shown c = ((pixel_at 0).0 ≤ c.left.0) × (c.right.0 ≤ (pixel_at widest).0)

-- the chord that has each column from the one to the other: no sample of 64 bits lies outside of its range
abbrev pub flat_over : Pixels → Pixels → Chord
flat_over left right =
    record {
      left = left;
      right = right;
      near = record { 0 = 0 };
      far = record { 0 = 2 ^ 64 - 1 };
      room = 1;
    }

-- the chord that has no column
abbrev pub no_column : Chord
no_column = flat_over (pixel_at 0) (pixel_at 0)

-- the columns of a chord that lie in the scissor's columns and in a frame of this width
abbrev pub cut_to : Area → ℕ → Chord → Chord
cut_to scissor width c =
    record {
      left = record { 0 = larger (pixel_at 0).0 (larger c.left.0 scissor.left.0) };
      right = record { 0 = smaller (pixel_at width).0 (smaller c.right.0 scissor.right.0) };
      near = c.near;
      far = c.far;
      room = c.room;
    }

-- what counts of a row: of the columns that are cut from those of the outline's box, the ones that are covered
pub record Narrows (outline : Outline) (q : Pixels) (c r : Chord) : Type 0 where
  pub reached : (scissor : Area) (width : ℕ) (whole : Chord) → width ≤ widest → between scissor.top.0 scissor.bottom.0 q.0 ≡ true → Chords (boxed outline) q whole → c ≡ cut_to scissor width whole → Reached outline scissor width q r
