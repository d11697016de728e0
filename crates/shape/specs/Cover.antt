-- Which pixels an action covers, and which rows it reaches. Document 01, 'Which pixels', and wish 1 of document 02, in the numbers that are kept of
-- positions.
use Rattle.std.specs.Prelude.{Bool, true, false, cond, ◌&&◌, ◌||◌, ℕ, zero, suc, ◌+◌, ◌-◌, ◌*◌, leb, ltb}
use Rattle.units.specs.declared.Pixels.{Pixels}
use Rattle.units.specs.declared.Sixteenths.{Sixteenths}
use Rattle.units.specs.Units.{pixel_at, sampled, spaced}
use Rattle.action.specs.declared.Drawing.{Drawing}
use Rattle.action.specs.declared.Drawing.TheVariants as d
use Rattle.action.specs.declared.shape.Area.{Area}
use Rattle.action.specs.declared.shape.End.{End}
use Rattle.action.specs.declared.shape.Point.{Point}
use Rattle.action.specs.declared.shape.Rectangle.{Rectangle}
use Rattle.action.specs.declared.shape.Segment.{Segment}
use Rattle.action.specs.Ends.{short_ends}
use Rattle.action.specs.Flags.{is_any}
use Rattle.shape.specs.declared.Outline.{Outline}
use Rattle.shape.specs.declared.Outline.TheVariants as o

-- "the squared distance .. is at most the squared size", for a distance of a across and b down
unfoldable pub within : ℕ → ℕ → ℕ → Bool
within a b size = leb (a * a + b * b) (size * size)

-- how far a position lies from the closed range of two
abbrev pub outside : Sixteenths → Sixteenths → Sixteenths → ℕ
outside s low high = (low.0 - s.0) + (s.0 - high.0)

-- "Pixel (p, q) is sampled at (16p, 16q)."
abbrev pub sample_at : Pixels → Pixels → End
sample_at p q = record { x = sampled p; y = sampled q }

-- "POINTS: covered exactly if the squared distance to the vertex is at most the squared size."
unfoldable pub point_covers : Point → Pixels → Pixels → Bool
point_covers d p q = within (spaced (sampled p) d.x) (spaced (sampled q) d.y) d.size.0

-- "RECTS: .. covered exactly if the squared distance from the sample to the closed box is at most the squared line width."
unfoldable pub rectangle_covers : Rectangle → Pixels → Pixels → Bool
rectangle_covers d p q =
    within (outside (sampled p) d.left d.right) (outside (sampled q) d.top d.bottom) d.width.0

-- LINES. The places of a closed segment are the means of its ends by two weights that are not both 0, k of the first and n of the second. Along one axis,
-- from a position to such a mean, times k + n:
abbrev pub to_mean : ℕ → ℕ → Sixteenths → Sixteenths → Sixteenths → ℕ
to_mean k n a b s = spaced (record { 0 = (k + n) * s.0 }) (record { 0 = k * a.0 + n * b.0 })

-- Wish 1: "no further .. than the line width", from the mean; both distances times k + n
unfoldable pub near_mean : Segment → End → ℕ → ℕ → Bool
near_mean d s k n =
    within (to_mean k n d.from.x d.to.x s.x) (to_mean k n d.from.y d.to.y s.y) ((k + n) * d.width.0)

unfoldable pub squared : End → End → ℕ
squared a b = spaced a.x b.x * spaced a.x b.x + spaced a.y b.y * spaced a.y b.y

-- The nearest place of the segment is the mean with these weights: what the law of cosines gives, and 0 where that is below 0. Ends that are equal count as
-- 1 apart here; with them every mean is the same place.
unfoldable pub length² : Segment → ℕ
length² d = squared d.from d.to + (1 - squared d.from d.to)

unfoldable pub of_first : Segment → End → ℕ
of_first d s = squared s d.to + length² d - squared s d.from

unfoldable pub of_second : Segment → End → ℕ
of_second d s = squared s d.from + length² d - squared s d.to

-- Wish 1: "A pixel is covered exactly if its sample is no further from the closed segment than the line width." An end that is not short is refused, so that
-- no other segment is ever asked about.
unfoldable pub segment_covers : Segment → Pixels → Pixels → Bool
segment_covers d p q = short_ends d && near_mean d (sample_at p q) (of_first d (sample_at p q)) (of_second d (sample_at p q))

-- from the first pixel on, and before the end
abbrev pub between : ℕ → ℕ → ℕ → Bool
between first end n = leb first n && ltb n end

-- "BITMAPS: .. the drawn size is covered.", and a scissor: left and top are in, right and bottom are not
unfoldable pub area_covers : Area → Pixels → Pixels → Bool
area_covers a p q =
    between a.left.0 a.right.0 p.0 && between a.top.0 a.bottom.0 q.0

-- each outline by its own sentence
unfoldable pub covers : Outline → Pixels → Pixels → Bool
covers o.Nothing p q = false
covers o.Everything p q = true
covers (o.Point d) p q = point_covers d p q
covers (o.Rectangle d) p q = rectangle_covers d p q
covers (o.Area a) p q = area_covers a p q
covers (o.Segment d) p q = segment_covers d p q

-- a drawing without its colours. "CLEAR covers everything if any of its three flags is set, else nothing."
unfoldable pub outline_of : Drawing → Outline
outline_of (d.Clear c) = cond (is_any c) o.Everything o.Nothing
outline_of (d.Point point ink) = o.Point point
outline_of (d.Rectangle rectangle ink) = o.Rectangle rectangle
outline_of (d.Bitmap bitmap ink) = o.Area bitmap.area
outline_of (d.Segment segment ink) = o.Segment segment

-- "Only pixels in both frame and scissor count."
unfoldable pub reaches : Outline → Area → Pixels → Pixels → Bool
reaches outline scissor p q = area_covers scissor p q && covers outline p q

-- "An action reaches a row exactly if it covers such a pixel there.": any of the frame's columns, which are those below its width
unfoldable pub reaches_row : Outline → Area → ℕ → Pixels → Bool
reaches_row outline scissor zero q = false
reaches_row outline scissor (suc width) q =
    reaches_row outline scissor width q || reaches outline scissor (pixel_at width) q
