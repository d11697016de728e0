-- What Cover says in kept numbers, in the numbers of the documents themselves: integers, on either side of the screen's edge.
use Rattle.std.specs.Prelude.{◌≡◌, Bool, true, ℕ, ◌+◌, ◌*◌, ◌≤◌, ◌<◌, ℤ, pos, negsuc, ◌+ℤ◌, ◌*ℤ◌, ◌≤ℤ◌, ◌<ℤ◌}
use Rattle.units.specs.declared.Pixels.{Pixels}
use Rattle.units.specs.declared.Sixteenths.{Sixteenths}
use Rattle.units.specs.Units.{meant_pixels, meant_sixteenths, distance, is_short}
use Rattle.action.specs.declared.shape.Area.{Area}
use Rattle.action.specs.declared.shape.End.{End}
use Rattle.action.specs.declared.shape.Point.{Point}
use Rattle.action.specs.declared.shape.Rectangle.{Rectangle}
use Rattle.action.specs.declared.shape.Segment.{Segment}
use Rattle.action.specs.Corners.{InOrder}
use Rattle.action.specs.Ends.{short_ends}
use Rattle.action.specs.Same.{Tells}
use Rattle.shape.specs.Cover.{within, to_mean, of_first, of_second, point_covers, rectangle_covers, segment_covers, area_covers}

-- "Pixel (p, q) is sampled at (16p, 16q).": its squared distance to the place (s, t) is at most the squared size
unfoldable pub near_place : Pixels → Pixels → ℤ → ℤ → ℕ → Bool
near_place p q s t size =
    within (distance (pos 16 *ℤ meant_pixels p) s) (distance (pos 16 *ℤ meant_pixels q) t) size

-- the place (s, t) lies in the closed box
pub record InBox (d : Rectangle) (s t : ℤ) : Type 0 where
  pub across : (meant_sixteenths d.left ≤ℤ s) × (s ≤ℤ meant_sixteenths d.right)
  pub down : (meant_sixteenths d.top ≤ℤ t) × (t ≤ℤ meant_sixteenths d.bottom)

-- a box is as near as its nearest place: near enough exactly if any of its places is
pub record NearBox (d : Rectangle) (p q : Pixels) : Type 0 where
  pub s : ℤ
  pub t : ℤ
  pub inside : InBox d s t
  pub near : near_place p q s t d.width.0 ≡ true

-- Wish 1: "-32768..32767 sixteenths"; `negsuc n` is -(n + 1)
pub record InRange (s : Sixteenths) : Type 0 where
  pub from : negsuc 32767 ≤ℤ meant_sixteenths s
  pub to : meant_sixteenths s ≤ℤ pos 32767

-- "no further from the closed segment than the line width": a segment is as near as its nearest place, near enough exactly if any of its places is. Its
-- places are the means (k * a + n * b) / (k + n) of its ends by two weights; all distances are taken times k + n.
abbrev pub distance_to_mean : ℕ → ℕ → Sixteenths → Sixteenths → Pixels → ℕ
distance_to_mean k n a b p =
    distance (pos (k + n) *ℤ (pos 16 *ℤ meant_pixels p)) (pos k *ℤ meant_sixteenths a +ℤ pos n *ℤ meant_sixteenths b)

pub record NearSegment (d : Segment) (p q : Pixels) : Type 0 where
  pub k : ℕ
  pub n : ℕ
  pub some : 0 < k + n
  pub near : within (distance_to_mean k n d.from.x d.to.x p) (distance_to_mean k n d.from.y d.to.y q) ((k + n) * d.width.0) ≡ true

-- No place of the segment is nearer than the one whose weights the definition takes: the squared distance to that is at most the squared distance to the mean
-- by k and n. Both are multiplied by the squares of both sums of weights.
unfoldable pub to_mean² : Segment → End → ℕ → ℕ → ℕ
to_mean² d s k n =
    to_mean k n d.from.x d.to.x s.x * to_mean k n d.from.x d.to.x s.x + to_mean k n d.from.y d.to.y s.y * to_mean k n d.from.y d.to.y s.y

pub record Nearest (d : Segment) (s : End) : Type 0 where
  pub some : 0 < of_first d s + of_second d s
  pub none-nearer : (k n : ℕ) → 0 < k + n → (k + n) * (k + n) * to_mean² d s (of_first d s) (of_second d s) ≤ (of_first d s + of_second d s) * (of_first d s + of_second d s) * to_mean² d s k n

-- left and top are in, right and bottom are not
pub record InArea (a : Area) (p q : Pixels) : Type 0 where
  pub across : (meant_pixels a.left ≤ℤ meant_pixels p) × (meant_pixels p <ℤ meant_pixels a.right)
  pub down : (meant_pixels a.top ≤ℤ meant_pixels q) × (meant_pixels q <ℤ meant_pixels a.bottom)

pub record Meant : Type 0 where
  pub points : (d : Point) (p q : Pixels) → point_covers d p q ≡ near_place p q (meant_sixteenths d.x) (meant_sixteenths d.y) d.size.0
  pub rectangles : (d : Rectangle) → InOrder d → (p q : Pixels) → Tells (rectangle_covers d p q) (NearBox d p q)
  pub shorts : (s : Sixteenths) → Tells (is_short s) (InRange s)
  pub segments : (d : Segment) → short_ends d ≡ true → (p q : Pixels) → Tells (segment_covers d p q) (NearSegment d p q)
  pub nearest : (d : Segment) (s : End) → Nearest d s
  pub areas : (a : Area) (p q : Pixels) → Tells (area_covers a p q) (InArea a p q)
