-- A segment of a line, row by row. No sentence of a document stands behind these contracts: they say by which few numbers is found what Cover defines pixel
-- by pixel.
use Rattle.std.specs.Prelude.{◌≡◌, Bool, true, false, cond, ℕ, ◌+◌, ◌-◌, ◌*◌, ◌/◌, ◌≤◌, ◌<◌, leb, ltb}
use Rattle.units.specs.declared.Pixels.{Pixels}
use Rattle.units.specs.Units.{pixel_at, short_from, short_to, widest}
use Rattle.action.specs.declared.shape.End.{End}
use Rattle.action.specs.declared.shape.Rectangle.{Rectangle}
use Rattle.action.specs.declared.shape.Segment.{Segment}
use Rattle.action.specs.Corners.{corners_in_order}
use Rattle.shape.specs.declared.Chord.{Chord}
use Rattle.shape.specs.Cover.{segment_covers}

-- A segment covers nothing that this rectangle does not: its ends are the corners.
abbrev pub box_of : Segment → Rectangle
box_of d = corners_in_order d.from.x d.from.y d.to.x d.to.y d.width

-- where no square is too large for 64 bits: the ends of every segment that is drawn, and the samples of every frame
abbrev pub Close : End → Type 0
Close e = ((short_from ≤ e.x.0) × (e.x.0 < short_to)) × ((short_from ≤ e.y.0) × (e.y.0 < short_to))

-- a column or a row of a frame
abbrev pub OnScreen : ℕ → Type 0
OnScreen x = ((pixel_at 0).0 ≤ x) × (x < (pixel_at widest).0)

-- The test of a pixel, by squares: a and b of the sample's distances to the ends, `length` of theirs, `enough` of the width. A segment without an end that
-- is near enough must be as long as what a and b are too large by, x and y, and the rest of it so long that 4 * x * y is at most its square.
abbrev pub by_rest : ℕ → ℕ → ℕ → Bool
by_rest x y rest = leb (x * y) (rest / 2 * (rest - rest / 2))

unfoldable pub by_squares : ℕ → ℕ → ℕ → ℕ → Bool
by_squares a b length enough =
    cond (leb a enough) true
    (cond (leb b enough) true
    (cond (ltb length ((a - enough) + (b - enough))) false
    (by_rest (a - enough) (b - enough) (length - ((a - enough) + (b - enough))))))

-- the columns between which all lie that the segment covers of a frame's row q
pub record Between (d : Segment) (q : Pixels) (from end : ℕ) : Type 0 where
  pub all : (p : Pixels) → OnScreen p.0 → segment_covers d p q ≡ true → (from ≤ p.0) × (p.0 < end)

-- Where a line comes near a sample x: rise * x and `under` are no further from `more` than `slack`.
abbrev pub Comes : ℕ → ℕ → ℕ → ℕ → ℕ → Type 0
Comes more under slack rise x = (rise * x + under ≤ more + slack) × (more ≤ rise * x + under + slack)

-- the pixels whose samples are such, counted from where the short positions begin
pub record Crosses (more under slack rise : ℕ) (c : Chord) : Type 0 where
  pub all : (p : Pixels) → OnScreen p.0 → Comes more under slack rise (16 * p.0 - short_from) → (c.left.0 ≤ p.0) × (p.0 < c.right.0)

-- The line through (ax, ay) and (bx, by), at y, with the second end further down, and the other way round.
abbrev pub Falls : ℕ → ℕ → ℕ → ℕ → ℕ → ℕ → ℕ → Type 0
Falls ax ay bx by y slack x = ay ≤ by → Comes (ax * by + y * bx) (bx * ay + y * ax) slack (by - ay) x

pub record Leans (ax ay bx by y slack : ℕ) (c : Chord) : Type 0 where
  pub all : (p : Pixels) → OnScreen p.0 → Falls ax ay bx by y slack (16 * p.0 - short_from) → Falls bx by ax ay y slack (16 * p.0 - short_from) → (c.left.0 ≤ p.0) × (p.0 < c.right.0)
