-- The rows that an action can reach. Assumes nothing.
use mathlib.Core.Bool.{true}
use mathlib.Core.Path.{◌≡◌}
use Prim.Native.Nat.{ℕ, ◌<◌, ◌≤◌}
use native.Mathlib.Omega.{arith}
use Rattle.truth.proofs.Bools.{both_true}
use Rattle.units.specs.declared.Pixels.{Pixels}
use Rattle.units.specs.Units.{count_before, larger, pixel_at, smaller, tallest, widest, PixelOf}
use Rattle.action.specs.declared.shape.Area.{Area}
use Rattle.shape.specs.declared.Outline.{Outline}
use Rattle.shape.specs.declared.Rows.{Rows}
use Rattle.shape.specs.Cover.{area_covers, between, covers, reaches}
use Rattle.shape.specs.OneRow.{Bounds, InFrame}
use Rattle.shape.proofs.Bools.{between-true}

-- a row from a pixel on, and one before it, by the count of rows before that pixel
from_on : (p : Pixels) (y : ℕ) → p.0 ≤ (pixel_at y).0 → count_before tallest p ≤ y
from_on p y h = omega arith

before : (p : Pixels) (y : ℕ) → y < tallest → (pixel_at y).0 < p.0 → y < count_before tallest p
before p y l h = omega arith

-- within the outline's rows and the scissor's
pub band-of :
    (outline : Outline) (scissor : Area) (r : Rows Pixels) → Bounds outline r → (x y : ℕ) → x < widest → y < tallest →
    reaches outline scissor (pixel_at x) (pixel_at y) ≡ true →
    (count_before tallest (record { 0 = larger r.top.0 scissor.top.0 }) ≤ y) × (y < count_before tallest (record { 0 = smaller r.bottom.0 scissor.bottom.0 }))
unfolding reaches area_covers
band-of outline scissor r bounds x y hx hy e =
    let both = both_true (area_covers scissor (pixel_at x) (pixel_at y)) (covers outline (pixel_at x) (pixel_at y)) e in
    let sides = both_true (between scissor.left.0 scissor.right.0 (pixel_at x).0) (between scissor.top.0 scissor.bottom.0 (pixel_at y).0) both.0 in
    let rows = between-true scissor.top.0 scissor.bottom.0 (pixel_at y).0 sides.1 in
    let own = bounds.bound (pixel_at x) (pixel_at y) (omega arith) (omega arith) both.1 in
    (from_on _ y (omega (arith, own.0, rows.0)), before _ y hy (omega (arith, own.1, rows.1)))

-- a row of a frame
pub row-in-frame : {width y : ℕ} {q : Pixels} → width ≤ widest → y < tallest → PixelOf y q → InFrame width q
row-in-frame w l e = (w, (omega (arith, e.kept), omega (arith, e.kept, l)))
