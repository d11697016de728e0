-- Which columns a chord has, by the outline that it is cut from. Assumes nothing.
use mathlib.Core.Path.{◌≡◌, sym, ◌∙◌}
use mathlib.Core.Bool.{true, false, ◌&&◌, and-true, and-false}
use Prim.Native.Nat.{ℕ, ◌+◌, ◌-◌, ◌*◌, ◌^◌, ◌≤◌, ◌<◌}
use native.Mathlib.Omega.{arith}
use lib.Dec.{ltb, eqb}
use borrow.Author.Tests.{lt-ltb, le-ltb, eqb-true, ltb-true}
use Rattle.truth.proofs.Bools.{and-implied, both_true, never}
use Rattle.units.specs.declared.LengthInSixteenths.{LengthInSixteenths}
use Rattle.units.specs.declared.Pixels.{Pixels}
use Rattle.units.specs.declared.Sixteenths.{Sixteenths}
use Rattle.units.specs.Units.{end_near, first_near, sampled, spaced, pixel_at}
use Rattle.action.specs.declared.shape.Area.{Area}
use Rattle.action.specs.declared.shape.Point.{Point}
use Rattle.action.specs.declared.shape.Rectangle.{Rectangle}
use Rattle.shape.specs.declared.Outline.TheVariants as o
use Rattle.shape.specs.declared.Chord.{Chord}
use Rattle.shape.specs.declared.Rows.{Rows}
use Rattle.shape.specs.Cover.{within, outside, between, point_covers, rectangle_covers, area_covers, covers}
use Rattle.shape.specs.OneRow.{unsampled, Sampled, near_enough, holds_in, has_column, Chords, Bounds, square_of, flat_over, no_column}
use Rattle.shape.proofs.Bools.{between-true, between-made, between_none}
use Rattle.shape.proofs.Squares.{within-legs, down-too-far, within-left}

-- a chord without columns, and one that has all of its columns
pub has-none : (p : Pixels) → has_column no_column p ≡ false
has-none p = rw (between_none (pixel_at 0).0 (pixel_at 0).0 p.0 (omega arith))

pub has_flat : (left right p : Pixels) → Sampled p → has_column (flat_over left right) p ≡ between left.0 right.0 p.0
unfolding holds_in near_enough
has_flat left right p h =
    let e : outside (sampled p) (record { 0 = 0 }) (record { 0 = 2 ^ 64 - 1 }) ≡ 0 = omega arith in
    rw e (and-true _)

-- no sample of 64 bits lies outside of the widest range
pub flat_holds : (c : Chord) → c.near.0 ≡ 0 → c.far.0 ≡ 2 ^ 64 - 1 → 0 < c.room → (p : Pixels) → Sampled p → holds_in c p ≡ true
unfolding holds_in near_enough
flat_holds c near far room p h =
    let e : outside (sampled p) c.near c.far ≡ 0 = omega arith in
    rw (e, lt-ltb 0 c.room room)

pub nothing_has : (q : Pixels) → Chords o.Nothing q no_column
unfolding covers
nothing_has q = record { exact = λ p h. sym (has-none p) }

pub everything_has : (q : Pixels) → Chords o.Everything q (flat_over (record { 0 = 0 }) unsampled)
unfolding covers
everything_has q = record {
  exact = λ p h.
      sym (has_flat (record { 0 = 0 }) unsampled p h ∙ between-made 0 unsampled.0 p.0 (omega arith) h);
}

pub area_off : (a : Area) (q : Pixels) → between a.top.0 a.bottom.0 q.0 ≡ false → Chords (o.Area a) q no_column
unfolding covers area_covers
area_off a q e = record {
  exact = λ p h. rw e (and-false (between a.left.0 a.right.0 p.0) ∙ sym (has-none p));
}

pub area_has : (a : Area) (q : Pixels) → between a.top.0 a.bottom.0 q.0 ≡ true → Chords (o.Area a) q (flat_over a.left a.right)
unfolding covers area_covers
area_has a q e = record { exact = λ p h. rw e (and-true _ ∙ sym (has_flat a.left a.right p h)) }

-- the pixels that can be reached from a range, along one axis: one law for columns and rows
reached-between : (p : Pixels) (low high : Sixteenths) (reach : LengthInSixteenths) → outside (sampled p) low high ≤ reach.0 → ((first_near low reach).0 ≤ p.0) × (p.0 < (end_near high reach).0)
reached-between p low high reach h = (omega arith, omega arith)

-- the column's distance is settled by its test against the room
pub too_far : (c : Chord) (p : Pixels) (d : ℕ) → d ≡ outside (sampled p) c.near c.far → 2 ^ 32 ≤ d → false ≡ holds_in c p
unfolding holds_in near_enough
too_far c p d e h = rw (← e, le-ltb d (2 ^ 32) h)

pub by-room : (c : Chord) (p : Pixels) (d : ℕ) → d ≡ outside (sampled p) c.near c.far → d < 2 ^ 32 → ltb (d * d) c.room ≡ holds_in c p
unfolding holds_in near_enough
by-room c p d e h = rw (← e, lt-ltb d (2 ^ 32) h)

module _ (d : Rectangle) (q : Pixels) where
  abbrev down : ℕ
  down = outside (sampled q) d.top d.bottom

  abbrev leaves : ℕ
  leaves = d.width.0 * d.width.0 - down * down + 1

  pub rectangle-off : d.width.0 < down → Chords (o.Rectangle d) q no_column
  unfolding covers rectangle_covers
  rectangle-off h = record { exact = λ p k. down-too-far _ _ _ h ∙ sym (has-none p) }

  pub rectangle-has : (left right : Pixels) (room : ℕ) → d.width.0 < 2 ^ 32 → down ≤ d.width.0 → left.0 ≤ (first_near d.left d.width).0 → (end_near d.right d.width).0 ≤ right.0 → room ≡ leaves → Chords (o.Rectangle d) q (record { left = left; right = right; near = d.left; far = d.right; room = room })
  unfolding covers rectangle_covers holds_in near_enough
  rectangle-has left right room fits h l r m = record {
    exact = λ p k.
        let across : ℕ = outside (sampled p) d.left d.right in
        let e : within across down d.width.0 ≡ (ltb across (2 ^ 32) && ltb (across * across) room) = rw m (within-left across down d.width.0 h fits) in
        e
        ∙ sym
        (and-implied _ _
        (λ t.
        let b = reached-between p d.left d.right d.width (within-legs across down d.width.0 (e ∙ t)).0 in
        between-made left.0 right.0 p.0 (omega arith) (omega arith)));
  }

-- a point's vertex is a box without extent
pub square-covers : (d : Point) (p q : Pixels) → covers (o.Point d) p q ≡ covers (o.Rectangle (square_of d)) p q
unfolding covers point_covers rectangle_covers
square-covers d p q =
    let x : spaced (sampled p) d.x ≡ outside (sampled p) d.x d.x = omega arith in
    let y : spaced (sampled q) d.y ≡ outside (sampled q) d.y d.y = omega arith in
    rw (x, y)

pub point_has : (d : Point) (q : Pixels) (c : Chord) → Chords (o.Rectangle (square_of d)) q c → Chords (o.Point d) q c
point_has d q c h = record { exact = λ p k. square-covers d p q ∙ h.exact p k }

-- the rows
pub rectangle_rows : (d : Rectangle) (r : Rows Pixels) → r.top.0 ≤ (first_near d.top d.width).0 → (end_near d.bottom d.width).0 ≤ r.bottom.0 → Bounds (o.Rectangle d) r
unfolding covers rectangle_covers
rectangle_rows d r t b = record {
  bound = λ p q h k e.
      let m = reached-between q d.top d.bottom d.width (within-legs _ _ _ e).1 in
      (omega arith, omega arith);
}

pub point_rows : (d : Point) (r : Rows Pixels) → Bounds (o.Rectangle (square_of d)) r → Bounds (o.Point d) r
point_rows d r h = record { bound = λ p q k l e. h.bound p q k l (sym (square-covers d p q) ∙ e) }

pub nothing_rows : (r : Rows Pixels) → Bounds o.Nothing r
unfolding covers
nothing_rows r = record { bound = λ p q h k e. never e }

pub area_rows : (a : Area) → Bounds (o.Area a) (record { top = a.top; bottom = a.bottom })
unfolding covers area_covers
area_rows a = record {
  bound = λ p q h k e.
      between-true a.top.0 a.bottom.0 q.0
      (both_true (between a.left.0 a.right.0 p.0) (between a.top.0 a.bottom.0 q.0) e).1;
}

-- a chord that the test of a flat one passes holds every sample
pub flat-holds : (c : Chord) → (eqb c.near.0 0 && (eqb c.far.0 (2 ^ 64 - 1) && ltb 0 c.room)) ≡ true → (p : Pixels) → Sampled p → holds_in c p ≡ true
flat-holds c t p h =
    let a = both_true (eqb c.near.0 0) (eqb c.far.0 (2 ^ 64 - 1) && ltb 0 c.room) t in
    let b = both_true (eqb c.far.0 (2 ^ 64 - 1)) (ltb 0 c.room) a.1 in
    flat_holds c (eqb-true c.near.0 0 a.0) (eqb-true c.far.0 (2 ^ 64 - 1) b.0) (ltb-true 0 c.room b.1) p h

-- every row of the widest frame
pub everything-rows : Bounds o.Everything (record { top = record { 0 = 0 }; bottom = unsampled })
everything-rows = record { bound = λ p q h k e. (omega arith, k) }
