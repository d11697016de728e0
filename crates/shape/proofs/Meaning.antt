-- Cover's definitions say what document 01 says of integers. Assumes nothing.
use mathlib.Core.Path.{◌≡◌, refl, sym, ◌∙◌, ap, subst}
use mathlib.Core.Bool.{Bool, true, ◌&&◌}
use Prim.Native.Nat.{ℕ, ◌+◌, ◌-◌, ◌*◌, ◌≤◌}
use native.Mathlib.Omega.{arith}
use lib.IntN.{ℤ, pos, sub_ℕ, ◌*ℤ◌}
use lib.Signed.{◌≤ℤ◌, ◌<ℤ◌}
use lib.Dec.{leb}
use borrow.Author.Tests.{leb-true, le-leb}
use Rattle.truth.proofs.Bools.{both-made, both_true}
use Rattle.units.specs.declared.Pixels.{Pixels}
use Rattle.units.specs.declared.Sixteenths.{Sixteenths}
use Rattle.units.specs.Units.{displacement, meant_pixels, meant_sixteenths, distance, sampled, spaced, is_short, short_from, short_to}
use Rattle.units.proofs.Meaning.{sampled-at, apart_by, in_order, mean-apart}
use Rattle.action.specs.declared.shape.Area.{Area}
use Rattle.action.specs.declared.shape.Point.{Point}
use Rattle.action.specs.declared.shape.Rectangle.{Rectangle}
use Rattle.action.specs.declared.shape.End.{End}
use Rattle.action.specs.declared.shape.Segment.{Segment}
use Rattle.action.specs.Corners.{InOrder}
use Rattle.action.specs.Ends.{short_ends}
use Rattle.action.specs.Same.{Tells}
use Rattle.action.proofs.Telling.{tells_as}
use Rattle.shape.specs.Cover.{within, outside, between, to_mean, near_mean, point_covers, rectangle_covers, segment_covers, area_covers}
use Rattle.shape.specs.Meaning.{near_place, NearBox, InRange, distance_to_mean, NearSegment, to_mean², Nearest, InArea, Meant}
use Rattle.shape.proofs.Bools.{same_tests}
use Rattle.shape.proofs.Means.{weights, least-mean}
use Rattle.shape.proofs.Narrowing.{covered-near, near-covered}
use Rattle.shape.proofs.Squares.{square_le}
use Rattle.shape.proofs.Order.{tells-le, tells-lt, kept_from}

-- the distance of a pixel's sample to a kept position
sample-apart : (p : Pixels) (s : Sixteenths) → distance (pos 16 *ℤ meant_pixels p) (meant_sixteenths s) ≡ spaced (sampled p) s
sample-apart p s = rw (← (sampled-at p).meant) (sym (apart_by (sampled p) s refl).meant)

pub points-meant : (d : Point) (p q : Pixels) → point_covers d p q ≡ near_place p q (meant_sixteenths d.x) (meant_sixteenths d.y) d.size.0
unfolding point_covers near_place
points-meant d p q = rw (sample-apart p d.x, sample-apart q d.y)

-- the order of two positions
le-meant : (a b : Sixteenths) → Tells (leb a.0 b.0) (meant_sixteenths a ≤ℤ meant_sixteenths b)
unfolding meant_sixteenths
le-meant a b = tells-le (16 * displacement) a.0 b.0

order-kept : (a b : Sixteenths) → meant_sixteenths a ≤ℤ meant_sixteenths b → a.0 ≤ b.0
order-kept a b l = leb-true _ _ ((le-meant a b).told l)

-- nearer legs are within the size too
within-nearer : (a b c d size : ℕ) → a ≤ c → b ≤ d → within c d size ≡ true → within a b size ≡ true
unfolding within
within-nearer a b c d size h k e =
    let l : c * c + d * d ≤ size * size = leb-true (c * c + d * d) (size * size) e in
    let m : a * a ≤ c * c = square_le h in
    let n : b * b ≤ d * d = square_le k in
    le-leb (a * a + b * b) (size * size) (omega arith)

-- along one axis: the place of the range that is nearest to a position, and that no place of it is nearer
pub record NearestIn (s low high : Sixteenths) : Type 0 where
  pub place : Sixteenths
  pub from : low.0 ≤ place.0
  pub to : place.0 ≤ high.0
  pub apart : spaced s place ≡ outside s low high

nearest : (s low high : Sixteenths) → low.0 ≤ high.0 → NearestIn s low high
nearest s low high h = record {
  place = record { 0 = s.0 + (low.0 - s.0) - (s.0 - high.0) };
  from = omega arith;
  to = omega arith;
  apart = omega arith;
}

none-nearer : (p : Pixels) (low high : Sixteenths) (z : ℤ) → (meant_sixteenths low ≤ℤ z) × (z ≤ℤ meant_sixteenths high) → outside (sampled p) low high ≤ distance (pos 16 *ℤ meant_pixels p) z
unfolding meant_sixteenths
none-nearer p low high z h =
    let k = kept_from (16 * displacement) low.0 z h.0 in
    let s : Sixteenths = record { 0 = k.number } in
    let l : low.0 ≤ s.0 = order-kept low s (rw k.meant h.0) in
    let m : s.0 ≤ high.0 = order-kept s high (rw k.meant h.1) in
    let e : distance (pos 16 *ℤ meant_pixels p) z ≡ spaced (sampled p) s = ap (λ (y : ℤ). distance (pos 16 *ℤ meant_pixels p) y) (sym k.meant) ∙ sample-apart p s in
    omega (arith, e)

module _ (d : Rectangle) (p q : Pixels) where
  box-told : NearBox d p q → rectangle_covers d p q ≡ true
  unfolding rectangle_covers near_place
  box-told n =
      within-nearer _ _ _ _ d.width.0
      (none-nearer p d.left d.right n.s n.inside.across)
      (none-nearer q d.top d.bottom n.t n.inside.down)
      n.near

  box-held : InOrder d → rectangle_covers d p q ≡ true → NearBox d p q
  unfolding rectangle_covers near_place
  box-held o e =
      let x = nearest (sampled p) d.left d.right (order-kept _ _ o.across) in
      let y = nearest (sampled q) d.top d.bottom (order-kept _ _ o.down) in
      record {
        s = meant_sixteenths x.place;
        t = meant_sixteenths y.place;
        inside =
            record {
              across = (in_order _ _ x.from, in_order _ _ x.to);
              down = (in_order _ _ y.from, in_order _ _ y.to);
            };
        near = rw (sample-apart p x.place, sample-apart q y.place, x.apart, y.apart) e;
      }

tells_both : {a b : Bool} {P Q : Type 0} → Tells a P → Tells b Q → Tells (a && b) (P × Q)
tells_both {a} {b} h k = record {
  holds = λ e. let t = both_true a b e in (h.holds t.0, k.holds t.1);
  told = λ t. both-made (h.told t.0) (k.told t.1);
}

pub areas-meant : (a : Area) (p q : Pixels) → Tells (area_covers a p q) (InArea a p q)
unfolding area_covers meant_pixels
areas-meant a p q =
    tells_as (λ t. record { across = t.0; down = t.1 }) (λ i. (i.across, i.down))
    (tells_both (half a.left.0 a.right.0 p.0) (half a.top.0 a.bottom.0 q.0))
  where
    half : (first end n : ℕ) → Tells (between first end n) ((sub_ℕ first displacement ≤ℤ sub_ℕ n displacement) × (sub_ℕ n displacement <ℤ sub_ℕ end displacement))
    half first end n = tells_both (tells-le displacement first n) (tells-lt displacement n end)

-- the distance of a pixel's sample to a mean, times the sum of its weights
mean-away : (k n : ℕ) (a b : Sixteenths) (p : Pixels) → distance_to_mean k n a b p ≡ to_mean k n a b (sampled p)
mean-away k n a b p = rw (← (sampled-at p).meant) (mean-apart k n a b (sampled p))

module _ (d : Segment) (p q : Pixels) where
  segment-held : segment_covers d p q ≡ true → NearSegment d p q
  unfolding near_mean
  segment-held e =
      let h = covered-near d p q e in
      record {
        k = h.k;
        n = h.n;
        some = h.some;
        near = rw (mean-away h.k h.n d.from.x d.to.x p, mean-away h.k h.n d.from.y d.to.y q) h.near;
      }

  segment-told : short_ends d ≡ true → NearSegment d p q → segment_covers d p q ≡ true
  unfolding near_mean
  segment-told short h =
      near-covered d p q short
      (record {
        k = h.k;
        n = h.n;
        some = h.some;
        near = rw (mean-away h.k h.n d.from.x d.to.x p, mean-away h.k h.n d.from.y d.to.y q) at h.near;
      })

nearest-mean : (d : Segment) (s : End) → Nearest d s
unfolding to_mean²
nearest-mean d s = record { some = weights d s; none-nearer = λ k n some. least-mean d s k n }

shorts-meant : (s : Sixteenths) → Tells (is_short s) (InRange s)
unfolding is_short meant_sixteenths
shorts-meant s =
    tells_as (λ t. record { from = t.0; to = t.1 }) (λ i. (i.from, i.to))
    (tells_both (tells-le (16 * displacement) short_from s.0)
    (subst (λ (b : Bool). Tells b (sub_ℕ s.0 (16 * displacement) ≤ℤ pos 32767))
    (same_tests s.0 (short_to - 1) s.0 short_to (λ l. omega arith) (λ l. omega arith))
    (tells-le (16 * displacement) s.0 (short_to - 1))))

pub meant : Meant
meant = record {
  points = points-meant;
  rectangles = λ d o p q. record { holds = box-held d p q o; told = box-told d p q };
  shorts = shorts-meant;
  segments = λ d short p q. record { holds = segment-held d p q; told = segment-told d p q short };
  nearest = nearest-mean;
  areas = areas-meant;
}
