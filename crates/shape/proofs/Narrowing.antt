-- Which pixels a segment covers: by three squared distances, and in each row from a first column to a last. Assumes nothing.
use mathlib.Core.Path.{◌≡◌, refl, sym, ◌∙◌, ap}
use mathlib.Core.Bool.{Bool, true, false, cond, and-false}
use Prim.Native.Nat.{ℕ, ◌+◌, ◌-◌, ◌*◌, ◌/◌, ◌≤◌, ◌<◌}
use native.Mathlib.Omega.{arith}
use lib.Dec.{leb, ltb}
use borrow.Author.Tests.{leb-true, leb-false, le-leb, ltb-true, ltb-false}
use Rattle.truth.proofs.Bools.{both-made, both_true, never, not_so, same_truth}
use Rattle.units.specs.declared.Pixels.{Pixels}
use Rattle.units.specs.declared.Sixteenths.{Sixteenths}
use Rattle.units.specs.Units.{larger, pixel_at, short_from, short_to, smaller, spaced, widest}
use Rattle.action.specs.declared.shape.Area.{Area}
use Rattle.action.specs.declared.shape.Segment.{Segment}
use Rattle.action.specs.Ends.{short_ends}
use Rattle.shape.specs.declared.Outline.{Outline}
use Rattle.shape.specs.declared.Outline.TheVariants as o
use Rattle.shape.specs.declared.Chord.{Chord}
use Rattle.shape.specs.declared.Rows.{Rows}
use Rattle.shape.specs.Cover.{between, squared, sample_at, to_mean, near_mean, segment_covers, rectangle_covers, area_covers, covers, reaches}
use Rattle.shape.specs.Lines.{Between, Leans, OnScreen, box_of, by_rest, by_squares}
use Rattle.shape.specs.OneRow.{Bounds, Chords, Narrows, Reached, Shown, boxed, cut_to, flat_over, holds_in, no_column}
use Rattle.shape.proofs.Bools.{between-made, between-true}
use Rattle.shape.proofs.Columns.{has_flat, has-none}
use Rattle.shape.proofs.Means.{NearSome, some-mean, weighed, unweighed}
use Rattle.shape.proofs.Order.{by_order}
use Rattle.shape.proofs.Reaching.{reach-cut}
use Rattle.shape.proofs.Sizes.{ends_close, sample_close}
use Rattle.shape.proofs.Squares.{within-legs}
use Rattle.shape.proofs.Spans.{convex, box-near, slope}
use Rattle.shape.proofs.Weights.{Near, first-end, second-end, rest-left, within-rest, rest-near, quarter, unquarter}

module _ (d : Segment) (p q : Pixels) where
  pub covered-near : segment_covers d p q ≡ true → NearSome d (sample_at p q)
  unfolding segment_covers
  covered-near e = (some-mean d (sample_at p q)).holds (both_true (short_ends d) _ e).1

  pub near-covered : short_ends d ≡ true → NearSome d (sample_at p q) → segment_covers d p q ≡ true
  unfolding segment_covers
  near-covered short h = both-made short ((some-mean d (sample_at p q)).told h)

  covered-short : segment_covers d p q ≡ true → short_ends d ≡ true
  unfolding segment_covers
  covered-short e = (both_true (short_ends d) _ e).0

  pub box-covers : segment_covers d p q ≡ true → covers (o.Rectangle (box_of d)) p q ≡ true
  unfolding covers rectangle_covers
  box-covers e = box-near d (sample_at p q) (covered-near e)

  -- THE TEST, for a segment that may be drawn: A and B from the sample to the ends, L from end to end, W of the width
  module _ (short : short_ends d ≡ true) where
    abbrev A : ℕ
    A = squared (sample_at p q) d.from

    abbrev B : ℕ
    B = squared (sample_at p q) d.to

    abbrev L : ℕ
    L = squared d.from d.to

    abbrev W : ℕ
    W = d.width.0 * d.width.0

    near_by : (k n : ℕ) → Near A B L W k n → segment_covers d p q ≡ true
    near_by k n h =
        near-covered short
        (record { k = k; n = n; some = h.some; near = unweighed d (sample_at p q) k n h })

    first-end-near : A ≤ W → segment_covers d p q ≡ true
    first-end-near l = near_by 1 0 (first-end A B L W 1 (omega arith) l)

    second-end-near : B ≤ W → segment_covers d p q ≡ true
    second-end-near l = near_by 0 1 (second-end A B L W 1 (omega arith) l)

    module _ (a : W < A) (b : W < B) where
      abbrev X : ℕ
      X = A - W

      abbrev Y : ℕ
      Y = B - W

      split : (k n : ℕ) → Near A B L W k n → Near (W + X) (W + Y) L W k n
      split k n h =
          let e : W + X ≡ A = omega arith in
          let f : W + Y ≡ B = omega arith in
          rw (e, f) h

      join : (k n : ℕ) → Near (W + X) (W + Y) L W k n → Near A B L W k n
      join k n h =
          let e : W + X ≡ A = omega arith in
          let f : W + Y ≡ B = omega arith in
          rw (e, f) at h

      some-split : (h : NearSome d (sample_at p q)) → Near (W + X) (W + Y) L W h.k h.n
      some-split h = split h.k h.n (weighed d (sample_at p q) h.k h.n h.some h.near)

      too_long : L < X + Y → segment_covers d p q ≡ false
      too_long l =
          not_so _ (λ e. absurd (omega (arith, rest-left (some-split (covered-near e)) (omega arith) (omega arith))))

      by-rest : X + Y ≤ L → leb (X * Y) ((L - (X + Y)) / 2 * (L - (X + Y) - (L - (X + Y)) / 2)) ≡ segment_covers d p q
      by-rest l =
          same_truth _ _
          (λ e.
          near_by (L - (X + Y)) (2 * X)
          (join _ _ (rest-near X Y L W (L - (X + Y)) (omega arith) (omega arith) (unquarter (X * Y) (L - (X + Y)) (leb-true _ _ e)))))
          (λ e.
          le-leb _ _
          (quarter (X * Y) (L - (X + Y))
          (within-rest (some-split (covered-near e)) (omega arith) (omega arith) (L - (X + Y)) (omega arith))))

    pub by-squares : by_squares A B L W ≡ segment_covers d p q
    unfolding by_squares
    by-squares = at_first (leb A W) refl
      where
        at_rest : (t : Bool) → ltb L ((A - W) + (B - W)) ≡ t → W < A → W < B → cond t false (by_rest (A - W) (B - W) (L - ((A - W) + (B - W)))) ≡ segment_covers d p q
        at_rest true e a b = sym (too_long a b (ltb-true _ _ e))
        at_rest false e a b = by-rest a b (ltb-false _ _ e)

        at_second : (t : Bool) → leb B W ≡ t → W < A → cond t true (cond (ltb L ((A - W) + (B - W))) false (by_rest (A - W) (B - W) (L - ((A - W) + (B - W))))) ≡ segment_covers d p q
        at_second true e a = sym (second-end-near (leb-true _ _ e))
        at_second false e a = at_rest (ltb L ((A - W) + (B - W))) refl a (leb-false _ _ e)

        at_first : (t : Bool) → leb A W ≡ t → cond t true (cond (leb B W) true (cond (ltb L ((A - W) + (B - W))) false (by_rest (A - W) (B - W) (L - ((A - W) + (B - W)))))) ≡ segment_covers d p q
        at_first true e = sym (first-end-near (leb-true _ _ e))
        at_first false e = at_second (leb B W) refl (leb-false _ _ e)

  -- THE LINE through the ends
  module _ (short : short_ends d ≡ true) (onx : OnScreen p.0) (ony : OnScreen q.0) where
    axis : (k n w : ℕ) (a b s : Sixteenths) → (short_from ≤ a.0) × (a.0 < short_to) → (short_from ≤ b.0) × (b.0 < short_to) → (short_from ≤ s.0) × (s.0 < short_to) → to_mean k n a b s ≤ (k + n) * w → ((k + n) * (s.0 - short_from) ≤ k * (a.0 - short_from) + n * (b.0 - short_from) + (k + n) * w) × (k * (a.0 - short_from) + n * (b.0 - short_from) ≤ (k + n) * (s.0 - short_from) + (k + n) * w)
    axis k n w a b s f g h l = counted k n (a.0 - short_from) (b.0 - short_from) (s.0 - short_from) short_from ((k + n) * w) a.0 b.0 s.0 (omega arith) (omega arith) (omega arith) l
      where
        counted : (k n a b s o t A B S : ℕ) → A ≡ a + o → B ≡ b + o → S ≡ s + o → ((k + n) * S - (k * A + n * B)) + ((k * A + n * B) - (k + n) * S) ≤ t → ((k + n) * s ≤ k * a + n * b + t) × (k * a + n * b ≤ (k + n) * s + t)
        counted k n a b s o t A B S e f g l =
            let u = ap (λ z. k * z) e in
            let v = ap (λ z. n * z) f in
            let w = ap (λ z. (k + n) * z) g in
            (omega arith, omega arith)

    pub on_line : (c : Chord) → Leans (d.from.x.0 - short_from) (d.from.y.0 - short_from) (d.to.x.0 - short_from) (d.to.y.0 - short_from) (16 * q.0 - short_from) (d.width.0 * (spaced d.from.x d.to.x + spaced d.from.y d.to.y)) c → segment_covers d p q ≡ true → (c.left.0 ≤ p.0) × (p.0 < c.right.0)
    unfolding near_mean
    on_line c leans e =
        let h = covered-near e in
        let near = ends_close d short in
        let sample = sample_close p q onx ony in
        let legs = within-legs _ _ _ h.near in
        let across = axis h.k h.n d.width.0 d.from.x d.to.x (record { 0 = 16 * p.0 }) near.0.0 near.1.0 sample.0 legs.0 in
        let down = axis h.k h.n d.width.0 d.from.y d.to.y (record { 0 = 16 * q.0 }) near.0.1 near.1.1 sample.1 legs.1 in
        let turned = commute _ _ _ _ _ _ across in
        let Turned-down = commute _ _ _ _ _ _ down in
        let l = same d.from.x.0 d.to.x.0 near.0.0.0 near.1.0.0 in
        let m = same d.from.y.0 d.to.y.0 near.0.1.0 near.1.1.0 in
        leans.all p onx
        (slope h.k h.n _ _ _ _ _ _ d.width.0 _ (omega (arith, l, m)) h.some across.0 across.1 down.0 down.1)
        (slope h.n h.k _ _ _ _ _ _ d.width.0 _ (omega (arith, l, m)) (omega (arith, h.some)) turned.0 turned.1 Turned-down.0 Turned-down.1)
      where
        same : (a b : ℕ) → short_from ≤ a → short_from ≤ b → ((a - short_from) - (b - short_from)) + ((b - short_from) - (a - short_from)) ≡ (a - b) + (b - a)
        same a b h k = kept (a - short_from) (b - short_from) (omega arith) (omega arith)
          where
            kept : (x y : ℕ) → a ≡ x + short_from → b ≡ y + short_from → (x - y) + (y - x) ≡ (a - b) + (b - a)
            kept x y e f = omega arith

        commute : (k n s a b w : ℕ) → ((k + n) * s ≤ k * a + n * b + (k + n) * w) × (k * a + n * b ≤ (k + n) * s + (k + n) * w) → ((n + k) * s ≤ n * b + k * a + (n + k) * w) × (n * b + k * a ≤ (n + k) * s + (n + k) * w)
        commute k n s a b w h = (omega arith, omega arith)

-- ONE ROW. Between two columns that are covered, each is.
no_gap : (d : Segment) (q : Pixels) (x y z : ℕ) → x ≤ y → y ≤ z → segment_covers d (record { 0 = x }) q ≡ true → segment_covers d (record { 0 = z }) q ≡ true → segment_covers d (record { 0 = y }) q ≡ true
no_gap d q x y z l m e f =
    near-covered d (record { 0 = y }) q (covered-short d (record { 0 = x }) q e)
    (convex d (record { 0 = 16 * x }) (record { 0 = 16 * y }) (record { 0 = 16 * z }) (record { 0 = 16 * q.0 }) (omega arith) (omega arith)
    (covered-near d (record { 0 = x }) q e)
    (covered-near d (record { 0 = z }) q f))

-- the column is covered, or is not
abbrev pub Covers : Segment → Pixels → ℕ → Type 0
Covers d q x = segment_covers d (record { 0 = x }) q ≡ true

abbrev pub Misses : Segment → Pixels → ℕ → Type 0
Misses d q x = segment_covers d (record { 0 = x }) q ≡ false

module _ (d : Segment) (q : Pixels) (c : Chord) (shown : Shown c) (line : Chord) (all : Between d q line.left.0 line.right.0) (from end : ℕ) (low : from ≡ larger c.left.0 line.left.0) (high : end ≡ smaller c.right.0 line.right.0) where
  module _ (scissor : Area) (width : ℕ) (whole : Chord) (fits : width ≤ widest) (row : between scissor.top.0 scissor.bottom.0 q.0 ≡ true) (has : Chords (o.Rectangle (box_of d)) q whole) (cut : c ≡ cut_to scissor width whole) where
    left : c.left.0 ≡ (cut_to scissor width whole).left.0
    left = ap (λ (z : Chord). z.left.0) cut

    right : c.right.0 ≡ (cut_to scissor width whole).right.0
    right = ap (λ (z : Chord). z.right.0) cut

    -- a column that counts lies in the frame, in the scissor, in the box and near the line
    counts : (x : ℕ) → x < width → reaches (o.Segment d) scissor (pixel_at x) q ≡ true → ((from ≤ (pixel_at x).0) × ((pixel_at x).0 < end)) × Covers d q (pixel_at x).0
    unfolding reaches covers area_covers
    counts x h e =
        let t = both_true _ (segment_covers d (pixel_at x) q) e in
        let u = between-true scissor.left.0 scissor.right.0 (pixel_at x).0 (both_true _ _ t.0).0 in
        let v = both_true _ (holds_in whole (pixel_at x)) (sym (has.exact (pixel_at x) (omega arith)) ∙ box-covers d (pixel_at x) q t.1) in
        let w = between-true whole.left.0 whole.right.0 (pixel_at x).0 v.0 in
        let s = all.all (pixel_at x) (omega arith, omega arith) t.1 in
        ((omega (arith, left), omega (arith, right)), t.1)

    none-reached : ((x : ℕ) → from ≤ x → x < end → Misses d q x) → Reached (o.Segment d) scissor width q no_column
    none-reached none = record {
      exact = λ x h.
          not_so _ (λ e. let t = counts x h e in never (sym (none _ t.0.0 t.0.1) ∙ t.1))
          ∙ sym (has-none (pixel_at x));
      from = omega arith;
      to = omega arith;
    }

    module _ (first last : ℕ) (f : (from ≤ first) × (first < end) × Covers d q first × ((x : ℕ) → from ≤ x → x < first → Misses d q x)) (l : (first ≤ last) × (last < end) × Covers d q last × ((x : ℕ) → last < x → x < end → Misses d q x)) where
      -- the columns lie in the frame and in the scissor
      inside : (((pixel_at 0).0 ≤ first) × (scissor.left.0 ≤ first)) × ((last < (pixel_at width).0) × (last < scissor.right.0))
      inside = ((omega (arith, left, f.0), omega (arith, left, f.0)), (omega (arith, right, l.1), omega (arith, right, l.1)))

      columns-reached : Reached (o.Segment d) scissor width q (flat_over (record { 0 = first }) (record { 0 = last + 1 }))
      unfolding reaches covers area_covers
      columns-reached = record {
        exact = λ x h.
            same_truth _ _
            (λ e.
            let t = counts x h e in
            has_flat (record { 0 = first }) (record { 0 = last + 1 }) (pixel_at x) (omega arith)
            ∙ between-made first (last + 1) (pixel_at x).0
            (by_order (pixel_at x).0 first (λ m. absurd (never (sym (f.3 _ t.0.0 m) ∙ t.1))) (λ m. m))
            (by_order last (pixel_at x).0 (λ m. absurd (never (sym (l.3 _ m t.0.1) ∙ t.1))) (λ m. omega arith)))
            (λ e.
            let u = between-true first (last + 1) (pixel_at x).0 (sym (has_flat (record { 0 = first }) (record { 0 = last + 1 }) (pixel_at x) (omega arith)) ∙ e) in
            both-made
            (both-made
            (between-made scissor.left.0 scissor.right.0 (pixel_at x).0 (omega (arith, inside, u)) (omega (arith, inside, u)))
            row)
            (no_gap d q first (pixel_at x).0 last u.0 (omega arith) f.2 l.2));
        from = omega (arith, inside);
        to = omega (arith, inside);
      }

  -- what the two searches for the first and the last covered column find
  pub none-narrow : ((x : ℕ) → from ≤ x → x < end → Misses d q x) → Narrows (o.Segment d) q c no_column
  none-narrow none = record { reached = λ scissor width whole fits row has cut. none-reached scissor width whole fits row has cut none }

  pub columns-narrow : (first last : ℕ) → (from ≤ first) × (first < end) × Covers d q first × ((x : ℕ) → from ≤ x → x < first → Misses d q x) → (first ≤ last) × (last < end) × Covers d q last × ((x : ℕ) → last < x → x < end → Misses d q x) → Narrows (o.Segment d) q c (flat_over (record { 0 = first }) (record { 0 = last + 1 }))
  columns-narrow first last f l = record { reached = λ scissor width whole fits row has cut. columns-reached scissor width whole fits row has cut first last f l }

-- what is no segment is its own box
pub plain_narrows : (outline : Outline) (q : Pixels) (c : Chord) → ((d : Segment) → outline ≡ o.Segment d → ⊥) → Narrows outline q c c
plain_narrows outline q c plain = record { reached = λ scissor width whole fits row has cut. rw cut (reach-cut outline scissor width q whole (omega arith) row (own outline plain has)) }
  where
    own : {whole : Chord} (outline : Outline) → ((d : Segment) → outline ≡ o.Segment d → ⊥) → Chords (boxed outline) q whole → Chords outline q whole
    own o.Nothing plain has = has
    own o.Everything plain has = has
    own (o.Point d) plain has = has
    own (o.Rectangle d) plain has = has
    own (o.Area a) plain has = has
    own (o.Segment d) plain has = absurd (plain d refl)

-- a segment that may not be drawn covers nothing
pub far-narrows : (d : Segment) (q : Pixels) (c : Chord) → short_ends d ≡ false → Narrows (o.Segment d) q c no_column
unfolding reaches covers segment_covers
far-narrows d q c far = record {
  reached = λ scissor width whole fits row has cut.
      record {
        exact = λ x h. rw far (and-false (area_covers scissor (pixel_at x) q) ∙ sym (has-none (pixel_at x)));
        from = omega arith;
        to = omega arith;
      };
}

pub segment_rows : (d : Segment) (r : Rows Pixels) → Bounds (o.Rectangle (box_of d)) r → Bounds (o.Segment d) r
unfolding covers
segment_rows d r h = record { bound = λ p q k l e. h.bound p q k l (box-covers d p q e) }

-- one column more that is not covered, on either side
pub none-on : (d : Segment) (q : Pixels) (from x : ℕ) → ((k : ℕ) → from ≤ k → k < x → Misses d q k) → Misses d q x → (k : ℕ) → from ≤ k → k < x + 1 → Misses d q k
none-on d q from x before here k h l =
    by_order k x (λ m. before k h m) (λ m. let e : k ≡ x = omega arith in rw e here)

pub none-back : (d : Segment) (q : Pixels) (x end : ℕ) → ((k : ℕ) → x ≤ k → k < end → Misses d q k) → Misses d q (x - 1) → (k : ℕ) → x - 1 ≤ k → k < end → Misses d q k
none-back d q x end after here k h l =
    by_order k x (λ m. let e : k ≡ x - 1 = omega arith in rw e here) (λ m. after k m l)

-- a chord that is cut to a frame shows columns of one
pub cut-shown : (scissor : Area) (width : ℕ) (whole c : Chord) → width ≤ widest → c ≡ cut_to scissor width whole → Shown c
cut-shown scissor width whole c fits cut =
    let l = ap (λ (z : Chord). z.left.0) cut in
    let r = ap (λ (z : Chord). z.right.0) cut in
    (omega arith, omega arith)
