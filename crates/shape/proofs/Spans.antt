-- What a segment covers lies in the box of its ends, and has no gap in a row. Assumes nothing.
use mathlib.Core.Path.{◌≡◌, ◌∙◌, ap, subst}
use mathlib.Core.Bool.{true}
use Prim.Native.Nat.{ℕ, ◌+◌, ◌-◌, ◌*◌, ◌≤◌, ◌<◌, ◌/◌}
use native.Mathlib.Nat.{mul-le-mul, mul-le-mul_left, mul-pos, le_of_mul-le-mul_left, le-div_iff_mul-le, div-lt_iff_lt-mul}
use native.Mathlib.Omega.{arith}
use borrow.Author.Tests.{leb-true, le-leb}
use Rattle.units.specs.declared.Sixteenths.{Sixteenths}
use Rattle.units.specs.Units.{larger, smaller, end_near, first_near, short_from}
use Rattle.action.specs.declared.shape.End.{End}
use Rattle.action.specs.declared.shape.Segment.{Segment}
use Rattle.action.specs.Corners.{corners_in_order}
use Rattle.shape.specs.Cover.{within, outside, to_mean, near_mean}
use Rattle.shape.specs.Lines.{Comes, Falls, box_of, Crosses}
use Rattle.shape.proofs.Order.{by_order}
use Rattle.shape.proofs.Squares.{root-le, square_le}
use Rattle.shape.proofs.Weights.{two-squares}
use Rattle.shape.proofs.Means.{apart-cases, NearSome}
use Rattle.units.specs.declared.Pixels.{Pixels}
use Rattle.shape.specs.OneRow.{flat_over}

-- THE BOX. Along one axis, no mean of two positions lies outside of them.
mean-inside : (k n s a b l h : ℕ) → (l ≤ a) × (a ≤ h) → (l ≤ b) × (b ≤ h) → (k + n) * ((l - s) + (s - h)) ≤ ((k + n) * s - (k * a + n * b)) + ((k * a + n * b) - (k + n) * s)
mean-inside k n s a b l h p q =
    by_order s l
    (λ m. before (l - s) (omega arith) m)
    (λ m. by_order h s (λ o. after (s - h) (omega arith) o) (λ o. let e : (l - s) + (s - h) ≡ 0 = omega arith in rw e (omega arith)))
  where
    before : (d : ℕ) → l ≡ s + d → s < l → (k + n) * ((l - s) + (s - h)) ≤ ((k + n) * s - (k * a + n * b)) + ((k * a + n * b) - (k + n) * s)
    before d f m =
        let e : (l - s) + (s - h) ≡ d = omega arith in
        rw e
        (omega (arith, mul-le-mul_left k p.0, mul-le-mul_left n q.0, ap (λ z. k * z) f, ap (λ z. n * z) f))

    after : (d : ℕ) → s ≡ h + d → h < s → (k + n) * ((l - s) + (s - h)) ≤ ((k + n) * s - (k * a + n * b)) + ((k * a + n * b) - (k + n) * s)
    after d f m =
        let e : (l - s) + (s - h) ≡ d = omega arith in
        rw e
        (omega (arith, mul-le-mul_left k p.1, mul-le-mul_left n q.1, ap (λ z. k * z) f, ap (λ z. n * z) f))

-- MIXED. c times a first place and e times a second.
mix-apart : (c e p q r t : ℕ) → ((c * p + e * r) - (c * q + e * t)) + ((c * q + e * t) - (c * p + e * r)) ≤ c * ((p - q) + (q - p)) + e * ((r - t) + (t - r))
mix-apart c e p q r t =
    apart-cases (λ a. ((c * p + e * r) - (c * q + e * t)) + ((c * q + e * t) - (c * p + e * r)) ≤ c * a + e * ((r - t) + (t - r))) p q
    (λ a f.
    apart-cases (λ b. ((c * p + e * r) - (c * q + e * t)) + ((c * q + e * t) - (c * p + e * r)) ≤ c * a + e * b) r t
    (λ b g. omega (arith, ap (λ z. c * z) f, ap (λ z. e * z) g))
    (λ b g. omega (arith, ap (λ z. c * z) f, ap (λ z. e * z) g)))
    (λ a f.
    apart-cases (λ b. ((c * p + e * r) - (c * q + e * t)) + ((c * q + e * t) - (c * p + e * r)) ≤ c * a + e * b) r t
    (λ b g. omega (arith, ap (λ z. c * z) f, ap (λ z. e * z) g))
    (λ b g. omega (arith, ap (λ z. c * z) f, ap (λ z. e * z) g)))

-- by Cauchy's inequality
cauchy : (x y u v r t : ℕ) → x * x + y * y ≤ r * r → u * u + v * v ≤ t * t → x * u + y * v ≤ r * t
cauchy x y u v r t h k = root-le (x * u + y * v) (r * t) (omega (arith, mul-le-mul h k, two-squares (x * v) (y * u)))

mix-within : (c e x y u v r t : ℕ) → x * x + y * y ≤ r * r → u * u + v * v ≤ t * t → (c * x + e * u) * (c * x + e * u) + (c * y + e * v) * (c * y + e * v) ≤ (c * r + e * t) * (c * r + e * t)
mix-within c e x y u v r t h k =
    omega (arith, mul-le-mul_left (c * c) h, mul-le-mul_left (e * e) k, mul-le-mul_left (2 * (c * e)) (cauchy x y u v r t h k))

-- The mean of two places, α parts of the first to β of the second, is near by these weights if they are near by k and n, and by k' and n'.
weights-sum : (α β k n k' n' : ℕ) → (α * (k' + n') * k + β * (k + n) * k') + (α * (k' + n') * n + β * (k + n) * n') ≡ (α + β) * ((k + n) * (k' + n'))
weights-sum α β k n k' n' = omega arith

mix-place : (α β m m' s t s' : ℕ) → α * s + β * s' ≡ (α + β) * t → (α + β) * (m * m') * t ≡ α * m' * (m * s) + β * m * (m' * s')
mix-place α β m m' s t s' h = omega (arith, ap (λ z. m * m' * z) h)

mix-axis : (α β k n k' n' : ℕ) (s t s' a b : Sixteenths) → α * s.0 + β * s'.0 ≡ (α + β) * t.0 → to_mean (α * (k' + n') * k + β * (k + n) * k') (α * (k' + n') * n + β * (k + n) * n') a b t ≤ α * (k' + n') * to_mean k n a b s + β * (k + n) * to_mean k' n' a b s'
mix-axis α β k n k' n' s t s' a b h =
    equal (ap (λ z. z * t.0) (weights-sum α β k n k' n') ∙ mix-place α β (k + n) (k' + n') s.0 t.0 s'.0 h) (omega arith)
    (mix-apart (α * (k' + n')) (β * (k + n)) ((k + n) * s.0) (k * a.0 + n * b.0) ((k' + n') * s'.0) (k' * a.0 + n' * b.0))
  where
    equal : {p q p' q' r : ℕ} → p ≡ p' → q ≡ q' → (p' - q') + (q' - p') ≤ r → (p - q) + (q - p) ≤ r
    equal e f l = rw (e, f) l

module _ (d : Segment) (s t s' y : Sixteenths) (α β : ℕ) (mean : α * s.0 + β * s'.0 ≡ (α + β) * t.0) (some : 0 < α + β) where
  -- both places on one line across
  pub mean-near : NearSome d (record { x = s; y = y }) → NearSome d (record { x = s'; y = y }) → NearSome d (record { x = t; y = y })
  unfolding near_mean within
  mean-near h h' =
      let m : ℕ = h.k + h.n in
      let m' : ℕ = h'.k + h'.n in
      let whole = weights-sum α β h.k h.n h'.k h'.n in
      let across = mix-axis α β h.k h.n h'.k h'.n s t s' d.from.x d.to.x mean in
      let down = mix-axis α β h.k h.n h'.k h'.n y y y d.from.y d.to.y (omega arith) in
      let both =
      mix-within (α * m') (β * m) _ _ _ _ (m * d.width.0) (m' * d.width.0)
      (leb-true _ _ h.near)
      (leb-true _ _ h'.near) in
      record {
        k = α * m' * h.k + β * m * h'.k;
        n = α * m' * h.n + β * m * h'.n;
        some = rw whole (mul-pos some (mul-pos h.some h'.some));
        near = le-leb _ _ (at_most across down both (ap (λ z. z * d.width.0) whole ∙ omega arith));
      }
    where
      at_most : {p q p' q' r r' : ℕ} → p ≤ p' → q ≤ q' → p' * p' + q' * q' ≤ r' * r' → r ≡ r' → p * p + q * q ≤ r * r
      at_most {p} {q} {p'} {q'} {r} {r'} l m n e = rw e (omega (arith, square_le l, square_le m))

-- between two samples of a row that are near the segment, each is
pub convex : (d : Segment) (s t s' y : Sixteenths) → s.0 ≤ t.0 → t.0 ≤ s'.0 → NearSome d (record { x = s; y = y }) → NearSome d (record { x = s'; y = y }) → NearSome d (record { x = t; y = y })
convex d s t s' y l m h h' =
    by_order s.0 s'.0
    (λ o. mean-near d s t s' y (s'.0 - t.0) (t.0 - s.0) (mean (t.0 - s.0) (s'.0 - t.0) s.0 t.0 s'.0 (omega arith) (omega arith)) (omega arith) h h')
    (λ o.
    let e : s.0 ≡ t.0 = omega arith in
    subst (λ (z : Sixteenths). NearSome d (record { x = z; y = y })) (ap (λ (n : ℕ). record { 0 = n }) e) h)
  where
    mean : (a b p q r : ℕ) → q ≡ p + a → r ≡ q + b → b * p + a * r ≡ (b + a) * q
    mean a b p q r e f = rw (f, e) (omega arith)

-- THE BOX around the ends holds all that the segment covers.
pub box-near : (d : Segment) (s : End) → NearSome d s → within (outside s.x (box_of d).left (box_of d).right) (outside s.y (box_of d).top (box_of d).bottom) (box_of d).width.0 ≡ true
unfolding near_mean within corners_in_order
box-near d s h =
    le-leb _ _
    (cut _ _ _ _ (h.k + h.n) h.some (axis d.from.x.0 d.to.x.0 s.x.0) (axis d.from.y.0 d.to.y.0 s.y.0) (leb-true _ _ h.near))
  where
    axis : (a b c : ℕ) → (h.k + h.n) * ((smaller a b - c) + (c - larger a b)) ≤ ((h.k + h.n) * c - (h.k * a + h.n * b)) + ((h.k * a + h.n * b) - (h.k + h.n) * c)
    axis a b c = mean-inside h.k h.n c a b (smaller a b) (larger a b) (omega arith, omega arith) (omega arith, omega arith)

    cut : (p q t u m : ℕ) → 0 < m → m * p ≤ t → m * q ≤ u → t * t + u * u ≤ m * d.width.0 * (m * d.width.0) → p * p + q * q ≤ d.width.0 * d.width.0
    cut p q t u m some a b l =
        le_of_mul-le-mul_left {k = m * m} (omega (arith, square_le a, square_le b)) (mul-pos some some)

-- THE LINE through the ends: what it rises across a row is near what the row's sample tells. One law over the numbers, with the second end below the first.
slope-right : (k n x y ax ay f e T : ℕ) → (k + n) * x ≤ k * ax + n * (ax + f) + T → k * ax + n * (ax + f) ≤ (k + n) * x + T → (k + n) * y ≤ k * ay + n * (ay + e) + T → k * ay + n * (ay + e) ≤ (k + n) * y + T → ((k + n) * (e * x + ((ax + f) * ay + y * ax)) ≤ (k + n) * (ax * (ay + e) + y * (ax + f)) + T * (f + e)) × ((k + n) * (ax * (ay + e) + y * (ax + f)) ≤ (k + n) * (e * x + ((ax + f) * ay + y * ax)) + T * (f + e))
slope-right k n x y ax ay f e T a b c d =
    (omega (arith, mul-le-mul_left e a, mul-le-mul_left f d), omega (arith, mul-le-mul_left e b, mul-le-mul_left f c))

slope-left : (k n x y bx ay f e T : ℕ) → (k + n) * x ≤ k * (bx + f) + n * bx + T → k * (bx + f) + n * bx ≤ (k + n) * x + T → (k + n) * y ≤ k * ay + n * (ay + e) + T → k * ay + n * (ay + e) ≤ (k + n) * y + T → ((k + n) * (e * x + (bx * ay + y * (bx + f))) ≤ (k + n) * ((bx + f) * (ay + e) + y * bx) + T * (f + e)) × ((k + n) * ((bx + f) * (ay + e) + y * bx) ≤ (k + n) * (e * x + (bx * ay + y * (bx + f))) + T * (f + e))
slope-left k n x y bx ay f e T a b c d =
    (omega (arith, mul-le-mul_left e a, mul-le-mul_left f c), omega (arith, mul-le-mul_left e b, mul-le-mul_left f d))

pub slope : (k n x y ax ay bx by w r : ℕ) → ((ax - bx) + (bx - ax)) + ((ay - by) + (by - ay)) ≡ r → 0 < k + n → (k + n) * x ≤ k * ax + n * bx + (k + n) * w → k * ax + n * bx ≤ (k + n) * x + (k + n) * w → (k + n) * y ≤ k * ay + n * by + (k + n) * w → k * ay + n * by ≤ (k + n) * y + (k + n) * w → Falls ax ay bx by y (w * r) x
slope k n x y ax ay bx by w r both some a b c d l =
    by_order ax bx
    (λ m. right (bx - ax) (by - ay) bx by (omega arith) (omega arith) (omega arith) a b c d)
    (λ m. left (ax - bx) (by - ay) ax by (omega arith) (omega arith) (omega arith) a b c d)
  where
    cut : (p q s : ℕ) → s ≡ r → (k + n) * p ≤ (k + n) * q + (k + n) * w * s → p ≤ q + w * r
    cut p q s e h = rw (← e) (le_of_mul-le-mul_left {k = k + n} (omega arith) some)

    right : (f e bx by : ℕ) → bx ≡ ax + f → by ≡ ay + e → f + e ≡ r → (k + n) * x ≤ k * ax + n * bx + (k + n) * w → k * ax + n * bx ≤ (k + n) * x + (k + n) * w → (k + n) * y ≤ k * ay + n * by + (k + n) * w → k * ay + n * by ≤ (k + n) * y + (k + n) * w → Comes (ax * by + y * bx) (bx * ay + y * ax) (w * r) (by - ay) x
    right f e bx by g h i =
        let u : by - ay ≡ e = omega arith in
        rw (u, g, h)
        (λ a b c d.
        let t = slope-right k n x y ax ay f e ((k + n) * w) a b c d in
        (cut _ _ (f + e) i t.0, cut _ _ (f + e) i t.1))

    left : (f e ax by : ℕ) → ax ≡ bx + f → by ≡ ay + e → f + e ≡ r → (k + n) * x ≤ k * ax + n * bx + (k + n) * w → k * ax + n * bx ≤ (k + n) * x + (k + n) * w → (k + n) * y ≤ k * ay + n * by + (k + n) * w → k * ay + n * by ≤ (k + n) * y + (k + n) * w → Comes (ax * by + y * bx) (bx * ay + y * ax) (w * r) (by - ay) x
    left f e ax by g h i =
        let u : by - ay ≡ e = omega arith in
        rw (u, g, h)
        (λ a b c d.
        let t = slope-left k n x y bx ay f e ((k + n) * w) a b c d in
        (cut _ _ (f + e) i t.0, cut _ _ (f + e) i t.1))

-- The samples that come near lie between two quotients.
pub crosses : (more under slack rise : ℕ) (left right : Pixels) → 0 < rise → left.0 ≡ (first_near (record { 0 = (more - (under + slack)) / rise + short_from }) (record { 0 = 0 })).0 → right.0 ≡ (end_near (record { 0 = (more + slack - under) / rise + short_from }) (record { 0 = 0 })).0 → Crosses more under slack rise (flat_over left right)
crosses more under slack rise left right some l r = record {
  all = λ p on h.
      let low = least (more - (under + slack)) (16 * p.0 - short_from) (omega (arith, h.1)) in
      let high = most (more + slack - under) (16 * p.0 - short_from) (omega (arith, h.0)) in
      (omega arith, omega arith);
}
  where
    least : (n x : ℕ) → n ≤ rise * x → n / rise ≤ x
    least n x h = let t = (div-lt_iff_lt-mul {x = n} {y = x + 1} some).1 (omega arith) in omega arith

    most : (n x : ℕ) → rise * x ≤ n → x ≤ n / rise
    most n x h = (le-div_iff_mul-le {y = n} some).1 (omega arith)
