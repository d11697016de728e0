-- From a sample to the means of a segment's ends: Stewart's theorem, and what it tells of the nearest. Assumes nothing.
use mathlib.Core.Path.{◌≡◌, ap}
use mathlib.Core.Bool.{true}
use Prim.Native.Nat.{ℕ, ◌+◌, ◌-◌, ◌*◌, ◌≤◌, ◌<◌}
use native.Mathlib.Omega.{arith}
use borrow.Author.Tests.{leb-true, le-leb}
use Rattle.units.specs.Units.{spaced}
use Rattle.action.specs.declared.shape.End.{End}
use Rattle.action.specs.declared.shape.Segment.{Segment}
use Rattle.action.specs.Same.{Tells}
use Rattle.shape.specs.Cover.{within, to_mean, near_mean, squared, length², of_first, of_second}
use Rattle.shape.proofs.Order.{by_order}
use Rattle.shape.proofs.Squares.{root-le}
use Rattle.shape.proofs.Weights.{Least, Near, least, nearest}

-- how far two numbers are apart, whichever is larger
pub apart-cases : (P : ℕ → Type 0) (a b : ℕ) → ((d : ℕ) → a ≡ b + d → P d) → ((d : ℕ) → b ≡ a + d → P d) → P ((a - b) + (b - a))
apart-cases P a b above below =
    by_order a b
    (λ l. let e : (a - b) + (b - a) ≡ b - a = omega arith in rw e (below (b - a) (omega arith)))
    (λ l. let e : (a - b) + (b - a) ≡ a - b = omega arith in rw e (above (a - b) (omega arith)))

square-apart : (x y : ℕ) → ((x - y) + (y - x)) * ((x - y) + (y - x)) + 2 * (x * y) ≡ x * x + y * y
square-apart x y =
    apart-cases (λ d. d * d + 2 * (x * y) ≡ x * x + y * y) x y (λ d e. rw e (omega arith)) (λ d e. rw e (omega arith))

-- along one axis, with the position on one side of both ends, and between them
same-side : (k n u v e t : ℕ) → t ≡ k * u + n * v → e * e + 2 * (u * v) ≡ u * u + v * v → t * t + n * k * (e * e) ≡ (k + n) * (k * (u * u) + n * (v * v))
same-side k n u v e t f g = rw f (omega (arith, ap (λ z. n * k * z) g))

other-side : (k n u v e t : ℕ) → e ≡ u + v → t * t + 2 * (k * u * (n * v)) ≡ k * u * (k * u) + n * v * (n * v) → t * t + n * k * (e * e) ≡ (k + n) * (k * (u * u) + n * (v * v))
other-side k n u v e t f g = rw f (omega arith)

stewart-axis : (k n s a b : ℕ) → (((k + n) * s - (k * a + n * b)) + ((k * a + n * b) - (k + n) * s)) * (((k + n) * s - (k * a + n * b)) + ((k * a + n * b) - (k + n) * s)) + n * k * (((a - b) + (b - a)) * ((a - b) + (b - a))) ≡ (k + n) * (k * (((s - a) + (a - s)) * ((s - a) + (a - s))) + n * (((s - b) + (b - s)) * ((s - b) + (b - s))))
stewart-axis k n s a b =
    apart-cases (λ u. goal u ((s - b) + (b - s))) s a
    (λ u f. apart-cases (λ v. goal u v) s b (λ v g. after u v f g) (λ v g. first-before u v f g))
    (λ u f. apart-cases (λ v. goal u v) s b (λ v g. second-before u v f g) (λ v g. before u v f g))
  where
    e : ℕ
    e = (a - b) + (b - a)

    t : ℕ
    t = ((k + n) * s - (k * a + n * b)) + ((k * a + n * b) - (k + n) * s)

    goal : ℕ → ℕ → Type 0
    goal u v = t * t + n * k * (e * e) ≡ (k + n) * (k * (u * u) + n * (v * v))

    after : (u v : ℕ) → s ≡ a + u → s ≡ b + v → goal u v
    after u v f g =
        same-side k n u v e t (omega (arith, ap (λ z. k * z) f, ap (λ z. n * z) g))
        (let h : e ≡ (u - v) + (v - u) = omega arith in rw h (square-apart u v))

    before : (u v : ℕ) → a ≡ s + u → b ≡ s + v → goal u v
    before u v f g =
        same-side k n u v e t (omega (arith, ap (λ z. k * z) f, ap (λ z. n * z) g))
        (let h : e ≡ (u - v) + (v - u) = omega arith in rw h (square-apart u v))

    first-before : (u v : ℕ) → s ≡ a + u → b ≡ s + v → goal u v
    first-before u v f g =
        other-side k n u v e t (omega arith)
        (let h : t ≡ (k * u - n * v) + (n * v - k * u) = omega (arith, ap (λ z. k * z) f, ap (λ z. n * z) g) in
        rw h (square-apart (k * u) (n * v)))

    second-before : (u v : ℕ) → a ≡ s + u → s ≡ b + v → goal u v
    second-before u v f g =
        other-side k n u v e t (omega arith)
        (let h : t ≡ (k * u - n * v) + (n * v - k * u) = omega (arith, ap (λ z. k * z) f, ap (λ z. n * z) g) in
        rw h (square-apart (k * u) (n * v)))

-- both axes together
axes : (k n t t' e e' u u' v v' : ℕ) → t * t + n * k * (e * e) ≡ (k + n) * (k * (u * u) + n * (v * v)) → t' * t' + n * k * (e' * e') ≡ (k + n) * (k * (u' * u') + n * (v' * v')) → t * t + t' * t' + n * k * (e * e + e' * e') ≡ (k + n) * (k * (u * u + u' * u') + n * (v * v + v' * v'))
axes k n t t' e e' u u' v v' f g = omega (arith, f, g)

-- what is near a mean of the ends, any at all
pub record NearSome (d : Segment) (s : End) : Type 0 where
  pub k : ℕ
  pub n : ℕ
  pub some : 0 < k + n
  pub near : near_mean d s k n ≡ true

module _ (d : Segment) (s : End) where
  abbrev pub Weighed : ℕ → ℕ → Type 0
  Weighed k n = Near (squared s d.from) (squared s d.to) (squared d.from d.to) (d.width.0 * d.width.0) k n

  abbrev tx : ℕ → ℕ → ℕ
  tx k n = to_mean k n d.from.x d.to.x s.x

  abbrev ty : ℕ → ℕ → ℕ
  ty k n = to_mean k n d.from.y d.to.y s.y

  stewart : (k n : ℕ) → tx k n * tx k n + ty k n * ty k n + n * k * squared d.from d.to ≡ (k + n) * (k * squared s d.from + n * squared s d.to)
  unfolding squared
  stewart k n =
      axes k n (tx k n) (ty k n) (spaced d.from.x d.to.x) (spaced d.from.y d.to.y)
      (spaced s.x d.from.x) (spaced s.y d.from.y) (spaced s.x d.to.x) (spaced s.y d.to.y)
      (stewart-axis k n s.x.0 d.from.x.0 d.to.x.0) (stewart-axis k n s.y.0 d.from.y.0 d.to.y.0)

  pub weighed : (k n : ℕ) → 0 < k + n → near_mean d s k n ≡ true → Weighed k n
  unfolding near_mean within
  weighed k n some e =
      let l = leb-true (tx k n * tx k n + ty k n * ty k n) ((k + n) * d.width.0 * ((k + n) * d.width.0)) e in
      record { some = some; near = omega (arith, stewart k n, l) }

  pub unweighed : (k n : ℕ) → Weighed k n → near_mean d s k n ≡ true
  unfolding near_mean within
  unweighed k n h =
      le-leb (tx k n * tx k n + ty k n * ty k n) ((k + n) * d.width.0 * ((k + n) * d.width.0)) (omega (arith, stewart k n, h.near))

  -- with equal ends, the sample is as far from the one as from the other
  same_ends : squared d.from d.to ≡ 0 → squared s d.from ≡ squared s d.to
  unfolding squared
  same_ends e =
      let x : spaced d.from.x d.to.x ≤ 0 = root-le (spaced d.from.x d.to.x) 0 (omega arith) in
      let y : spaced d.from.y d.to.y ≤ 0 = root-le (spaced d.from.y d.to.y) 0 (omega arith) in
      let p : d.from.x.0 ≡ d.to.x.0 = omega arith in
      let q : d.from.y.0 ≡ d.to.y.0 = omega arith in
      rw (p, q)

  pub weights : 0 < of_first d s + of_second d s
  unfolding of_first of_second length²
  weights = omega arith

  chosen : (k n : ℕ) → Least (squared s d.from) (squared s d.to) (squared d.from d.to) (of_first d s) (of_second d s) k n
  unfolding of_first of_second length²
  chosen k n = least _ _ _ k n same_ends

  -- the mean by the weights of the definition is the nearest
  pub least-mean : (k n : ℕ) → (k + n) * (k + n) * (tx (of_first d s) (of_second d s) * tx (of_first d s) (of_second d s) + ty (of_first d s) (of_second d s) * ty (of_first d s) (of_second d s)) ≤ (of_first d s + of_second d s) * (of_first d s + of_second d s) * (tx k n * tx k n + ty k n * ty k n)
  least-mean k n =
      cut (k + n) (of_first d s + of_second d s) _ _ _ _ _ _ (stewart (of_first d s) (of_second d s)) (stewart k n) (chosen k n)
    where
      cut : (m M t u r R p P : ℕ) → t + R ≡ M * P → u + r ≡ m * p → m * m * (M * P) + M * M * r ≤ M * M * (m * p) + m * m * R → m * m * t ≤ M * M * u
      cut m M t u r R p P e f l = omega (arith, ap (λ z. m * m * z) e, ap (λ z. M * M * z) f)

  -- so that it is near exactly if any is
  by-nearest : NearSome d s → near_mean d s (of_first d s) (of_second d s) ≡ true
  by-nearest h =
      unweighed _ _
      (nearest _ _ _ _ _ _ h.k h.n weights (chosen h.k h.n) (weighed h.k h.n h.some h.near))

  pub some-mean : Tells (near_mean d s (of_first d s) (of_second d s)) (NearSome d s)
  some-mean = record {
    holds = λ e. record { k = of_first d s; n = of_second d s; some = weights; near = e };
    told = by-nearest;
  }
