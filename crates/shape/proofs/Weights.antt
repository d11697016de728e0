-- The two weights, k and n, of a mean of a segment's ends, and squares: A and B from a sample to the ends, L from end to end, W of the width.
-- These are laws about numbers; that `Near` says what its name does is Stewart's theorem (Means.antt). Assumes nothing.
use mathlib.Core.Path.{◌≡◌, refl, ap}
use Prim.Native.Nat.{ℕ, zero, suc, ◌+◌, ◌-◌, ◌*◌, ◌/◌, ◌≤◌, ◌<◌}
use native.Mathlib.Nat.{mul-le-mul_left, mul-le-mul, mul-pos, le_of_mul-le-mul_left}
use native.Mathlib.Omega.{arith}
use Rattle.shape.proofs.Order.{by_order}

pub two-squares : (x y : ℕ) → 2 * (x * y) ≤ x * x + y * y
two-squares x y = by_order x y (λ h. below x (y - x) y (omega arith)) (λ h. above y (x - y) x (omega arith))
  where
    below : (x d y : ℕ) → y ≡ x + d → 2 * (x * y) ≤ x * x + y * y
    below x d y e = rw e (omega arith)

    above : (y d x : ℕ) → x ≡ y + d → 2 * (x * y) ≤ x * x + y * y
    above y d x e = rw e (omega arith)

-- THE NEAREST. (k + n) * (k * A + n * B) less n * k * L is the squared distance to the mean by k and n, times (k + n) * (k + n). That to the mean by K and N
-- is not larger; what is taken off on one side is added on the other.
abbrev pub Least : ℕ → ℕ → ℕ → ℕ → ℕ → ℕ → ℕ → Type 0
Least A B L K N k n =
    (k + n) * (k + n) * ((K + N) * (K * A + N * B)) + (K + N) * (K + N) * (n * k * L) ≤ (K + N) * (K + N) * ((k + n) * (k * A + n * B)) + (k + n) * (k + n) * (N * K * L)

-- where the angle at an end is not acute, that end
first-least : (A B L K k n : ℕ) → A + L ≤ B → Least A B L K 0 k n
first-least A B L K k n l = omega (arith, mul-le-mul_left (K * K) end)
  where
    end : (k + n) * (k + n) * A + n * k * L ≤ (k + n) * (k * A + n * B)
    end = omega (arith, mul-le-mul_left ((k + n) * n) l)

second-least : (A B L N k n : ℕ) → B + L ≤ A → Least A B L 0 N k n
second-least A B L N k n l = omega (arith, first-least B A L N n k l)

-- else the foot of the sample's perpendicular
foot-least : (A B L K N k n : ℕ) → K + N ≡ 2 * L → A + L ≡ B + N → Least A B L K N k n
foot-least A B L K N k n whole e =
    cut (k + n) (K * A + N * B) ((k + n) * (k * A + n * B)) (N * K) (K + N) refl whole
    (omega (arith, ap (λ z. z * A) whole, ap (λ z. N * z) e))
    (omega (arith, ap (λ z. (k + n) * n * z) e))
    (omega (arith, ap (λ z. N * z) whole))
  where
    cut : (m s p r t : ℕ) → m ≡ k + n → t ≡ 2 * L → s + N * N ≡ 2 * L * A + N * L → p + m * n * N ≡ m * m * A + m * n * L → r + N * N ≡ 2 * L * N → m * m * (t * s) + t * t * (n * k * L) ≤ t * t * p + m * m * (r * L)
    cut m s p r t f g a b c = rw g (omega (arith, mul-le-mul_left L inner))
      where
        inner : 2 * (m * m * s) + 4 * L * (n * k * L) ≤ 4 * L * p + m * m * r
        inner =
            omega (
              arith,
              ap (λ z. 2 * (m * m) * z) a,
              ap (λ z. 4 * L * z) b,
              ap (λ z. m * m * z) c,
              ap (λ z. 4 * L * L * n * z) f,
              two-squares (m * N) (2 * n * L),
            )

-- with equal ends every mean is the same place
same-least : (A B L k n : ℕ) → L ≡ 0 → A ≡ B → Least A B L 1 1 k n
same-least A B L k n e f = rw (e, f) (omega arith)

-- the weights that the definition takes
pub least : (A B L k n : ℕ) → (L ≡ 0 → A ≡ B) → Least A B L (B + (L + (1 - L)) - A) (A + (L + (1 - L)) - B) k n
least A B L k n same =
    by_order A (B + (L + (1 - L)))
    (λ p.
    by_order B (A + (L + (1 - L)))
    (λ q.
    by_order 0 L
    (λ r. foot-least A B L (B + (L + (1 - L)) - A) (A + (L + (1 - L)) - B) k n (omega arith) (omega arith))
    (λ r.
    let f : A ≡ B = same (omega arith) in
    let g : B + (L + (1 - L)) - A ≡ 1 = omega arith in
    let h : A + (L + (1 - L)) - B ≡ 1 = omega arith in
    rw (g, h) (same-least A B L k n (omega arith) f)))
    (λ q.
    let e : A + (L + (1 - L)) - B ≡ 0 = omega arith in
    rw e (first-least A B L _ k n (omega arith))))
    (λ p.
    let e : B + (L + (1 - L)) - A ≡ 0 = omega arith in
    rw e (second-least A B L _ k n (omega arith)))

-- the mean of the ends by k and n is no further from the sample than the width
pub record Near (A B L W k n : ℕ) : Type 0 where
  pub some : 0 < k + n
  pub near : (k + n) * (k * A + n * B) ≤ (k + n) * (k + n) * W + n * k * L

-- what is near by any weights is near by those that no others are nearer by
pub nearest : (A B L W K N k n : ℕ) → 0 < K + N → Least A B L K N k n → Near A B L W k n → Near A B L W K N
nearest A B L W K N k n some least h = record {
  some = some;
  near = cut (k + n) (K + N) (k * A + n * B) (K * A + N * B) (n * k * L) (N * K * L) h.some least h.near;
}
  where
    cut : (m M p P r R : ℕ) → 0 < m → m * m * (M * P) + M * M * r ≤ M * M * (m * p) + m * m * R → m * p ≤ m * m * W + r → M * P ≤ M * M * W + R
    cut m M p P r R s l near =
        le_of_mul-le-mul_left {k = m * m} (omega (arith, l, mul-le-mul_left (M * M) near)) (mul-pos s s)

-- the ends themselves
pub first-end : (A B L W k : ℕ) → 0 < k → A ≤ W → Near A B L W k 0
first-end A B L W k some l = record { some = omega arith; near = omega (arith, mul-le-mul_left (k * k) l) }

pub second-end : (A B L W n : ℕ) → 0 < n → B ≤ W → Near A B L W 0 n
second-end A B L W n some l = record { some = omega arith; near = omega (arith, mul-le-mul_left (n * n) l) }

-- THE TEST. With neither end near enough, A is W + X and B is W + Y; then L is X + Y and a rest, and X times Y is at most a quarter of its square.
first_weighs : (X Y L k n : ℕ) → 0 < k + n → 0 < Y → k * k * X + n * n * Y + k * n * (X + Y) ≤ k * n * L → 0 < k
first_weighs X Y L zero n some y l = let r : 0 < n = omega arith in absurd (omega (arith, mul-pos (mul-pos r r) y))
first_weighs X Y L (suc k) n some y l = omega arith

module _ {X Y L W k n : ℕ} (h : Near (W + X) (W + Y) L W k n) (x : 0 < X) (y : 0 < Y) where
  spread : k * k * X + n * n * Y + k * n * (X + Y) ≤ k * n * L
  spread = omega (arith, h.near)

  both-weigh : 0 < k * n
  both-weigh =
      mul-pos (first_weighs X Y L k n h.some y spread)
      (first_weighs Y X L n k (omega (arith, h.some)) x (omega (arith, h.near)))

  pub rest-left : X + Y ≤ L
  rest-left = le_of_mul-le-mul_left {k = k * n} (omega (arith, h.near)) both-weigh

  pub within-rest : (rest : ℕ) → L ≡ X + Y + rest → 4 * (X * Y) ≤ rest * rest
  within-rest rest e = le_of_mul-le-mul_left {k = k * n * (k * n)} (omega (arith, squares)) (mul-pos both-weigh both-weigh)
    where
      legs : k * k * X + n * n * Y ≤ k * n * rest
      legs = omega (arith, spread, ap (λ z. k * n * z) e)

      squares : 4 * (k * k * X * (n * n * Y)) ≤ k * n * rest * (k * n * rest)
      squares = omega (arith, mul-le-mul legs legs, two-squares (k * k * X) (n * n * Y))

pub rest-near : (X Y L W rest : ℕ) → 0 < X → L ≡ X + Y + rest → 4 * (X * Y) ≤ rest * rest → Near (W + X) (W + Y) L W rest (2 * X)
rest-near X Y L W rest x e l = record {
  some = omega arith;
  near = omega (arith, mul-le-mul_left X l, ap (λ z. 2 * X * rest * z) e);
}

-- a quarter of a square, rounded down
halves : (h : ℕ) {P : Type 0} → ((g : ℕ) → h / 2 ≡ g → h ≡ g + g → P) → ((g : ℕ) → h / 2 ≡ g → h ≡ g + (g + 1) → P) → P
halves h even odd = by_order (h / 2 + h / 2) h (λ l. odd (h / 2) refl (omega arith)) (λ l. even (h / 2) refl (omega arith))

pub quarter : (z h : ℕ) → 4 * z ≤ h * h → z ≤ h / 2 * (h - h / 2)
quarter z h l =
    halves h
    (λ g e f. let r : h - h / 2 ≡ g = omega arith in rw (r, e) (omega (arith, square g g f)))
    (λ g e f. let r : h - h / 2 ≡ g + 1 = omega arith in rw (r, e) (omega (arith, square g (g + 1) f)))
  where
    square : (a b : ℕ) → h ≡ a + b → 4 * z ≤ (a + b) * (a + b)
    square a b e = rw e at l

pub unquarter : (z h : ℕ) → z ≤ h / 2 * (h - h / 2) → 4 * z ≤ h * h
unquarter z h l =
    halves h
    (λ g e f. let r : h - h / 2 ≡ g = omega arith in square g g f (rw (r, e) at l) (omega arith))
    (λ g e f. let r : h - h / 2 ≡ g + 1 = omega arith in square g (g + 1) f (rw (r, e) at l) (omega arith))
  where
    square : (a b : ℕ) → h ≡ a + b → z ≤ a * b → 4 * (a * b) ≤ (a + b) * (a + b) → 4 * z ≤ h * h
    square a b e m n = rw e (omega arith)
