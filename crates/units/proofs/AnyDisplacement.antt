-- What the code does with kept numbers is what the definitions say of the numbers meant.
-- Each law holds for any displacement d, and goes by the side of d on which a number lies. Assumes nothing.
use mathlib.Core.Path.{◌≡◌, refl, sym, ◌∙◌, ap}
use mathlib.Core.Bool.{Bool, true, false}
use Prim.Native.Nat.{ℕ, zero, suc, ◌+◌, ◌-◌, ◌*◌, ◌/◌, ◌<◌, ◌≤◌}
use native.Mathlib.Omega.{arith}
use native.Mathlib.Nat.{mul-le-mul}
use lib.Dec.{ltb, le→leb, lt→ltb}
use lib.IntN.{ℤ, pos, negsuc, sub_ℕ, nat_abs, neg_ℤ, ◌+ℤ◌, ◌-ℤ◌, ◌*ℤ◌, +ℤ_invr, +ℤ_comm, +ℤ_assoc, +ℤ-neg_ℤ_cancel, -ℤ-+ℤ_cancel}
use lib.Signed.{◌≤ℤ◌, ◌<ℤ◌}
use borrow.Author.Tests.{lt-ltb, le-ltb, ltb-true, ltb-false}
use Rattle.units.specs.Units.{floor16}

-- a - d below d, and from d on
pub sub-below : (a d : ℕ) → a < d → sub_ℕ a d ≡ negsuc (d - suc a)
sub-below a d h = rw (lt-ltb a d h)

pub sub-from : (a d : ℕ) → d ≤ a → sub_ℕ a d ≡ pos (a - d)
sub-from a d h = rw (le-ltb a d h)

-- what holds on either side of d holds of a - d
pub by_side : (a d : ℕ) (P : ℤ → Type 0) → (a < d → P (negsuc (d - suc a))) → (d ≤ a → P (pos (a - d))) → P (sub_ℕ a d)
by_side a d P below from = go (ltb a d) refl
  where
    go : (t : Bool) → ltb a d ≡ t → P (sub_ℕ a d)
    go true e = let h : a < d = ltb-true a d e in rw (sub-below a d h) (below h)
    go false e = let h : d ≤ a = ltb-false a d e in rw (sub-from a d h) (from h)

pub floor-meant : (d s : ℕ) → sub_ℕ (s / 16) d ≡ floor16 (sub_ℕ s (16 * d))
unfolding floor16
floor-meant d s =
    by_side s (16 * d) (λ (z : ℤ). sub_ℕ (s / 16) d ≡ floor16 z)
    (λ h. rw (sub-below (s / 16) d (omega arith)) (ap negsuc (omega arith)))
    (λ h. rw (sub-from (s / 16) d (omega arith)) (ap pos (omega arith)))

-- the product of a kept number, and the sum of two, are kept with a product and a sum of displacements
pub times-meant : (k d a : ℕ) → sub_ℕ (k * a) (k * d) ≡ pos k *ℤ sub_ℕ a d
times-meant k d a =
    by_side a d (λ (z : ℤ). sub_ℕ (k * a) (k * d) ≡ pos k *ℤ z)
    (λ h. below k (d - suc a) (omega arith))
    (λ h. from (a - d) (omega arith))
  where
    below : (k j : ℕ) → d ≡ a + suc j → sub_ℕ (k * a) (k * d) ≡ neg_ℤ (pos (k * suc j))
    below zero j e =
        let f : 0 * a ≡ 0 = omega arith in
        let g : 0 * d ≡ 0 = omega arith in
        let h : 0 * suc j ≡ 0 = omega arith in
        rw (f, g, h)
    below (suc k) j e =
        let f : suc k * d ≡ suc k * a + suc k * suc j = rw e (omega arith) in
        let g : suc k * suc j ≡ suc (suc k * d - suc (suc k * a)) = omega arith in
        rw (sub-below (suc k * a) (suc k * d) (omega arith), g)

    from : (j : ℕ) → a ≡ d + j → sub_ℕ (k * a) (k * d) ≡ pos (k * j)
    from j e =
        let f : k * a ≡ k * d + k * j = rw e (omega arith) in
        sub-from (k * a) (k * d) (omega arith) ∙ ap pos (omega arith)

sub_same : (a b c d : ℕ) → a + d ≡ c + b → sub_ℕ a b ≡ sub_ℕ c d
sub_same a b c d e =
    by_side a b (λ (z : ℤ). z ≡ sub_ℕ c d)
    (λ h. sym (sub-below c d (omega arith) ∙ ap negsuc (omega arith)))
    (λ h. sym (sub-from c d (omega arith) ∙ ap pos (omega arith)))

pub sum-meant : (a b d e : ℕ) → sub_ℕ a d +ℤ sub_ℕ b e ≡ sub_ℕ (a + b) (d + e)
sum-meant a b d e =
    by_side a d (λ (z : ℤ). z +ℤ sub_ℕ b e ≡ sub_ℕ (a + b) (d + e))
    (λ h.
    by_side b e (λ (z : ℤ). negsuc (d - suc a) +ℤ z ≡ sub_ℕ (a + b) (d + e))
    (λ k. sym (sub-below (a + b) (d + e) (omega arith) ∙ ap negsuc (omega arith)))
    (λ k. sub_same (b - e) (suc (d - suc a)) (a + b) (d + e) (omega arith)))
    (λ h.
    by_side b e (λ (z : ℤ). pos (a - d) +ℤ z ≡ sub_ℕ (a + b) (d + e))
    (λ k. sub_same (a - d) (suc (e - suc b)) (a + b) (d + e) (omega arith))
    (λ k. sym (sub-from (a + b) (d + e) (omega arith) ∙ ap pos (omega arith))))

abs-sub : (m n : ℕ) → nat_abs (sub_ℕ m n) ≡ (m - n) + (n - m)
abs-sub m n =
    by_side m n (λ (z : ℤ). nat_abs z ≡ (m - n) + (n - m)) (λ h. omega arith) (λ h. omega arith)

abs-pos : (m n : ℕ) → nat_abs (pos m -ℤ pos n) ≡ (m - n) + (n - m)
abs-pos m zero = omega arith
abs-pos m (suc n) = abs-sub m (suc n)

abs-negsuc : (m n : ℕ) → nat_abs (negsuc m -ℤ pos n) ≡ suc m + n
abs-negsuc m zero = abs-sub 0 (suc m) ∙ omega arith
abs-negsuc m (suc n) = omega arith

pub apart-meant : (d a b : ℕ) → nat_abs (sub_ℕ a d -ℤ sub_ℕ b d) ≡ (a - b) + (b - a)
apart-meant d a b =
    by_side a d (λ (z : ℤ). nat_abs (z -ℤ sub_ℕ b d) ≡ (a - b) + (b - a))
    (λ h.
    by_side b d (λ (z : ℤ). nat_abs (negsuc (d - suc a) -ℤ z) ≡ (a - b) + (b - a))
    (λ k. abs-sub (suc (d - suc b)) (suc (d - suc a)) ∙ omega arith)
    (λ k. abs-negsuc (d - suc a) (b - d) ∙ omega arith))
    (λ h.
    by_side b d (λ (z : ℤ). nat_abs (pos (a - d) -ℤ z) ≡ (a - b) + (b - a))
    (λ k. omega arith)
    (λ k. abs-pos (a - d) (b - d) ∙ omega arith))

-- from a number to the mean of two others by the weights k and n, times k + n
pub mean-meant : (d k n a b s : ℕ) → nat_abs (pos (k + n) *ℤ sub_ℕ s d -ℤ (pos k *ℤ sub_ℕ a d +ℤ pos n *ℤ sub_ℕ b d)) ≡ ((k + n) * s - (k * a + n * b)) + ((k * a + n * b) - (k + n) * s)
mean-meant d k n a b s =
    let e : k * d + n * d ≡ (k + n) * d = omega arith in
    let f : pos k *ℤ sub_ℕ a d +ℤ pos n *ℤ sub_ℕ b d ≡ sub_ℕ (k * a + n * b) ((k + n) * d) = rw (← times-meant k d a, ← times-meant n d b, sum-meant (k * a) (n * b) (k * d) (n * d), e) in
    rw (f, ← times-meant (k + n) d s) (apart-meant ((k + n) * d) ((k + n) * s) (k * a + n * b))

-- two kept numbers that mean the same are the same
pub meant-once : (d a b : ℕ) → sub_ℕ a d ≡ sub_ℕ b d → a ≡ b
meant-once d a b e =
    let n : nat_abs (sub_ℕ b d -ℤ sub_ℕ b d) ≡ 0 = ap nat_abs (+ℤ_invr (sub_ℕ b d)) in
    let m : (a - b) + (b - a) ≡ 0 = sym (apart-meant d a b) ∙ (rw e n) in
    omega arith

pub pixel-meant : (d n : ℕ) → sub_ℕ (n + d) d ≡ pos n
pixel-meant d n = sub-from (n + d) d (omega arith) ∙ ap pos (omega arith)

-- what is added to a kept number is added to the number meant
pub moved-meant : (d a t : ℤ) → (a +ℤ t) -ℤ d ≡ (a -ℤ d) +ℤ t
moved-meant d a t =
    +ℤ_assoc a t (neg_ℤ d) ∙ ap (λ (z : ℤ). a +ℤ z) (+ℤ_comm t (neg_ℤ d)) ∙ sym (+ℤ_assoc a (neg_ℤ d) t)

-- what is added to the origin is the number meant
pub origin-meant : (d z : ℤ) → (d +ℤ z) -ℤ d ≡ z
origin-meant d z = rw (+ℤ_comm d z) (+ℤ-neg_ℤ_cancel z d)

-- and the number meant, added to the origin, is the number kept
pub meant-kept : (d a : ℤ) → d +ℤ (a -ℤ d) ≡ a
meant-kept d a = rw (+ℤ_comm d (a -ℤ d)) (-ℤ-+ℤ_cancel a d)

-- a + t, where t is at most m either way and m at most a: it is not negative, and at most m from a
pub record Near (a m : ℕ) (t : ℤ) (k : ℕ) : Type 0 where
  pub sum : pos a +ℤ t ≡ pos k
  pub near : (a ≤ k + m) × (k ≤ a + m)

pub nearby : (a m : ℕ) (t : ℤ) → nat_abs t ≤ m → m ≤ a → Near a m t (nat_abs (pos a +ℤ t))
nearby a m (pos n) h k = record { sum = refl; near = (omega arith, omega arith) }
nearby a m (negsuc n) h k =
    let l : suc n ≤ a = omega arith in
    rw (sub-from a (suc n) l)
    (record { sum = sub-from a (suc n) l; near = (omega arith, omega arith) })

abs_neg : (n : ℕ) → nat_abs (neg_ℤ (pos n)) ≡ n
abs_neg zero = refl
abs_neg (suc n) = refl

-- a product, from the bounds of its factors
pub times-most : (z : ℤ) (u m v : ℕ) → nat_abs z ≤ m → u ≤ v → nat_abs (z *ℤ pos u) ≤ m * v
times-most (pos a) u m v h k = mul-le-mul h k
times-most (negsuc a) u m v h k = rw (abs_neg (suc a * u)) (mul-le-mul h k)

-- the order of two kept numbers is that of the numbers meant
pub order-meant : (d a b : ℕ) → a ≤ b → sub_ℕ a d ≤ℤ sub_ℕ b d
order-meant d a b l =
    by_side a d (λ (z : ℤ). z ≤ℤ sub_ℕ b d)
    (λ h.
    by_side b d (λ (z : ℤ). negsuc (d - suc a) ≤ℤ z)
    (λ k. record { le = le→leb (d - suc b) (d - suc a) (omega arith) })
    (λ k. record { le = tt }))
    (λ h. rw (sub-from b d (omega arith)) (record { le = le→leb (a - d) (b - d) (omega arith) }))

pub strict-meant : (d a b : ℕ) → a < b → sub_ℕ a d <ℤ sub_ℕ b d
strict-meant d a b l =
    by_side a d (λ (z : ℤ). z <ℤ sub_ℕ b d)
    (λ h.
    by_side b d (λ (z : ℤ). negsuc (d - suc a) <ℤ z)
    (λ k. record { lt = lt→ltb (d - suc b) (d - suc a) (omega arith) })
    (λ k. record { lt = tt }))
    (λ h. rw (sub-from b d (omega arith)) (record { lt = lt→ltb (a - d) (b - d) (omega arith) }))

-- a number counted from m, added to a
pub counted-most : (n m : ℕ) → n < m + m → nat_abs (sub_ℕ n m) ≤ m
counted-most n m l = by_side n m (λ (z : ℤ). nat_abs z ≤ m) (λ h. omega arith) (λ h. omega arith)

pub counted-sum : (a n m : ℕ) → m ≤ a → nat_abs (pos a +ℤ sub_ℕ n m) ≡ a + n - m
counted-sum a n m k =
    by_side n m (λ (z : ℤ). nat_abs (pos a +ℤ z) ≡ a + n - m)
    (λ h. rw (sub-from a (suc (m - suc n)) (omega arith)) (omega arith))
    (λ h. omega arith)
