-- A number written over and over, and its first eight bits: written twice as often, they are the same and the same again below. Assumes nothing.
use mathlib.Core.Bool.{Bool, true, false}
use mathlib.Core.Path.{◌≡◌, refl, sym, ◌∙◌, ap}
use Prim.Native.Nat.{ℕ, zero, suc, ◌+◌, ◌-◌, ◌*◌, ◌/◌, ◌%◌, ◌^◌, ◌<◌, ◌≤◌}
use native.Mathlib.Nat.{div-eq_of_lt, mod-eq_of_lt, mul-add-div_right, mul-le-mul_right}
use native.Mathlib.Omega.{arith}
use lib.Dec.{leb}
use lib.Pow.{pow_pos, pow-add, pow_mono, shl_lt, shl-shr, shr_lt, shr-shr, high}
use borrow.Author.Tests.{leb-true, leb-false}
use Rattle.texel.specs.Widen.{repeated, widened, OfBits, Formulas}

-- of k bits the first eight, with zeros below where there are fewer
abbrev first : ℕ → ℕ → ℕ
first k x = x * 2 ^ 8 / 2 ^ k

whole : (k x : ℕ) → k ≤ 8 → x * 2 ^ 8 ≡ x * 2 ^ (8 - k) * 2 ^ k
whole k x h =
    let e : 8 ≡ 8 - k + k = omega arith in
    let p : 2 ^ 8 ≡ 2 ^ (8 - k) * 2 ^ k = ap (λ (n : ℕ). 2 ^ n) e ∙ pow-add 2 (8 - k) k in
    omega (arith, ap (λ (n : ℕ). x * n) p)

padded : (k x : ℕ) → k ≤ 8 → first k x ≡ x * 2 ^ (8 - k)
padded k x h = ap (λ (n : ℕ). n / 2 ^ k) (whole k x h) ∙ shl-shr (x * 2 ^ (8 - k)) k

small : (k x : ℕ) → x < 2 ^ k → first k x < 2 ^ 8
small k x h =
    let e : k + 8 ≡ 8 + k = omega arith in
    let l : x * 2 ^ 8 < 2 ^ (k + 8) = shl_lt k 8 h in
    shr_lt 8 k (rw e at l)

again : (k x : ℕ) → x < 2 ^ k → first (k + k) (x * 2 ^ k + x) ≡ first k x + first k x / 2 ^ k
again k x h = halved ∙ go (leb k 8) refl
  where
    halved : first (k + k) (x * 2 ^ k + x) ≡ (x * 2 ^ 8 + first k x) / 2 ^ k
    halved =
        let d : (x * 2 ^ k + x) * 2 ^ 8 ≡ x * 2 ^ 8 * 2 ^ k + x * 2 ^ 8 = omega arith in
        ap (λ (n : ℕ). n / 2 ^ (k + k)) d ∙ sym (shr-shr (x * 2 ^ 8 * 2 ^ k + x * 2 ^ 8) k k)
        ∙ ap (λ (n : ℕ). n / 2 ^ k) (mul-add-div_right (pow_pos k) (x * 2 ^ 8) (x * 2 ^ 8))

    go : (t : Bool) → leb k 8 ≡ t → (x * 2 ^ 8 + first k x) / 2 ^ k ≡ first k x + first k x / 2 ^ k
    go true e =
        let l = leb-true k 8 e in
        let d : x * 2 ^ 8 ≡ first k x * 2 ^ k = whole k x l ∙ ap (λ (n : ℕ). n * 2 ^ k) (sym (padded k x l)) in
        ap (λ (n : ℕ). (n + first k x) / 2 ^ k) d ∙ mul-add-div_right (pow_pos k) (first k x) (first k x)
    go false e =
        let l = leb-false k 8 e in
        let s : 8 + (k - 8) ≡ k = omega arith in
        let i : first k x ≡ x / 2 ^ (k - 8) =
        ap (λ (n : ℕ). x * 2 ^ 8 / 2 ^ n) (sym s) ∙ sym (shr-shr (x * 2 ^ 8) 8 (k - 8)) ∙ ap (λ (n : ℕ). n / 2 ^ (k - 8)) (shl-shr x 8) in
        let z : first k x / 2 ^ k ≡ 0 = div-eq_of_lt (omega (arith, small k x h, pow_mono {i = 8} {j = k} (omega arith))) in
        ap (λ (n : ℕ). (x * 2 ^ 8 + first k x) / 2 ^ n) (sym s) ∙ sym (shr-shr (x * 2 ^ 8 + first k x) 8 (k - 8))
        ∙ ap (λ (n : ℕ). n / 2 ^ (k - 8)) (high x 8 (small k x h)) ∙ sym i ∙ omega (arith, z)

module _ (w v : ℕ) where
  longer : (n : ℕ) → 2 ^ (suc n * w) ≡ 2 ^ (n * w) * 2 ^ w
  longer n = ap (λ (k : ℕ). 2 ^ k) (omega arith) ∙ pow-add 2 (n * w) w

  below : v < 2 ^ w → (n : ℕ) → repeated w v n < 2 ^ (n * w)
  unfolding repeated
  below h zero = let z : 0 * w ≡ 0 = omega arith in rw z (omega arith)
  below h (suc n) = rw (longer n) (omega (arith, mul-le-mul_right (2 ^ w) (below h n)))

  after : (m n : ℕ) → repeated w v (m + n) ≡ repeated w v m * 2 ^ (n * w) + repeated w v n
  unfolding repeated
  after m zero = let z : 0 * w ≡ 0 = omega arith in let y : m + 0 ≡ m = omega arith in rw (z, y) (omega arith)
  after m (suc n) = let y : m + suc n ≡ suc (m + n) = omega arith in rw (y, longer n) (omega (arith, ap (λ (k : ℕ). k * 2 ^ w) (after m n)))

  -- the first eight bits of v written n times
  unfoldable pub start : ℕ → ℕ
  start n = first (n * w) (repeated w v n)

module _ {w v : ℕ} (of : OfBits w v) where
  pub start_small : (n : ℕ) → start w v n < 2 ^ 8
  unfolding start
  start_small n = small (n * w) (repeated w v n) (below w v of.fits n)

  pub once : v * 2 ^ (8 - w) % 2 ^ 32 ≡ start w v 1
  unfolding start repeated
  once =
      let e : 1 * w ≡ w = omega arith in
      let z : 0 * 2 ^ w + v ≡ v = omega arith in
      let f : first w v ≡ v * 2 ^ (8 - w) = padded w v (omega (arith, of.few)) in
      rw (e, z) (mod-eq_of_lt (omega (arith, small w v of.fits, f)) ∙ sym f)

  pub doubled : (n : ℕ) → start w v n + start w v n / 2 ^ (n * w) ≡ start w v (n + n)
  unfolding start
  doubled n =
      let e : (n + n) * w ≡ n * w + n * w = omega arith in
      rw (e, after w v n n) (sym (again (n * w) (repeated w v n) (below w v of.fits n)))

  pub twice : start w v 1 + start w v 1 / 2 ^ w ≡ start w v 2
  twice = let e : 1 * w ≡ w = omega arith in let d = doubled 1 in rw e at d

  pub all : start w v 8 ≡ widened w v
  unfolding widened start
  all =
      let e : 8 * w ≡ 8 + (8 * w - 8) = omega (arith, of.some) in
      ap (λ (k : ℕ). repeated w v 8 * 2 ^ 8 / 2 ^ k) e ∙ sym (shr-shr (repeated w v 8 * 2 ^ 8) 8 (8 * w - 8))
      ∙ ap (λ (k : ℕ). k / 2 ^ (8 * w - 8)) (shl-shr (repeated w v 8) 8)

pub formulas : Formulas
unfolding repeated widened
formulas =
    record {
      one = λ v. λ h. omega arith;
      five = λ v. λ h. omega arith;
      six = λ v. λ h. omega arith;
    }
