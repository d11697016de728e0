-- A number's fewest digits in base 10 are its digits without zeros in front.
use mathlib.Core.Bool.{Bool, true, false, cond}
use mathlib.Core.List.{List, [], ◌∷◌, ◌++◌}
use mathlib.Core.Path.{◌≡◌, refl, ap}
use Prim.Native.Nat.{ℕ, zero, suc, ◌-◌, ◌*◌, ◌/◌, ◌%◌, ◌^◌, ◌≤◌, ◌<◌}
use native.Mathlib.Nat.{lt_of_not-le, pow-le-pow_right, pow-succ', one-le-pow, div-lt_iff_lt-mul, le-div_iff_mul-le}
use native.Mathlib.Omega.{arith}
use borrow.Author.Tests.{lt-ltb, le-ltb}
use lib.Dec.{ltb, lit<}
use lib.ListN.{length, length-append}
use Rattle.io.specs.Digits.{last_digits, hex_digit_ascii, IsDigitCount}
use Rattle.rowshow.specs.Text.{decimal_within, decimal_text}

-- a number of two digits and more, without its last
one_fewer : (n j : ℕ) → IsDigitCount 10 1 n (suc (suc j)) → (10 ≤ n) × IsDigitCount 10 1 (n / 10) (suc j)
one_fewer n j fewest =
    let back : suc (suc j) - 1 ≡ suc j = omega arith in
    let again : suc j - 1 ≡ j = omega arith in
    let least : 10 * 10 ^ j ≤ n = rw (back, pow-succ') at (fewest.2 (omega arith)) in
    let most : n < 10 * 10 ^ suc j = rw pow-succ' at fewest.1 in
    let one : 1 ≤ 10 ^ j = one-le-pow j 10 (lit< tt) in (
      omega arith,
      (
        omega arith,
        (div-lt_iff_lt-mul {k = 10} {x = n} {y = 10 ^ suc j} (lit< tt)).1 (omega arith),
        λ _. rw again ((le-div_iff_mul-le {k = 10} {x = 10 ^ j} {y = n} (lit< tt)).1 (omega arith)),
      ),
    )

spelt-within : (more n k : ℕ) → IsDigitCount 10 1 n k → k ≤ suc more → last_digits 10 k n ≡ decimal_within more n
unfolding decimal_within
spelt-within more n zero fewest room = absurd (omega arith)
spelt-within zero n (suc zero) fewest room = refl
spelt-within zero n (suc (suc j)) fewest room = absurd (omega arith)
spelt-within (suc more) n (suc zero) fewest room = rw (lt-ltb n 10 (omega arith))
spelt-within (suc more) n (suc (suc j)) fewest room =
    let rest = one_fewer n j fewest in
    rw (le-ltb n 10 rest.0) (ap (λ (l : List ℕ). l ++ (hex_digit_ascii (n % 10) ∷ [])) (spelt-within more (n / 10) (suc j) rest.1 (omega arith)))

not-eleven : (n k : ℕ) → n < 2 ^ 32 → IsDigitCount 10 1 n k → 11 ≤ k → ⊥
not-eleven n k small fewest many =
    let vast : 10 ^ 10 ≤ 10 ^ (k - 1) = pow-le-pow_right (lit< tt) {i = 10} {j = k - 1} (omega arith) in
    let least : 10 ^ (k - 1) ≤ n = fewest.2 (omega arith) in
    omega arith

-- ten digits hold a number of 32 bits
pub few : (n k : ℕ) → n < 2 ^ 32 → IsDigitCount 10 1 n k → k ≤ 10
few n k small fewest = omega (arith, lt_of_not-le (not-eleven n k small fewest))

pub spelt : (n k : ℕ) → n < 2 ^ 32 → IsDigitCount 10 1 n k → last_digits 10 k n ≡ decimal_text n
unfolding decimal_text
spelt n k small fewest = spelt-within 9 n k fewest (few n k small fewest)

short-cond : (b : Bool) (x y : List ℕ) (n : ℕ) → length x ≤ n → length y ≤ n → length (cond b x y) ≤ n
short-cond true x y n l m = l
short-cond false x y n l m = m

within-short : (more n : ℕ) → length (decimal_within more n) ≤ suc more
unfolding decimal_within
within-short zero n = omega arith
within-short (suc more) n =
    short-cond (ltb n 10) (hex_digit_ascii (n % 10) ∷ []) (decimal_within more (n / 10) ++ (hex_digit_ascii (n % 10) ∷ [])) (suc (suc more))
    (omega arith)
    (omega (arith, length-append (decimal_within more (n / 10)) (hex_digit_ascii (n % 10) ∷ []), within-short more (n / 10)))

pub decimal-short : (n : ℕ) → length (decimal_text n) ≤ 10
unfolding decimal_text
decimal-short n = within-short 9 n
