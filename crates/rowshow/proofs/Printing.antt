-- A number's text as std writes it, and how long the texts are.
use Rattle.std.proofs.Common.{◌≡◌, refl, sym, ℕ, zero, suc, ◌+◌, ◌*◌, ◌/◌, ◌%◌, ◌^◌, ◌<◌, ◌≤◌, List, [], ◌∷◌, ◌++◌, length, length-append, arith, rules}
use Rattle.std.specs.Fmt.{decimal}
use Rattle.std.proofs.lemmas.Fmt.{AppendsLastDigit, decimal_digit, decimal_from_appends, decimal_step, length-decimal-le}
use Rattle.rowshow.proofs.Decimals.{decimal-short}
use Rattle.rowshow.specs.Text.{decimal_text, decimal_within, hex_text, pixel_text_at, pixels_after}

-- decimal_within, by how many digits hold the number
abbrev within : ℕ → ℕ → List ℕ
within zero n = []
within (suc more) n = decimal_within more n

appends : AppendsLastDigit within
unfolding decimal_within
appends = record { one = one; more = more }
  where
    one : (k n : ℕ) → n < 10 → within (suc k) n ≡ (48 + n) ∷ []
    one zero n small = search rules
    one (suc k) n small = search rules

    more : (k n : ℕ) → 10 ≤ n → within (suc k) n ≡ within k (n / 10) ++ ((48 + n % 10) ∷ [])
    more zero n large = search rules
    more (suc k) n large = search rules

-- the text of a number is what std writes of it
pub decimal_printed : (n : ℕ) → n < 2 ^ 32 → decimal n ≡ decimal_text n
unfolding decimal_text
decimal_printed n small =
    let short = length-decimal-le 10 n (omega arith) (omega arith) (omega arith) in
    sym (decimal_from_appends within appends 10 n (omega arith) short)

pub pixel-long : (picture tags : List ℕ) (k : ℕ) → length (pixel_text_at picture tags k) ≡ 9
unfolding hex_text
pixel-long picture tags k = refl

pub others-long : (picture tags : List ℕ) (k : ℕ) → length (pixels_after picture tags k) ≡ 10 * k
others-long picture tags zero = refl
others-long picture tags (suc k) =
    omega (
      arith,
      length-append (pixels_after picture tags k) (32 ∷ [] ++ pixel_text_at picture tags (suc k)),
      others-long picture tags k,
      pixel-long picture tags (suc k),
    )

pub ruleset decimal_steps = (decimal-short, length-append)

pub ruleset row_lengths = (pixel-long, others-long, length-append)
