-- Widening to eight bits. Document 02, wish 3, in place of document 01's zeros: "Repeat the top bits below: five bits v become v*8 plus v divided by 4
-- rounded down, six bits become v*4 plus v divided by 16 rounded down."
use Rattle.std.specs.Prelude.{◌≡◌, ℕ, zero, suc, ◌+◌, ◌-◌, ◌*◌, ◌/◌, ◌^◌, ◌<◌}

-- v in so many bits, written n times one after the other
unfoldable pub repeated : ℕ → ℕ → ℕ → ℕ
repeated width v zero = 0
repeated width v (suc n) = repeated width v n * 2 ^ width + v

-- written eight times, which is at least eight bits: the first eight of them
unfoldable pub widened : ℕ → ℕ → ℕ
widened width v = repeated width v 8 / 2 ^ (8 * width - 8)

-- v is a number of so many bits, at least one and fewer than eight
pub record OfBits (width v : ℕ) : Type 0 where
  pub some : 0 < width
  pub few : width < 8
  pub fits : v < 2 ^ width

-- THE CLAIM: what the wish says of five and six bits, and document 01 of one: "the one-bit alpha gives 0 or 255"
pub record Formulas : Type 0 where
  pub one : (v : ℕ) → v < 2 → widened 1 v ≡ v * 255
  pub five : (v : ℕ) → v < 32 → widened 5 v ≡ v * 8 + v / 4
  pub six : (v : ℕ) → v < 64 → widened 6 v ≡ v * 4 + v / 16
