-- Positions and lengths in the guide's two counts: what a kept number stands for, and what goes between the counts. Lengths are counted from 0.
-- Document 01: "The guide counts in pixels for scissors and in sixteenths of a pixel for sizes; the two counts are kept apart throughout.",
-- "Pixel (p, q) is sampled at (16p, 16q).", "Dividing a negative vertex towards zero: -1 sixteenth lies in pixel -1."
-- A position left of the screen or above it is negative, and a kept number never is: it is counted from an origin far up and left.
use Rattle.std.specs.Prelude.{◌≡◌, Bool, ◌&&◌, ℕ, ◌+◌, ◌-◌, ◌*◌, ◌/◌, ◌<◌, ◌≤◌, ◌^◌, leb, ltb, ℤ, pos, negsuc, ◌+ℤ◌, ◌-ℤ◌, ◌*ℤ◌, nat_abs, ◌≤ℤ◌, ◌<ℤ◌}
use Rattle.units.specs.declared.LengthInPixels.{LengthInPixels}
use Rattle.units.specs.declared.LengthInSixteenths.{LengthInSixteenths}
use Rattle.units.specs.declared.Pixels.{Pixels}
use Rattle.units.specs.declared.Sixteenths.{Sixteenths}

-- Document 01: "Frame 1..800 wide, 1..600 high"
abbrev pub widest : ℕ
widest = 800

abbrev pub tallest : ℕ
tallest = 600

-- the larger and the smaller of two numbers
abbrev pub larger : ℕ → ℕ → ℕ
larger a b = a + (b - a)

abbrev pub smaller : ℕ → ℕ → ℕ
smaller a b = a - (a - b)

-- how many pixels the origin lies up and left of the screen
abbrev pub displacement : ℕ
displacement = 2 ^ 36

-- the number that a kept one stands for
unfoldable pub meant_pixels : Pixels → ℤ
meant_pixels p = pos p.0 -ℤ pos displacement

unfoldable pub meant_sixteenths : Sixteenths → ℤ
meant_sixteenths s = pos s.0 -ℤ pos (16 * displacement)

-- z / 16, rounded down; `negsuc n` is -(n + 1)
unfoldable pub floor16 : ℤ → ℤ
floor16 (pos n) = pos (n / 16)
floor16 (negsuc n) = negsuc (n / 16)

-- what rounding down is: 16 q is the last multiple of 16 that z has reached. `floor16 z` is such a q, and the only one
pub record RoundedDown (z q : ℤ) : Type 0 where
  pub reached : (pos 16 *ℤ q) ≤ℤ z
  pub last : z <ℤ (pos 16 *ℤ q +ℤ pos 16)

unfoldable pub distance : ℤ → ℤ → ℕ
distance a b = nat_abs (a -ℤ b)

-- how a number is kept: that of a pixel on the screen or past it, and that of a sixteenth on either side of the screen's edge
abbrev pub pixel_at : ℕ → Pixels
pixel_at n = record { 0 = n + displacement }

unfoldable pub sixteenth_at : ℤ → Sixteenths
sixteenth_at z = record { 0 = nat_abs (pos (16 * displacement) +ℤ z) }

-- a translation is kept as counted from the least that an i32 holds
abbrev pub no_translation : ℕ
no_translation = 2 ^ 31

unfoldable pub meant_translation : ℕ → ℤ
meant_translation n = pos n -ℤ pos no_translation

unfoldable pub translation_at : ℤ → ℕ
translation_at z = nat_abs (pos no_translation +ℤ z)

-- a position that any i32 can be added to: neither end of the kept numbers is nearer than that
abbrev pub Movable : Sixteenths → Type 0
Movable s = (2 ^ 31 ≤ s.0) × (s.0 < 2 ^ 62)

-- in kept numbers: the pixel that holds a position, the pixel so many further on, where a pixel is sampled, how far two positions are apart
abbrev pub floored : Sixteenths → Pixels
floored s = record { 0 = s.0 / 16 }

abbrev pub further_on : Pixels → LengthInPixels → Pixels
further_on p count = record { 0 = p.0 + count.0 }

abbrev pub sampled : Pixels → Sixteenths
sampled p = record { 0 = 16 * p.0 }

abbrev pub spaced : Sixteenths → Sixteenths → ℕ
spaced a b = (a.0 - b.0) + (b.0 - a.0)

-- how many of the screen's first columns, or rows, lie before a pixel: column x does exactly if x is below this number
abbrev pub count_before : ℕ → Pixels → ℕ
count_before count p = count - (count - (p.0 - displacement))

-- The first pixel whose sample lies at most `reach` before a position, and the pixel after the last one whose sample lies at most `reach` past it. Only
-- `floored` makes pixels of sixteenths, and it rounds down: rounding up is the floor of the place 15 further on.
abbrev pub first_near : Sixteenths → LengthInSixteenths → Pixels
first_near s reach = floored (record { 0 = s.0 - reach.0 + 15 })

abbrev pub end_near : Sixteenths → LengthInSixteenths → Pixels
end_near s reach = further_on (floored (record { 0 = s.0 + reach.0 })) (record { 0 = 1 })

-- Wish 1 of document 02: "-32768..32767 sixteenths", as kept; a position there is called short
abbrev pub short_from : ℕ
short_from = 16 * displacement - 2 ^ 15

abbrev pub short_to : ℕ
short_to = 16 * displacement + 2 ^ 15

unfoldable pub is_short : Sixteenths → Bool
is_short s = leb short_from s.0 && ltb s.0 short_to

-- The contracts. Each says which number is kept, for whoever computes with it, and what that number means.
pub record PixelOf (n : ℕ) (p : Pixels) : Type 0 where
  pub kept : p.0 ≡ (pixel_at n).0
  pub meant : meant_pixels p ≡ pos n

pub record FurtherOn (count : LengthInPixels) (p q : Pixels) : Type 0 where
  pub kept : q.0 ≡ (further_on p count).0
  pub meant : meant_pixels q ≡ meant_pixels p +ℤ pos count.0

-- document 01: "A VERTEX2F number is multiplied by 2^(4-frac)", so that z is n *ℤ pos unit, with a unit of at most 16
pub record SixteenthOf (z : ℤ) (s : Sixteenths) : Type 0 where
  pub kept : s.0 ≡ (sixteenth_at z).0
  pub near : (8 * displacement ≤ s.0) × (s.0 < 32 * displacement)
  pub meant : meant_sixteenths s ≡ z

pub record TranslationOf (t : ℤ) (n : ℕ) : Type 0 where
  pub kept : n ≡ translation_at t
  pub meant : meant_translation n ≡ t

-- "then the translation is added": t is an i32, so that the position stays near
pub record MovedBy (t : ℤ) (s r : Sixteenths) : Type 0 where
  pub kept : r.0 ≡ nat_abs (pos s.0 +ℤ t)
  pub near : (s.0 ≤ r.0 + 2 ^ 31) × (r.0 ≤ s.0 + 2 ^ 31)
  pub meant : meant_sixteenths r ≡ meant_sixteenths s +ℤ t

pub record Holds (p : Pixels) (s : Sixteenths) : Type 0 where
  pub kept : p.0 ≡ (floored s).0
  pub meant : meant_pixels p ≡ floor16 (meant_sixteenths s)

pub record SampledAt (p : Pixels) (s : Sixteenths) : Type 0 where
  pub kept : s.0 ≡ (sampled p).0
  pub meant : meant_sixteenths s ≡ pos 16 *ℤ meant_pixels p

pub record ApartBy (a b : Sixteenths) (d : ℕ) : Type 0 where
  pub kept : d ≡ spaced a b
  pub meant : d ≡ distance (meant_sixteenths a) (meant_sixteenths b)
