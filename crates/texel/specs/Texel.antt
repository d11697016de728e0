-- The texel that a drawn pixel of a bitmap reads. Document 01, 'Which pixels': "A drawn pixel past stride or layout height reads as (0, 0, 0, 0).
-- L8 gives white with that alpha. RGB565 and ARGB1555 fields are widened to eight bits ..; the one-bit alpha gives 0 or 255, RGB565 alpha is 255."
-- How they are widened stands in Widen.antt.
use Rattle.std.specs.Prelude.{Bool, ◌&&◌, cond, List, ℕ, ◌+◌, ◌*◌, ◌/◌, ◌%◌, ◌^◌, ltb, get_or}
use Rattle.action.specs.declared.ink.Colour.{Colour}
use Rattle.action.specs.declared.numbers.Format.{Format}
use Rattle.action.specs.declared.numbers.Format.TheVariants as m
use Rattle.action.specs.declared.shape.Bitmap.{Bitmap}
use Rattle.texel.specs.Widen.{widened}

-- bytes of a pixel
abbrev pub pixel_bytes : Format → ℕ
pixel_bytes m.Argb1555 = 2
pixel_bytes m.L8 = 1
pixel_bytes m.Rgb565 = 2

-- the field of so many bits from bit `low` on
abbrev pub field : ℕ → ℕ → ℕ → ℕ
field n low width = n / 2 ^ low % 2 ^ width

-- such a field as a channel
abbrev pub channel : ℕ → ℕ → ℕ → ℕ
channel n low width = widened width (field n low width)

-- a byte past the end of the memory is 0; number 18 keeps every cell inside
abbrev pub byte_at : List ℕ → ℕ → ℕ
byte_at memory at = get_or memory at 0

-- two bytes, the lower first
abbrev pub pair_at : List ℕ → ℕ → ℕ
pair_at memory at = byte_at memory at + 256 * byte_at memory (at + 1)

-- red 15..11, green 10..5, blue 4..0
unfoldable pub rgb565 : ℕ → Colour
rgb565 n = record { red = channel n 11 5; green = channel n 5 6; blue = channel n 0 5; alpha = 255 }

-- alpha 15, red 14..10, green 9..5, blue 4..0. Wish 3: "ARGB1555 follows the five-bit rule."
unfoldable pub argb1555 : ℕ → Colour
argb1555 n = record { red = channel n 10 5; green = channel n 5 5; blue = channel n 0 5; alpha = channel n 15 1 }

unfoldable pub l8 : ℕ → Colour
l8 n = record { red = 255; green = 255; blue = 255; alpha = n }

abbrev pub none : Colour
none = record { red = 0; green = 0; blue = 0; alpha = 0 }

-- the pixel that starts at this byte
abbrev pub colour_at : Format → List ℕ → ℕ → Colour
colour_at m.Argb1555 memory at = argb1555 (pair_at memory at)
colour_at m.L8 memory at = l8 (byte_at memory at)
colour_at m.Rgb565 memory at = rgb565 (pair_at memory at)

-- the byte at which a pixel of the cell starts
abbrev pub position : Bitmap → ℕ → ℕ → ℕ
position bitmap column line = bitmap.start + (line * bitmap.stride + column * pixel_bytes bitmap.format)

-- neither past the layout height nor past the stride
abbrev pub inside : Bitmap → ℕ → ℕ → Bool
inside bitmap column line = ltb line bitmap.height && ltb column (bitmap.stride / pixel_bytes bitmap.format)

-- column and line are counted from the drawn bitmap's top left
unfoldable pub texel_at : Bitmap → ℕ → ℕ → List ℕ → Colour
texel_at bitmap column line memory =
    cond (inside bitmap column line) (colour_at bitmap.format memory (position bitmap column line)) none
