-- The fields of a command: which numbers they hold, which of those have a meaning, and where they lie in a word.
-- The guide, 4.2: a command's parameters lie in the least significant bits; each section's table gives their widths, from the
-- high bits down and with no gap. Document 01, row 12: which numbers have no meaning. A list of numbers here has a signed field as
-- include/jokulvisp.h passes it, as 32 bits in two's complement.
use Rattle.std.specs.Prelude.{ℕ, suc, ◌+◌, ◌-◌, ◌*◌, ◌/◌, ◌%◌, ◌^◌, Bool, true, false, cond, ◌&&◌, ◌||◌, List, [], ◌∷◌, ltb, leb, ℤ, pos, negsuc, neg_ℤ, ◌≤ℤ◌, ◌<ℤ◌}
use Rattle.words.specs.declared.field.Meaning.{Meaning}
use Rattle.words.specs.declared.field.Meaning.TheVariants.{Function, StencilAction, BlendFactor, Primitive, Format, Frac, ScissorSide}
use Rattle.words.specs.declared.field.Field.{Field}
use Rattle.words.specs.declared.field.Field.TheVariants.{Bits, Only, Signed}

-- ROW 12. A test function is at most 7, a stencil action and a blend factor at most 5, a primitive 1 to 9, a format one of
-- 0-7, 9, 10, 11, 14-17, frac at most 4, a scissor's width or height at most 2,048.
abbrev pub meant : Meaning → ℕ → Bool
meant Function n = leb n 7
meant StencilAction n = leb n 5
meant BlendFactor n = leb n 5
meant Primitive n = leb 1 n && leb n 9
meant Format n = leb n 7 || leb 9 n && leb n 11 || leb 14 n && leb n 17
meant Frac n = leb n 4
meant ScissorSide n = leb n 2048

-- SIGNED NUMBERS. A field of k bits holds -half .. half - 1, where half is 2 ^ k / 2.

-- the number that 32 bits in two's complement stand for
abbrev pub int : ℕ → ℤ
int n = cond (ltb n (2 ^ 31)) (pos n) (negsuc (2 ^ 32 - suc n))

-- the bits n of a signed field as 32 bits: from half up the number is negative, and the bits above the field are set
abbrev pub extended : ℕ → ℕ → ℕ
extended half n = cond (ltb n half) n (2 ^ 32 - (half + half) + n)

unfoldable pub holds_signed : ℕ → ℕ → Bool
holds_signed half n = ltb n half || leb (2 ^ 32 - half) n && ltb n (2 ^ 32)

-- the same as an integer
pub record InBits (k : ℕ) (z : ℤ) : Type 0 where
  pub from : neg_ℤ (pos (2 ^ k / 2)) ≤ℤ z
  pub to : z <ℤ pos (2 ^ k / 2)

-- ONE FIELD.

abbrev pub width : Field → ℕ
width (Bits k) = k
width (Only k m) = k
width (Signed k) = k

-- the number that a field's bits stand for
abbrev pub value : Field → ℕ → ℕ
value (Bits k) n = n
value (Only k m) n = n
value (Signed k) n = extended (2 ^ k / 2) n

abbrev pub means : Field → ℕ → Bool
means (Bits k) n = true
means (Only k m) n = meant m n
means (Signed k) n = true

-- the field's bits hold the number, and it has a meaning
unfoldable pub holds : Field → ℕ → Bool
holds (Bits k) n = ltb n (2 ^ k)
holds (Only k m) n = meant m n && ltb n (2 ^ k)
holds (Signed k) n = holds_signed (2 ^ k / 2) n

-- ALL FIELDS OF A COMMAND, from the high bits down.

abbrev pub total : List Field → ℕ
total [] = 0
total (f ∷ fs) = width f + total fs

-- what lies above these fields
abbrev pub above : List Field → ℕ → ℕ
above [] w = w
above (f ∷ fs) w = w / 2 ^ total (f ∷ fs)

-- the numbers of a word's fields
abbrev pub values : List Field → ℕ → List ℕ
values [] w = []
values (f ∷ fs) w = value f (above fs w % 2 ^ width f) ∷ values fs w

abbrev pub all_mean : List Field → List ℕ → Bool
all_mean [] ns = true
all_mean (f ∷ fs) [] = true
all_mean (f ∷ fs) (n ∷ ns) = means f n && all_mean fs ns

-- the numbers fit the fields; past the last field there are no bits, and 0 alone fits
abbrev pub fit : List Field → List ℕ → Bool
fit [] [] = true
fit [] (n ∷ ns) = holds (Bits 0) n && fit [] ns
fit (f ∷ fs) [] = false
fit (f ∷ fs) (n ∷ ns) = holds f n && fit fs ns

-- the numbers laid into the fields' bits
abbrev pub join : List Field → List ℕ → ℕ
join [] ns = 0
join (f ∷ fs) [] = 0
join (f ∷ fs) (n ∷ ns) = n % 2 ^ width f * 2 ^ total fs + join fs ns
