-- How the code keeps a row of the table, packs a word and cuts it apart. The meaning of a word does not rest on this page.
use Rattle.std.specs.Prelude.{ℕ, ◌+◌, ◌-◌, ◌*◌, ◌/◌, ◌%◌, ◌^◌, ◌≤◌, ◌<◌, Bool, true, ◌&&◌, List, [], ◌∷◌, ◌≡◌, leb, length, replicate, ◌++◌, Option, Some, None}
use Rattle.words.specs.declared.field.Field.{Field}
use Rattle.words.specs.declared.field.Field.TheVariants.{Bits, Only, Signed}
use Rattle.words.specs.declared.telling.Piece.{Piece}
use Rattle.words.specs.declared.writing.Packed.{Packed}
use Rattle.words.specs.Fields.{width, value, total}
use Rattle.words.specs.Table.{row, Found, none, some}

-- a command's fields as the code keeps them: five, the last ones of no bits where the command has fewer
abbrev pub filled : List Field → List Field
filled fs = fs ++ replicate (5 - length fs) (Bits 0)

abbrev pub layout_of : Found → Option (List Field)
layout_of none = None
layout_of (some (row code fs make)) = Some (filled fs)

-- PACKING.

-- there is room for a field above the bits that are packed already
pub record Room (low : Packed) (f : Field) : Type 0 where
  pub below : low.bits < 2 ^ low.used
  pub enough : width f + low.used ≤ 30

-- the number n laid into that field
pub record Laid (low : Packed) (f : Field) (n : ℕ) (r : Packed) : Type 0 where
  pub bits : r.bits ≡ n % 2 ^ width f * 2 ^ low.used + low.bits
  pub used : r.used ≡ width f + low.used
  pub below : r.bits < 2 ^ r.used

-- CUTTING APART.

-- a signed field has a bit for the sign
abbrev pub signs : Field → Bool
signs (Bits k) = true
signs (Only k m) = true
signs (Signed k) = leb 1 k

abbrev pub all_signs : List Field → Bool
all_signs [] = true
all_signs (f ∷ fs) = signs f && all_signs fs

-- fields that can be cut out of a word
pub record Cuttable (fs : List Field) : Type 0 where
  pub narrow : total fs ≤ 30
  pub signed : all_signs fs ≡ true

-- one of them, above `low` bits
pub record Inside (f : Field) (low : ℕ) : Type 0 where
  pub enough : width f + low ≤ 30
  pub signed : signs f ≡ true

-- n may stand in the bits of such a field
pub record Digit (f : Field) (n : ℕ) : Type 0 where
  pub narrow : width f ≤ 30
  pub signed : signs f ≡ true
  pub below : n < 2 ^ width f

-- the number of that field in the word w
pub record Apart (w : ℕ) (f : Field) (low : ℕ) (r : Piece) : Type 0 where
  pub number : r.number ≡ value f (w / 2 ^ low % 2 ^ width f)
  pub used : r.used ≡ width f + low
