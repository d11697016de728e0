-- The commands, in the order of document 01, 'Words and state': number, fields from the high bits down, name. The widths are those of
-- the guide's sections 4.4 to 4.51. A command's number is its top byte; VERTEX2F and VERTEX2II, which have two top bits only,
-- are 0x40 and 0x80.
use Rattle.std.specs.Prelude.{ℕ, cond, List, [], ◌∷◌, eqb, ℤ, get_or}
use Rattle.words.specs.declared.field.Field.{Field}
use Rattle.words.specs.declared.field.Field.TheVariants.{Bits, Only, Signed}
use Rattle.words.specs.declared.field.Meaning.TheVariants.{Function, StencilAction, BlendFactor, Primitive, Format, Frac, ScissorSide}
use Rattle.words.specs.declared.spelling.Spelling.{Spelling}
use Rattle.words.specs.declared.word.Word.{Word}
use Rattle.words.specs.declared.word.Word.TheVariants as v
use Rattle.words.specs.Fields.{int}

-- what makes a command of its fields' numbers: a signed field asks for an integer
abbrev pub Make : List Field → Type 0
Make [] = Word
Make (Bits k ∷ fs) = ℕ → Make fs
Make (Only k m ∷ fs) = ℕ → Make fs
Make (Signed k ∷ fs) = ℤ → Make fs

-- a command's number, its fields, and what makes it of them
pub data Row : Type 0 where
  row : ℕ → (fs : List Field) → Make fs → Row

-- The order of the colours, said here alone: red in the high byte, green in the middle one, blue in the low one
-- (docs/DECISIONS.md, 'The order of the colours').
abbrev pub colours : (ℕ → ℕ → ℕ → Word) → ℕ → ℕ → ℕ → Word
colours rgb high middle low = rgb high middle low

-- `Bits k` is a field of k bits, `Only k m` one whose numbers name an m, `Signed k` one in two's complement.
abbrev pub rows : List Row
rows =
    row 0x40 (Signed 15 ∷ Signed 15 ∷ []) v.Vertex2f ∷
    row 0x80 (Bits 9 ∷ Bits 9 ∷ Bits 5 ∷ Bits 7 ∷ []) v.Vertex2ii ∷
    row 0x00 [] v.Display ∷
    row 0x01 (Bits 22 ∷ []) v.BitmapSource ∷
    row 0x02 (Bits 8 ∷ Bits 8 ∷ Bits 8 ∷ []) (colours v.ClearColorRgb) ∷
    row 0x03 (Bits 8 ∷ []) v.Tag ∷
    row 0x04 (Bits 8 ∷ Bits 8 ∷ Bits 8 ∷ []) (colours v.ColorRgb) ∷
    row 0x05 (Bits 5 ∷ []) v.BitmapHandle ∷
    row 0x06 (Bits 7 ∷ []) v.Cell ∷
    row 0x07 (Only 5 Format ∷ Bits 10 ∷ Bits 9 ∷ []) v.BitmapLayout ∷
    row 0x08 (Bits 1 ∷ Bits 1 ∷ Bits 1 ∷ Bits 9 ∷ Bits 9 ∷ []) v.BitmapSize ∷
    row 0x09 (Only 3 Function ∷ Bits 8 ∷ []) v.AlphaFunc ∷
    row 0x0A (Only 4 Function ∷ Bits 8 ∷ Bits 8 ∷ []) v.StencilFunc ∷
    row 0x0B (Only 3 BlendFactor ∷ Only 3 BlendFactor ∷ []) v.BlendFunc ∷
    row 0x0C (Only 3 StencilAction ∷ Only 3 StencilAction ∷ []) v.StencilOp ∷
    row 0x0D (Bits 13 ∷ []) v.PointSize ∷
    row 0x0E (Bits 12 ∷ []) v.LineWidth ∷
    row 0x0F (Bits 8 ∷ []) v.ClearColorA ∷
    row 0x10 (Bits 8 ∷ []) v.ColorA ∷
    row 0x11 (Bits 8 ∷ []) v.ClearStencil ∷
    row 0x12 (Bits 8 ∷ []) v.ClearTag ∷
    row 0x13 (Bits 8 ∷ []) v.StencilMask ∷
    row 0x14 (Bits 1 ∷ []) v.TagMask ∷
    row 0x15 (Signed 17 ∷ []) v.BitmapTransformA ∷
    row 0x16 (Signed 17 ∷ []) v.BitmapTransformB ∷
    row 0x17 (Signed 24 ∷ []) v.BitmapTransformC ∷
    row 0x18 (Signed 17 ∷ []) v.BitmapTransformD ∷
    row 0x19 (Signed 17 ∷ []) v.BitmapTransformE ∷
    row 0x1A (Signed 24 ∷ []) v.BitmapTransformF ∷
    row 0x1B (Bits 11 ∷ Bits 11 ∷ []) v.ScissorXy ∷
    row 0x1C (Only 12 ScissorSide ∷ Only 12 ScissorSide ∷ []) v.ScissorSize ∷
    row 0x1D (Bits 16 ∷ []) v.Call ∷
    row 0x1E (Bits 16 ∷ []) v.Jump ∷
    row 0x1F (Only 4 Primitive ∷ []) v.Begin ∷
    row 0x20 (Bits 1 ∷ Bits 1 ∷ Bits 1 ∷ Bits 1 ∷ []) v.ColorMask ∷
    row 0x21 [] v.End ∷
    row 0x22 [] v.SaveContext ∷
    row 0x23 [] v.RestoreContext ∷
    row 0x24 [] v.Return ∷
    row 0x25 (Bits 1 ∷ []) v.Macro ∷
    row 0x26 (Bits 1 ∷ Bits 1 ∷ Bits 1 ∷ []) v.Clear ∷
    row 0x27 (Only 3 Frac ∷ []) v.VertexFormat ∷
    row 0x28 (Bits 2 ∷ Bits 2 ∷ []) v.BitmapLayoutH ∷
    row 0x29 (Bits 2 ∷ Bits 2 ∷ []) v.BitmapSizeH ∷
    row 0x2A (Bits 22 ∷ []) v.PaletteSource ∷
    row 0x2B (Signed 17 ∷ []) v.VertexTranslateX ∷
    row 0x2C (Signed 17 ∷ []) v.VertexTranslateY ∷
    row 0x2D [] v.Nop ∷
    []

pub data Found : Type 0 where
  none : Found
  some : Row → Found

abbrev pub find : ℕ → List Row → Found
find n [] = none
find n (row code fs make ∷ rs) = cond (eqb n code) (some (row code fs make)) (find n rs)

-- the row of a command's number
abbrev pub row_of : ℕ → Found
row_of n = find n rows

-- the command with these numbers in its fields
abbrev pub apply : (fs : List Field) → Make fs → List ℕ → Word
apply [] c ns = c
apply (Bits k ∷ fs) c [] = apply fs (c 0) []
apply (Bits k ∷ fs) c (n ∷ ns) = apply fs (c n) ns
apply (Only k m ∷ fs) c [] = apply fs (c 0) []
apply (Only k m ∷ fs) c (n ∷ ns) = apply fs (c n) ns
apply (Signed k ∷ fs) c [] = apply fs (c (int 0)) []
apply (Signed k ∷ fs) c (n ∷ ns) = apply fs (c (int n)) ns

-- a list's first five numbers, 0 where it has fewer
abbrev pub five : List ℕ → List ℕ
five ns = get_or ns 0 0 ∷ get_or ns 1 0 ∷ get_or ns 2 0 ∷ get_or ns 3 0 ∷ get_or ns 4 0 ∷ []

-- A SPELLING is a command as plain numbers: the command's number and five more, 0 for a field that the command does not have.
abbrev pub spelling : ℕ → List ℕ → Spelling
spelling code ns = record { command = code; numbers = five ns }

abbrev pub numbers : Spelling → List ℕ
numbers s = five s.numbers
