use mathlib.Core.Path.{◌≡◌}
use Prim.Native.Nat.{ℕ, ◌/◌, ◌<◌}
use mathlib.Core.List.{List}
use Rattle.action.specs.declared.shape.Bitmap.{Bitmap}
use Rattle.texel.specs.Texel.{pixel_bytes, colour_at, position, texel_at}
use Rattle.texel.proofs.Laws.{past-height, past-stride, is-inside}
use Rattle.texel.proofs.texel.Goals as goal

-- a column inside the stride, in a line of the layout
inside :
    (b : Bitmap) (column line columns : ℕ) (memory : List ℕ) → line < b.height → columns ≡ b.stride / pixel_bytes b.format → column < columns →
    texel_at b column line memory ≡ colour_at b.format memory (position b column line)
inside b column line columns memory h e w = is-inside b column line memory h (rw (← e) w)

pub returns-then-height-line : goal.returns-then-height-line
returns-then-height-line c =
    let s = c.args in
    rw (past-height s.bitmap s.column s.line s.memory.now c.if-height-line.true) c.none.ensures

pub returns-then-columns-column : goal.returns-then-columns-column
returns-then-columns-column c =
    let s = c.args in
    rw (past-stride s.bitmap s.column s.line s.memory.now c.if-height-line.false (rw (← c.columns.ensures) c.if-columns-column.true))
    c.none-then-columns-column.ensures

pub returns-in-Argb1555 : goal.returns-in-Argb1555
returns-in-Argb1555 c =
    rw (inside c.args.bitmap c.args.column c.args.line _ c.args.memory.now c.if-height-line.false c.columns.ensures c.if-columns-column.false, c.argb1555.ensures, c.pair.ensures, c.byte-in-Argb1555.ensures, c.byte.ensures, c.bytes.ensures, c.in-Argb1555.is)

pub returns-in-L8 : goal.returns-in-L8
returns-in-L8 c =
    rw (inside c.args.bitmap c.args.column c.args.line _ c.args.memory.now c.if-height-line.false c.columns.ensures c.if-columns-column.false, c.l8.ensures, c.byte-in-L8.ensures, c.bytes.ensures, c.in-L8.is)

pub returns-in-Rgb565 : goal.returns-in-Rgb565
returns-in-Rgb565 c =
    rw (inside c.args.bitmap c.args.column c.args.line _ c.args.memory.now c.if-height-line.false c.columns.ensures c.if-columns-column.false, c.rgb565.ensures, c.pair-in-Rgb565.ensures, c.byte-in-Rgb565-2.ensures, c.byte-in-Rgb565.ensures, c.bytes.ensures, c.in-Rgb565.is)
