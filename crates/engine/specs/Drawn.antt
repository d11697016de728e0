-- What is drawn; the rest that has a meaning gives 13. Document 01, 'The first build': 'Primitives: BITMAPS, POINTS, RECTS. Formats: L8 (3), RGB565 (7),
-- ARGB1555 (0). Not drawn yet: .. filter 1, wrap 1.', and wish 1 of document 02, of lines: '13 no longer covers primitives 3 and 4'.
use Rattle.std.specs.Prelude.{Bool, cond, ◌&&◌, ◌||◌, Option, Some, None, ℕ, eqb}
use Rattle.engine.specs.declared.drawn.Primitive.{Primitive}
use Rattle.engine.specs.declared.drawn.Primitive.TheVariants as p

unfoldable pub drawn_format : ℕ → Bool
drawn_format n = eqb n 0 || eqb n 3 || eqb n 7

unfoldable pub drawn_size : ℕ → ℕ → ℕ → Bool
drawn_size filter wrapx wrapy = eqb filter 0 && eqb wrapx 0 && eqb wrapy 0

unfoldable pub drawn_primitive : ℕ → Option Primitive
drawn_primitive n =
    cond (eqb n 1) (Some p.Bitmaps)
    (cond (eqb n 2) (Some p.Points)
    (cond (eqb n 3) (Some p.Lines)
    (cond (eqb n 4) (Some p.LineStrip)
    (cond (eqb n 9) (Some p.Rects)
    None))))
