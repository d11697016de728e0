-- A picture, point by point: the pixel at (x, y) is a fold over the actions, and the bytes of a row and of a frame are lists built from it.
-- Document 01, 'Which pixels' and 'One pixel'; 'three bytes R G B a pixel and one tag byte in a second run'; 'the tag run starts at 0 as do
-- colour, alpha and stencil'.
use Rattle.std.specs.Prelude.{Bool, cond, List, [], ◌∷◌, ◌++◌, ℕ, zero, suc, ◌+◌, ◌-◌, ◌*◌, eqb, length, get_or, take, drop}
use Rattle.action.specs.declared.Action.{Action}
use Rattle.action.specs.declared.Drawing.{Drawing}
use Rattle.action.specs.declared.Drawing.TheVariants as d
use Rattle.action.specs.declared.ink.Masks.{Masks}
use Rattle.pixel.specs.declared.Pixel.{Pixel}
use Rattle.pixel.specs.Blend.{white}
use Rattle.pixel.specs.Pixel.{painted, cleared}
use Rattle.shape.specs.Cover.{outline_of, reaches}
use Rattle.texel.specs.Texel.{texel_at}
use Rattle.units.specs.declared.Pixels.{Pixels}
use Rattle.units.specs.Units.{pixel_at}

-- what a drawing makes of the pixel at column p and row q: 'Texel (white where no bitmap is drawn)'
unfoldable pub changed : List ℕ → Masks → Drawing → Pixels → Pixels → Pixel → Pixel
changed memory masks (d.Clear c) p q before = cleared c masks before
changed memory masks (d.Point point ink) p q before = painted ink masks white before
changed memory masks (d.Rectangle rectangle ink) p q before = painted ink masks white before
changed memory masks (d.Bitmap bitmap ink) p q before =
    painted ink masks (texel_at bitmap (p.0 - bitmap.area.left.0) (q.0 - bitmap.area.top.0) memory) before
changed memory masks (d.Segment segment ink) p q before = painted ink masks white before

-- 'Only pixels in both frame and scissor count.'
unfoldable pub drawn_at : List ℕ → Action → Pixels → Pixels → Pixel → Pixel
drawn_at memory a p q before =
    cond (reaches (outline_of a.drawing) a.scissor p q) (changed memory a.masks a.drawing p q before) before

unfoldable pub drawn_by : List ℕ → List Action → Pixels → Pixels → Pixel → Pixel
drawn_by memory [] p q before = before
drawn_by memory (a ∷ rest) p q before = drawn_by memory rest p q (drawn_at memory a p q before)

abbrev pub blank : Pixel
blank = record { red = 0; green = 0; blue = 0; alpha = 0; stencil = 0; tag = 0 }

-- THE PIXEL at column x and row y of the frame, after a list of actions over RAM_G
abbrev pub pixel_of : List ℕ → List Action → ℕ → ℕ → Pixel
pixel_of memory actions y x = drawn_by memory actions (pixel_at x) (pixel_at y) blank

-- the first `width` pixels of a row as bytes, R G B for each
unfoldable pub colours_of : (ℕ → Pixel) → ℕ → List ℕ
colours_of f zero = []
colours_of f (suc width) = colours_of f width ++ ((f width).red ∷ (f width).green ∷ (f width).blue ∷ [])

unfoldable pub tags_of : (ℕ → Pixel) → ℕ → List ℕ
tags_of f zero = []
tags_of f (suc width) = tags_of f width ++ ((f width).tag ∷ [])

-- A ROW: its picture and its tag bytes
abbrev pub row_colours : List ℕ → List Action → ℕ → ℕ → List ℕ
row_colours memory actions width y = colours_of (pixel_of memory actions y) width

abbrev pub row_tags : List ℕ → List Action → ℕ → ℕ → List ℕ
row_tags memory actions width y = tags_of (pixel_of memory actions y) width

-- rows one after another
unfoldable pub stacked : (ℕ → List ℕ) → ℕ → List ℕ
stacked row zero = []
stacked row (suc height) = stacked row height ++ row height

-- ROWS from `first` on, so many; a frame is its rows from 0 on
abbrev pub colours_from : List ℕ → List Action → ℕ → ℕ → ℕ → List ℕ
colours_from memory actions width first count = stacked (λ y. row_colours memory actions width (first + y)) count

abbrev pub tags_from : List ℕ → List Action → ℕ → ℕ → ℕ → List ℕ
tags_from memory actions width first count = stacked (λ y. row_tags memory actions width (first + y)) count

-- row y of a run whose rows are `wide` bytes each
abbrev pub row_in : List ℕ → ℕ → ℕ → List ℕ
row_in run wide y = take wide (drop (y * wide) run)

-- 'its mark is one byte, 1 or 0'
abbrev pub is_marked : List ℕ → ℕ → Bool
is_marked marks y = eqb (get_or marks y 0) 1

-- A FRAME OF WHICH SOME ROWS ARE PAINTED: the marked rows are these, every other row keeps its lent bytes. A mark for each row
unfoldable pub patched : List ℕ → (ℕ → List ℕ) → ℕ → List ℕ → List ℕ
patched marks row wide lent = stacked (λ y. cond (is_marked marks y) (row y) (row_in lent wide y)) (length marks)
