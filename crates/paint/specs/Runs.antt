-- One row as four runs of bytes, its picture and its tags and the two work rows, and how a function changes them. No
-- sentence of document 01 stands behind these contracts: they lead from the bytes to the pixels that Picture speaks of.
use Rattle.std.specs.Prelude.{Bool, cond, List, Option, Some, None, ◌⊎◌, ◌≡◌, ℕ, ◌+◌, ◌-◌, ◌*◌, ◌<◌, ◌≤◌, length, get_or}
use Rattle.std.specs.Option.{ForSome}
use Rattle.action.specs.declared.Action.{Action}
use Rattle.action.specs.declared.Drawing.{Drawing}
use Rattle.action.specs.declared.shape.Bitmap.{Bitmap}
use Rattle.action.specs.declared.ink.Colour.{Colour}
use Rattle.action.specs.declared.ink.Ink.{Ink}
use Rattle.action.specs.declared.ink.Masks.{Masks}
use Rattle.pixel.specs.Blend.{white}
use Rattle.pixel.specs.Pixel.{painted}
use Rattle.pixel.specs.Plain.{PlainBy}
use Rattle.pixel.specs.declared.Pixel.{Pixel}
use Rattle.pixel.specs.declared.plain.Plain.{Plain}
use Rattle.texel.specs.Texel.{texel_at}
use Rattle.units.specs.Units.{pixel_at, widest}
use Rattle.units.specs.declared.Pixels.{Pixels}
use Rattle.paint.specs.Picture.{blank, changed, drawn_at, drawn_by, row_colours, row_in, row_tags, stacked}
use Rattle.paint.specs.declared.row.Row.{Row}
use Rattle.paint.specs.declared.kept.Kept.{Kept}
use Rattle.paint.specs.Actions.{Gathers}

-- 'three bytes R G B a pixel and one tag byte in a second run. Work rows hold alpha and stencil'
unfoldable pub pixel_in : List ℕ → List ℕ → List ℕ → List ℕ → ℕ → Pixel
pixel_in picture tags alpha stencil x =
    record {
      red = get_or picture (3 * x) 0;
      green = get_or picture (3 * x + 1) 0;
      blue = get_or picture (3 * x + 2) 0;
      alpha = get_or alpha x 0;
      stencil = get_or stencil x 0;
      tag = get_or tags x 0;
    }

abbrev pub pixels : Row → ℕ → Pixel
pixels row = pixel_in row.colours row.tags row.alpha row.stencil

-- a row as it is made
abbrev pub Blank : Row → Type 0
Blank row = (x : ℕ) → pixels row x ≡ blank

-- 'started at zero for every row'
abbrev pub BlankUpTo : ℕ → Row → Type 0
BlankUpTo width row = (x : ℕ) → x < width → pixels row x ≡ blank

-- the runs of so many rows of this width, which is one that a frame may have
abbrev pub HoldRows : ℕ → ℕ → List ℕ → List ℕ → Type 0
HoldRows width count picture tags =
    (width ≤ widest) × ((length picture ≡ count * (3 * width)) × (length tags ≡ count * width))

-- what is called for a row tells whether it is wanted
abbrev pub Tells : (ℕ → Bool → Type 0) → ℕ → (ℕ → Bool) → Type 0
Tells post count wanted = (y : ℕ) (told : Bool) → y < count → post y told → told ≡ wanted y

-- so many rows, of which those that are wanted are these and every other keeps its lent bytes
abbrev pub wanted_rows : (ℕ → Bool) → (ℕ → List ℕ) → ℕ → ℕ → List ℕ → List ℕ
wanted_rows wanted row wide count lent = stacked (λ y. cond (wanted y) (row y) (row_in lent wide y)) count

-- of so many rows from the first on those that are wanted are painted, and every other keeps its lent bytes
abbrev pub Paints : (ℕ → Bool → Type 0) → List ℕ → List Action → ℕ → ℕ → ℕ → List ℕ → List ℕ → List ℕ → List ℕ → Type 0
Paints post memory actions width first count picture tags picture' tags' =
    (wanted : ℕ → Bool) → Tells post count wanted →
    (picture' ≡ wanted_rows wanted (λ y. row_colours memory actions width (first + y)) (3 * width) count picture)
    × (tags' ≡ wanted_rows wanted (λ y. row_tags memory actions width (first + y)) width count tags)

-- pixel x, and no other, is as the step makes it
pub record Touched (x : ℕ) (step : Pixel → Pixel) (old now : ℕ → Pixel) : Type 0 where
  pub at : now x ≡ step (old x)
  pub other : (k : ℕ) → (k ≡ x → ⊥) → now k ≡ old k

-- the pixels from the one up to the other, and no others, are as the step makes them
pub record Swept (from to : ℕ) (step : ℕ → Pixel → Pixel) (old now : ℕ → Pixel) : Type 0 where
  pub inside : (k : ℕ) → from ≤ k → k < to → now k ≡ step k (old k)
  pub outside : (k : ℕ) → (k < from) ⊎ (to ≤ k) → now k ≡ old k

-- what a drawing makes of a pixel of row q
abbrev pub change : List ℕ → Masks → Drawing → Pixels → ℕ → Pixel → Pixel
change memory masks drawing q x before = changed memory masks drawing (pixel_at x) q before

-- what is called at a column with the pixel before gives what this step does
abbrev pub Does : (Pixels → Pixel → Pixel → Type 0) → (ℕ → Pixel → Pixel) → Type 0
Does post step = (x : ℕ) (before after : Pixel) → post (pixel_at x) before after → after ≡ step x before

-- the texel of column p and row q, white where no bitmap is drawn, and what an ink makes of a pixel of row q with it
unfoldable pub texel_in : Option Bitmap → List ℕ → Pixels → Pixels → Colour
texel_in None memory p q = white
texel_in (Some bitmap) memory p q = texel_at bitmap (p.0 - bitmap.area.left.0) (q.0 - bitmap.area.top.0) memory

abbrev pub inked : List ℕ → Ink → Masks → Option Bitmap → Pixels → ℕ → Pixel → Pixel
inked memory ink masks bitmap q x before = painted ink masks (texel_in bitmap memory (pixel_at x) q) before

-- a drawing that does the same to every pixel that it covers
abbrev pub PlainDrawing : Masks → Drawing → Plain → Type 0
PlainDrawing masks drawing plain = (memory : List ℕ) (p q : Pixels) → PlainBy (changed memory masks drawing p q) plain

-- row q after one action more, and after a list of them
abbrev pub Drawn : List ℕ → Action → ℕ → Pixels → (ℕ → Pixel) → (ℕ → Pixel) → Type 0
Drawn memory action width q old now = (x : ℕ) → x < width → now x ≡ drawn_at memory action (pixel_at x) q (old x)

abbrev pub DrawnAll : List ℕ → List Action → ℕ → Pixels → (ℕ → Pixel) → (ℕ → Pixel) → Type 0
DrawnAll memory actions width q old now = (x : ℕ) → x < width → now x ≡ drawn_by memory actions (pixel_at x) q (old x)

-- what a painter holds: a width that a frame may have, and the actions of the list, if they are kept
abbrev pub Ready : List Action → ℕ → Option Kept → Type 0
Ready actions width kept = (width ≤ widest) × ForSome kept (Gathers actions)
