-- The rows that an action can reach, and the numbers that they are kept as.
use mathlib.Core.Bool.{false, ◌&&◌}
use mathlib.Core.List.{List}
use mathlib.Core.Path.{◌≡◌, sym, ◌∙◌}
use Prim.Native.Nat.{ℕ, ◌<◌}
use lib.Dec.{leb, ltb}
use borrow.Author.Tests.{le-leb, lt-ltb}
use Rattle.truth.proofs.Bools.{never, not_so}
use Rattle.action.specs.declared.Action.{Action}
use Rattle.pixel.specs.declared.Pixel.{Pixel}
use Rattle.shape.specs.Cover.{outline_of, reaches}
use Rattle.shape.specs.Reach.{Bands}
use Rattle.units.specs.Units.{pixel_at, tallest, widest}
use Rattle.paint.specs.Picture.{drawn_at}

-- an action leaves the rows outside of its band as they are
pub drawn-outside :
    (memory : List ℕ) (action : Action) (top bottom x y : ℕ) → Bands action top bottom → (leb top y && ltb y bottom) ≡ false → x < widest → y < tallest →
    (p : Pixel) → p ≡ drawn_at memory action (pixel_at x) (pixel_at y) p
unfolding drawn_at
drawn-outside memory action top bottom x y bands off hx hy p = rw unreached
  where
    unreached : reaches (outline_of action.drawing) action.scissor (pixel_at x) (pixel_at y) ≡ false
    unreached =
        not_so _
        (λ e.
        let b = bands x y hx hy e in
        never (sym off ∙ rw (le-leb top y b.0, lt-ltb y bottom b.1)))
