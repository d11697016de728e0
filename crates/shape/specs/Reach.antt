-- The rows that an action can reach. No sentence of document 01 stands behind this contract: it says which rows need not be asked about.
use Rattle.std.specs.Prelude.{true, ◌≡◌, ℕ, ◌<◌, ◌≤◌}
use Rattle.units.specs.Units.{pixel_at, tallest, widest}
use Rattle.action.specs.declared.Action.{Action}
use Rattle.shape.specs.Cover.{outline_of, reaches}

-- the action reaches no row of a frame outside of the band
abbrev pub Bands : Action → ℕ → ℕ → Type 0
Bands action top bottom =
    (x y : ℕ) → x < widest → y < tallest → reaches (outline_of action.drawing) action.scissor (pixel_at x) (pixel_at y) ≡ true → (top ≤ y) × (y < bottom)
