-- Which rows a repaint marks. The third demand of the order: 'Repaint marks a row exactly when the drawing actions that reach that row, in order and with
-- the values they use, differ between the two lists.' Document 01, 'One pixel': 'They are compared by value, never by effect.' What becomes of the rows is
-- `patched` of the painter's definitions.
use Rattle.std.specs.Prelude.{◌≡◌, cond, List, [], ◌∷◌, ◌⊎◌, ℕ, zero, suc, ◌+◌, ◌<◌, length, get_or}
use Rattle.action.specs.declared.Action.{Action}
use Rattle.paint.specs.Picture.{is_marked}
use Rattle.shape.specs.Cover.{outline_of, reaches_row}
use Rattle.units.specs.Units.{pixel_at}

-- 'the drawing actions that reach that row, in order': those of a list of actions that reach row y of a frame of this width
unfoldable pub reaching : ℕ → ℕ → List Action → List Action
reaching width y [] = []
reaching width y (a ∷ rest) =
    cond (reaches_row (outline_of a.drawing) a.scissor width (pixel_at y)) (a ∷ reaching width y rest) (reaching width y rest)

-- a row's mark, where these are the actions that reach it: 1 exactly when they differ, and otherwise 0
abbrev pub Mark : ℕ → List Action → List Action → Type 0
Mark mark old new = ((mark ≡ 1) × (old ≡ new → ⊥)) ⊎ ((mark ≡ 0) × (old ≡ new))

-- a mark for each row of a frame of this width and height, where these are the two lists' actions
pub record Marks (old new : List Action) (width height : ℕ) (marks : List ℕ) : Type 0 where
  pub long : length marks ≡ height
  pub each : (y : ℕ) → y < height → Mark (get_or marks y 0) (reaching width y old) (reaching width y new)

-- how many of the first so many rows are marked
unfoldable pub marked : List ℕ → ℕ → ℕ
marked marks zero = 0
marked marks (suc height) = marked marks height + cond (is_marked marks height) 1 0
