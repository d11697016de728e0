-- Two lists gone through side by side, and how a row stands meanwhile. No sentence of document 01 stands behind these contracts: they say that what is
-- passed of both lists tells nothing of a row that stands beside, so that what is left of them settles what Repaint defines.
use Rattle.std.specs.Prelude.{Bool, true, false, not, Option, Some, None, is_some, cond, ◌&&◌, ◌||◌, List, [], ◌∷◌, ◌⊎◌, ◌≡◌, ℕ, ◌<◌, ◌≤◌, leb, length, get_or}
use Rattle.action.specs.declared.Action.{Action}
use Rattle.shape.specs.Cover.{outline_of, reaches_row}
use Rattle.units.specs.Units.{pixel_at, tallest, widest}
use Rattle.repaint.specs.Repaint.{reaching}
use Rattle.repaint.specs.declared.compare.Pace.{Pace}

abbrev pub reaches_at : Action → ℕ → ℕ → Bool
reaches_at a width y = reaches_row (outline_of a.drawing) a.scissor width (pixel_at y)

-- the same actions reach row y, in the same order
abbrev pub Alike : ℕ → ℕ → List Action → List Action → Type 0
Alike width y old new = reaching width y old ≡ reaching width y new

-- WHAT A RUN CAME TO: an action, or the end. What is left of its actions where it goes on, and where it does not
unfoldable pub with_rest : Option Action → List Action → List Action
with_rest (Some a) rest = a ∷ rest
with_rest None rest = []

unfoldable pub passed : Bool → Option Action → List Action → List Action
passed true find rest = rest
passed false find rest = with_rest find rest

-- it tells something of row y
unfoldable pub meets_row : Option Action → ℕ → ℕ → Bool
meets_row (Some a) width y = reaches_at a width y
meets_row None width y = true

-- and of no row of a frame outside of these
abbrev pub Bounded : Option Action → ℕ → ℕ → Type 0
Bounded find top bottom = (width y : ℕ) → width ≤ widest → y < tallest → meets_row find width y ≡ true → (top ≤ y) × (y < bottom)

-- HOW A ROW STANDS: 0 and 1 are its marks, 2 leaves it for later; where it stands beside, what has been passed of both lists is alike
abbrev pub later : ℕ
later = 2

abbrev pub beside : ℕ
beside = 3

pub record Stands (old new : List Action) (width y : ℕ) (p q : List Action) (m : ℕ) : Type 0 where
  pub known : m ≤ beside
  pub alike : m ≡ 0 → Alike width y old new
  pub differs : m ≡ 1 → Alike width y old new → ⊥
  pub onwards : m ≡ beside → Alike width y old new → Alike width y p q
  pub back : m ≡ beside → Alike width y p q → Alike width y old new

abbrev pub AllStand : List Action → List Action → ℕ → List Action → List Action → List ℕ → Type 0
AllStand old new width p q marks = (y : ℕ) → y < length marks → Stands old new width y p q (get_or marks y 0)

-- A list goes on unless it tells something of row y. Where both could, the one does that has more ahead.
unfoldable pub pace_of : Option Action → Option Action → ℕ → ℕ → ℕ → ℕ → Pace
pace_of old new old_ahead new_ahead width y =
    record {
      old = not (meets_row old width y) && (meets_row new width y || leb new_ahead old_ahead);
      new = not (meets_row new width y) && (meets_row old width y || leb old_ahead new_ahead);
    }

-- what becomes of a row of which the two lists tell so much
unfoldable pub standing : Bool → Bool → Pace → ℕ
standing old new pace = cond (old && new) 1 (cond ((old && pace.old) || (new && pace.new)) later beside)

-- outside of these rows it stands beside as before
abbrev pub Touches : Option Action → Option Action → Pace → ℕ → ℕ → Type 0
Touches old new pace top bottom =
    (width y : ℕ) → width ≤ widest → y < tallest → (y < top) ⊎ (bottom ≤ y) → standing (meets_row old width y) (meets_row new width y) pace ≡ beside

pub record Stood (width : ℕ) (old new : Option Action) (pace : Pace) (marks marks' : List ℕ) : Type 0 where
  pub moved :
      (y : ℕ) → y < length marks → get_or marks y 0 ≡ beside → get_or marks' y 0 ≡ standing (meets_row old width y) (meets_row new width y) pace
  pub others : (y : ℕ) → y < length marks → (get_or marks y 0 ≡ beside → ⊥) → get_or marks' y 0 ≡ get_or marks y 0

pub record Turns (was now : ℕ) (marks marks' : List ℕ) : Type 0 where
  pub turned : (y : ℕ) → y < length marks → get_or marks y 0 ≡ was → get_or marks' y 0 ≡ now
  pub others : (y : ℕ) → y < length marks → (get_or marks y 0 ≡ was → ⊥) → get_or marks' y 0 ≡ get_or marks y 0

-- one step, for a row
pub record Passes (width y : ℕ) (old new : Option Action) (pace : Pace) (m m' : ℕ) : Type 0 where
  pub others : (m ≡ beside → ⊥) → m' ≡ m
  pub known : m ≡ beside → m' ≤ beside
  pub alike : m ≡ beside → m' ≡ 0 → (p q : List Action) → Alike width y (with_rest old p) (with_rest new q)
  pub differs : m ≡ beside → m' ≡ 1 → (p q : List Action) → Alike width y (with_rest old p) (with_rest new q) → ⊥
  pub onwards :
      m ≡ beside → m' ≡ beside → (p q : List Action) →
      Alike width y (with_rest old p) (with_rest new q) → Alike width y (passed pace.old old p) (passed pace.new new q)
  pub back :
      m ≡ beside → m' ≡ beside → (p q : List Action) →
      Alike width y (passed pace.old old p) (passed pace.new new q) → Alike width y (with_rest old p) (with_rest new q)

-- and for all of them. A list goes on, or row y is settled; it is not left for later
pub record Compares (width y : ℕ) (old new : Option Action) (pace : Pace) (marks marks' : List ℕ) : Type 0 where
  pub old_drawn : pace.old ≡ true → is_some old ≡ true
  pub new_drawn : pace.new ≡ true → is_some new ≡ true
  pub rows : (k : ℕ) → k < length marks → Passes width k old new pace (get_or marks k 0) (get_or marks' k 0)
  pub kept : get_or marks' y 0 ≡ later → ⊥
  pub moves : (pace.old || pace.new ≡ true) ⊎ (get_or marks' y 0 ≡ beside → ⊥)

-- THE MARKS. The first row from y on that stands so, or the number of rows
pub record Seeks (marks : List ℕ) (y stand row : ℕ) : Type 0 where
  pub from : y ≤ row
  pub to : row ≤ length marks
  pub before : (k : ℕ) → y ≤ k → k < row → get_or marks k 0 ≡ stand → ⊥
  pub at : row < length marks → get_or marks row 0 ≡ stand

-- each row that stood beside is settled, unless it is left for later; row y is not
pub record Walks (old new : List Action) (width y : ℕ) (marks marks' : List ℕ) : Type 0 where
  pub stand : AllStand old new width old new marks'
  pub none : (k : ℕ) → k < length marks → get_or marks' k 0 ≡ beside → ⊥
  pub others : (k : ℕ) → k < length marks → (get_or marks k 0 ≡ beside → ⊥) → get_or marks' k 0 ≡ get_or marks k 0
  pub kept : get_or marks' y 0 ≡ later → ⊥

-- where a walk begins
pub record Begins (old new : List Action) (width y : ℕ) (marks : List ℕ) : Type 0 where
  pub within : y < length marks
  pub at : get_or marks y 0 ≡ beside
  pub before : (k : ℕ) → k < y → get_or marks k 0 ≡ beside → ⊥
  pub stand : AllStand old new width old new marks
