-- The drawing actions of a list as the painter keeps them. No sentence of document 01 stands behind these contracts:
-- they say that the actions read back are those of the run.
use Rattle.std.specs.Prelude.{List, [], ◌∷◌, ◌++◌, ◌≡◌, ℕ, zero, suc, ◌<◌, ◌≤◌, get_or}
use Rattle.std.specs.Option.{ForSome}
use Rattle.action.specs.declared.Action.{Action}
use Rattle.shape.specs.Reach.{Bands}
use Rattle.shape.specs.declared.Rows.{Rows}
use Rattle.store.specs.Store.{kept_at}
use Rattle.paint.specs.declared.kept.Kept.{Kept}

-- how many actions there is room for
abbrev pub most_kept : ℕ
most_kept = 1024

-- the first so many actions that are kept
unfoldable pub kept_up_to : List ℕ → List ℕ → ℕ → List Action
kept_up_to numbers places zero = []
kept_up_to numbers places (suc n) = kept_up_to numbers places n ++ (kept_at numbers places n ∷ [])

-- the k-th kept action has its band in the k-th place
abbrev pub band_at : List (Rows ℕ) → ℕ → Rows ℕ
band_at bands k = get_or bands k (record { top = 0; bottom = 0 })

abbrev pub BandAt : List ℕ → List ℕ → List (Rows ℕ) → ℕ → Type 0
BandAt numbers places bands k = Bands (kept_at numbers places k) (band_at bands k).top (band_at bands k).bottom

abbrev pub AllBands : List ℕ → List ℕ → List (Rows ℕ) → ℕ → Type 0
AllBands numbers places bands count = (k : ℕ) → k < count → BandAt numbers places bands k

-- an action is kept as the k-th with its band, and those before it stay
pub record Keeps (action : Action) (k : ℕ) (old now : Kept) : Type 0 where
  pub kept : kept_at now.numbers now.places k ≡ action
  pub others : (j : ℕ) → j < k → kept_at now.numbers now.places j ≡ kept_at old.numbers old.places j
  pub banded : BandAt now.numbers now.places now.bands k
  pub other_bands : (j : ℕ) → j < k → band_at now.bands j ≡ band_at old.bands j

-- those that are kept are all actions of the list
pub record KeepsAll (actions : List Action) (kept : Kept) (count : ℕ) : Type 0 where
  pub whole : actions ≡ kept_up_to kept.numbers kept.places count
  pub banded : AllBands kept.numbers kept.places kept.bands count
  pub room : count ≤ most_kept

-- the same where there was room for all
abbrev pub Gathers : List Action → Kept → Type 0
Gathers actions kept = ForSome kept.count (KeepsAll actions kept)
