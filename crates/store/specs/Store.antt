-- Actions kept one after the other in two lists of numbers, a group of each for every action, and read back as they were.
-- Document 01, "One pixel", lists the values of an action; all of them are kept.
use Rattle.std.specs.Prelude.{◌≡◌, List, ℕ, ◌+◌, ◌*◌, ◌<◌, ◌≤◌, length, take, drop}
use Rattle.action.specs.declared.Action.{Action}
use Rattle.store.specs.Reading.{action_of, numbers_each, places_each}

-- there is room for the k-th action
abbrev pub Room : ℕ → List ℕ → List ℕ → Type 0
Room k numbers places = (numbers_each * k + numbers_each ≤ length numbers) × (places_each * k + places_each ≤ length places)

-- the k-th of the groups that are n long
abbrev pub group_of : ℕ → ℕ → List ℕ → List ℕ
group_of n k xs = take n (drop (n * k) xs)

-- the k-th action
unfoldable pub kept_at : List ℕ → List ℕ → ℕ → Action
kept_at numbers places k = action_of (group_of numbers_each k numbers) (group_of places_each k places)

-- an action was kept as the k-th, and those before it stayed
pub record Put (action : Action) (k : ℕ) (numbers places numbers' places' : List ℕ) : Type 0 where
  pub kept : kept_at numbers' places' k ≡ action
  pub others : (j : ℕ) → j < k → kept_at numbers' places' j ≡ kept_at numbers places j
  pub lengths : (length numbers' ≡ length numbers) × (length places' ≡ length places)
