-- When two actions are the same. Document 01, "One pixel", lists an action's values and says that they are compared by value, never by effect.
-- An action's struct holds these values and no other, so to be the same is to be equal; an area holds a top left pixel and a drawn size as where they end.
use Rattle.std.specs.Prelude.{◌≡◌, Bool, true}

-- the answer is true exactly when P holds
pub record Tells (answer : Bool) (P : Type 0) : Type 0 where
  pub holds : answer ≡ true → P
  pub told : P → answer ≡ true
