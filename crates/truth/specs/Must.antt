-- A test that must be passed. Document 01 gives its numbers in an order: the first test that is not passed decides, and those after it are not asked.
use Rattle.std.specs.Prelude.{Bool, cond}

-- further on where the test is passed, or else this refusal
abbrev pub must : {A : Type 0} → Bool → A → A → A
must passed refusal further = cond passed further refusal
