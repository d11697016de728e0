-- Contracts between functions: what a command that works on one run says of that run alone, whatever the others hold.
use Rattle.std.specs.Prelude.{◌≡◌, Bool, false, List, ℕ, Result, Ok, Err, ⊤}
use Rattle.ring.specs.declared.command.Fault.{Fault}
use Rattle.ring.specs.Command.{Outcome, lent, came, stored, listed, appended}

-- taken, with the list offset after it, unless there was a fault
abbrev pub moving : Result ℕ Fault → Outcome
moving (Ok offset) = Ok (record { offset = offset; swaps = false })
moving (Err why) = Err why

-- taken, with the list offset as it was
abbrev pub staying : ℕ → Result ⊤ Fault → Outcome
staying offset (Ok done) = Ok (record { offset = offset; swaps = false })
staying offset (Err why) = Err why

abbrev pub Stores : Bool → ℕ → List ℕ → List ℕ → Result ⊤ Fault → List ℕ → Type 0
Stores fits at new memory result memory' =
    (list shown : List ℕ) (offset : ℕ) →
    stored fits at new offset (lent list shown memory) ≡ came (staying offset result) (lent list shown memory')

abbrev pub Lists : List ℕ → ℕ → List ℕ → Result ℕ Fault → List ℕ → Type 0
Lists new offset list result list' =
    (shown memory : List ℕ) → listed new offset (lent list shown memory) ≡ came (moving result) (lent list' shown memory)

abbrev pub Appends : ℕ → ℕ → ℕ → List ℕ → List ℕ → Result ℕ Fault → List ℕ → Type 0
Appends at count offset memory list result list' =
    (shown : List ℕ) → appended at count offset (lent list shown memory) ≡ came (moving result) (lent list' shown memory)
