-- What a call on one list answers, and jv_check. Document 01, 'Number table': '1 to 4 are tested in that order', then the run; '0 to 4 carry
-- offset 0, and 1 to 4 count 0'. It names no list: only repaint does.
use Rattle.std.specs.Prelude.{◌≡◌, ⊤, Bool, true, cond, Result, Ok, Err, ◌&&◌, List, ℕ, zero, suc, ◌%◌, eqb, leb, length}
use Rattle.engine.specs.Run.{Ran, ending_of, number_told, place_told, run_of, most_list, most_memory}
use Rattle.engine.specs.declared.running.Ending.{Ending}
use Rattle.units.specs.Units.{tallest, widest}
use Rattle.jokulvisp.specs.declared.check.JvAnswer.{JvAnswer}
use Rattle.jokulvisp.specs.declared.check.Refusal.{Refusal}
use Rattle.jokulvisp.specs.declared.check.Refusal.TheVariants as why

-- THE LIMITS, document 01, 'The first build': 'Frame 1..800 wide, 1..600 high', 'List: 4..8,192 bytes, a multiple of 4', 'RAM_G: 0..1,048,576
-- bytes', 'Step limit 1..65,536'
abbrev pub from_to : ℕ → ℕ → ℕ → Bool
from_to low high n = leb low n && leb n high

unfoldable pub is_frame : ℕ → ℕ → Bool
is_frame width height = from_to 1 widest width && from_to 1 tallest height

unfoldable pub is_list : ℕ → Bool
is_list n = from_to 4 most_list n && eqb (n % 4) 0

unfoldable pub is_memory : ℕ → Bool
is_memory n = leb n most_memory

unfoldable pub is_limit : ℕ → Bool
is_limit n = from_to 1 65536 n

-- the number of the first limit that is broken, and 0 where none is. Number 1 has a second half: `lent` says whether the rows asked for are
-- the frame's, and the runs lent for them of their length
unfoldable pub refusal_of : ℕ → ℕ → ℕ → ℕ → ℕ → Bool → ℕ
refusal_of list memory width height limit lent =
    cond (is_frame width height && lent) (cond (is_list list) (cond (is_memory memory) (cond (is_limit limit) 0 4) 3) 2) 1

-- the number of each
abbrev pub refusal_number : Refusal → ℕ
refusal_number why.Frame = 1
refusal_number why.List = 2
refusal_number why.Memory = 3
refusal_number why.Limit = 4

-- no limit is broken, or this one is the first
abbrev pub Admits : ℕ → ℕ → ℕ → ℕ → ℕ → Bool → Result ⊤ Refusal → Type 0
Admits list memory width height limit lent (Ok done) = refusal_of list memory width height limit lent ≡ 0
Admits list memory width height limit lent (Err refusal) = refusal_of list memory width height limit lent ≡ refusal_number refusal

-- THE ANSWER. A limit that is broken, with the list that it is about
abbrev pub refused_for : ℕ → ℕ → JvAnswer
refused_for list number = record { number = number; list = list; place = 0; count = 0 }

abbrev pub refused : ℕ → JvAnswer
refused number = refused_for 0 number

-- how the run of a list ended
abbrev pub ended : ℕ → Ending → JvAnswer
ended list ending = record { number = number_told ending.stop; list = list; place = place_told ending.stop; count = ending.count }

abbrev pub answer_of_run : Ran → JvAnswer
answer_of_run r = ended 0 (ending_of r)

-- a limit that is broken, by its number; with 0, none is, and the list is run
abbrev pub unless_refused : ℕ → Ran → JvAnswer
unless_refused zero r = answer_of_run r
unless_refused (suc n) r = refused (suc n)

unfoldable pub answer_of : List ℕ → ℕ → ℕ → ℕ → ℕ → Bool → JvAnswer
answer_of list memory width height limit lent =
    unless_refused (refusal_of (length list) memory width height limit lent) (run_of list memory limit)

-- jv_check, for every list, every length of RAM_G, every size and every limit. It is lent nothing to paint on
unfoldable pub CheckAnswer : List ℕ → ℕ → ℕ → ℕ → ℕ → JvAnswer → Type 0
CheckAnswer list memory width height limit answer = answer ≡ answer_of list memory width height limit true
