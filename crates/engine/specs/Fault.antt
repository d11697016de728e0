-- Each fault's number. Document 01, 'Number table', the rows 10 and 13 to 19 (11 and 12 are a WordFault's, of words); wish 1 of document 02 adds 20.
use Rattle.std.specs.Prelude.{ℕ}
use Rattle.engine.specs.declared.fault.Fault.{Fault}
use Rattle.engine.specs.declared.fault.Fault.TheVariants as fault

abbrev pub fault_number : Fault → ℕ
fault_number fault.PastTheEnd = 10
fault_number fault.NotDrawn = 13
fault_number fault.CallsTooDeep = 14
fault_number fault.NothingToReturnTo = 15
fault_number fault.NotAWord = 16
fault_number fault.NothingBegun = 17
fault_number fault.Undrawable = 18
fault_number fault.LimitReached = 19
fault_number fault.EndTooFar = 20
