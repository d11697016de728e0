use Rattle.std.proofs.Common.{take}
use Rattle.arrayvec.specs.ArrayVec.{Extends}
use Rattle.rowshow.proofs.text.put_word.Given as goal

abbrev pub invariant-loop-byte : goal.invariant-loop-byte
invariant-loop-byte l = Extends l.initial.text (take l.byte-index l.word) l.text
