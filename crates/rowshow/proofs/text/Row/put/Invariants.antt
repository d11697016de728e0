use Rattle.arrayvec.specs.ArrayVec.{Extends}
use Rattle.rowshow.specs.Text.{pixels_after}
use Rattle.rowshow.proofs.text.Row.put.Given as goal

abbrev pub invariant-loop-k : goal.invariant-loop-k
invariant-loop-k l = Extends l.initial.text (pixels_after l.self.picture l.self.tags l.k) l.text
