use Prim.Native.Nat.{◌-◌, ◌+◌, ◌≤◌}
use lib.ListN.{drop, take, length, length-drop}
use lib.Seq.{length-take-le, take_all}
use mathlib.Core.Path.{sym, ◌∙◌}
use native.Mathlib.Omega.{arith}
use Rattle.ring.proofs.Lending.{copied_tail, short-around, long-around}
use Rattle.ring.proofs.lay_around.Goals as goal

pub returns-then-words-before_end : goal.returns-then-words-before_end
returns-then-words-before_end c =
    let h : c.args.at + length c.args.words.now ≤ 4096 = omega (arith, c.requires, c.if-words-before_end.true) in
    copied_tail c.args.at 4096 c.args.ring.now c.args.words.now _ c.told-ring h c.copy.ensures
    ∙ sym (short-around _ _ _ c.told-ring h)

pub returns : goal.returns
returns c =
    let at = c.args.at in
    let words = c.args.words.now in
    let ring = c.args.ring.now in
    let n = length-take-le (4096 - at) words (omega (arith, c.if-words-before_end.false)) in
    let e = copied_tail at 4096 ring (take (4096 - at) words) _ c.told-ring (omega (arith, n, c.requires)) c.copy-2.ensures in
    rw (take_all (length words - (4096 - at)) (drop (4096 - at) words) (simp length-drop (omega arith))) at c.copy-3.ensures ∙ sym (long-around at words ring _ e)
