use Rattle.ring.proofs.Lending.{copied-part}
use Rattle.ring.proofs.Steps.{inside}
use mathlib.Core.Path.{ap, refl, sym, ◌∙◌}
use mathlib.Core.List.{List}
use Prim.Native.Nat.{ℕ, ◌+◌, ◌≤◌}
use native.Mathlib.Omega.{arith}
use borrow.Author.Tests.{le-leb, lt-leb}
use Rattle.runs.proofs.Laws.{part-long}
use Rattle.ring.specs.Command.{appended, lent, listed, taken}
use Rattle.truth.proofs.Bools.{both-alike, both_true}
use Rattle.ring.proofs.command.append.Goals as goal

pub returns-then-offset-count : goal.returns-then-offset-count
unfolding appended listed
returns-then-offset-count c =
    let a = c.args in
    let f = sym (both-alike c.is_inside.ensures refl) ∙ c.if-not-is_inside-count.false in
    let h = inside _ _ _ (both_true _ _ f).0 in
    λ shown. rw (f, part-long _ _ _ h, lt-leb (a.offset + a.count) 8192 (omega (arith, c.if-offset-count.true, c.requires)))

pub returns : goal.returns
unfolding appended listed
returns c =
    let a = c.args in
    let f = sym (both-alike c.is_inside.ensures refl) ∙ c.if-not-is_inside-count.false in
    let h = inside _ _ _ (both_true _ _ f).0 in
    let l : a.offset + a.count ≤ 8192 = omega (arith, c.if-offset-count.false, c.requires) in
    let new = copied-part a.offset a.count a.list.now a.at a.memory.now _ (omega (arith, c.told-list, l)) h c.copy_from_slice.ensures.after in
    λ shown. rw (f, part-long a.at a.count a.memory.now h, le-leb (a.offset + a.count) 8192 l)
    (ap (λ (l : List ℕ). taken (a.offset + a.count) (lent l shown a.memory.now)) new)
