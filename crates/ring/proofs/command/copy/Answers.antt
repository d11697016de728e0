use mathlib.Core.Path.{ap, sym, ◌∙◌}
use mathlib.Core.List.{List}
use Prim.Native.Nat.{ℕ}
use Rattle.ring.specs.Command.{lent, stored, taken}
use Rattle.ring.proofs.Lending.{copied-within}
use Rattle.ring.proofs.Steps.{inside}
use Rattle.truth.proofs.Bools.{both-alike, both_true}
use Rattle.ring.proofs.command.copy.Goals as goal

pub returns : goal.returns
unfolding stored
returns c =
    let f = sym (both-alike c.is_inside.ensures c.is_inside-2.ensures) ∙ c.if-not-is_inside.false in
    let a = c.args in
    let new = copied-within a.target a.source a.count a.memory.now (inside _ _ _ (both_true _ _ f).1) in
    λ list shown offset. rw f (ap (λ (m : List ℕ). taken offset (lent list shown m)) (new ∙ sym c.copy_within.ensures.after))
