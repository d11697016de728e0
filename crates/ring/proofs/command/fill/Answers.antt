use mathlib.Core.Path.{ap, sym, ◌∙◌}
use mathlib.Core.List.{List}
use Prim.Native.Nat.{ℕ, ◌%◌, ◌^◌}
use Rattle.ring.specs.Command.{lent, stored, taken}
use Rattle.ring.proofs.Lending.{flooded}
use Rattle.ring.proofs.Steps.{inside}
use Rattle.ring.proofs.command.fill.Goals as goal

pub returns : goal.returns
unfolding stored
returns c =
    let a = c.args in
    let f = sym c.is_inside.ensures ∙ c.if-not-is_inside.false in
    let fits = inside _ _ _ f in
    let new = flooded a.at a.count (a.value % 2 ^ 8) a.memory.now _ fits (c.fill.ensures.after (λ y h. h)) in
    λ list shown offset. rw f (ap (λ (m : List ℕ). taken offset (lent list shown m)) new)
