use Rattle.std.proofs.lemmas.Option.{same_Some}
use Rattle.paint.proofs.paint_kept.Goals as goal

pub invariant_of-painter : goal.invariant_of-painter
invariant_of-painter g c = record { ready = (c.requires.count_bound.1.0, λ kept e. rw (← same_Some _ kept e) c.gather.ensures) }
