use Rattle.store.specs.Store.{kept_at}
use Rattle.store.proofs.get.Goals as goal

pub returns : goal.returns
unfolding kept_at
returns c =
    rw (
      c.action.ensures,
      c.in-Some.ensures.cases.same,
      c.in-Some-first_chunk.ensures.cases.same,
      c.split_at.ensures.back,
      c.split_at-2.ensures.back,
    )
