use Rattle.store.proofs.Back.{put-in-group}
use Rattle.store.proofs.put.Goals as goal

pub returns : goal.returns
returns c =
    let n = c.split_at_mut-numbers.ensures in
    let p = c.split_at_mut-places.ensures in
    rw (n.front, n.back, p.front, p.back)
    (put-in-group _ _ _ _ _ _
    c.requires
    (rw (c.in-Some.ensures.cases.same, n.back) at c.put_action.ensures.numbers_after)
    (rw (c.in-Some-first_chunk_mut.ensures.cases.same, p.back) at c.put_action.ensures.places_after))
