use Rattle.engine.specs.Vertex.{placed2ii}
use Rattle.units.proofs.Meaning.{sampled-moved-at}
use Rattle.engine.proofs.vertex.place2ii.Goals as goal

pub returns : goal.returns
unfolding placed2ii
returns c =
    let x = sampled-moved-at c.of.ensures c.sample.ensures c.moved.ensures in
    let y = sampled-moved-at c.of-2.ensures c.sample-2.ensures c.moved-2.ensures in
    rw (x, y)
