use Rattle.texel.proofs.Widening.{once, twice, doubled, all}
use Rattle.texel.proofs.widen.Goals as goal

pub returns : goal.returns
returns c =
    rw (once c.requires, twice c.requires, doubled c.requires 2, doubled c.requires 4, all c.requires)
