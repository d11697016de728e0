use Rattle.units.proofs.Meaning.{sampled-at}
use Rattle.units.proofs.Pixels.sample.Goals as goal

pub returns : goal.returns
returns c =
    sampled-at c.args.self
