use Rattle.units.proofs.Meaning.{pixel-at}
use Rattle.units.proofs.Pixels.of.Goals as goal

pub returns : goal.returns
returns c =
    pixel-at c.args.n
