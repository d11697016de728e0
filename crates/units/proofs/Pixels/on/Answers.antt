use Rattle.units.proofs.Meaning.{further-on}
use Rattle.units.proofs.Pixels.on.Goals as goal

pub returns : goal.returns
returns c =
    further-on _ _
