use Rattle.units.proofs.Meaning.{floored-holds}
use Rattle.units.proofs.Sixteenths.floor.Goals as goal

pub returns : goal.returns
returns c =
    floored-holds c.args.self
