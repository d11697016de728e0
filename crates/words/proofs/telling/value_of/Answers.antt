use Rattle.words.proofs.Cutting.{signed-digit}
use Rattle.words.proofs.telling.value_of.Goals as goal

pub extend-requires : goal.extend-requires
extend-requires c =
    rw c.power.ensures (signed-digit (rw c.in-Signed.is at c.requires))
