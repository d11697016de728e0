use mathlib.Core.Path.{refl}
use Rattle.texel.specs.Texel.{l8}
use Rattle.texel.proofs.l8.Goals as goal

pub returns : goal.returns
unfolding l8
returns c =
    refl
