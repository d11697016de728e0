use mathlib.Core.Path.{refl}
use Rattle.pixel.specs.Stencil.{selected}
use Rattle.pixel.proofs.stencil.select.Goals as goal

pub returns : goal.returns
unfolding selected
returns c =
    refl
