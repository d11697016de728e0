use Rattle.pixel.specs.Tests.{passes_stencil}
use Rattle.pixel.proofs.tests.passes_stencil.Goals as goal

pub returns : goal.returns
unfolding passes_stencil
returns c =
    rw (c.passes.ensures, c.byte.ensures, c.byte-mask.ensures)
