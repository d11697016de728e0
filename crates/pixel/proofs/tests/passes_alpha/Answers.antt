use Rattle.pixel.specs.Tests.{passes_alpha}
use Rattle.pixel.proofs.tests.passes_alpha.Goals as goal

pub returns : goal.returns
unfolding passes_alpha
returns c =
    rw (c.passes.ensures, c.byte.ensures)
