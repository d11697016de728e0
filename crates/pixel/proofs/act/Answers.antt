use Rattle.pixel.specs.Pixel.{stencilled}
use Rattle.pixel.proofs.act.Goals as goal

pub returns : goal.returns
unfolding stencilled
returns c =
    rw (c.stamp.ensures, c.byte-2.ensures, c.byte.ensures)
