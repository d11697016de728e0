use Rattle.pixel.specs.Blend.{source}
use Rattle.pixel.proofs.blend.multiply.Goals as goal

pub returns : goal.returns
unfolding source
returns c =
    rw (c.tint-4.ensures, c.tint-3.ensures, c.tint-2.ensures, c.tint.ensures)
