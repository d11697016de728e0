use Rattle.pixel.specs.Blend.{tinted}
use Rattle.pixel.proofs.blend.tint.Goals as goal

pub returns : goal.returns
unfolding tinted
returns c =
    rw (c.product.ensures, c.byte-2.ensures, c.byte.ensures)
