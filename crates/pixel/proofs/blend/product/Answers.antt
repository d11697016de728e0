use Rattle.pixel.specs.Blend.{product}
use Rattle.pixel.proofs.blend.product.Goals as goal

pub returns : goal.returns
unfolding product
returns c =
    c.by_255.ensures
