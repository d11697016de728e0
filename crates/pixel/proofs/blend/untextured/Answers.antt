use Rattle.pixel.specs.Blend.{source}
use Rattle.pixel.proofs.Laws.{white-tinted}
use Rattle.pixel.proofs.blend.untextured.Goals as goal

pub returns : goal.returns
unfolding source
returns c =
    let colour = c.args.colour in
    rw (c.byte-4.ensures, c.byte-3.ensures, c.byte-2.ensures, c.byte.ensures, white-tinted colour.red, white-tinted colour.green, white-tinted colour.blue, white-tinted colour.alpha)
