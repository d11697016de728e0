use Rattle.texel.specs.Texel.{rgb565}
use Rattle.texel.proofs.rgb565.Goals as goal

pub returns : goal.returns
unfolding rgb565
returns c =
    rw (c.channel-3.ensures, c.channel-2.ensures, c.channel.ensures)
