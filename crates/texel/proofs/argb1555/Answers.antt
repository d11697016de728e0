use Rattle.texel.specs.Texel.{argb1555}
use Rattle.texel.proofs.argb1555.Goals as goal

pub returns : goal.returns
unfolding argb1555
returns c =
    rw (c.channel-4.ensures, c.channel-3.ensures, c.channel-2.ensures, c.channel.ensures)
