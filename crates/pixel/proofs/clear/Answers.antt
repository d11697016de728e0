use Rattle.pixel.specs.Pixel.{cleared}
use Rattle.pixel.proofs.clear.Goals as goal

pub returns : goal.returns
unfolding cleared
returns c =
    rw (c.write-6.ensures, c.byte-7.ensures, c.write-5.ensures, c.select.ensures, c.byte-6.ensures, c.byte-5.ensures, c.write-4.ensures, c.byte-4.ensures, c.write-3.ensures, c.byte-3.ensures, c.write-2.ensures, c.byte-2.ensures, c.write.ensures, c.byte.ensures)
