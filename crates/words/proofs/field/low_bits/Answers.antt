use lib.Bits.{and_mask}
use Rattle.words.proofs.field.low_bits.Goals as goal

pub returns : goal.returns
returns c =
    rw c.power.ensures (and_mask c.args.n c.args.k)
