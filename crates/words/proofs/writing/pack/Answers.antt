use mathlib.Core.Path.{refl}
use native.Mathlib.Omega.{arith}
use Rattle.words.specs.Fields.{width}
use Rattle.words.proofs.Digits.{laid-lt, pack-fits}
use Rattle.words.proofs.writing.pack.Goals as goal

pub overflow_mul-lifted : goal.overflow_mul-lifted
overflow_mul-lifted c =
    rw (c.low_bits-own.ensures, c.power.ensures)
    (omega (arith, pack-fits c.width_of-width.result c.args.low.used c.args.n c.args.low.bits c.requires.below (omega arith)))

pub overflow_add-bits : goal.overflow_add-bits
overflow_add-bits c =
    rw (c.low_bits-own.ensures, c.power.ensures)
    (omega (arith, pack-fits c.width_of-width.result c.args.low.used c.args.n c.args.low.bits c.requires.below (omega arith)))

pub returns : goal.returns
returns c =
    rw (c.low_bits-own.ensures, c.power.ensures, c.width_of-width.ensures)
    (record {
      bits = refl;
      used = refl;
      below = laid-lt (width c.args.field) c.args.low.used c.args.n c.args.low.bits c.requires.below;
    })
