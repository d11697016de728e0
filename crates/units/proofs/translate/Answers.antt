use native.Mathlib.Omega.{arith}
use Rattle.units.specs.Units.{no_translation, translation_at}
use Rattle.units.proofs.AnyDisplacement.{nearby}
use Rattle.units.proofs.Meaning.{translation-of}
use Rattle.units.proofs.Sums.{widened, widens, i32-most, i32-sum, sum_fits, sum-read}
use Rattle.units.proofs.translate.Goals as goal

pub overflow_cast-kept-2 : goal.overflow_cast-kept-2
overflow_cast-kept-2 c =
    widens c.ranges.by

pub overflow_add-kept : goal.overflow_add-kept
overflow_add-kept c =
    let m = i32-most c.ranges.by in
    rw (widened c.ranges.by) (sum_fits no_translation no_translation c.args.by m (omega arith) (omega arith))

pub overflow_cast-kept-3 : goal.overflow_cast-kept-3
overflow_cast-kept-3 c =
    let m = i32-most c.ranges.by in
    let e = nearby no_translation no_translation c.args.by m (omega arith) in
    let l = i32-sum c.ranges.by in
    rw (widened c.ranges.by, sum-read no_translation no_translation c.args.by m (omega arith) (omega arith), e.sum) (tt, record { fits = l })

pub returns : goal.returns
unfolding translation_at
returns c =
    let m = i32-most c.ranges.by in
    rw (widened c.ranges.by, sum-read no_translation no_translation c.args.by m (omega arith) (omega arith)) (translation-of _ m)
