use Rattle.shape.proofs.Sizes.{at-sample}
use Rattle.shape.proofs.Narrowing.{by-squares}
use Rattle.shape.proofs.line.covers.Goals as goal

pub returns : goal.returns
returns c =
    rw (
      c.by_squares.ensures,
      c.squared-3.ensures.value,
      c.squared-2.ensures.value,
      c.squared.ensures.value,
      at-sample _ _ c.sample-2.ensures.kept,
      at-sample _ _ c.sample.ensures.kept,
    )
    (by-squares _ _ _ c.requires.0)
