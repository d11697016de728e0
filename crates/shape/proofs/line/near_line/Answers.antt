use Rattle.shape.proofs.Narrowing.{on_line}
use Rattle.shape.proofs.line.near_line.Goals as goal

pub returns : goal.returns
returns c =
    record {
      all = λ p on e.
          on_line _ p _ c.requires.0 on c.requires.1 _
          (rw (
            c.of.ensures.0,
            c.of.ensures.1,
            c.of-2.ensures.0,
            c.of-2.ensures.1,
            c.counted.ensures,
            c.sample.ensures.kept,
            c.apart.ensures.kept,
            c.apart-2.ensures.kept,
          )
          at c.leaning.ensures)
          e;
    }
