use Rattle.paint.proofs.Sweeps.{flooded, swept-wiped}
use native.Mathlib.Omega.{arith}
use Rattle.paint.proofs.row.Row.wipe.Goals as goal

pub returns : goal.returns
returns c =
    let row = c.args.self.now in
    swept-wiped c.args.from c.args.to c.args.with row.colours row.tags row.alpha
    (flooded _ _ _ _ _ c.requires.0 (omega arith) (c.fill.ensures.after (λ y h. h))) c.fill-2.ensures
