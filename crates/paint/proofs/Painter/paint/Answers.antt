use Rattle.paint.proofs.Patching.{wanted-left, wanted-none, wanted-painted}
use Rattle.paint.proofs.Rows.{colours-long, tags-long}
use Rattle.paint.proofs.Stacks.{filled-all}
use Rattle.paint.proofs.Painter.paint.Goals as goal
use Rattle.paint.proofs.Painter.paint.Goals.{then-is_wanted, else-is_wanted}

pub loop-y-init : goal.loop-y-init
loop-y-init g c =
    let p = c.requires.count_bound.1.1 in
    λ wanted tells. (wanted-none wanted _ _ _ _ (λ y. colours-long _ _) p.0, wanted-none wanted _ _ _ _ (λ y. tags-long _ _) p.1)

pub loop-y-preserved : goal.loop-y-preserved
loop-y-preserved g c =
    λ wanted tells.
    let l = c.loop-y-test.true in
    let v = c.loop-y.invariant wanted tells in
    let told = tells c.loop-y.y _ l c.is_wanted.ensures in
    elim c.if-is_wanted.branch [
      | then-is_wanted w ↦ (
        rw w.picture-is (wanted-painted wanted _ _ _ _ v.0 l _ (rw w.if-is_wanted.true at told) w.paint_row.ensures.picture_after),
        rw w.tags-is (wanted-painted wanted _ _ _ _ v.1 l _ (rw w.if-is_wanted.true at told) w.paint_row.ensures.tags_after),
      )
      | else-is_wanted w ↦ (
        rw w.picture-is (wanted-left wanted _ _ _ _ v.0 l (rw w.if-is_wanted.false at told)),
        rw w.tags-is (wanted-left wanted _ _ _ _ v.1 l (rw w.if-is_wanted.false at told)),
      )
    ]

pub returns : goal.returns
returns g c =
    λ wanted tells.
    let v = c.loop-y.invariant wanted tells in (filled-all v.0 c.loop-y-test.false, filled-all v.1 c.loop-y-test.false)
