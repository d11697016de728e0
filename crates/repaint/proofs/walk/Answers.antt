use mathlib.Core.Logic.{⊎_elim}
use mathlib.Core.Path.{◌≡◌, refl, ap}
use native.Mathlib.Omega.{arith}
use lib.ListN.{length}
use Rattle.engine.specs.Running.{actions_left}
use Rattle.repaint.specs.Rows.{passed}
use Rattle.repaint.specs.Sides.{ahead}
use Rattle.repaint.proofs.Runs.{less-ahead, not-longer}
use Rattle.repaint.proofs.Walking.{seek-past, walking-next, walking_start}
use Rattle.repaint.proofs.walk.Goals as goal
use Rattle.repaint.proofs.walk.Goals.{then-pace, else-pace, then-pace-2, else-pace-2}

pub loop-row-init : goal.loop-row-init
loop-row-init c =
    walking_start c.requires.marks_len_bound.1 c.start-a.ensures c.start-b.ensures

pub loop-row-smaller : goal.loop-row-smaller
unfolding passed
loop-row-smaller c =
    let e = c.compare-pace.ensures in
    let s = c.seek-row.ensures in
    let l = c.loop-row.invariant.long in
    let k = c.compare-pace.auto.marks in
    let a = c.loop-row.a in
    let b = c.loop-row.b in
    let o : ahead c.if-pace.a ≡ passed c.compare-pace.result.old a.here (actions_left a.run) =
    elim c.if-pace.branch [ then-pace w ↦ rw (w.a-is, w.if-pace.true) w.go_on.ensures | else-pace w ↦ rw (w.a-is, w.if-pace.false) refl ] in
    let n : ahead c.if-pace-2.b ≡ passed c.compare-pace.result.new b.here (actions_left b.run) =
    elim c.if-pace-2.branch [ then-pace-2 w ↦ rw (w.b-is, w.if-pace-2.true) w.go_on-then-pace-2.ensures | else-pace-2 w ↦ rw (w.b-is, w.if-pace-2.false) refl ] in
    ⊎_elim
    (λ m. omega (arith, ap length o, ap length n, less-ahead _ _ _ _ (actions_left a.run) (actions_left b.run) m e.old_drawn e.new_drawn, s.from))
    (λ m. omega (arith, ap length o, ap length n, not-longer _ _ (actions_left a.run) e.old_drawn, not-longer _ _ (actions_left b.run) e.new_drawn, seek-past s (omega (arith, k, l, c.loop-row-test.true)) m, k, l, c.loop-row-test.true))
    e.moves

pub loop-row-preserved : goal.loop-row-preserved
unfolding passed
loop-row-preserved c =
    let v = c.loop-row.invariant in
    let l = v.long in
    let a = c.loop-row.a in
    let b = c.loop-row.b in
    let o : ahead c.if-pace.a ≡ passed c.compare-pace.result.old a.here (actions_left a.run) =
    elim c.if-pace.branch [ then-pace w ↦ rw (w.a-is, w.if-pace.true) w.go_on.ensures | else-pace w ↦ rw (w.a-is, w.if-pace.false) refl ] in
    let n : ahead c.if-pace-2.b ≡ passed c.compare-pace.result.new b.here (actions_left b.run) =
    elim c.if-pace-2.branch [ then-pace-2 w ↦ rw (w.b-is, w.if-pace-2.true) w.go_on-then-pace-2.ensures | else-pace-2 w ↦ rw (w.b-is, w.if-pace-2.false) refl ] in
    walking-next _ _ v (omega (arith, l, c.loop-row-test.true)) c.compare-pace.ensures c.compare-pace.auto.marks o n c.seek-row.ensures
