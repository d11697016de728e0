use native.Mathlib.Omega.{arith}
use Rattle.ring.proofs.Places.{arranged_at, placed}
use Rattle.ring.proofs.Running.{turn-count, turn-fewer, turn-idle, turn_last, turn_more}
use Rattle.ring.proofs.Steps.{onward-none}
use Rattle.ring.proofs.run_all.Goals as goal

pub loop-now-init : goal.loop-now-init
loop-now-init c =
    onward-none _ _ _ (arranged_at c.args.at)

pub invariant_of-step : goal.invariant_of-step
invariant_of-step c =
    let p = placed _ c.loop-now.invariant.places in
    record { read = (p.read-most, p.read_whole); write = (p.write-most, p.write-whole); offset = (p.offset-most, p.offset-whole) }

pub overflow_add-count : goal.overflow_add-count
overflow_add-count c =
    omega (arith, turn-count c.loop-now.invariant c.loop-now-test.true _ c.step-done.ensures)

pub returns-then-done-ne0 : goal.returns-then-done-ne0
returns-then-done-ne0 c =
    turn_last c.loop-now.invariant c.loop-now-test.true _ c.step-done.ensures c.if-done-ne0.true

pub loop-now-smaller : goal.loop-now-smaller
loop-now-smaller c =
    turn-fewer c.loop-now.invariant c.loop-now-test.true _ c.step-done.ensures (omega arith)

pub loop-now-preserved : goal.loop-now-preserved
loop-now-preserved c =
    turn_more c.loop-now.invariant c.loop-now-test.true _ c.step-done.ensures (omega arith)

pub returns : goal.returns
returns c =
    rw c.stop.ensures (turn-idle c.loop-now.invariant c.loop-now-test.false)
