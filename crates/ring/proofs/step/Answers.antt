use mathlib.Core.Path.{ap, sym, ◌∙◌}
use Prim.Native.Nat.{◌*◌, ◌≤◌}
use native.Mathlib.Omega.{arith}
use Rattle.ring.specs.Command.{command_of, lent, size_of}
use Rattle.ring.specs.Run.{run_answer}
use Rattle.ring.proofs.Stepping.{step-fault, step-short, step-taken}
use Rattle.ring.proofs.step.Goals as goal

pub returns-then-waiting-size : goal.returns-then-waiting-size
returns-then-waiting-size c =
    let x = lent c.args.list.now c.args.shown.now c.args.memory.now in
    let k = c.from-command.ensures ∙ ap command_of c.word.ensures in
    let z = c.size-size.ensures.words ∙ ap size_of k in
    let h = step-short c.args.ring.now c.args.at.marks x (rw (← z, ← c.waiting.ensures) c.if-waiting-size.true) in
    record { answered = c.stop.ensures ∙ sym (ap run_answer h); left = ap (λ r. r.runs) h }

pub returns-in-Ok : goal.returns-in-Ok
returns-in-Ok c =
    let x = lent c.args.list.now c.args.shown.now c.args.memory.now in
    let k = c.from-command.ensures ∙ ap command_of c.word.ensures in
    let z = c.size-size.ensures.words ∙ ap size_of k in
    let there : 4 * c.size-size.result ≤ c.waiting.result = omega arith in
    let t = rw (c.waiting.ensures, z) at there in
    let h = step-taken c.args.ring.now c.args.at.marks x t c.in-Ok.taken _ (rw (c.in-Ok.is, k) at c.obey.ensures) in
    record { answered = rw (c.number.ensures, c.around.ensures, z) (sym (ap run_answer h)); left = ap (λ r. r.runs) h }

pub returns-in-Err : goal.returns-in-Err
returns-in-Err c =
    let x = lent c.args.list.now c.args.shown.now c.args.memory.now in
    let k = c.from-command.ensures ∙ ap command_of c.word.ensures in
    let z = c.size-size.ensures.words ∙ ap size_of k in
    let there : 4 * c.size-size.result ≤ c.waiting.result = omega arith in
    let t = rw (c.waiting.ensures, z) at there in
    let h = step-fault c.args.ring.now c.args.at.marks x t c.in-Err.fault _ (rw (c.in-Err.is, k) at c.obey.ensures) in
    record { answered = rw c.number-in-Err.ensures (sym (ap run_answer h)); left = ap (λ r. r.runs) h }
