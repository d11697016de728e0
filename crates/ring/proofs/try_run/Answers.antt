use mathlib.Core.Path.{refl}
use borrow.Author.Tests.{eq-eqb, lt-leb, ne_eqb}
use Rattle.std.proofs.lemmas.Result.{err_from_is_err_and}
use Rattle.ring.specs.Command.{lent}
use Rattle.ring.specs.Refusal.{refusal_number}
use Rattle.ring.specs.Run.{are_sized, ran}
use Rattle.ring.proofs.Places.{arranged_at}
use Rattle.ring.proofs.Refusing.{measured, ran-goes, ran-refused}
use Rattle.ring.proofs.try_run.Goals as goal

pub returns-in_default : goal.returns-in_default
unfolding ran are_sized refusal_number
returns-in_default c =
    rw (ne_eqb _ _ c.in_default.ensures.cases) (record { answered = refl; left = refl })

pub returns-in_default-as_mut_array : goal.returns-in_default-as_mut_array
unfolding ran are_sized refusal_number
returns-in_default-as_mut_array c =
    let ring = c.in-Some.ensures.cases in
    rw (eq-eqb _ _ ring.long, ne_eqb _ _ c.in_default-as_mut_array.ensures.cases) (record { answered = refl; left = refl })

pub returns-in_default-as_mut_array-2 : goal.returns-in_default-as_mut_array-2
unfolding ran are_sized refusal_number
returns-in_default-as_mut_array-2 c =
    let ring = c.in-Some.ensures.cases in
    let list = c.in-Some-as_mut_array.ensures.cases in
    rw (eq-eqb _ _ ring.long, eq-eqb _ _ list.long, ne_eqb _ _ c.in_default-as_mut_array-2.ensures.cases, list.same)
    (record { answered = refl; left = refl })

pub returns-then-memory-gt1048576 : goal.returns-then-memory-gt1048576
unfolding ran are_sized refusal_number
returns-then-memory-gt1048576 c =
    let ring = c.in-Some.ensures.cases in
    let list = c.in-Some-as_mut_array.ensures.cases in
    let shown = c.in-Some-as_mut_array-2.ensures.cases in
    rw (
      eq-eqb _ _ ring.long,
      eq-eqb _ _ list.long,
      eq-eqb _ _ shown.long,
      lt-leb _ _ c.if-memory-gt1048576.true,
      list.same,
      shown.same,
    )
    (record { answered = refl; left = refl })

pub returns-in_err-at : goal.returns-in_err-at
returns-in_err-at c =
    let ring = c.in-Some.ensures.cases in
    let list = c.in-Some-as_mut_array.ensures.cases in
    let shown = c.in-Some-as_mut_array-2.ensures.cases in
    let x = lent c.args.list.now c.args.shown.now c.args.memory.now in
    let sized = measured c.args.ring.now x ring.long list.long shown.long c.if-memory-gt1048576.false in
    let p = err_from_is_err_and c.from_residual.result c.from_residual.ensures.1 in
    rw (p.1, p.2, list.same, shown.same, ran-refused c.args.ring.now c.args.marks x sized _ c.in_err-at.ensures)
    (record { answered = refl; left = refl })

pub returns : goal.returns
returns c =
    let ring = c.in-Some.ensures.cases in
    let list = c.in-Some-as_mut_array.ensures.cases in
    let shown = c.in-Some-as_mut_array-2.ensures.cases in
    let x = lent c.args.list.now c.args.shown.now c.args.memory.now in
    let sized = measured c.args.ring.now x ring.long list.long shown.long c.if-memory-gt1048576.false in
    let marks = c.in_ok-at.ensures in
    let places = rw marks.1 at (arranged_at c.in_ok-at.at) in
    rw (ran-goes c.args.ring.now c.args.marks x sized places marks.0)
    (rw (ring.same, list.same, shown.same, marks.1) at c.run_all.ensures)
