use mathlib.Core.Path.{refl, ◌∙◌}
use native.Mathlib.Omega.{arith}
use borrow.Author.Tests.{eq-eqb, le-leb, lt-leb, ne_eqb}
use Rattle.std.proofs.lemmas.Result.{err_from_is_err_and}
use Rattle.ring.specs.Host.{put, room}
use Rattle.ring.specs.Refusal.{refusal_number}
use Rattle.ring.proofs.Places.{arranged_at, placed, waiting-most}
use Rattle.ring.proofs.Refusing.{put-refused}
use Rattle.ring.proofs.try_write.Goals as goal

pub returns-in_default : goal.returns-in_default
unfolding put refusal_number
returns-in_default c =
    rw (ne_eqb _ _ c.in_default.ensures.cases) (record { answered = refl; left = refl })

pub returns-then-words-ne0 : goal.returns-then-words-ne0
unfolding put refusal_number
returns-then-words-ne0 c =
    let ring = c.in-Some.ensures.cases in
    rw (eq-eqb _ _ ring.long, ne_eqb _ _ c.if-words-ne0.true) (record { answered = refl; left = ring.same })

pub returns-in_err-at : goal.returns-in_err-at
returns-in_err-at c =
    let ring = c.in-Some.ensures.cases in
    let p = err_from_is_err_and c.from_residual.result c.from_residual.ensures.1 in
    let e = put-refused c.args.ring.now c.args.words.now c.args.marks ring.long c.if-words-ne0.false _ c.in_err-at.ensures in
    rw (p.1, p.2, ring.same, e) (record { answered = refl; left = refl })

pub overflow_sub-waiting : goal.overflow_sub-waiting
overflow_sub-waiting c =
    omega (arith, c.waiting.ensures, waiting-most (placed _ (arranged_at c.in_ok-at.at)))

pub returns-then-waiting-words : goal.returns-then-waiting-words
unfolding put refusal_number room
returns-then-waiting-words c =
    let ring = c.in-Some.ensures.cases in
    let marks = c.in_ok-at.ensures in
    let places = rw marks.1 at (arranged_at c.in_ok-at.at) in
    let few = rw (c.waiting.ensures, marks.1) at c.if-waiting-words.true in
    rw (eq-eqb _ _ ring.long, eq-eqb _ _ c.if-words-ne0.false, places, marks.0, lt-leb _ _ few)
    (record { answered = refl; left = ring.same })

pub returns : goal.returns
unfolding put room
returns c =
    let ring = c.in-Some.ensures.cases in
    let marks = c.in_ok-at.ensures in
    let places = rw marks.1 at (arranged_at c.in_ok-at.at) in
    let fits = rw (c.waiting.ensures, marks.1) at c.if-waiting-words.false in
    rw (eq-eqb _ _ ring.long, eq-eqb _ _ c.if-words-ne0.false, places, marks.0, le-leb _ _ fits)
    (record { answered = c.stop.ensures ∙ rw c.around.ensures; left = rw ring.same at c.lay_around.ensures })
