use Rattle.engine.specs.Fault.{fault_number}
use mathlib.Core.Path.{◌≡◌, refl, ap, sym, ◌∙◌}
use Prim.Native.Nat.{ℕ, ◌+◌, ◌-◌, ◌<◌}
use native.Mathlib.Omega.{arith}
use mathlib.Core.List.{List}
use lib.ListN.{length}
use borrow.Author.Rules.{rules}
use Rattle.engine.specs.Kept.{dropped, pushed, popped, called, returned}
use Rattle.engine.specs.declared.fault.Fault.TheVariants as fault
use Rattle.engine.specs.declared.machine.Event.TheVariants as e
use Rattle.engine.specs.declared.run.Find.TheVariants as f
use Rattle.engine.specs.Advance.{Spent, more, then, heard}
use Rattle.engine.specs.Run.{State, Ran, place_of, stop_at, after, run}
use Rattle.engine.proofs.Calling.{call-ready, return-ready}
use Rattle.engine.proofs.Four.{long}
use Rattle.engine.proofs.Keeping.{some-kept, four-kept, newest-there, newest-none}
use Rattle.engine.proofs.Turns.{past, on, on-draw, drew as told, ended, faulted}
use Rattle.engine.proofs.kept.Engine.advance.Goals as goal
use Rattle.engine.proofs.kept.Engine.advance.Goals.{then-is_kept, else-is_kept}

-- The limit is used up: 19, wherever the next word lies.
spent :
    (list : List ℕ) (memory : ℕ) (x : State) (allowed left : ℕ) → left ≡ 0 → (rest : Ran) →
    more (allowed - left) (run list memory left x) ≡ then (allowed - left) (f.Over (stop_at (fault_number fault.LimitReached) (place_of x))) rest
unfolding run then
spent list memory x allowed left z rest =
    let k : allowed - 0 + 0 ≡ allowed - 0 = omega arith in
    rw (z, k)

pub loop-left-init : goal.loop-left-init
loop-left-init c =
    let a = c.args in
    let r : Ran = run a.list.now a.memory a.allowed (record { engine = a.self.now; handles = a.handles.now }) in
    let k : a.allowed - a.allowed + r.count ≡ r.count = omega arith in
    (search rules, (search (rules, long), rw k))

pub returns-then-list-wide : goal.returns-then-list-wide
unfolding Spent
returns-then-list-wide c =
    let a = c.args in
    let l = c.loop-left in
    let x : State = record { engine = record { now = l.now; kept = l.kept }; handles = l.handles } in
    rw (c.over.ensures, c.number.ensures)
    (record {
      spent = l.invariant.0;
      whole = l.invariant.1.1 ∙ ap (heard a.halt) (past a.list.now a.memory x a.allowed l.left (omega (arith, c.loop-left-test.true)) (omega (arith, c.if-list-wide.true, c.wide.ensures)) _);
    })

pub loop-left-preserved-in-Quiet : goal.loop-left-preserved-in-Quiet
unfolding after
loop-left-preserved-in-Quiet c =
    let a = c.args in
    let l = c.loop-left in
    let x : State = record { engine = record { now = l.now; kept = l.kept }; handles = l.handles } in
    let w = c.word_at-bits.ensures in
    let s = c.step-stepped in
    let some : 0 < l.left = omega (arith, c.loop-left-test.true) in
    let inside : l.now.at < length a.list.now = omega (arith, c.if-list-wide.false, c.wide.ensures) in
    (omega (arith, l.invariant.0), (l.invariant.1.0, l.invariant.1.1 ∙ ap (heard a.halt) (on a.list.now a.memory x a.allowed s.result _ (s.ensures.0 ∙ rw w) (s.ensures.1 ∙ rw w) l.left some l.invariant.0 inside e.Quiet (λ _ _. refl) c.in-Quiet.is _ refl)))

pub loop-left-preserved-in-Save : goal.loop-left-preserved-in-Save
unfolding after pushed
loop-left-preserved-in-Save c =
    let a = c.args in
    let l = c.loop-left in
    let x : State = record { engine = record { now = l.now; kept = l.kept }; handles = l.handles } in
    let w = c.word_at-bits.ensures in
    let s = c.step-stepped in
    let some : 0 < l.left = omega (arith, c.loop-left-test.true) in
    let inside : l.now.at < length a.list.now = omega (arith, c.if-list-wide.false, c.wide.ensures) in
    (omega (arith, l.invariant.0), (rw c.push-next.ensures (four-kept _ _ l.invariant.1.0), l.invariant.1.1 ∙ ap (heard a.halt) (on a.list.now a.memory x a.allowed s.result _ (s.ensures.0 ∙ rw w) (s.ensures.1 ∙ rw w) l.left some l.invariant.0 inside e.Save (λ _ _. refl) c.in-Save.is _ c.push-next.ensures)))

pub overflow_sub-last : goal.overflow_sub-last
overflow_sub-last c =
    let k = some-kept _ (sym c.is_kept.ensures ∙ c.if-is_kept.true) in
    search rules

pub offset_bounds-kept-last : goal.offset_bounds-kept-last
offset_bounds-kept-last c =
    let k = some-kept _ (sym c.is_kept.ensures ∙ c.if-is_kept.true) in
    search rules

pub bounds-kept-last : goal.bounds-kept-last
bounds-kept-last c =
    let k = some-kept _ (sym c.is_kept.ensures ∙ c.if-is_kept.true) in
    search rules

pub pop-next-requires : goal.pop-next-requires
pop-next-requires c =
    let l = c.loop-left in
    elim c.if-is_kept.branch [
      | then-is_kept w ↦ w.newest-is ∙ newest-there l.kept _ l.invariant.1.0 (sym c.is_kept.ensures ∙ w.if-is_kept.true)
      | else-is_kept w ↦ w.newest-is ∙ w.start-newest.ensures ∙ newest-none l.kept l.invariant.1.0 (sym c.is_kept.ensures ∙ w.if-is_kept.false)
    ]

pub loop-left-preserved-in-Restore : goal.loop-left-preserved-in-Restore
unfolding after popped dropped
loop-left-preserved-in-Restore c =
    let a = c.args in
    let l = c.loop-left in
    let x : State = record { engine = record { now = l.now; kept = l.kept }; handles = l.handles } in
    let w = c.word_at-bits.ensures in
    let s = c.step-stepped in
    let some : 0 < l.left = omega (arith, c.loop-left-test.true) in
    let inside : l.now.at < length a.list.now = omega (arith, c.if-list-wide.false, c.wide.ensures) in
    (omega (arith, l.invariant.0), (rw c.pop-next.ensures l.invariant.1.0, l.invariant.1.1 ∙ ap (heard a.halt) (on a.list.now a.memory x a.allowed s.result _ (s.ensures.0 ∙ rw w) (s.ensures.1 ∙ rw w) l.left some l.invariant.0 inside e.Restore (λ _ _. refl) c.in-Restore.is _ c.pop-next.ensures)))

pub call-next-requires : goal.call-next-requires
call-next-requires c =
    let s = c.step-stepped in
    call-ready _ _ _ _ s.result s.ensures.0 _ c.in-Call.is

pub loop-left-preserved-in-Call : goal.loop-left-preserved-in-Call
unfolding after called
loop-left-preserved-in-Call c =
    let a = c.args in
    let l = c.loop-left in
    let x : State = record { engine = record { now = l.now; kept = l.kept }; handles = l.handles } in
    let w = c.word_at-bits.ensures in
    let s = c.step-stepped in
    let some : 0 < l.left = omega (arith, c.loop-left-test.true) in
    let inside : l.now.at < length a.list.now = omega (arith, c.if-list-wide.false, c.wide.ensures) in
    (omega (arith, l.invariant.0), (rw c.call-next.ensures l.invariant.1.0, l.invariant.1.1 ∙ ap (heard a.halt) (on a.list.now a.memory x a.allowed s.result _ (s.ensures.0 ∙ rw w) (s.ensures.1 ∙ rw w) l.left some l.invariant.0 inside (e.Call _) (λ _ _. refl) c.in-Call.is _ c.call-next.ensures)))

pub back-next-requires : goal.back-next-requires
back-next-requires c =
    let s = c.step-stepped in
    return-ready _ _ _ _ s.result s.ensures.0 c.in-Return.is

pub loop-left-preserved-in-Return : goal.loop-left-preserved-in-Return
unfolding after returned
loop-left-preserved-in-Return c =
    let a = c.args in
    let l = c.loop-left in
    let x : State = record { engine = record { now = l.now; kept = l.kept }; handles = l.handles } in
    let w = c.word_at-bits.ensures in
    let s = c.step-stepped in
    let some : 0 < l.left = omega (arith, c.loop-left-test.true) in
    let inside : l.now.at < length a.list.now = omega (arith, c.if-list-wide.false, c.wide.ensures) in
    (omega (arith, l.invariant.0), (rw c.back-next.ensures l.invariant.1.0, l.invariant.1.1 ∙ ap (heard a.halt) (on a.list.now a.memory x a.allowed s.result _ (s.ensures.0 ∙ rw w) (s.ensures.1 ∙ rw w) l.left some l.invariant.0 inside e.Return (λ _ _. refl) c.in-Return.is _ c.back-next.ensures)))

pub returns-then-halt : goal.returns-then-halt
unfolding Spent
returns-then-halt c =
    let a = c.args in
    let l = c.loop-left in
    let x : State = record { engine = record { now = l.now; kept = l.kept }; handles = l.handles } in
    let w = c.word_at-bits.ensures in
    let s = c.step-stepped in
    let some : 0 < l.left = omega (arith, c.loop-left-test.true) in
    let inside : l.now.at < length a.list.now = omega (arith, c.if-list-wide.false, c.wide.ensures) in
    rw c.drew.ensures
    (record {
      spent = (c.if-halt.true, omega (arith, l.invariant.0, some));
      whole = l.invariant.1.1 ∙ ap (heard a.halt) (told a.list.now a.memory x a.allowed s.result _ (s.ensures.0 ∙ rw w) (s.ensures.1 ∙ rw w) l.left some l.invariant.0 inside _ c.in-Draw.is);
    })

pub loop-left-preserved : goal.loop-left-preserved
loop-left-preserved c =
    let a = c.args in
    let l = c.loop-left in
    let x : State = record { engine = record { now = l.now; kept = l.kept }; handles = l.handles } in
    let w = c.word_at-bits.ensures in
    let s = c.step-stepped in
    let some : 0 < l.left = omega (arith, c.loop-left-test.true) in
    let inside : l.now.at < length a.list.now = omega (arith, c.if-list-wide.false, c.wide.ensures) in
    (omega (arith, l.invariant.0), (l.invariant.1.0, l.invariant.1.1 ∙ rw c.if-halt.false (on-draw a.list.now a.memory x a.allowed s.result _ (s.ensures.0 ∙ rw w) (s.ensures.1 ∙ rw w) l.left some l.invariant.0 inside _ c.in-Draw.is)))

pub returns-in-Ended : goal.returns-in-Ended
unfolding Spent
returns-in-Ended c =
    let a = c.args in
    let l = c.loop-left in
    let x : State = record { engine = record { now = l.now; kept = l.kept }; handles = l.handles } in
    let w = c.word_at-bits.ensures in
    let s = c.step-stepped in
    let some : 0 < l.left = omega (arith, c.loop-left-test.true) in
    let inside : l.now.at < length a.list.now = omega (arith, c.if-list-wide.false, c.wide.ensures) in
    rw c.over-in-Ended.ensures
    (record {
      spent = omega (arith, l.invariant.0);
      whole = l.invariant.1.1 ∙ ap (heard a.halt) (ended a.list.now a.memory x a.allowed s.result _ (s.ensures.0 ∙ rw w) (s.ensures.1 ∙ rw w) l.left some l.invariant.0 inside c.in-Ended.is _);
    })

pub returns-in-Fault : goal.returns-in-Fault
unfolding Spent
returns-in-Fault c =
    let a = c.args in
    let l = c.loop-left in
    let x : State = record { engine = record { now = l.now; kept = l.kept }; handles = l.handles } in
    let w = c.word_at-bits.ensures in
    let s = c.step-stepped in
    let some : 0 < l.left = omega (arith, c.loop-left-test.true) in
    let inside : l.now.at < length a.list.now = omega (arith, c.if-list-wide.false, c.wide.ensures) in
    rw c.over-in-Fault.ensures
    (record {
      spent = omega (arith, l.invariant.0);
      whole = l.invariant.1.1 ∙ ap (heard a.halt) (faulted a.list.now a.memory x a.allowed s.result _ (s.ensures.0 ∙ rw w) (s.ensures.1 ∙ rw w) l.left some l.invariant.0 inside _ c.in-Fault.is _);
    })

pub returns : goal.returns
unfolding Spent
returns c =
    let a = c.args in
    let l = c.loop-left in
    let x : State = record { engine = record { now = l.now; kept = l.kept }; handles = l.handles } in
    rw (c.over-2.ensures, c.number-2.ensures)
    (record {
      spent = l.invariant.0;
      whole = l.invariant.1.1 ∙ ap (heard a.halt) (spent a.list.now a.memory x a.allowed l.left (omega (arith, c.loop-left-test.false)) _);
    })
