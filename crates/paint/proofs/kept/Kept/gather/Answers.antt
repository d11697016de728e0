use Rattle.action.specs.declared.Action.{Action}
use Rattle.paint.proofs.Folds.{keeps-bands, kept-none}
use Rattle.paint.proofs.Going.{joined, some-same}
use Rattle.paint.specs.Actions.{kept_up_to}
use mathlib.Core.List.{List, ◌++◌, append-nil}
use mathlib.Core.Path.{refl, ◌∙◌, ap}
use native.Mathlib.Nat.{not-suc-le-zero}
use native.Mathlib.Omega.{arith}
use Rattle.paint.proofs.kept.Kept.gather.Goals as goal

pub loop-k-init : goal.loop-k-init
loop-k-init c =
    record { banded = λ k h. absurd (not-suc-le-zero h); parts = rw (kept-none, c.run-run.ensures) refl }

pub returns-in_default : goal.returns-in_default
returns-in_default c =
    λ count e.
    let v = c.loop-k.invariant in
    rw (← some-same e)
    (record {
      whole =
          v.parts
          ∙ ap (λ (t : List Action). kept_up_to c.loop-k.self.numbers c.loop-k.self.places c.loop-k.k ++ t)
          c.in_default.ensures.steps.0
          ∙ append-nil _;
      banded = v.banded;
      room = omega (arith, c.loop-k-test.true);
    })

pub loop-k-preserved : goal.loop-k-preserved
loop-k-preserved c =
    let v = c.loop-k.invariant in
    record {
      banded = keeps-bands c.keep.ensures v.banded;
      parts = joined v.parts c.in-Some.ensures.steps c.keep.ensures;
    }
