-- Every state that a run comes to is valid. Assumes nothing.
use mathlib.Core.Path.{refl}
use mathlib.Core.List.{List}
use Prim.Native.Nat.{ℕ, zero, suc}
use native.Mathlib.Omega.{arith}
use Rattle.engine.specs.Run.{at_start}
use Rattle.engine.proofs.Saves.{kept-as-said}
use Rattle.invariant.specs.State.{Valid, state_after, StatesValid}
use Rattle.invariant.proofs.Machines.{starting-valid}
use Rattle.invariant.proofs.Running.{run-valid}
use Rattle.invariant.proofs.Settings.{unset-valid}
use Rattle.invariant.proofs.Steps.{next-valid}

pub start-valid : Valid at_start
start-valid = record {
  now =
      record {
        context = starting-valid;
        place = refl;
        returns = (refl, (refl, (refl, (refl, tt))));
        calls = refl;
        depth = omega arith;
      };
  kept = (starting-valid, (starting-valid, (starting-valid, (starting-valid, tt))));
  whole = kept-as-said.start-whole;
  handles = unset-valid;
}

always-valid : (list : List ℕ) (memory n : ℕ) → Valid (state_after list memory n)
always-valid list memory zero = start-valid
always-valid list memory (suc n) = next-valid list memory (state_after list memory n) (always-valid list memory n)

pub states-valid : StatesValid
states-valid = record {
  start = start-valid;
  step = next-valid;
  always = always-valid;
  stops = λ list memory limit. (run-valid list memory limit at_start start-valid).place;
}
