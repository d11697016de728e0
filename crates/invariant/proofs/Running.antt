-- A run from a valid state: it stops at a word's place, and each of its actions is orderly. Assumes nothing.
use mathlib.Core.Path.{refl}
use mathlib.Core.List.{List}
use Prim.Native.Nat.{ℕ, zero, suc}
use lib.Dec.{ltb}
use lib.ListN.{length}
use Rattle.truth.proofs.Bools.{by-test}
use Rattle.action.specs.declared.Action.{Action}
use Rattle.engine.specs.declared.context.Context.{Context}
use Rattle.engine.specs.declared.machine.Event.{Event}
use Rattle.engine.specs.declared.machine.Event.TheVariants as e
use Rattle.engine.specs.declared.machine.Machine.{Machine}
use Rattle.engine.specs.Run.{State, place_of, step_of, event_of, next_of, action_of, place_told, Ran, after, run}
use Rattle.invariant.specs.Actions.{Orderly}
use Rattle.invariant.specs.Each.{Each}
use Rattle.invariant.specs.State.{Aligned, Valid}
use Rattle.invariant.proofs.Commands.{ValidEvent}
use Rattle.invariant.proofs.Steps.{step-valid, next-valid}

pub record ValidRan (r : Ran) : Type 0 where
  pub place : Aligned (place_told r.stop)
  pub actions : Each (λ (action : Action). Orderly action.drawing) r.actions

after-valid : (at : ℕ) (c : Context) (m : Machine) (event : Event) (rest : Ran) → Aligned at → ValidEvent m event → ValidRan rest → ValidRan (after at c event rest)
unfolding after action_of
after-valid at c m e.Quiet rest a o v = record { place = v.place; actions = v.actions }
after-valid at c m e.Save rest a o v = record { place = v.place; actions = v.actions }
after-valid at c m e.Restore rest a o v = record { place = v.place; actions = v.actions }
after-valid at c m (e.Call to) rest a o v = record { place = v.place; actions = v.actions }
after-valid at c m e.Return rest a o v = record { place = v.place; actions = v.actions }
after-valid at c m (e.Draw shape) rest a o v = record { place = v.place; actions = (o c, v.actions) }
after-valid at c m e.Ended rest a o v = record { place = refl; actions = tt }
after-valid at c m (e.Fault number) rest a o v = record { place = a; actions = tt }

pub run-valid : (list : List ℕ) (memory n : ℕ) (x : State) → Valid x → ValidRan (run list memory n x)
unfolding run
run-valid list memory zero x v = record { place = v.now.place; actions = tt }
run-valid list memory (suc n) x v =
    by-test ValidRan (ltb (place_of x) (length list))
    (λ inside.
    after-valid (place_of x) _ (step_of list memory x).stepped.machine (event_of list memory x) _ v.now.place (step-valid list memory x v).stepped.event
    (run-valid list memory n (next_of list memory x) (next-valid list memory x v)))
    (λ past. record { place = v.now.place; actions = tt })
