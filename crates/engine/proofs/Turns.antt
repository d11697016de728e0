-- One turn of a run: what was done so far, with the run from here, is the whole run. Assumes nothing.
use mathlib.Core.Path.{◌≡◌}
use mathlib.Core.Bool.{false}
use mathlib.Core.List.{List}
use Prim.Native.Nat.{ℕ, zero, suc, ◌+◌, ◌-◌, ◌≤◌, ◌<◌}
use native.Mathlib.Omega.{arith}
use native.Mathlib.Numerals.{sub-one}
use borrow.Author.Tests.{lt-ltb, le-ltb}
use lib.ListN.{length}
use Rattle.engine.specs.declared.kept.Engine.{Engine}
use Rattle.engine.specs.declared.context.Context.{Context}
use Rattle.std.specs.Prelude.{None}
use Rattle.engine.specs.declared.fault.Fault.TheVariants as why
use Rattle.engine.specs.Fault.{fault_number}
use Rattle.engine.specs.declared.handles.Handles.{Handles}
use Rattle.engine.specs.declared.machine.Event.{Event}
use Rattle.engine.specs.declared.machine.Event.TheVariants as e
use Rattle.engine.specs.declared.machine.Shape.{Shape}
use Rattle.engine.specs.declared.machine.Stepped.{Stepped}
use Rattle.engine.specs.declared.run.Find.TheVariants as f
use Rattle.engine.specs.Advance.{more, then, heard}
use Rattle.engine.specs.Run.{State, place_of, step_of, settled, action_of, stop_at, Ran, run, after, counted}

-- one word more, counted here or there
on-count : (allowed left : ℕ) (r : Ran) → 0 < left → left ≤ allowed → more (allowed - left) (counted r) ≡ more (allowed - (left - 1)) r
on-count allowed left r some within =
    let k : allowed - left + (r.count + 1) ≡ allowed - (left - 1) + r.count = omega arith in
    rw k

module _ (list : List ℕ) (memory : ℕ) (x : State) (allowed : ℕ) where
  pub past : (left : ℕ) → 0 < left → length list ≤ place_of x → (rest : Ran) → more (allowed - left) (run list memory left x) ≡ then (allowed - left) (f.Over (stop_at (fault_number why.PastTheEnd) (place_of x))) rest
  unfolding run then
  past zero some h rest = absurd (omega arith)
  past (suc n) some h rest =
      let k : allowed - suc n + 0 ≡ allowed - suc n = omega arith in
      rw (le-ltb _ _ h, k)

  -- a step taken inside the list
  module _ (s : Stepped) (hs : Handles) (is : s ≡ (step_of list memory x).stepped) (are : hs ≡ (step_of list memory x).handles) where
    pub turn : (left : ℕ) → 0 < left → place_of x < length list →
        run list memory left x ≡
        after (place_of x) (settled s.event (record { now = s.machine; kept = x.engine.kept })).now.context s.event
        (run list memory (left - 1) (record { engine = settled s.event (record { now = s.machine; kept = x.engine.kept }); handles = hs }))
    unfolding run
    turn zero some inside = absurd (omega arith)
    turn (suc n) some inside = rw (sub-one (suc n), is, are, lt-ltb _ _ inside)

    module _ (left : ℕ) (some : 0 < left) (within : left ≤ allowed) (inside : place_of x < length list) where
      -- a word after which the run goes on with no more to tell
      pub on : (event : Event) → ((c : Context) (rest : Ran) → after (place_of x) c event rest ≡ counted rest) → s.event ≡ event →
          (y : Engine) → y ≡ settled event (record { now = s.machine; kept = x.engine.kept }) →
          more (allowed - left) (run list memory left x) ≡
          more (allowed - (left - 1)) (run list memory (left - 1) (record { engine = y; handles = hs }))
      on event quiet h y q = rw (turn left some inside, h, q, quiet _ _) (on-count allowed left _ some within)

      -- an action that is passed over, and one that is told
      pub on-draw : (shape : Shape) → s.event ≡ e.Draw shape →
          heard false (more (allowed - left) (run list memory left x)) ≡
          heard false (more (allowed - (left - 1)) (run list memory (left - 1) (record { engine = record { now = s.machine; kept = x.engine.kept }; handles = hs })))
      unfolding after heard
      on-draw shape h =
          let r : Ran = run list memory (left - 1) (record { engine = record { now = s.machine; kept = x.engine.kept }; handles = hs }) in
          let k : allowed - left + (r.count + 1) ≡ allowed - (left - 1) + r.count = omega arith in
          rw (turn left some inside, h, k)

      pub drew : (shape : Shape) → s.event ≡ e.Draw shape →
          more (allowed - left) (run list memory left x) ≡
          then (allowed - (left - 1)) (f.Drew (action_of s.machine.context shape))
          (run list memory (left - 1) (record { engine = record { now = s.machine; kept = x.engine.kept }; handles = hs }))
      unfolding after then
      drew shape h =
          let r : Ran = run list memory (left - 1) (record { engine = record { now = s.machine; kept = x.engine.kept }; handles = hs }) in
          let k : allowed - left + (r.count + 1) ≡ allowed - (left - 1) + r.count = omega arith in
          rw (turn left some inside, h, k)

      pub ended : s.event ≡ e.Ended → (rest : Ran) →
          more (allowed - left) (run list memory left x) ≡ then (allowed - (left - 1)) (f.Over None) rest
      unfolding after then
      ended h rest =
          let k : allowed - left + 1 ≡ allowed - (left - 1) = omega arith in
          rw (turn left some inside, h, k)

      pub faulted : (number : ℕ) → s.event ≡ e.Fault number → (rest : Ran) →
          more (allowed - left) (run list memory left x) ≡ then (allowed - (left - 1)) (f.Over (stop_at number (place_of x))) rest
      unfolding after then
      faulted number h rest =
          let k : allowed - left + 1 ≡ allowed - (left - 1) = omega arith in
          rw (turn left some inside, h, k)
