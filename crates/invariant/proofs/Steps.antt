-- One word leaves a valid state, and what it draws is orderly. Assumes nothing.
use mathlib.Core.Path.{◌≡◌}
use mathlib.Core.List.{List}
use Prim.Native.Nat.{ℕ, ◌+◌, ◌-◌, ◌%◌}
use native.Mathlib.Omega.{arith}
use lib.Dec.{eqb, ltb}
use Rattle.truth.proofs.Bools.{by-test}
use Rattle.std.specs.Prelude.{Option, Some, None}
use Rattle.action.specs.declared.shape.Bitmap.{Bitmap}
use Rattle.action.specs.declared.shape.End.{End}
use Rattle.action.specs.declared.shape.Segment.{Segment}
use Rattle.action.specs.Ends.{short_ends}
use Rattle.action.proofs.Corners.{corners-in-order}
use Rattle.engine.specs.declared.context.Context.{Context}
use Rattle.engine.specs.declared.drawn.Primitive.{Primitive}
use Rattle.engine.specs.declared.drawn.Primitive.TheVariants as p
use Rattle.engine.specs.declared.handles.Handles.{Handles}
use Rattle.engine.specs.declared.vertex.Vertex.{Vertex}
use Rattle.engine.specs.declared.kept.Engine.{Engine}
use Rattle.engine.specs.declared.kept.Kept.{Kept}
use Rattle.engine.specs.declared.machine.Event.{Event}
use Rattle.engine.specs.declared.machine.Event.TheVariants as e
use Rattle.engine.specs.declared.machine.Machine.{Machine}
use Rattle.engine.specs.declared.machine.Stepped.{Stepped}
use Rattle.engine.specs.declared.command.Then.{Then}
use Rattle.engine.specs.declared.command.Then.TheVariants as t
use Rattle.engine.specs.Changes.{with_corner}
use Rattle.engine.specs.Command.{obeys}
use Rattle.engine.specs.Context.{starting}
use Rattle.engine.specs.Handles.{bitmap_at}
use Rattle.engine.specs.Kept.{kept_with, newest, dropped, pushed, popped, called, returned}
use Rattle.engine.specs.Machine.{Steps, follows, steps_by, steps}
use Rattle.engine.specs.Run.{drawing_of, State, place_of, step_of, event_of, settled, next_of}
use Rattle.engine.specs.Vertex.{bitmapped, segmented, linked, cornered, drawn_by, vertexed}
use Rattle.engine.proofs.Saves.{kept-as-said}
use Rattle.invariant.specs.Each.{Each}
use Rattle.invariant.specs.State.{ValidContext, ValidMachine, ValidHandles, Valid}
use Rattle.invariant.proofs.Commands.{ValidEvent, ValidThen, ValidObeys, all-obeyed}
use Rattle.invariant.proofs.Lists.{each_set, each-moved, each_at}
use Rattle.invariant.proofs.Machines.{starting-valid, with-context, with-place, with-corner, with_call, with-return}
use Rattle.words.proofs.Commands.{read-cases}

-- what a word leaves, but for the handles
pub record ValidStepped (s : Stepped) : Type 0 where
  pub machine : ValidMachine s.machine
  pub event : ValidEvent s.machine s.event

-- WHAT A VERTEX DRAWS
segment-orderly : (m : Machine) (d : Segment) → ValidEvent m (segmented d)
unfolding segmented drawing_of
segment-orderly m d = by-test (ValidEvent m) (short_ends d) (λ short c. short) (λ long. tt)

bitmap-orderly : (m : Machine) (answer : Option Bitmap) → ValidEvent m (bitmapped answer)
unfolding drawing_of
bitmap-orderly m (Some b) = λ c. tt
bitmap-orderly m None = tt

-- it changes nothing but the open corner or end
module _ (m : Machine) (valid : ValidMachine m) where
  end-valid : (v : Vertex) (primitive : ℕ) (next from : Option End) → ValidStepped (linked m v primitive next from)
  end-valid v primitive next None = record { machine = with-corner valid _; event = tt }
  end-valid v primitive next (Some from) = record { machine = with-corner valid next; event = segment-orderly (with_corner m next) _ }

  corner-valid : (v : Vertex) (corner : Option End) → ValidStepped (cornered m v corner)
  unfolding drawing_of
  corner-valid v None = record { machine = with-corner valid _; event = tt }
  corner-valid v (Some corner) = record { machine = with-corner valid None; event = λ c. corners-in-order corner.x corner.y v.x v.y _ }

  drawn-valid : (hs : Handles) (memory : ℕ) (v : Vertex) (primitive : Option Primitive) → ValidStepped (drawn_by m hs memory v primitive)
  unfolding drawing_of
  drawn-valid hs memory v (Some p.Bitmaps) = record { machine = valid; event = bitmap-orderly m (bitmap_at hs v memory) }
  drawn-valid hs memory v (Some p.Points) = record { machine = valid; event = λ c. tt }
  drawn-valid hs memory v (Some p.Lines) = end-valid v 3 None m.corner
  drawn-valid hs memory v (Some p.LineStrip) = end-valid v 4 _ m.corner
  drawn-valid hs memory v (Some p.Rects) = corner-valid v m.corner
  drawn-valid hs memory v None = record { machine = valid; event = tt }

  vertex-valid : (hs : Handles) (memory : ℕ) (v : Vertex) → ValidStepped (vertexed m hs memory v)
  unfolding vertexed
  vertex-valid hs memory v = drawn-valid hs memory v m.primitive

-- A WORD
pub record ValidSteps (s : Steps) : Type 0 where
  pub stepped : ValidStepped s.stepped
  pub handles : ValidHandles s.handles

follows-valid : (m : Machine) (hs : Handles) (memory : ℕ) (then : Then) → ValidMachine m → ValidHandles hs → ValidThen m then → ValidSteps (follows m hs memory then)
follows-valid m hs memory (t.Tell event) v h f = record { stepped = record { machine = v; event = f }; handles = h }
follows-valid m hs memory (t.Place vertex) v h f = record { stepped = vertex-valid m v hs memory vertex; handles = h }

steps-valid : (m : Machine) (hs : Handles) (memory bits : ℕ) → ValidMachine m → ValidHandles hs → ValidSteps (steps m hs memory bits)
unfolding steps
steps-valid m hs memory bits v h =
    read-cases
    (λ c. ValidObeys (obeys m hs c))
    (λ read. ValidSteps (steps_by m hs memory read))
    (all-obeyed m hs v h)
    (λ c o. follows-valid _ _ memory (obeys m hs c).obeyed.then o.machine o.handles o.then)
    (record { stepped = record { machine = v; event = tt }; handles = h })
    (record { stepped = record { machine = v; event = tt }; handles = h })
    bits

-- A STEP: the machine that obeys the word has gone past it
pub step-valid : (list : List ℕ) (memory : ℕ) (x : State) → Valid x → ValidSteps (step_of list memory x)
step-valid list memory x v =
    let p : place_of x % 4 ≡ 0 = v.now.place in
    steps-valid _ x.handles memory _ (with-place v.now (place_of x + 4) (omega arith)) v.handles

-- SAVES, RESTORES, CALLS AND RETURNS
kept-valid : (k : Kept) (c : Context) → Each ValidContext k.contexts → ValidContext c → Each ValidContext (kept_with k c).contexts
unfolding kept_with
kept-valid k c v w =
    by-test (λ (j : Kept). Each ValidContext j.contexts) (ltb k.count 4)
    (λ t. each_set ValidContext k.contexts k.count c w v)
    (λ t. each-moved ValidContext k.contexts c w v)

newest-valid : (k : Kept) → Each ValidContext k.contexts → ValidContext (newest k)
unfolding newest
newest-valid k v =
    by-test ValidContext (eqb k.count 0) (λ t. starting-valid) (λ t. each_at ValidContext k.contexts (k.count - 1) starting starting-valid v)

-- the engine's part of a state
record ValidEngine (x : Engine) : Type 0 where
  now : ValidMachine x.now
  kept : Each ValidContext x.kept.contexts

settled-valid : (event : Event) (x : Engine) → ValidEvent x.now event → ValidEngine x → ValidEngine (settled event x)
unfolding pushed popped dropped called returned
settled-valid e.Quiet x o v = v
settled-valid e.Save x o v = record { now = v.now; kept = kept-valid x.kept x.now.context v.kept v.now.context }
settled-valid e.Restore x o v = record { now = with-context v.now (newest-valid x.kept v.kept); kept = v.kept }
settled-valid (e.Call to) x o v = record { now = with_call x v.now to o.0 o.1; kept = v.kept }
settled-valid e.Return x o v = record { now = with-return x v.now; kept = v.kept }
settled-valid (e.Draw shape) x o v = v
settled-valid e.Ended x o v = v
settled-valid (e.Fault number) x o v = v

pub next-valid : (list : List ℕ) (memory : ℕ) (x : State) → Valid x → Valid (next_of list memory x)
next-valid list memory x v =
    let s = step-valid list memory x v in
    let w = settled-valid (event_of list memory x) _ s.stepped.event (record { now = s.stepped.machine; kept = v.kept }) in
    record { now = w.now; kept = w.kept; whole = kept-as-said.next-whole list memory x v.whole; handles = s.handles }
