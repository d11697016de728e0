-- Each of the 48 commands leaves a valid machine and valid handles, and draws only what is orderly. Assumes nothing.
use Prim.Native.Nat.{ℕ, ◌%◌, ◌<◌}
use native.Mathlib.Omega.{arith}
use lib.Dec.{eqb, leb}
use borrow.Author.Tests.{leb-true, leb-false, eqb-true}
use Rattle.std.specs.Prelude.{Option, Some, None}
use Rattle.truth.proofs.Bools.{by-test}
use Rattle.action.specs.declared.ink.ClearValues.{ClearValues}
use Rattle.action.specs.declared.ink.Masks.{Masks}
use Rattle.words.specs.declared.word.Word.TheVariants as w
use Rattle.words.specs.Table.{rows}
use Rattle.engine.specs.declared.context.Brush.{Brush}
use Rattle.engine.specs.declared.context.Context.{Context}
use Rattle.engine.specs.declared.context.Placing.{Placing}
use Rattle.engine.specs.declared.drawn.Primitive.{Primitive}
use Rattle.engine.specs.declared.handles.Handles.{Handles}
use Rattle.engine.specs.declared.machine.Event.{Event}
use Rattle.engine.specs.declared.machine.Event.TheVariants as e
use Rattle.engine.specs.declared.machine.Machine.{Machine}
use Rattle.engine.specs.declared.command.Then.{Then}
use Rattle.engine.specs.declared.command.Then.TheVariants as t
use Rattle.engine.specs.Changes.{with_brush, with_masks, with_clearing, with_placing}
use Rattle.engine.specs.Command.{Obeys, quietly, begins, obeys}
use Rattle.engine.specs.Drawn.{drawn_format, drawn_size, drawn_primitive}
use Rattle.engine.specs.Run.{drawing_of}
use Rattle.invariant.specs.Actions.{Orderly}
use Rattle.invariant.specs.State.{ValidBrush, ValidMasks, ValidClearing, ValidPlacing, Aligned, ValidMachine, ValidHandles}
use Rattle.invariant.proofs.Machines.{translation-in, with-context, with-place, with-primitive}
use Rattle.words.proofs.Commands.{InAll}
use Rattle.invariant.proofs.Settings.{sourced-valid, laid-valid, sized-valid, laid-high-valid, sized-high-valid}

-- what an event tells of the machine that tells it: a CALL has room and goes to a word, and a drawing is orderly, whatever the context
abbrev pub ValidEvent : Machine → Event → Type 0
ValidEvent m e.Quiet = Unit {0}
ValidEvent m e.Save = Unit {0}
ValidEvent m e.Restore = Unit {0}
ValidEvent m (e.Call to) = (m.depth < 4) × Aligned to
ValidEvent m e.Return = Unit {0}
ValidEvent m (e.Draw shape) = (c : Context) → Orderly (drawing_of c shape)
ValidEvent m e.Ended = Unit {0}
ValidEvent m (e.Fault number) = Unit {0}

abbrev pub ValidThen : Machine → Then → Type 0
ValidThen m (t.Tell event) = ValidEvent m event
ValidThen m (t.Place vertex) = Unit {0}

-- what a command leaves
pub record ValidObeys (o : Obeys) : Type 0 where
  pub machine : ValidMachine o.obeyed.machine
  pub handles : ValidHandles o.handles
  pub then : ValidThen o.obeyed.machine o.obeyed.then

-- one row's proof before those of the other rows
infixr 20 ◌and◌
abbrev ◌and◌ : {A B : Type 0} → A → B → A × B
a and b = (a, b)

module _ (m : Machine) (hs : Handles) (v : ValidMachine m) (k : ValidHandles hs) where
  untouched : {then : Then} → ValidThen m then → ValidObeys (record { obeyed = record { machine = m; then = then }; handles = hs })
  untouched h = record { machine = v; handles = k; then = h }

  handles : {changed : Handles} → ValidHandles changed → ValidObeys (quietly m changed)
  handles h = record { machine = v; handles = h; then = tt }

  quiet : {changed : Machine} → ValidMachine changed → ValidObeys (quietly changed hs)
  quiet h = record { machine = h; handles = k; then = tt }

  brush : {b : Brush} → ValidBrush b → ValidObeys (quietly (with_brush m b) hs)
  brush h = quiet (with-context v (search))

  masks : {b : Masks} → ValidMasks b → ValidObeys (quietly (with_masks m b) hs)
  masks h = quiet (with-context v (search))

  clearing : {b : ClearValues} → ValidClearing b → ValidObeys (quietly (with_clearing m b) hs)
  clearing h = quiet (with-context v (search))

  placing : {b : Placing} → ValidPlacing b → ValidObeys (quietly (with_placing m b) hs)
  placing h = quiet (with-context v (search))

  -- THE COMMANDS THAT A TEST MAY REFUSE
  layout : (format stride height : ℕ) → ValidObeys (obeys m hs (w.BitmapLayout format stride height))
  unfolding obeys
  layout format stride height =
      by-test ValidObeys (drawn_format format) (λ d. handles (laid-valid _ k _ d)) (λ d. untouched tt)

  size : (filter wrapx wrapy width height : ℕ) → ValidObeys (obeys m hs (w.BitmapSize filter wrapx wrapy width height))
  unfolding obeys
  size filter wrapx wrapy width height =
      by-test ValidObeys (drawn_size filter wrapx wrapy) (λ d. handles (sized-valid _ k _)) (λ d. untouched tt)

  call : (dest : ℕ) → ValidObeys (obeys m hs (w.Call dest))
  unfolding obeys
  call dest =
      by-test ValidObeys (leb 4 m.depth) (λ full. untouched tt)
      (λ room.
      by-test ValidObeys (eqb (dest % 4) 0) (λ a. untouched (leb-false _ _ room, eqb-true _ _ a)) (λ a. untouched tt))

  jump : (dest : ℕ) → ValidObeys (obeys m hs (w.Jump dest))
  unfolding obeys
  jump dest = by-test ValidObeys (eqb (dest % 4) 0) (λ a. quiet (with-place v dest (eqb-true _ _ a))) (λ a. untouched tt)

  begin : (drawn : Option Primitive) → ValidObeys (begins m hs drawn)
  begin (Some primitive) = quiet (with-primitive v (Some primitive))
  begin None = untouched tt

  back : ValidObeys (obeys m hs w.Return)
  unfolding obeys
  back = by-test ValidObeys (eqb m.depth 0) (λ d. untouched tt) (λ d. untouched tt)

  -- THE TABLE, in its order: a λ names each field's number and, where that is needed, what the field tells of it
  pub all-obeyed : InAll (λ c. ValidObeys (obeys m hs c)) rows
  unfolding obeys drawing_of
  all-obeyed =
      (λ x _ y _. untouched tt) and
      (λ x _ y _ handle _ cell _. untouched tt) and
      untouched tt and
      (λ addr _. handles (sourced-valid _ k addr)) and
      (λ red h green i blue j. clearing (search arith)) and
      (λ tag h. brush (search arith)) and
      (λ red h green i blue j. brush (search arith)) and
      (λ handle h. placing (search arith)) and
      (λ cell h. placing (search arith)) and
      (λ format _ stride _ height _. layout format stride height) and
      (λ filter _ wrapx _ wrapy _ width _ height _. size filter wrapx wrapy width height) and
      (λ func h reference i. brush (search (arith, leb-true))) and
      (λ func h reference i mask j. brush (search (arith, leb-true))) and
      (λ source h target i. brush (search (arith, leb-true))) and
      (λ fail h pass i. brush (search (arith, leb-true))) and
      (λ size h. placing (search arith)) and
      (λ width h. placing (search arith)) and
      (λ alpha h. clearing (search arith)) and
      (λ alpha h. brush (search arith)) and
      (λ stencil h. clearing (search arith)) and
      (λ tag h. clearing (search arith)) and
      (λ mask h. masks (search arith)) and
      (λ mask h. masks (search arith)) and
      (λ a _. untouched tt) and
      (λ b _. untouched tt) and
      (λ c _. untouched tt) and
      (λ d _. untouched tt) and
      (λ e _. untouched tt) and
      (λ f _. untouched tt) and
      (λ x h y i. placing (search arith)) and
      (λ width h height i. placing (search (arith, leb-true))) and
      (λ dest _. call dest) and
      (λ dest _. jump dest) and
      (λ primitive _. begin (drawn_primitive primitive)) and
      (λ red h green i blue j alpha l. masks (search arith)) and
      quiet (with-primitive v None) and
      untouched tt and
      untouched tt and
      back and
      (λ m _. untouched tt) and
      (λ colour _ stencil _ tag _. untouched (λ c. tt)) and
      (λ frac h. placing (search (arith, leb-true))) and
      (λ stride _ height _. handles (laid-high-valid _ k _)) and
      (λ width _ height _. handles (sized-high-valid _ k _)) and
      (λ addr _. untouched tt) and
      (λ x h. placing (search (arith, translation-in))) and
      (λ y h. placing (search (arith, translation-in))) and
      untouched tt and
      tt
