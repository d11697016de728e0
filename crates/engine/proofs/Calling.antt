-- A call and a return are told only where the engine can take them: with fewer than four calls open, and with one at least. Assumes nothing.
use mathlib.Core.Path.{◌≡◌}
use Prim.Native.Nat.{ℕ, ◌%◌, ◌<◌}
use native.Mathlib.Omega.{arith}
use lib.Dec.{eqb, leb}
use borrow.Author.Tests.{eqb-false, leb-false}
use Rattle.truth.proofs.Bools.{by-test}
use Rattle.std.specs.Prelude.{Option, Some, None}
use Rattle.action.specs.declared.shape.Bitmap.{Bitmap}
use Rattle.action.specs.declared.shape.End.{End}
use Rattle.action.specs.Ends.{short_ends}
use Rattle.words.specs.Words.{read_word}
use Rattle.std.specs.Prelude.{Result, Ok, Err}
use Rattle.words.specs.declared.fault.WordFault.{WordFault}
use Rattle.words.specs.declared.word.Word.{Word}
use Rattle.words.specs.declared.word.Word.TheVariants as v
use Rattle.engine.specs.declared.drawn.Primitive.{Primitive}
use Rattle.engine.specs.declared.drawn.Primitive.TheVariants as p
use Rattle.engine.specs.declared.handles.Handles.{Handles}
use Rattle.engine.specs.declared.vertex.Vertex.{Vertex}
use Rattle.engine.specs.declared.machine.Event.{Event}
use Rattle.engine.specs.declared.machine.Event.TheVariants as e
use Rattle.engine.specs.declared.machine.Machine.{Machine}
use Rattle.engine.specs.declared.machine.Stepped.{Stepped}
use Rattle.engine.specs.declared.command.Then.{Then}
use Rattle.engine.specs.declared.command.Then.TheVariants as t
use Rattle.engine.specs.Changes.{with_corner}
use Rattle.engine.specs.Handles.{bitmap_at}
use Rattle.engine.specs.Command.{Obeys, begins, obeys}
use Rattle.engine.specs.Drawn.{drawn_format, drawn_size, drawn_primitive}
use Rattle.engine.specs.Machine.{follows, steps_by, steps}
use Rattle.engine.specs.Vertex.{bitmapped, segment_from, segmented, linked, cornered, drawn_by, vertexed}

abbrev Ready : Event → Machine → Type 0
Ready e.Quiet m = Unit
Ready e.Save m = Unit
Ready e.Restore m = Unit
Ready (e.Call to) m = m.depth < 4
Ready e.Return m = 0 < m.depth
Ready (e.Draw shape) m = Unit
Ready e.Ended m = Unit
Ready (e.Fault number) m = Unit

abbrev ReadyThen : Then → Machine → Type 0
ReadyThen (t.Tell event) m = Ready event m
ReadyThen (t.Place vertex) m = Unit

abbrev ReadyBy : Obeys → Type 0
ReadyBy o = ReadyThen o.obeyed.then o.obeyed.machine

abbrev pub ReadyStep : Stepped → Type 0
ReadyStep s = Ready s.event s.machine

begin-ready : (m : Machine) (hs : Handles) (o : Option Primitive) → ReadyBy (begins m hs o)
begin-ready m hs (Some primitive) = tt
begin-ready m hs None = tt

obeyed-ready : (m : Machine) (hs : Handles) (word : Word) → ReadyBy (obeys m hs word)
unfolding obeys
obeyed-ready m hs (v.Vertex2f x y) = tt
obeyed-ready m hs (v.Vertex2ii x y handle cell) = tt
obeyed-ready m hs v.Display = tt
obeyed-ready m hs (v.BitmapSource addr) = tt
obeyed-ready m hs (v.ClearColorRgb red green blue) = tt
obeyed-ready m hs (v.Tag s) = tt
obeyed-ready m hs (v.ColorRgb red green blue) = tt
obeyed-ready m hs (v.BitmapHandle handle) = tt
obeyed-ready m hs (v.Cell cell) = tt
obeyed-ready m hs (v.BitmapLayout format linestride height) = by-test ReadyBy (drawn_format format) (λ _. tt) (λ _. tt)
obeyed-ready m hs (v.BitmapSize filter wrapx wrapy width height) = by-test ReadyBy (drawn_size filter wrapx wrapy) (λ _. tt) (λ _. tt)
obeyed-ready m hs (v.AlphaFunc func reference) = tt
obeyed-ready m hs (v.StencilFunc func reference mask) = tt
obeyed-ready m hs (v.BlendFunc src dst) = tt
obeyed-ready m hs (v.StencilOp sfail spass) = tt
obeyed-ready m hs (v.PointSize size) = tt
obeyed-ready m hs (v.LineWidth width) = tt
obeyed-ready m hs (v.ClearColorA alpha) = tt
obeyed-ready m hs (v.ColorA alpha) = tt
obeyed-ready m hs (v.ClearStencil s) = tt
obeyed-ready m hs (v.ClearTag t) = tt
obeyed-ready m hs (v.StencilMask mask) = tt
obeyed-ready m hs (v.TagMask mask) = tt
obeyed-ready m hs (v.BitmapTransformA a) = tt
obeyed-ready m hs (v.BitmapTransformB b) = tt
obeyed-ready m hs (v.BitmapTransformC c) = tt
obeyed-ready m hs (v.BitmapTransformD d) = tt
obeyed-ready m hs (v.BitmapTransformE e) = tt
obeyed-ready m hs (v.BitmapTransformF f) = tt
obeyed-ready m hs (v.ScissorXy x y) = tt
obeyed-ready m hs (v.ScissorSize width height) = tt
obeyed-ready m hs (v.Call dest) = by-test ReadyBy (leb 4 m.depth) (λ _. tt) (λ few. by-test ReadyBy (eqb (dest % 4) 0) (λ _. leb-false 4 m.depth few) (λ _. tt))
obeyed-ready m hs (v.Jump dest) = by-test ReadyBy (eqb (dest % 4) 0) (λ _. tt) (λ _. tt)
obeyed-ready m hs (v.Begin prim) = begin-ready m hs (drawn_primitive prim)
obeyed-ready m hs (v.ColorMask r g b a) = tt
obeyed-ready m hs v.End = tt
obeyed-ready m hs v.SaveContext = tt
obeyed-ready m hs v.RestoreContext = tt
obeyed-ready m hs v.Return = by-test ReadyBy (eqb m.depth 0) (λ _. tt) (λ some. omega (arith, eqb-false m.depth 0 some))
obeyed-ready m hs (v.Macro m') = tt
obeyed-ready m hs (v.Clear c s t) = tt
obeyed-ready m hs (v.VertexFormat frac) = tt
obeyed-ready m hs (v.BitmapLayoutH linestride height) = tt
obeyed-ready m hs (v.BitmapSizeH width height) = tt
obeyed-ready m hs (v.PaletteSource addr) = tt
obeyed-ready m hs (v.VertexTranslateX x) = tt
obeyed-ready m hs (v.VertexTranslateY y) = tt
obeyed-ready m hs v.Nop = tt

bitmap-ready : (m : Machine) (b : Option Bitmap) → Ready (bitmapped b) m
bitmap-ready m (Some b) = tt
bitmap-ready m None = tt

linked-ready : (m : Machine) (v : Vertex) (primitive : ℕ) (next from : Option End) → ReadyStep (linked m v primitive next from)
unfolding segmented
linked-ready m v primitive next (Some from) =
    by-test (λ event. Ready event (with_corner m next)) (short_ends (segment_from from v m.context.placing.linewidth primitive)) (λ _. tt) (λ _. tt)
linked-ready m v primitive next None = tt

cornered-ready : (m : Machine) (v : Vertex) (corner : Option End) → ReadyStep (cornered m v corner)
cornered-ready m v (Some corner) = tt
cornered-ready m v None = tt

drawn-ready : (m : Machine) (hs : Handles) (memory : ℕ) (v : Vertex) (o : Option Primitive) → ReadyStep (drawn_by m hs memory v o)
drawn-ready m hs memory v (Some p.Bitmaps) = bitmap-ready m (bitmap_at hs v memory)
drawn-ready m hs memory v (Some p.Points) = tt
drawn-ready m hs memory v (Some p.Lines) = linked-ready m v 3 None m.corner
drawn-ready m hs memory v (Some p.LineStrip) = linked-ready m v 4 _ m.corner
drawn-ready m hs memory v (Some p.Rects) = cornered-ready m v m.corner
drawn-ready m hs memory v None = tt

vertexed-ready : (m : Machine) (hs : Handles) (memory : ℕ) (v : Vertex) → ReadyStep (vertexed m hs memory v)
unfolding vertexed
vertexed-ready m hs memory v = drawn-ready m hs memory v m.primitive

followed-ready : (m : Machine) (hs : Handles) (memory : ℕ) (then : Then) → ReadyThen then m → ReadyStep (follows m hs memory then).stepped
followed-ready m hs memory (t.Tell event) h = h
followed-ready m hs memory (t.Place vertex) h = vertexed-ready m hs memory vertex

read-ready : (m : Machine) (hs : Handles) (memory : ℕ) (read : Result Word WordFault) → ReadyStep (steps_by m hs memory read).stepped
read-ready m hs memory (Ok word) =
    followed-ready _ (obeys m hs word).handles memory (obeys m hs word).obeyed.then (obeyed-ready m hs word)
read-ready m hs memory (Err fault) = tt

stepped-ready : (m : Machine) (hs : Handles) (memory bits : ℕ) → ReadyStep (steps m hs memory bits).stepped
unfolding steps
stepped-ready m hs memory bits = read-ready m hs memory (read_word bits)

module _ (m : Machine) (hs : Handles) (memory bits : ℕ) (s : Stepped) (is : s ≡ (steps m hs memory bits).stepped) where
  ready : ReadyStep s
  ready = rw is (stepped-ready m hs memory bits)

  pub call-ready : (to : ℕ) → s.event ≡ e.Call to → s.machine.depth < 4
  call-ready to h = rw h at ready

  pub return-ready : s.event ≡ e.Return → 0 < s.machine.depth
  return-ready h = rw h at ready
