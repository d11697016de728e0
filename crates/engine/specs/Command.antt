-- The commands: what each does to the machine and to the handles, and what it tells. Document 01, 'Words and state' and the rows 13 to 16 of 'Number table';
-- where they are silent the guide's section of the command.
use Rattle.std.specs.Prelude.{cond, Option, Some, None, ℕ, ◌%◌, eqb, leb}
use Rattle.units.specs.Units.{translation_at}
use Rattle.words.specs.declared.word.Word.{Word}
use Rattle.words.specs.declared.word.Word.TheVariants as v
use Rattle.engine.specs.declared.command.Obeyed.{Obeyed}
use Rattle.engine.specs.declared.command.Then.TheVariants as t
use Rattle.engine.specs.declared.drawn.Primitive.{Primitive}
use Rattle.engine.specs.declared.fault.Fault.{Fault}
use Rattle.engine.specs.declared.fault.Fault.TheVariants as fault
use Rattle.engine.specs.declared.handles.Handles.{Handles}
use Rattle.engine.specs.declared.machine.Event.{Event}
use Rattle.engine.specs.declared.machine.Event.TheVariants as e
use Rattle.engine.specs.declared.machine.Machine.{Machine}
use Rattle.engine.specs.declared.machine.Shape.TheVariants as s
use Rattle.engine.specs.declared.vertex.Vertex.{Vertex}
use Rattle.engine.specs.Changes.{with_brush, with_masks, with_clearing, with_placing, with_place, coloured, faded, tagged, alpha_tested, stencil_tested, stencilled, blended, clear_coloured, clear_faded, clear_stencilled, clear_tagged, colour_masked, stencil_masked, tag_masked, scissored_at, scissored_to, point_sized, line_wide, formatted, handling, celled, moved_across, moved_down}
use Rattle.engine.specs.Drawn.{drawn_format, drawn_size, drawn_primitive}
use Rattle.engine.specs.Fault.{fault_number}
use Rattle.engine.specs.Handles.{sourced, laid_out, sized, laid_out_high, sized_high}
use Rattle.engine.specs.Vertex.{placed2f, placed2ii}

-- what a command leaves: the machine, with an event to tell or a vertex to draw, and the handles
pub record Obeys : Type 0 where
  pub obeyed : Obeyed
  pub handles : Handles

abbrev pub telling : Machine → Handles → Event → Obeys
telling m hs event = record { obeyed = record { machine = m; then = t.Tell event }; handles = hs }

abbrev pub placing : Machine → Handles → Vertex → Obeys
placing m hs vertex = record { obeyed = record { machine = m; then = t.Place vertex }; handles = hs }

abbrev pub quietly : Machine → Handles → Obeys
quietly m hs = telling m hs e.Quiet

abbrev pub faulty : Machine → Handles → Fault → Obeys
faulty m hs why = telling m hs (e.Fault (fault_number why))

-- 'BEGIN and END drop an open corner; END leaves no primitive begun', and of lines: 'BEGIN and END drop an open end'
abbrev pub beginning : Machine → Option Primitive → Machine
beginning m primitive =
    record { context = m.context; calls = m.calls; depth = m.depth; primitive = primitive; at = m.at; corner = None }

-- a primitive that is not drawn is refused
abbrev pub begins : Machine → Handles → Option Primitive → Obeys
begins m hs (Some primitive) = quietly (beginning m (Some primitive)) hs
begins m hs None = faulty m hs fault.NotDrawn

abbrev pub clears : ℕ → ℕ → ℕ → Event
clears colour stencil tag = e.Draw (s.Clear (record { colour = colour; stencil = stencil; tag = tag }))

-- what a command does, up to the drawing of a vertex
unfoldable pub obeys : Machine → Handles → Word → Obeys
obeys m hs (v.Vertex2f x y) = placing m hs (placed2f m.context.placing x y)
obeys m hs (v.Vertex2ii x y handle cell) = placing m hs (placed2ii m.context.placing x y handle cell)
obeys m hs v.Display = telling m hs e.Ended
obeys m hs (v.BitmapSource addr) = quietly m (sourced hs m.context.placing.handle addr)
obeys m hs (v.ClearColorRgb red green blue) = quietly (with_clearing m (clear_coloured m.context.clearing red green blue)) hs
obeys m hs (v.Tag s) = quietly (with_brush m (tagged m.context.brush s)) hs
obeys m hs (v.ColorRgb red green blue) = quietly (with_brush m (coloured m.context.brush red green blue)) hs
obeys m hs (v.BitmapHandle handle) = quietly (with_placing m (handling m.context.placing handle)) hs
obeys m hs (v.Cell cell) = quietly (with_placing m (celled m.context.placing cell)) hs
obeys m hs (v.BitmapLayout format linestride height) =
    cond (drawn_format format) (quietly m (laid_out hs m.context.placing.handle (record { format = format; stride = linestride; height = height }))) (faulty m hs fault.NotDrawn)
obeys m hs (v.BitmapSize filter wrapx wrapy width height) =
    cond (drawn_size filter wrapx wrapy) (quietly m (sized hs m.context.placing.handle (record { width = width; height = height }))) (faulty m hs fault.NotDrawn)
obeys m hs (v.AlphaFunc func reference) = quietly (with_brush m (alpha_tested m.context.brush func reference)) hs
obeys m hs (v.StencilFunc func reference mask) = quietly (with_brush m (stencil_tested m.context.brush func reference mask)) hs
obeys m hs (v.BlendFunc src dst) = quietly (with_brush m (blended m.context.brush src dst)) hs
obeys m hs (v.StencilOp sfail spass) = quietly (with_brush m (stencilled m.context.brush sfail spass)) hs
obeys m hs (v.PointSize size) = quietly (with_placing m (point_sized m.context.placing size)) hs
obeys m hs (v.LineWidth width) = quietly (with_placing m (line_wide m.context.placing width)) hs
obeys m hs (v.ClearColorA alpha) = quietly (with_clearing m (clear_faded m.context.clearing alpha)) hs
obeys m hs (v.ColorA alpha) = quietly (with_brush m (faded m.context.brush alpha)) hs
obeys m hs (v.ClearStencil s) = quietly (with_clearing m (clear_stencilled m.context.clearing s)) hs
obeys m hs (v.ClearTag t) = quietly (with_clearing m (clear_tagged m.context.clearing t)) hs
obeys m hs (v.StencilMask mask) = quietly (with_masks m (stencil_masked m.context.masks mask)) hs
obeys m hs (v.TagMask mask) = quietly (with_masks m (tag_masked m.context.masks mask)) hs
obeys m hs (v.BitmapTransformA a) = faulty m hs fault.NotDrawn
obeys m hs (v.BitmapTransformB b) = faulty m hs fault.NotDrawn
obeys m hs (v.BitmapTransformC c) = faulty m hs fault.NotDrawn
obeys m hs (v.BitmapTransformD d) = faulty m hs fault.NotDrawn
obeys m hs (v.BitmapTransformE e) = faulty m hs fault.NotDrawn
obeys m hs (v.BitmapTransformF f) = faulty m hs fault.NotDrawn
obeys m hs (v.ScissorXy x y) = quietly (with_placing m (scissored_at m.context.placing x y)) hs
obeys m hs (v.ScissorSize width height) = quietly (with_placing m (scissored_to m.context.placing width height)) hs
obeys m hs (v.Call dest) =
    cond (leb 4 m.depth) (faulty m hs fault.CallsTooDeep) (cond (eqb (dest % 4) 0) (telling m hs (e.Call dest)) (faulty m hs fault.NotAWord))
obeys m hs (v.Jump dest) = cond (eqb (dest % 4) 0) (quietly (with_place m dest) hs) (faulty m hs fault.NotAWord)
obeys m hs (v.Begin prim) = begins m hs (drawn_primitive prim)
obeys m hs (v.ColorMask r g b a) = quietly (with_masks m (colour_masked m.context.masks r g b a)) hs
obeys m hs v.End = quietly (beginning m None) hs
obeys m hs v.SaveContext = telling m hs e.Save
obeys m hs v.RestoreContext = telling m hs e.Restore
obeys m hs v.Return = cond (eqb m.depth 0) (faulty m hs fault.NothingToReturnTo) (telling m hs e.Return)
obeys m hs (v.Macro m') = faulty m hs fault.NotDrawn
obeys m hs (v.Clear c s t) = telling m hs (clears c s t)
obeys m hs (v.VertexFormat frac) = quietly (with_placing m (formatted m.context.placing frac)) hs
obeys m hs (v.BitmapLayoutH linestride height) = quietly m (laid_out_high hs m.context.placing.handle (record { stride = linestride; height = height }))
obeys m hs (v.BitmapSizeH width height) = quietly m (sized_high hs m.context.placing.handle (record { width = width; height = height }))
obeys m hs (v.PaletteSource addr) = faulty m hs fault.NotDrawn
obeys m hs (v.VertexTranslateX x) = quietly (with_placing m (moved_across m.context.placing (translation_at x))) hs
obeys m hs (v.VertexTranslateY y) = quietly (with_placing m (moved_down m.context.placing (translation_at y))) hs
obeys m hs v.Nop = quietly m hs
