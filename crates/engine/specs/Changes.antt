-- A state with one part changed. A record is always written whole, so each definition here changes the values that its name and its arguments
-- name, and repeats the others.
use Rattle.std.specs.Prelude.{List, Option, ℕ}
use Rattle.action.specs.declared.ink.ClearValues.{ClearValues}
use Rattle.action.specs.declared.ink.Masks.{Masks}
use Rattle.action.specs.declared.shape.End.{End}
use Rattle.engine.specs.declared.context.Brush.{Brush}
use Rattle.engine.specs.declared.context.Context.{Context}
use Rattle.engine.specs.declared.context.Placing.{Placing}
use Rattle.engine.specs.declared.machine.Machine.{Machine}

-- A MACHINE
abbrev pub with_context : Machine → Context → Machine
with_context m c = record { context = c; calls = m.calls; depth = m.depth; primitive = m.primitive; at = m.at; corner = m.corner }

abbrev pub with_brush : Machine → Brush → Machine
with_brush m b = with_context m (record { brush = b; masks = m.context.masks; clearing = m.context.clearing; placing = m.context.placing })

abbrev pub with_masks : Machine → Masks → Machine
with_masks m k = with_context m (record { brush = m.context.brush; masks = k; clearing = m.context.clearing; placing = m.context.placing })

abbrev pub with_clearing : Machine → ClearValues → Machine
with_clearing m k = with_context m (record { brush = m.context.brush; masks = m.context.masks; clearing = k; placing = m.context.placing })

abbrev pub with_placing : Machine → Placing → Machine
with_placing m p = with_context m (record { brush = m.context.brush; masks = m.context.masks; clearing = m.context.clearing; placing = p })

abbrev pub with_place : Machine → ℕ → Machine
with_place m to = record { context = m.context; calls = m.calls; depth = m.depth; primitive = m.primitive; at = to; corner = m.corner }

abbrev pub with_calls : Machine → List ℕ → ℕ → ℕ → Machine
with_calls m calls depth to = record { context = m.context; calls = calls; depth = depth; primitive = m.primitive; at = to; corner = m.corner }

abbrev pub with_corner : Machine → Option End → Machine
with_corner m c = record { context = m.context; calls = m.calls; depth = m.depth; primitive = m.primitive; at = m.at; corner = c }

-- A PART OF THE CONTEXT, by each command that sets one
abbrev pub coloured : Brush → ℕ → ℕ → ℕ → Brush
coloured g red green blue = record { red = red; green = green; blue = blue; alpha = g.alpha; tag = g.tag; alphatest = g.alphatest; alphareference = g.alphareference; stenciltest = g.stenciltest; stencilreference = g.stencilreference; stencilmask = g.stencilmask; fail = g.fail; pass = g.pass; source = g.source; target = g.target }

abbrev pub faded : Brush → ℕ → Brush
faded g alpha = record { red = g.red; green = g.green; blue = g.blue; alpha = alpha; tag = g.tag; alphatest = g.alphatest; alphareference = g.alphareference; stenciltest = g.stenciltest; stencilreference = g.stencilreference; stencilmask = g.stencilmask; fail = g.fail; pass = g.pass; source = g.source; target = g.target }

abbrev pub tagged : Brush → ℕ → Brush
tagged g tag = record { red = g.red; green = g.green; blue = g.blue; alpha = g.alpha; tag = tag; alphatest = g.alphatest; alphareference = g.alphareference; stenciltest = g.stenciltest; stencilreference = g.stencilreference; stencilmask = g.stencilmask; fail = g.fail; pass = g.pass; source = g.source; target = g.target }

abbrev pub alpha_tested : Brush → ℕ → ℕ → Brush
alpha_tested g func reference = record { red = g.red; green = g.green; blue = g.blue; alpha = g.alpha; tag = g.tag; alphatest = func; alphareference = reference; stenciltest = g.stenciltest; stencilreference = g.stencilreference; stencilmask = g.stencilmask; fail = g.fail; pass = g.pass; source = g.source; target = g.target }

abbrev pub stencil_tested : Brush → ℕ → ℕ → ℕ → Brush
stencil_tested g func reference mask = record { red = g.red; green = g.green; blue = g.blue; alpha = g.alpha; tag = g.tag; alphatest = g.alphatest; alphareference = g.alphareference; stenciltest = func; stencilreference = reference; stencilmask = mask; fail = g.fail; pass = g.pass; source = g.source; target = g.target }

abbrev pub stencilled : Brush → ℕ → ℕ → Brush
stencilled g fail pass = record { red = g.red; green = g.green; blue = g.blue; alpha = g.alpha; tag = g.tag; alphatest = g.alphatest; alphareference = g.alphareference; stenciltest = g.stenciltest; stencilreference = g.stencilreference; stencilmask = g.stencilmask; fail = fail; pass = pass; source = g.source; target = g.target }

abbrev pub blended : Brush → ℕ → ℕ → Brush
blended g source target = record { red = g.red; green = g.green; blue = g.blue; alpha = g.alpha; tag = g.tag; alphatest = g.alphatest; alphareference = g.alphareference; stenciltest = g.stenciltest; stencilreference = g.stencilreference; stencilmask = g.stencilmask; fail = g.fail; pass = g.pass; source = source; target = target }

abbrev pub clear_coloured : ClearValues → ℕ → ℕ → ℕ → ClearValues
clear_coloured g red green blue = record { red = red; green = green; blue = blue; alpha = g.alpha; stencil = g.stencil; tag = g.tag }

abbrev pub clear_faded : ClearValues → ℕ → ClearValues
clear_faded g alpha = record { red = g.red; green = g.green; blue = g.blue; alpha = alpha; stencil = g.stencil; tag = g.tag }

abbrev pub clear_stencilled : ClearValues → ℕ → ClearValues
clear_stencilled g stencil = record { red = g.red; green = g.green; blue = g.blue; alpha = g.alpha; stencil = stencil; tag = g.tag }

abbrev pub clear_tagged : ClearValues → ℕ → ClearValues
clear_tagged g tag = record { red = g.red; green = g.green; blue = g.blue; alpha = g.alpha; stencil = g.stencil; tag = tag }

abbrev pub colour_masked : Masks → ℕ → ℕ → ℕ → ℕ → Masks
colour_masked g red green blue alpha = record { red = red; green = green; blue = blue; alpha = alpha; stencil = g.stencil; tag = g.tag }

abbrev pub stencil_masked : Masks → ℕ → Masks
stencil_masked g mask = record { red = g.red; green = g.green; blue = g.blue; alpha = g.alpha; stencil = mask; tag = g.tag }

abbrev pub tag_masked : Masks → ℕ → Masks
tag_masked g mask = record { red = g.red; green = g.green; blue = g.blue; alpha = g.alpha; stencil = g.stencil; tag = mask }

abbrev pub scissored_at : Placing → ℕ → ℕ → Placing
scissored_at g x y = record { left = x; top = y; width = g.width; height = g.height; pointsize = g.pointsize; linewidth = g.linewidth; frac = g.frac; dx = g.dx; dy = g.dy; handle = g.handle; cell = g.cell }

abbrev pub scissored_to : Placing → ℕ → ℕ → Placing
scissored_to g width height = record { left = g.left; top = g.top; width = width; height = height; pointsize = g.pointsize; linewidth = g.linewidth; frac = g.frac; dx = g.dx; dy = g.dy; handle = g.handle; cell = g.cell }

abbrev pub point_sized : Placing → ℕ → Placing
point_sized g size = record { left = g.left; top = g.top; width = g.width; height = g.height; pointsize = size; linewidth = g.linewidth; frac = g.frac; dx = g.dx; dy = g.dy; handle = g.handle; cell = g.cell }

abbrev pub line_wide : Placing → ℕ → Placing
line_wide g width = record { left = g.left; top = g.top; width = g.width; height = g.height; pointsize = g.pointsize; linewidth = width; frac = g.frac; dx = g.dx; dy = g.dy; handle = g.handle; cell = g.cell }

abbrev pub formatted : Placing → ℕ → Placing
formatted g frac = record { left = g.left; top = g.top; width = g.width; height = g.height; pointsize = g.pointsize; linewidth = g.linewidth; frac = frac; dx = g.dx; dy = g.dy; handle = g.handle; cell = g.cell }

abbrev pub handling : Placing → ℕ → Placing
handling g handle = record { left = g.left; top = g.top; width = g.width; height = g.height; pointsize = g.pointsize; linewidth = g.linewidth; frac = g.frac; dx = g.dx; dy = g.dy; handle = handle; cell = g.cell }

abbrev pub celled : Placing → ℕ → Placing
celled g cell = record { left = g.left; top = g.top; width = g.width; height = g.height; pointsize = g.pointsize; linewidth = g.linewidth; frac = g.frac; dx = g.dx; dy = g.dy; handle = g.handle; cell = cell }

abbrev pub moved_across : Placing → ℕ → Placing
moved_across g dx = record { left = g.left; top = g.top; width = g.width; height = g.height; pointsize = g.pointsize; linewidth = g.linewidth; frac = g.frac; dx = dx; dy = g.dy; handle = g.handle; cell = g.cell }

abbrev pub moved_down : Placing → ℕ → Placing
moved_down g dy = record { left = g.left; top = g.top; width = g.width; height = g.height; pointsize = g.pointsize; linewidth = g.linewidth; frac = g.frac; dx = g.dx; dy = dy; handle = g.handle; cell = g.cell }
