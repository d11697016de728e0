-- A vertex: where its word places it, and what it draws with the primitive that is begun. Document 01, 'Words and state', from 'A corner is placed' to
-- 'then the translation is added', and the rows 17 and 18 of 'Number table'; wish 1 of document 02.
use Rattle.std.specs.Prelude.{cond, Option, Some, None, ℕ, ◌-◌, ◌*◌, ◌^◌, ℤ, pos, ◌+ℤ◌, ◌*ℤ◌}
use Rattle.units.specs.Units.{sixteenth_at, meant_translation}
use Rattle.action.specs.declared.shape.Bitmap.{Bitmap}
use Rattle.action.specs.declared.shape.End.{End}
use Rattle.action.specs.declared.shape.Segment.{Segment}
use Rattle.action.specs.Corners.{corners_in_order}
use Rattle.action.specs.Ends.{short_ends}
use Rattle.engine.specs.declared.context.Placing.{Placing}
use Rattle.engine.specs.declared.drawn.Primitive.{Primitive}
use Rattle.engine.specs.declared.drawn.Primitive.TheVariants as p
use Rattle.engine.specs.declared.fault.Fault.TheVariants as fault
use Rattle.engine.specs.declared.handles.Handles.{Handles}
use Rattle.engine.specs.declared.machine.Event.{Event}
use Rattle.engine.specs.declared.machine.Event.TheVariants as e
use Rattle.engine.specs.declared.machine.Machine.{Machine}
use Rattle.engine.specs.declared.machine.Shape.TheVariants as s
use Rattle.engine.specs.declared.machine.Stepped.{Stepped}
use Rattle.engine.specs.declared.vertex.Vertex.{Vertex}
use Rattle.engine.specs.Changes.{with_corner}
use Rattle.engine.specs.Fault.{fault_number}
use Rattle.engine.specs.Handles.{bitmap_at}

-- 'A VERTEX2F number is multiplied by 2^(4-frac), a VERTEX2II number by 16, then the translation is added.'
abbrev pub unit_of : ℕ → ℕ
unit_of frac = 2 ^ (4 - frac)

unfoldable pub placed2f : Placing → ℤ → ℤ → Vertex
placed2f p x y =
    record {
      x = sixteenth_at (x *ℤ pos (unit_of p.frac) +ℤ meant_translation p.dx);
      y = sixteenth_at (y *ℤ pos (unit_of p.frac) +ℤ meant_translation p.dy);
      handle = p.handle;
      cell = p.cell;
    }

unfoldable pub placed2ii : Placing → ℕ → ℕ → ℕ → ℕ → Vertex
placed2ii p x y handle cell =
    record {
      x = sixteenth_at (pos (16 * x) +ℤ meant_translation p.dx);
      y = sixteenth_at (pos (16 * y) +ℤ meant_translation p.dy);
      handle = handle;
      cell = cell;
    }

-- where a vertex lies
abbrev pub end_at : Vertex → End
end_at v = record { x = v.x; y = v.y }

abbrev pub pointed : Vertex → ℕ → Event
pointed v size = e.Draw (s.Point (record { x = v.x; y = v.y; size = record { 0 = size } }))

-- 'corners are put in order, x and y apart'
abbrev pub rectangled : End → Vertex → ℕ → Event
rectangled c v width = e.Draw (s.Rectangle (corners_in_order c.x c.y v.x v.y (record { 0 = width })))

abbrev pub bitmapped : Option Bitmap → Event
bitmapped (Some b) = e.Draw (s.Bitmap b)
bitmapped None = e.Fault (fault_number fault.Undrawable)

-- the second corner draws, and a third vertex opens a new rectangle
abbrev pub cornered : Machine → Vertex → Option End → Stepped
cornered m v None = record { machine = with_corner m (Some (end_at v)); event = e.Quiet }
cornered m v (Some corner) = record { machine = with_corner m None; event = rectangled corner v m.context.placing.linewidth }

-- LINES. 'Ends are placed as corners are and compared in the order given; a segment uses the state at its second end.'
unfoldable pub segment_from : End → Vertex → ℕ → ℕ → Segment
segment_from from v width primitive = record { from = from; to = end_at v; width = record { 0 = width }; primitive = primitive }

-- '20 when an end lies outside -32768..32767 sixteenths, .. at the vertex that completes the segment'
unfoldable pub segmented : Segment → Event
segmented d = cond (short_ends d) (e.Draw (s.Segment d)) (e.Fault (fault_number fault.EndTooFar))

-- a vertex that finds no open end opens one; else it completes a segment of the primitive's number and leaves `next`, an
-- open end or none
abbrev pub linked : Machine → Vertex → ℕ → Option End → Option End → Stepped
linked m v primitive next None = record { machine = with_corner m (Some (end_at v)); event = e.Quiet }
linked m v primitive next (Some from) =
    record { machine = with_corner m next; event = segmented (segment_from from v m.context.placing.linewidth primitive) }

-- 'In LINES vertices pair up; in a strip each vertex after the first ends a segment'. No primitive begun is 17. The
-- guide, 4.5 BEGIN, table 9: "LINES 3" and "LINE_STRIP 4"
abbrev pub drawn_by : Machine → Handles → ℕ → Vertex → Option Primitive → Stepped
drawn_by m hs memory v (Some p.Bitmaps) = record { machine = m; event = bitmapped (bitmap_at hs v memory) }
drawn_by m hs memory v (Some p.Points) = record { machine = m; event = pointed v m.context.placing.pointsize }
drawn_by m hs memory v (Some p.Lines) = linked m v 3 None m.corner
drawn_by m hs memory v (Some p.LineStrip) = linked m v 4 (Some (end_at v)) m.corner
drawn_by m hs memory v (Some p.Rects) = cornered m v m.corner
drawn_by m hs memory v None = record { machine = m; event = e.Fault (fault_number fault.NothingBegun) }

unfoldable pub vertexed : Machine → Handles → ℕ → Vertex → Stepped
vertexed m hs memory v = drawn_by m hs memory v m.primitive
