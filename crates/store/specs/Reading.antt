-- What the numbers and places of one kept action say. How they lie is the crate's own choice; src/lib.rt has the table.
-- Values keep their width, so nothing is lost, and a case of an enum is kept as the number that the guide's tables give it.
use Rattle.std.specs.Prelude.{ℕ, suc, cond, List, eqb, get_or}
use Rattle.units.specs.declared.LengthInSixteenths.{LengthInSixteenths}
use Rattle.units.specs.declared.Pixels.{Pixels}
use Rattle.units.specs.declared.Sixteenths.{Sixteenths}
use Rattle.action.specs.Numbers.{test_of, stencil_action_of, factor_of, format_of}
use Rattle.action.specs.declared.Action.{Action}
use Rattle.action.specs.declared.Drawing.{Drawing}
use Rattle.action.specs.declared.Drawing.TheVariants as d
use Rattle.action.specs.declared.ink.Clear.{Clear}
use Rattle.action.specs.declared.ink.Ink.{Ink}
use Rattle.action.specs.declared.ink.Masks.{Masks}
use Rattle.action.specs.declared.shape.Area.{Area}
use Rattle.action.specs.declared.shape.Bitmap.{Bitmap}
use Rattle.action.specs.declared.shape.End.{End}
use Rattle.action.specs.declared.shape.Point.{Point}
use Rattle.action.specs.declared.shape.Rectangle.{Rectangle}
use Rattle.action.specs.declared.shape.Segment.{Segment}

-- how many of each an action takes
abbrev pub numbers_each : ℕ
numbers_each = 25

abbrev pub places_each : ℕ
places_each = 8

-- the i-th number or place
abbrev pub at : List ℕ → ℕ → ℕ
at xs i = get_or xs i 0

abbrev pub pixels_at : List ℕ → ℕ → Pixels
pixels_at places i = record { 0 = at places i }

abbrev pub sixteenths_at : List ℕ → ℕ → Sixteenths
sixteenths_at places i = record { 0 = at places i }

abbrev pub length_at : List ℕ → ℕ → LengthInSixteenths
length_at numbers i = record { 0 = at numbers i }

unfoldable pub masks_of : List ℕ → Masks
masks_of ns =
    record {
      red = at ns 0;
      green = at ns 1;
      blue = at ns 2;
      alpha = at ns 3;
      stencil = at ns 4;
      tag = at ns 5;
    }

unfoldable pub clear_of : List ℕ → Clear
clear_of ns =
    record {
      colour = at ns 7;
      stencil = at ns 8;
      tag = at ns 9;
      values = record {
        red = at ns 10;
        green = at ns 11;
        blue = at ns 12;
        alpha = at ns 13;
        stencil = at ns 14;
        tag = at ns 15;
      };
    }

unfoldable pub ink_of : List ℕ → Ink
ink_of ns =
    record {
      colour = record { red = at ns 7; green = at ns 8; blue = at ns 9; alpha = at ns 10 };
      alpha = record { test = test_of (at ns 11); reference = at ns 12 };
      stencil = record { test = test_of (at ns 13); reference = at ns 14; mask = at ns 15 };
      actions = record { fail = stencil_action_of (at ns 16); pass = stencil_action_of (at ns 17) };
      blend = record { source = factor_of (at ns 18); target = factor_of (at ns 19) };
      tag = at ns 20;
    }

unfoldable pub scissor_of : List ℕ → Area
scissor_of ps = record { left = pixels_at ps 0; top = pixels_at ps 1; right = pixels_at ps 2; bottom = pixels_at ps 3 }

unfoldable pub point_of : List ℕ → List ℕ → Point
point_of ns ps = record { x = sixteenths_at ps 4; y = sixteenths_at ps 5; size = length_at ns 21 }

unfoldable pub rectangle_of : List ℕ → List ℕ → Rectangle
rectangle_of ns ps =
    record {
      left = sixteenths_at ps 4;
      top = sixteenths_at ps 5;
      right = sixteenths_at ps 6;
      bottom = sixteenths_at ps 7;
      width = length_at ns 21;
    }

unfoldable pub bitmap_of : List ℕ → List ℕ → Bitmap
bitmap_of ns ps =
    record {
      area = record { left = pixels_at ps 4; top = pixels_at ps 5; right = pixels_at ps 6; bottom = pixels_at ps 7 };
      start = at ns 21;
      format = format_of (at ns 22);
      stride = at ns 23;
      height = at ns 24;
    }

-- an end lies in two places
abbrev pub end_at : List ℕ → ℕ → End
end_at ps i = record { x = sixteenths_at ps i; y = sixteenths_at ps (suc i) }

unfoldable pub segment_of : List ℕ → List ℕ → Segment
segment_of ns ps = record { from = end_at ps 4; to = end_at ps 6; width = length_at ns 21; primitive = at ns 22 }

-- by the kind: 0 a clear, 1 a point, 2 a rectangle, 3 a bitmap, any other a segment
unfoldable pub drawing_of : List ℕ → List ℕ → Drawing
drawing_of ns ps =
    cond (eqb (at ns 6) 0) (d.Clear (clear_of ns))
    (cond (eqb (at ns 6) 1) (d.Point (point_of ns ps) (ink_of ns))
    (cond (eqb (at ns 6) 2) (d.Rectangle (rectangle_of ns ps) (ink_of ns))
    (cond (eqb (at ns 6) 3) (d.Bitmap (bitmap_of ns ps) (ink_of ns))
    (d.Segment (segment_of ns ps) (ink_of ns)))))

unfoldable pub action_of : List ℕ → List ℕ → Action
action_of ns ps = record { scissor = scissor_of ps; masks = masks_of ns; drawing = drawing_of ns ps }
