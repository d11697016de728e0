-- The context: its starting values, and the values that an action takes from it.
use Rattle.std.specs.Prelude.{pos}
use Rattle.units.specs.Units.{pixel_at, translation_at}
use Rattle.action.specs.declared.shape.Area.{Area}
use Rattle.action.specs.declared.ink.Ink.{Ink}
use Rattle.action.specs.Numbers.{test_of, stencil_action_of, factor_of}
use Rattle.engine.specs.Handles.{cover_of}
use Rattle.engine.specs.declared.context.Brush.{Brush}
use Rattle.engine.specs.declared.context.Context.{Context}
use Rattle.engine.specs.declared.context.Placing.{Placing}

-- The guide's starting values (table 8 and the section of each command). Where the two differ, and why COLOR_A starts at 255, SCISSOR_SIZE at
-- 2,048 by 2,048 and the masks all set, docs/DECISIONS.md tells.
abbrev pub starting : Context
starting =
    record {
      brush =
          record {
            red = 255;
            green = 255;
            blue = 255;
            alpha = 255;
            tag = 255;
            alphatest = 7;
            alphareference = 0;
            stenciltest = 7;
            stencilreference = 0;
            stencilmask = 255;
            fail = 1;
            pass = 1;
            source = 2;
            target = 4;
          };
      masks = record { red = 1; green = 1; blue = 1; alpha = 1; stencil = 255; tag = 1 };
      clearing = record { red = 0; green = 0; blue = 0; alpha = 0; stencil = 0; tag = 0 };
      placing =
          record {
            left = 0;
            top = 0;
            width = 2048;
            height = 2048;
            pointsize = 16;
            linewidth = 16;
            frac = 4;
            dx = translation_at (pos 0);
            dy = translation_at (pos 0);
            handle = 0;
            cell = 0;
          };
    }

-- 'colour, alpha, tests, actions, blend, .. tag': what every drawing but a CLEAR is drawn with
unfoldable pub ink_of : Brush → Ink
ink_of b =
    record {
      colour = record { red = b.red; green = b.green; blue = b.blue; alpha = b.alpha };
      alpha = record { test = test_of b.alphatest; reference = b.alphareference };
      stencil = record { test = test_of b.stenciltest; reference = b.stencilreference; mask = b.stencilmask };
      actions = record { fail = stencil_action_of b.fail; pass = stencil_action_of b.pass };
      blend = record { source = factor_of b.source; target = factor_of b.target };
      tag = b.tag;
    }

-- the scissor: so many pixels wide and high from its left and top ones on
unfoldable pub scissor_of : Placing → Area
scissor_of p = cover_of (pixel_at p.left) (pixel_at p.top) (record { 0 = p.width }) (record { 0 = p.height })
