-- WHAT THE NUMBERS OF A VALID STATE STAND FOR. The definitions of `engine` take any number. Of those that a run's state keeps, none takes the last case
-- for want of a name, and no vertex lies where its place cannot be kept.
use Rattle.std.specs.Prelude.{◌≡◌, Some, ℕ, ◌*◌, ◌^◌, ◌<◌, ℤ, pos, ◌+ℤ◌, ◌*ℤ◌}
use Rattle.units.specs.Units.{meant_sixteenths, meant_translation}
use Rattle.action.specs.Numbers.{test_number, test_of, stencil_action_number, stencil_action_of, factor_number, factor_of, format_number, format_of}
use Rattle.engine.specs.declared.context.Brush.{Brush}
use Rattle.engine.specs.declared.context.Placing.{Placing}
use Rattle.engine.specs.declared.handles.Handle.{Handle}
use Rattle.engine.specs.declared.handles.Handles.{Handles}
use Rattle.engine.specs.declared.handles.Layout.{Layout}
use Rattle.engine.specs.Handles.{settings_at, handle_at}
use Rattle.engine.specs.Vertex.{unit_of, placed2f, placed2ii}
use Rattle.words.specs.Fields.{InBits}
use Rattle.invariant.specs.State.{ValidBrush, ValidPlacing, ValidHandles}

-- each number is that of the test, the stencil action or the blend factor that is made of it: row 12 of document 01 refuses the others
pub record NamedBrush (b : Brush) : Type 0 where
  pub alphatest : test_number (test_of b.alphatest) ≡ b.alphatest
  pub stenciltest : test_number (test_of b.stenciltest) ≡ b.stenciltest
  pub fail : stencil_action_number (stencil_action_of b.fail) ≡ b.fail
  pub pass : stencil_action_number (stencil_action_of b.pass) ≡ b.pass
  pub source : factor_number (factor_of b.source) ≡ b.source
  pub target : factor_number (factor_of b.target) ≡ b.target

-- and each layout's number that of the format, and so that of each handle that a vertex draws with: row 13 refuses
-- the formats that are not drawn
pub record NamedFormats (hs : Handles) : Type 0 where
  pub format : (handle : ℕ) (layout : Layout) → (settings_at hs handle).layout ≡ Some layout → format_number (format_of layout.format) ≡ layout.format
  pub drawn-with : (handle : ℕ) (h : Handle) → handle_at hs handle ≡ Some h → format_number (format_of h.format) ≡ h.format

-- 'A VERTEX2F number is multiplied by 2^(4-frac), a VERTEX2II number by 16, then the translation is added.' A VERTEX2F number has 15 bits, signed, a
-- VERTEX2II number 9: the position that is kept means just this integer, on either side of the screen's edge, and 4-frac is not below 0
pub record MeantVertices (p : Placing) : Type 0 where
  pub unit : unit_of p.frac * 2 ^ p.frac ≡ 16
  pub x2f : (x y : ℤ) → InBits 15 x → meant_sixteenths (placed2f p x y).x ≡ x *ℤ pos (unit_of p.frac) +ℤ meant_translation p.dx
  pub y2f : (x y : ℤ) → InBits 15 y → meant_sixteenths (placed2f p x y).y ≡ y *ℤ pos (unit_of p.frac) +ℤ meant_translation p.dy
  pub x2ii : (x y handle cell : ℕ) → x < 512 → meant_sixteenths (placed2ii p x y handle cell).x ≡ pos (16 * x) +ℤ meant_translation p.dx
  pub y2ii : (x y handle cell : ℕ) → y < 512 → meant_sixteenths (placed2ii p x y handle cell).y ≡ pos (16 * y) +ℤ meant_translation p.dy

-- THE CLAIM
pub record NumbersMeant : Type 0 where
  pub brushes : (b : Brush) → ValidBrush b → NamedBrush b
  pub formats : (hs : Handles) → ValidHandles hs → NamedFormats hs
  pub vertices : (p : Placing) → ValidPlacing p → MeantVertices p
