-- WHAT A RUN'S STATE KEEPS: one invariant, of the state before the first word and after each word. Every number of it is one that a word can give: by
-- row 12 of document 01's 'Number table' where that speaks of it, else by the width of its field in the guide. The definitions of `engine` lean on
-- it: they make a test, an action, a factor or a format of a kept number, take frac from 4, and fetch words at multiples of 4.
use Rattle.std.specs.Prelude.{◌≡◌, true, Some, List, ℕ, zero, suc, ◌%◌, ◌≤◌, ◌<◌, length}
use Rattle.units.specs.Units.{meant_translation}
use Rattle.action.specs.declared.ink.ClearValues.{ClearValues}
use Rattle.action.specs.declared.ink.Masks.{Masks}
use Rattle.words.specs.Fields.{InBits}
use Rattle.engine.specs.declared.context.Brush.{Brush}
use Rattle.engine.specs.declared.context.Context.{Context}
use Rattle.engine.specs.declared.context.Placing.{Placing}
use Rattle.engine.specs.declared.handles.Handle.{Handle}
use Rattle.engine.specs.declared.handles.Handles.{Handles}
use Rattle.engine.specs.declared.handles.Layout.{Layout}
use Rattle.engine.specs.declared.machine.Machine.{Machine}
use Rattle.engine.specs.Drawn.{drawn_format}
use Rattle.engine.specs.Handles.{settings_at, handle_at}
use Rattle.engine.specs.Run.{State, next_of, at_start, place_told, run_of}
use Rattle.engine.specs.Saves.{Whole}
use Rattle.invariant.specs.Each.{Each}

-- A CONTEXT. Row 12: 'value without meaning: test function above 7, stencil action above 5, blend factor above 5'; the others have eight bits
pub record ValidBrush (b : Brush) : Type 0 where
  pub red : b.red < 256
  pub green : b.green < 256
  pub blue : b.blue < 256
  pub alpha : b.alpha < 256
  pub tag : b.tag < 256
  pub alphatest : b.alphatest ≤ 7
  pub alphareference : b.alphareference < 256
  pub stenciltest : b.stenciltest ≤ 7
  pub stencilreference : b.stencilreference < 256
  pub stencilmask : b.stencilmask < 256
  pub fail : b.fail ≤ 5
  pub pass : b.pass ≤ 5
  pub source : b.source ≤ 5
  pub target : b.target ≤ 5

pub record ValidMasks (k : Masks) : Type 0 where
  pub red : k.red < 2
  pub green : k.green < 2
  pub blue : k.blue < 2
  pub alpha : k.alpha < 2
  pub stencil : k.stencil < 256
  pub tag : k.tag < 2

pub record ValidClearing (k : ClearValues) : Type 0 where
  pub red : k.red < 256
  pub green : k.green < 256
  pub blue : k.blue < 256
  pub alpha : k.alpha < 256
  pub stencil : k.stencil < 256
  pub tag : k.tag < 256

-- Row 12: 'frac above 4, scissor width or height above 2,048'. A translation has 17 bits, signed, a point's size 13 and a line's width 12
pub record ValidPlacing (p : Placing) : Type 0 where
  pub left : p.left < 2048
  pub top : p.top < 2048
  pub width : p.width ≤ 2048
  pub height : p.height ≤ 2048
  pub pointsize : p.pointsize < 8192
  pub linewidth : p.linewidth < 4096
  pub frac : p.frac ≤ 4
  pub dx : InBits 17 (meant_translation p.dx)
  pub dy : InBits 17 (meant_translation p.dy)
  pub handle : p.handle < 32
  pub cell : p.cell < 128

pub record ValidContext (c : Context) : Type 0 where
  pub brush : ValidBrush c.brush
  pub masks : ValidMasks c.masks
  pub clearing : ValidClearing c.clearing
  pub placing : ValidPlacing c.placing

-- THE MACHINE. Row 16: 'CALL or JUMP target not a multiple of 4', so that every place is one, and every return address;
-- row 14: 'fifth open CALL'. Row 13 refuses a BEGIN that is not drawn: that the primitive is drawn, or none is begun,
-- which is what row 17 asks, its type says
abbrev pub Aligned : ℕ → Type 0
Aligned place = place % 4 ≡ 0

pub record ValidMachine (m : Machine) : Type 0 where
  pub context : ValidContext m.context
  pub place : Aligned m.at
  pub returns : Each Aligned m.calls
  pub calls : length m.calls ≡ 4
  pub depth : m.depth ≤ 4

-- THE HANDLES. Row 13 refuses a BITMAP_LAYOUT with a format that is not drawn, so that no vertex draws with one
pub record ValidHandles (hs : Handles) : Type 0 where
  pub places : length hs.0 ≡ 32
  pub format : (handle : ℕ) (layout : Layout) → (settings_at hs handle).layout ≡ Some layout → drawn_format layout.format ≡ true
  pub drawn-with : (handle : ℕ) (h : Handle) → handle_at hs handle ≡ Some h → drawn_format h.format ≡ true

-- THE STATE. 'Four contexts are kept': what a restore loads is valid too
pub record Valid (x : State) : Type 0 where
  pub now : ValidMachine x.engine.now
  pub kept : Each ValidContext x.engine.kept.contexts
  pub whole : Whole x.engine.kept
  pub handles : ValidHandles x.handles

-- the state after so many words; a run comes to these, up to the word that ends it
abbrev pub state_after : List ℕ → ℕ → ℕ → State
state_after list memory zero = at_start
state_after list memory (suc n) = next_of list memory (state_after list memory n)

-- THE CLAIM, for every list and every RAM_G
pub record StatesValid : Type 0 where
  pub start : Valid at_start
  pub step : (list : List ℕ) (memory : ℕ) (x : State) → Valid x → Valid (next_of list memory x)
  pub always : (list : List ℕ) (memory n : ℕ) → Valid (state_after list memory n)
  -- 'Numbers 10 to 19 carry the byte offset of the word': where a run stops is where a word can lie
  pub stops : (list : List ℕ) (memory limit : ℕ) → Aligned (place_told (run_of list memory limit).stop)
