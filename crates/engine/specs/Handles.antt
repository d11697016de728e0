-- The bitmap handles: what BITMAP_SOURCE, BITMAP_LAYOUT, BITMAP_SIZE and the two H words set, and which bitmap a vertex draws.
-- Document 01, 'Which pixels', from 'Cell c starts at' to 'on screen or off.'
use Rattle.std.specs.Prelude.{Bool, cond, ◌&&◌, ◌||◌, Option, Some, None, ℕ, ◌+◌, ◌*◌, ◌%◌, ◌^◌, ◌<◌, eqb, ltb, leb, get_or, replicate, set, option_and_then}
use Rattle.units.specs.Units.{floored, further_on}
use Rattle.units.specs.declared.LengthInPixels.{LengthInPixels}
use Rattle.units.specs.declared.Pixels.{Pixels}
use Rattle.action.specs.declared.shape.Area.{Area}
use Rattle.action.specs.declared.shape.Bitmap.{Bitmap}
use Rattle.action.specs.Numbers.{format_of}
use Rattle.engine.specs.declared.handles.Handle.{Handle}
use Rattle.engine.specs.declared.handles.Handles.{Handles}
use Rattle.engine.specs.declared.handles.Layout.{Layout}
use Rattle.engine.specs.declared.handles.LayoutHigh.{LayoutHigh}
use Rattle.engine.specs.declared.handles.Settings.{Settings}
use Rattle.engine.specs.declared.handles.Size.{Size}
use Rattle.engine.specs.declared.vertex.Vertex.{Vertex}

-- 'Every run starts with all handles unset', and 'the H words start at 0'
abbrev pub unset : Settings
unset =
    record {
      source = None;
      layout = None;
      size = None;
      layout_high = record { stride = 0; height = 0 };
      size_high = record { width = 0; height = 0 };
    }

abbrev pub all_unset : Handles
all_unset = record { 0 = replicate 32 unset }

-- one handle's settings, and all handles with only those changed; a handle's number has five bits
abbrev pub settings_at : Handles → ℕ → Settings
settings_at hs h = get_or hs.0 (h % 32) unset

abbrev pub put : Handles → ℕ → Settings → Handles
put hs h s = record { 0 = set hs.0 (h % 32) s }

-- THE WORDS: each sets its own values of one handle and leaves the others as they are
unfoldable pub sourced : Handles → ℕ → ℕ → Handles
sourced hs h address =
    let s = settings_at hs h in
    put hs h (record { source = Some address; layout = s.layout; size = s.size; layout_high = s.layout_high; size_high = s.size_high })

unfoldable pub laid_out : Handles → ℕ → Layout → Handles
laid_out hs h layout =
    let s = settings_at hs h in
    put hs h (record { source = s.source; layout = Some layout; size = s.size; layout_high = s.layout_high; size_high = s.size_high })

unfoldable pub sized : Handles → ℕ → Size → Handles
sized hs h size =
    let s = settings_at hs h in
    put hs h (record { source = s.source; layout = s.layout; size = Some size; layout_high = s.layout_high; size_high = s.size_high })

unfoldable pub laid_out_high : Handles → ℕ → LayoutHigh → Handles
laid_out_high hs h high =
    let s = settings_at hs h in
    put hs h (record { source = s.source; layout = s.layout; size = s.size; layout_high = high; size_high = s.size_high })

unfoldable pub sized_high : Handles → ℕ → Size → Handles
sized_high hs h high =
    let s = settings_at hs h in
    put hs h (record { source = s.source; layout = s.layout; size = s.size; layout_high = s.layout_high; size_high = high })

-- A HANDLE, main words and H words together: 'source, layout or size unset by its main word' leaves none
abbrev pub joined : ℕ → ℕ → ℕ → ℕ
joined low high power = low + power * high

abbrev pub handle_of : Option ℕ → Option Layout → Option Size → LayoutHigh → Size → Option Handle
handle_of (Some source) (Some layout) (Some size) layout_high size_high =
    Some
    (record {
      source = source;
      format = layout.format;
      stride = joined layout.stride layout_high.stride 1024;
      rows = joined layout.height layout_high.height 512;
      width = record { 0 = joined size.width size_high.width 512 };
      height = record { 0 = joined size.height size_high.height 512 };
    })
handle_of None layout size layout_high size_high = None
handle_of (Some source) None size layout_high size_high = None
handle_of (Some source) (Some layout) None layout_high size_high = None

unfoldable pub handle_at : Handles → ℕ → Option Handle
handle_at hs h =
    let s = settings_at hs h in
    handle_of s.source s.layout s.size s.layout_high s.size_high

-- what a handle's numbers cannot exceed, since each part of them holds 32 bits
pub record Narrow (h : Handle) : Type 0 where
  pub width : h.width.0 < 2 ^ 43
  pub height : h.height.0 < 2 ^ 43

-- 'Cell c starts at source + c * stride * layout height.'
abbrev pub cell_start : Handle → ℕ → ℕ
cell_start h cell = h.source + cell * (h.stride * h.rows)

-- 'for two-byte formats, source or stride odd': L8 is format 3
abbrev pub aligned : Handle → Bool
aligned h = eqb h.format 3 || eqb (h.source % 2) 0 && eqb (h.stride % 2) 0

-- not number 18, of a handle that its main words have set up: no stride, height, drawn width or drawn height of 0; the
-- cell wholly in RAM_G, where the next one would start no later than RAM_G ends; aligned
unfoldable pub drawable : Handle → ℕ → ℕ → Bool
drawable h cell memory =
    ltb 0 h.stride && ltb 0 h.rows && ltb 0 h.width.0 && ltb 0 h.height.0 &&
    leb (cell_start h cell + h.stride * h.rows) memory && aligned h

-- the pixels from a top left one on, so many wide and high; half open, as scissors are
unfoldable pub cover_of : Pixels → Pixels → LengthInPixels → LengthInPixels → Area
cover_of left top width height = record { left = left; top = top; right = further_on left width; bottom = further_on top height }

-- 'the top left pixel is the vertex divided by 16, rounded down, and the drawn size is covered'
unfoldable pub bitmap_of : Handle → Vertex → Bitmap
bitmap_of h v =
    record {
      area = cover_of (floored v.x) (floored v.y) h.width h.height;
      start = cell_start h v.cell;
      format = format_of h.format;
      stride = h.stride;
      height = h.rows;
    }

unfoldable pub judged : Handle → Vertex → ℕ → Option Bitmap
judged h v memory = cond (drawable h v.cell memory) (Some (bitmap_of h v)) None

-- the bitmap that a vertex draws; none is number 18
unfoldable pub bitmap_at : Handles → Vertex → ℕ → Option Bitmap
bitmap_at hs v memory = option_and_then (λ h. judged h v memory) (handle_at hs v.handle)
