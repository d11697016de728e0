-- Which bitmaps are drawn: `drawable` as facts about a handle's numbers, and `judged` by them. Assumes nothing.
use mathlib.Core.Path.{◌≡◌}
use mathlib.Core.Bool.{true}
use Prim.Native.Nat.{ℕ, ◌+◌, ◌*◌, ◌%◌, ◌<◌, ◌≤◌}
use native.Mathlib.Nat.{mul_comm, le-mul_of_pos_right}
use native.Mathlib.Omega.{arith}
use lib.Dec.{eqb}
use borrow.Author.Tests.{ltb-true, leb-true, lt-ltb, le-leb, ne_eqb}
use Rattle.std.specs.Prelude.{Some, None}
use Rattle.truth.proofs.Bools.{both_true, not_so}
use Rattle.engine.specs.Handles.{cell_start, aligned, drawable, bitmap_of, judged}
use Rattle.engine.specs.declared.handles.Handle.{Handle}
use Rattle.engine.specs.declared.vertex.Vertex.{Vertex}

-- what `drawable` tells
pub record Drawn (h : Handle) (cell memory : ℕ) : Type 0 where
  pub stride : 0 < h.stride
  pub rows : 0 < h.rows
  pub width : 0 < h.width.0
  pub height : 0 < h.height.0
  pub inside : cell_start h cell + h.stride * h.rows ≤ memory
  pub aligned : aligned h ≡ true

-- where a cell starts, by the numbers read
pub start_by : (h : Handle) {cell source n : ℕ} → source ≡ h.source → n ≡ cell → source + n * (h.stride * h.rows) ≡ cell_start h cell
start_by h e f = rw (e, f)

-- a cell in RAM_G has no line longer, and no more lines, than RAM_G has bytes
pub line-fits : {h : Handle} {cell memory : ℕ} → Drawn h cell memory → h.stride ≤ memory
line-fits {h} d = omega (arith, le-mul_of_pos_right h.stride d.rows)

pub lines_fit : {h : Handle} {cell memory : ℕ} → Drawn h cell memory → h.rows ≤ memory
lines_fit {h} d = omega (arith, mul_comm h.stride h.rows, le-mul_of_pos_right h.rows d.stride)

-- in a format of two bytes a cell's lines start at even addresses
two_bytes : (h : Handle) → (h.format ≡ 3 → ⊥) → aligned h ≡ true → (eqb (h.source % 2) 0 ≡ true) × (eqb (h.stride % 2) 0 ≡ true)
two_bytes h n a = both_true _ _ (rw (ne_eqb h.format 3 n) at a)

told : (h : Handle) (cell memory : ℕ) → drawable h cell memory ≡ true → Drawn h cell memory
unfolding drawable
told h cell memory e =
    let e6 = both_true _ _ e in
    let e5 = both_true _ _ e6.0 in
    let e4 = both_true _ _ e5.0 in
    let e3 = both_true _ _ e4.0 in
    let e2 = both_true _ _ e3.0 in
    record {
      stride = ltb-true 0 h.stride e2.0;
      rows = ltb-true 0 h.rows e2.1;
      width = ltb-true 0 h.width.0 e3.1;
      height = ltb-true 0 h.height.0 e4.1;
      inside = leb-true _ memory e5.1;
      aligned = e6.1;
    }

pub undrawn : (h : Handle) (v : Vertex) (memory : ℕ) → (Drawn h v.cell memory → ⊥) → None ≡ judged h v memory
unfolding judged
undrawn h v memory n = rw (not_so (drawable h v.cell memory) (λ e. n (told h v.cell memory e)))

pub drawn : (h : Handle) (v : Vertex) (memory : ℕ) → Drawn h v.cell memory → Some (bitmap_of h v) ≡ judged h v memory
unfolding judged drawable
drawn h v memory d =
    rw (lt-ltb _ _ d.stride, lt-ltb _ _ d.rows, lt-ltb _ _ d.width, lt-ltb _ _ d.height, le-leb _ _ d.inside, d.aligned)
