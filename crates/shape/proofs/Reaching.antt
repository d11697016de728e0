-- Which columns of a row count, and that a row is reached if any does. Assumes nothing.
use mathlib.Core.Path.{◌≡◌, refl, sym, ◌∙◌, ap}
use mathlib.Core.Bool.{Bool, true, false, ◌&&◌, ◌||◌, and-true, and-false, and_assoc, or-true}
use mathlib.Core.Logic.{◌⊎◌, inl, inr}
use Prim.Native.Nat.{ℕ, zero, suc, ◌+◌, ◌-◌, ◌^◌, ◌≤◌, ◌<◌}
use native.Mathlib.Omega.{arith}
use native.Mathlib.Nat.{not-suc-le-zero}
use lib.Dec.{ltb}
use borrow.Author.Tests.{ltb-true, ltb-false}
use Rattle.truth.proofs.Bools.{both-made, both_true, never, not_so, same_truth}
use Rattle.units.specs.declared.Pixels.{Pixels}
use Rattle.units.specs.Units.{displacement, larger, pixel_at, smaller}
use Rattle.action.specs.declared.shape.Area.{Area}
use Rattle.shape.specs.declared.Outline.{Outline}
use Rattle.shape.specs.declared.Chord.{Chord}
use Rattle.shape.specs.Cover.{between, area_covers, reaches, reaches_row}
use Rattle.shape.specs.OneRow.{holds_in, Chords, Reached, no_column, cut_to}
use Rattle.shape.proofs.Bools.{between-true, between-made}
use Rattle.shape.proofs.Columns.{has-none}

last-or-before : (x n : ℕ) → x < suc n → (x < n) ⊎ (x ≡ n)
last-or-before x n h = go (ltb x n) refl
  where
    go : (t : Bool) → ltb x n ≡ t → (x < n) ⊎ (x ≡ n)
    go true e = inl (ltb-true x n e)
    go false e = inr (omega (arith, ltb-false x n e))

or-made : {P Q : Type 0} {a b : Bool} → P ⊎ Q → (P → a ≡ true) → (Q → b ≡ true) → a || b ≡ true
or-made (inl p) f g = rw (f p)
or-made {a} (inr q) f g = rw (g q) (or-true a)

-- the row is reached by a column that is, and not if none is
pub row_by : (outline : Outline) (scissor : Area) (width : ℕ) (q : Pixels) (x : ℕ) → x < width → reaches outline scissor (pixel_at x) q ≡ true → reaches_row outline scissor width q ≡ true
unfolding reaches_row
row_by outline scissor zero q x h e = absurd (not-suc-le-zero h)
row_by outline scissor (suc width) q x h e =
    or-made (last-or-before x width h)
    (λ l. row_by outline scissor width q x l e)
    (λ l. ap (λ (n : ℕ). reaches outline scissor (pixel_at n) q) (sym l) ∙ e)

pub row-by-none : (outline : Outline) (scissor : Area) (width : ℕ) (q : Pixels) → ((x : ℕ) → x < width → reaches outline scissor (pixel_at x) q ≡ false) → reaches_row outline scissor width q ≡ false
unfolding reaches_row
row-by-none outline scissor zero q h = refl
row-by-none outline scissor (suc width) q h =
    rw (row-by-none outline scissor width q (λ x l. h x (omega arith)), h width (omega arith))

-- so that a row that is not reached has no column that is
pub none-reached : (outline : Outline) (scissor : Area) (width : ℕ) (q : Pixels) → reaches_row outline scissor width q ≡ false → (x : ℕ) → x < width → reaches outline scissor (pixel_at x) q ≡ false
none-reached outline scissor width q none x h =
    not_so _ (λ e. never (sym none ∙ row_by outline scissor width q x h e))

-- columns in both of two ranges, on a frame from e to f
cut-between : (e f l r m s n : ℕ) (held : Bool) → e ≤ n → n < f → between l r n && (between m s n && held) ≡ between (larger e (larger m l)) (smaller f (smaller s r)) n && held
cut-between e f l r m s n held h k =
    sym (and_assoc (between l r n) (between m s n) held)
    ∙ ap (λ (b : Bool). b && held)
    (same_truth _ _
    (λ t.
    let u = both_true (between l r n) (between m s n) t in
    let a = between-true l r n u.0 in
    let b = between-true m s n u.1 in
    between-made _ _ n (omega arith) (omega arith))
    (λ t.
    let a = between-true (larger e (larger m l)) (smaller f (smaller s r)) n t in
    both-made (between-made l r n (omega arith) (omega arith)) (between-made m s n (omega arith) (omega arith))))

module _ (outline : Outline) (scissor : Area) (width : ℕ) (q : Pixels) where
  pub reach-cut : (c : Chord) → width < 2 ^ 32 → between scissor.top.0 scissor.bottom.0 q.0 ≡ true → Chords outline q c → Reached outline scissor width q (cut_to scissor width c)
  unfolding reaches area_covers holds_in
  reach-cut c fits row has = record {
    exact = λ x h.
        rw (row, has.exact (pixel_at x) (omega arith), and-true)
        (cut-between (pixel_at 0).0 (pixel_at width).0 scissor.left.0 scissor.right.0 c.left.0 c.right.0 (pixel_at x).0 (holds_in c (pixel_at x)) (omega arith) (omega arith));
    from = omega arith;
    to = omega arith;
  }

  pub reach_off : between scissor.top.0 scissor.bottom.0 q.0 ≡ false → Reached outline scissor width q no_column
  unfolding reaches area_covers
  reach_off row = record {
    exact = λ x h.
        rw (row, and-false) (sym (has-none (pixel_at x)));
    from = omega arith;
    to = omega arith;
  }

  module _ (c : Chord) (r : Reached outline scissor width q c) where
    pub row-found : (x : ℕ) → c.left.0 ≤ x → x < c.right.0 → holds_in c (record { 0 = x }) ≡ true → reaches_row outline scissor width q ≡ true
    row-found x h k e =
        let at : x ≡ x - displacement + displacement = omega (arith, r.from) in
        let e' : holds_in c (pixel_at (x - displacement)) ≡ true = ap (λ (n : ℕ). holds_in c (record { 0 = n })) (sym at) ∙ e in
        row_by outline scissor width q (x - displacement) (omega (arith, r.to))
        (r.exact (x - displacement) (omega (arith, r.to))
        ∙ both-made (between-made c.left.0 c.right.0 (x - displacement + displacement) (omega arith) (omega arith)) e')

    pub row-not-found : ((x : ℕ) → c.left.0 ≤ x → x < c.right.0 → holds_in c (record { 0 = x }) ≡ false) → reaches_row outline scissor width q ≡ false
    row-not-found none =
        row-by-none outline scissor width q
        (λ x h.
        r.exact x h
        ∙ not_so _
        (λ t.
        let u = both_true (between c.left.0 c.right.0 (pixel_at x).0) (holds_in c (pixel_at x)) t in
        let b = between-true c.left.0 c.right.0 (pixel_at x).0 u.0 in
        never (sym (none (pixel_at x).0 b.0 b.1) ∙ u.1)))

-- one column more that is not held
pub none_more : (c : Chord) (x : ℕ) → ((k : ℕ) → c.left.0 ≤ k → k < x → holds_in c (record { 0 = k }) ≡ false) → holds_in c (record { 0 = x }) ≡ false → (k : ℕ) → c.left.0 ≤ k → k < x + 1 → holds_in c (record { 0 = k }) ≡ false
none_more c x before here k h l = go (last-or-before k x (omega arith))
  where
    go : (k < x) ⊎ (k ≡ x) → holds_in c (record { 0 = k }) ≡ false
    go (inl m) = before k h m
    go (inr e) = rw e here
