-- How rows stand, changed one after another, and the marks that are counted.
use mathlib.Core.Bool.{Bool, true, false, cond}
use mathlib.Core.List.{List}
use mathlib.Core.Logic.{◌⊎◌, inl, inr, ⊎_elim}
use mathlib.Core.Path.{◌≡◌, refl, sym, ◌∙◌, ap}
use Rattle.std.specs.Prelude.{Option}
use Prim.Native.Nat.{ℕ, ◌+◌, ◌<◌, ◌≤◌}
use native.Mathlib.Nat.{eq-or-lt_of_le}
use native.Mathlib.Numerals.{add-one}
use native.Mathlib.Omega.{arith}
use lib.Dec.{eqb, ltb}
use lib.ListN.{length, get_or, set, length-set}
use lib.Seq.{get_or-set_same, get_or-set_other}
use borrow.Author.Tests.{eq-eqb, eqb-true, ltb-false, ltb-true}
use Rattle.truth.proofs.Bools.{not_so}
use Rattle.action.specs.declared.Action.{Action}
use Rattle.paint.specs.Picture.{is_marked}
use Rattle.units.specs.Units.{smaller, tallest, widest}
use Rattle.repaint.specs.Repaint.{marked}
use Rattle.repaint.specs.Rows.{Stood, Touches, Turns, beside, meets_row, standing}
use Rattle.repaint.specs.declared.compare.Pace.{Pace}

pub before-or-from : (k n : ℕ) → (k < n) ⊎ (n ≤ k)
before-or-from k n = go (ltb k n) refl
  where
    go : (t : Bool) → ltb k n ≡ t → (k < n) ⊎ (n ≤ k)
    go true e = inl (ltb-true k n e)
    go false e = inr (ltb-false k n e)

-- ROW BY ROW: those rows of the first so many, from one on, that stood so are as `becomes` says
pub record Done (was : ℕ) (becomes : ℕ → ℕ) (from : ℕ) (old now : List ℕ) (y : ℕ) : Type 0 where
  pub long : length now ≡ length old
  pub moved : (k : ℕ) → from ≤ k → k < y → get_or old k 0 ≡ was → get_or now k 0 ≡ becomes k
  pub others : (k : ℕ) → (get_or old k 0 ≡ was → ⊥) → get_or now k 0 ≡ get_or old k 0
  pub rest : (k : ℕ) → (k < from) ⊎ (y ≤ k) → get_or now k 0 ≡ get_or old k 0

module _ (was : ℕ) (becomes : ℕ → ℕ) (from : ℕ) (old : List ℕ) where
  pub done_none : Done was becomes from old old from
  done_none = record { long = refl; moved = λ k h l. absurd (omega arith); others = λ k e. refl; rest = λ k e. refl }

  module _ {now : List ℕ} {y : ℕ} (d : Done was becomes from old now y) (h : from ≤ y) where
    -- the row that is next is as it was
    next : get_or now y 0 ≡ get_or old y 0
    next = d.rest y (inr (omega arith))

    pub done-set : {v : ℕ} → y < length now → get_or now y 0 ≡ was → v ≡ becomes y → Done was becomes from old (set now y v) (y + 1)
    done-set {v} l at is = record {
      long = simp length-set d.long;
      moved = λ k f m e.
          ⊎_elim (λ (i : k ≡ y). rw i (get_or-set_same now y v 0 l ∙ is)) (λ (i : k < y). get_or-set_other now y k v 0 (omega arith) ∙ d.moved k f i e) (eq-or-lt_of_le (omega arith));
      others = λ k e. get_or-set_other now y k v 0 (λ i. e (rw i (sym next ∙ at))) ∙ d.others k e;
      rest = λ k e.
          ⊎_elim (λ (i : k < from). get_or-set_other now y k v 0 (omega arith) ∙ d.rest k (inl i)) (λ (i : y + 1 ≤ k). get_or-set_other now y k v 0 (omega arith) ∙ d.rest k (inr (omega arith))) e;
    }

    pub done-skip : (get_or now y 0 ≡ was → ⊥) → Done was becomes from old now (y + 1)
    done-skip off = record {
      long = d.long;
      moved = λ k f m e.
          ⊎_elim (λ (i : k ≡ y). absurd (off (next ∙ rw (← i) e))) (λ (i : k < y). d.moved k f i e) (eq-or-lt_of_le (omega arith));
      others = d.others;
      rest = λ k e. ⊎_elim (λ (i : k < from). d.rest k (inl i)) (λ (i : y + 1 ≤ k). d.rest k (inr (omega arith))) e;
    }

pub turns-done : {was then : ℕ} {old now : List ℕ} {y : ℕ} → Done was (λ k. then) 0 old now y → length old ≤ y → Turns was then old now
turns-done d l = record { turned = λ k h e. d.moved k (omega arith) (omega arith) e; others = λ k h e. d.others k e }

-- rows that a step does not touch stand beside as before
pub stood-done :
    (old new : Option Action) (pace : Pace) (width from to : ℕ) {marks now : List ℕ} {y : ℕ} → Touches old new pace from to → length marks ≤ tallest → width ≤ widest →
    Done beside (λ k. standing (meets_row old width k) (meets_row new width k) pace) from marks now y → (y ≤ smaller to (length marks)) ⊎ (y ≡ from) →
    smaller to (length marks) ≤ y → Stood width old new pace marks now
stood-done old new pace width from to {marks} {now} {y} touch high wide d most l = record {
  moved = λ k h e.
      ⊎_elim (λ (i : k < from). out k h e (inl i) (d.rest k (inl i)))
      (λ (i : from ≤ k).
      ⊎_elim (λ (j : k < to). d.moved k i (omega arith) e)
      (λ (j : to ≤ k). out k h e (inr j) (d.rest k (inr (⊎_elim (λ (m : y ≤ smaller to (length marks)). omega (arith, m)) (λ (m : y ≡ from). omega (arith, m)) most))))
      (before-or-from k to))
      (before-or-from k from);
  others = λ k h e. d.others k e;
}
  where
    out : (k : ℕ) → k < length marks → get_or marks k 0 ≡ beside → (k < from) ⊎ (to ≤ k) → get_or now k 0 ≡ get_or marks k 0 → get_or now k 0 ≡ standing (meets_row old width k) (meets_row new width k) pace
    out k h e off same = same ∙ e ∙ sym (touch width k wide (omega arith) off)

-- one row more that does not stand so
pub not_at : (marks : List ℕ) (y stand row : ℕ) → ((k : ℕ) → y ≤ k → k < row → get_or marks k 0 ≡ stand → ⊥) → (get_or marks row 0 ≡ stand → ⊥) → (k : ℕ) → y ≤ k → k < row + 1 → get_or marks k 0 ≡ stand → ⊥
not_at marks y stand row before here k h l =
    ⊎_elim (λ (e : k ≡ row). rw e here) (λ (m : k < row). before k h m) (eq-or-lt_of_le (omega arith))

-- COUNTED
pub count_none : (marks : List ℕ) → 0 ≡ marked marks 0
unfolding marked
count_none marks = refl

count_next : (marks : List ℕ) (y : ℕ) (b : Bool) → is_marked marks y ≡ b → marked marks (y + 1) ≡ marked marks y + cond b 1 0
unfolding marked
count_next marks y b e = ap (marked marks) (add-one y) ∙ ap (λ (t : Bool). marked marks y + cond t 1 0) e

module _ (marks : List ℕ) (rows y : ℕ) (so_far : rows ≡ marked marks y) where
  pub count-marked : get_or marks y 0 ≡ 1 → rows + 1 ≡ marked marks (y + 1)
  count-marked e = omega (arith, so_far, count_next marks y true (eq-eqb (get_or marks y 0) 1 e))

  pub count-unmarked : (get_or marks y 0 ≡ 1 → ⊥) → rows ≡ marked marks (y + 1)
  count-unmarked e = omega (arith, so_far, count_next marks y false (not_so (eqb (get_or marks y 0) 1) (λ t. e (eqb-true (get_or marks y 0) 1 t))))

pub count-all : (marks : List ℕ) {rows y : ℕ} → y ≤ length marks → length marks ≤ y → rows ≡ marked marks y → rows ≡ marked marks (length marks)
count-all marks {rows} {y} h l e =
    let s : y ≡ length marks = omega arith in
    e ∙ ap (marked marks) s
