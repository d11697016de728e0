-- jv_paint_row and jv_paint: what painting takes and leaves, and that no second answer fits. Assumes nothing.
use mathlib.Core.Path.{◌≡◌, refl, sym, ap, subst, ◌∙◌}
use mathlib.Core.Bool.{Bool, true, false, ◌&&◌}
use mathlib.Core.List.{List}
use Prim.Native.Nat.{ℕ, ◌+◌, ◌-◌, ◌*◌, ◌≤◌}
use native.Mathlib.Nat.{add-zero, le_trans, mul_left_comm}
use native.Mathlib.Omega.{arith}
use lib.Dec.{eqb, ltb}
use lib.ListN.{length}
use borrow.Author.Tests.{eq-eqb, ne_eqb, eqb-true, eqb-false, ltb-true}
use Rattle.truth.proofs.Bools.{both_true}
use Rattle.engine.specs.Run.{WithinLimits, actions_of}
use Rattle.units.specs.Units.{tallest, widest}
use Rattle.paint.specs.Picture.{stacked, colours_from, tags_from, row_colours, row_tags}
use Rattle.jokulvisp.specs.declared.check.JvAnswer.{JvAnswer}
use Rattle.jokulvisp.specs.Check.{answer_of}
use Rattle.jokulvisp.specs.Paint.{is_lent, left_by, Paints, Lends, PaintAnswer, PaintRowAnswer, RowsAnswer}
use Rattle.jokulvisp.proofs.Checking.{done}

pub number_of : {a b : JvAnswer} → a ≡ b → a.number ≡ b.number
number_of e = ap (λ (a : JvAnswer). a.number) e

-- NO SECOND ANSWER FITS: neither another number, place or count, nor another byte.
pub record Same (a b : JvAnswer) (p q t u : List ℕ) : Type 0 where
  pub answer : a ≡ b
  pub colours : p ≡ q
  pub tag_bytes : t ≡ u

paints-once :
    {due : JvAnswer} {colours tag_bytes picture tags : List ℕ} (a b : JvAnswer) (p q t u : List ℕ) → Paints due colours tag_bytes picture tags a p t →
    Paints due colours tag_bytes picture tags b q u → Same a b p q t u
paints-once a b p q t u x y =
    record {
      answer = x.answered ∙ sym y.answered;
      colours = x.painted ∙ sym y.painted;
      tag_bytes = x.tagged ∙ sym y.tagged;
    }

pub paint-row-once :
    (list memory : List ℕ) (width height row limit : ℕ) (picture tags : List ℕ) (a b : JvAnswer) (p q t u : List ℕ) →
    PaintRowAnswer list memory width height row limit picture tags a p t →
    PaintRowAnswer list memory width height row limit picture tags b q u → Same a b p q t u
unfolding PaintRowAnswer
paint-row-once list memory width height row limit picture tags a b p q t u x y = paints-once a b p q t u x y

pub paint-once :
    (list memory : List ℕ) (width height limit : ℕ) (picture tags : List ℕ) (a b : JvAnswer) (p q t u : List ℕ) →
    PaintAnswer list memory width height limit picture tags a p t → PaintAnswer list memory width height limit picture tags b q u →
    Same a b p q t u
unfolding PaintAnswer
paint-once list memory width height limit picture tags a b p q t u x y = paints-once a b p q t u x y

-- with number 0 the new bytes are left
pub left-new : (answer : JvAnswer) (new lent : List ℕ) → answer.number ≡ 0 → left_by answer new lent ≡ new
unfolding left_by
left-new answer new lent z = rw (eq-eqb answer.number 0 z) refl

pub paints-new :
    {due : JvAnswer} {colours tag_bytes picture tags : List ℕ} {answer : JvAnswer} {picture' tags' : List ℕ} →
    Paints due colours tag_bytes picture tags answer picture' tags' → answer.number ≡ 0 → (picture' ≡ colours) × (tags' ≡ tag_bytes)
paints-new {due} x z =
    let n : due.number ≡ 0 = number_of (sym x.answered) ∙ z in
    (x.painted ∙ left-new due _ _ n, x.tagged ∙ left-new due _ _ n)

-- LENGTHS. A run has three bytes for each of p pixels exactly if p bytes are left of it when p are taken off twice, also where a difference stops at 0.
thirds : (n p : ℕ) → eqb (n - p - p) p ≡ eqb n (3 * p)
thirds n p = go (eqb n (3 * p)) refl
  where
    go : (b : Bool) → eqb n (3 * p) ≡ b → eqb (n - p - p) p ≡ b
    go true e = eq-eqb (n - p - p) p (omega (arith, eqb-true n (3 * p) e))
    go false e = ne_eqb (n - p - p) p (λ q. eqb-false n (3 * p) e (omega (arith, q)))

pub lent-told :
    (width rows picture tags : ℕ) →
    (eqb (picture - rows * width - rows * width) (rows * width) && eqb tags (rows * width)) ≡ is_lent width rows picture tags
unfolding is_lent
lent-told width rows picture tags = rw (thirds picture (rows * width), mul_left_comm 3 rows width) refl

-- what it says that these are the lengths of so many rows
pub lent-lends : (width rows picture tags : ℕ) → is_lent width rows picture tags ≡ true → (picture ≡ rows * (3 * width)) × (tags ≡ rows * width)
unfolding is_lent
lent-lends width rows picture tags e =
    let colours = eqb picture (rows * (3 * width)) in
    let tag_bytes = eqb tags (rows * width) in
    (eqb-true picture (rows * (3 * width)) (both_true colours tag_bytes e).0, eqb-true tags (rows * width) (both_true colours tag_bytes e).1)

pub row-lends : (answer : Bool) (width height row picture tags : ℕ) → answer ≡ is_lent width 1 picture tags → Lends (ltb row height && answer) width height row 1 picture tags
row-lends answer width height row picture tags h e =
    (omega (arith, ltb-true row height (both_true (ltb row height) answer e).0), lent-lends width 1 picture tags (sym h ∙ (both_true (ltb row height) answer e).1))

pub frame-lends : (answer : Bool) (width height picture tags : ℕ) → answer ≡ is_lent width height picture tags → Lends answer width height 0 height picture tags
frame-lends answer width height picture tags h e = (omega arith, lent-lends width height picture tags (sym h ∙ e))

-- WHAT IS PAINTED. Where the number is 0, all that painting takes is there.
pub may-paint :
    (lent : Bool) (list : List ℕ) (memory width height first count limit picture tags : ℕ) (answer : JvAnswer) →
    answer ≡ answer_of list memory width height limit lent → answer.number ≡ 0 → Lends lent width height first count picture tags →
    WithinLimits list memory ×
    ((first + count ≤ tallest) × ((width ≤ widest) × ((picture ≡ count * (3 * width)) × (tags ≡ count * width))))
may-paint lent list memory width height first count limit picture tags answer e z l =
    let m = done list memory width height limit lent (number_of (sym e) ∙ z) in
    let r = l m.runs in
    ((m.list, m.memory), (le_trans r.0 m.height, (m.width, r.1)))

-- with another number
pub left-as-lent :
    (lent : Bool) (list memory : List ℕ) (width height first count limit : ℕ) (picture tags : List ℕ) (answer : JvAnswer) →
    answer ≡ answer_of list (length memory) width height limit lent → (answer.number ≡ 0 → ⊥) →
    RowsAnswer lent list memory width height first count limit picture tags answer picture tags
unfolding RowsAnswer left_by
left-as-lent lent list memory width height first count limit picture tags answer e z =
    let due = answer_of list (length memory) width height limit lent in
    let n : due.number ≡ 0 → ⊥ = λ d. z (number_of e ∙ d) in
    record { answered = e; painted = rw (ne_eqb due.number 0 n) refl; tagged = rw (ne_eqb due.number 0 n) refl }

-- with number 0
pub rows-painted :
    (lent : Bool) (list memory : List ℕ) (width height first count limit : ℕ) (picture tags : List ℕ) (answer : JvAnswer) (p t : List ℕ) →
    answer ≡ answer_of list (length memory) width height limit lent → answer.number ≡ 0 →
    (p ≡ colours_from memory (actions_of list (length memory) limit) width first count) ×
    (t ≡ tags_from memory (actions_of list (length memory) limit) width first count) →
    RowsAnswer lent list memory width height first count limit picture tags answer p t
unfolding RowsAnswer left_by
rows-painted lent list memory width height first count limit picture tags answer p t e z h =
    let due = answer_of list (length memory) width height limit lent in
    let n : due.number ≡ 0 = number_of (sym e) ∙ z in
    record { answered = e; painted = rw (eq-eqb due.number 0 n) h.0; tagged = rw (eq-eqb due.number 0 n) h.1 }

-- FROM ANY ROWS TO ONE AND TO ALL. One row from `row` on is that row.
pub one-row :
    (answer : Bool) (list memory : List ℕ) (width height row limit : ℕ) (picture tags : List ℕ) (a : JvAnswer) (p t : List ℕ) →
    answer ≡ is_lent width 1 (length picture) (length tags) →
    RowsAnswer (ltb row height && answer) list memory width height row 1 limit picture tags a p t →
    PaintRowAnswer list memory width height row limit picture tags a p t
unfolding RowsAnswer PaintRowAnswer stacked
one-row answer list memory width height row limit picture tags a p t e x =
    subst
    (λ (y : ℕ).
    Paints
    (answer_of list (length memory) width height limit (ltb row height && is_lent width 1 (length picture) (length tags)))
    (row_colours memory (actions_of list (length memory) limit) width y)
    (row_tags memory (actions_of list (length memory) limit) width y)
    picture
    tags
    a
    p
    t)
    (add-zero row)
    (subst (λ (b : Bool). RowsAnswer (ltb row height && b) list memory width height row 1 limit picture tags a p t) e x)

pub all-rows :
    (answer : Bool) (list memory : List ℕ) (width height limit : ℕ) (picture tags : List ℕ) (a : JvAnswer) (p t : List ℕ) →
    answer ≡ is_lent width height (length picture) (length tags) →
    RowsAnswer answer list memory width height 0 height limit picture tags a p t →
    PaintAnswer list memory width height limit picture tags a p t
unfolding RowsAnswer PaintAnswer
all-rows answer list memory width height limit picture tags a p t e =
    subst (λ (b : Bool). RowsAnswer b list memory width height 0 height limit picture tags a p t) e
