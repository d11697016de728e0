-- jv_check, jv_paint_row and jv_paint agree. Assumes nothing.
use mathlib.Core.Path.{◌≡◌, refl, sym, ap, ◌∙◌}
use mathlib.Core.Bool.{Bool, true, ◌&&◌}
use mathlib.Core.List.{List}
use Prim.Native.Nat.{ℕ, ◌*◌, ◌<◌}
use native.Mathlib.Nat.{zero-add}
use lib.Dec.{ltb}
use lib.ListN.{length}
use borrow.Author.Tests.{eq-eqb, lt-ltb}
use Rattle.engine.specs.Run.{actions_of}
use Rattle.paint.proofs.Stacks.{stacked-same}
use Rattle.paint.specs.Picture.{stacked, row_colours, row_tags}
use Rattle.jokulvisp.specs.declared.check.JvAnswer.{JvAnswer}
use Rattle.jokulvisp.specs.Agreement.{Lent, Agrees}
use Rattle.jokulvisp.specs.Check.{answer_of, CheckAnswer}
use Rattle.jokulvisp.specs.Paint.{is_lent, left_by, PaintAnswer, PaintRowAnswer}
use Rattle.jokulvisp.proofs.Painted.{left-new, number_of}

pub lent-right : (width rows : ℕ) (picture tags : List ℕ) → Lent width rows picture tags → is_lent width rows (length picture) (length tags) ≡ true
unfolding is_lent
lent-right width rows picture tags l = rw (eq-eqb (length picture) (rows * (3 * width)) l.colours, eq-eqb (length tags) (rows * width) l.tag_bytes) refl

module _ (list memory : List ℕ) (width height limit : ℕ) (check : JvAnswer) (k : CheckAnswer list (length memory) width height limit check) where
  -- the answer that is due where what is lent is right
  due-check : (lent : Bool) → lent ≡ true → answer_of list (length memory) width height limit lent ≡ check
  unfolding CheckAnswer
  due-check lent e = ap (answer_of list (length memory) width height limit) e ∙ sym k

  -- and what is then left
  left-done : (lent : Bool) → lent ≡ true → check.number ≡ 0 → (new old : List ℕ) → left_by (answer_of list (length memory) width height limit lent) new old ≡ new
  left-done lent e z new old = left-new (answer_of list (length memory) width height limit lent) new old (number_of (due-check lent e) ∙ z)

  row-right : (y : ℕ) (picture tags : List ℕ) → y < height → Lent width 1 picture tags → (ltb y height && is_lent width 1 (length picture) (length tags)) ≡ true
  row-right y picture tags l m = rw (lt-ltb y height l, lent-right width 1 picture tags m) refl

  frame-agrees :
      (picture tags : List ℕ) (answer : JvAnswer) (picture' tags' : List ℕ) → Lent width height picture tags →
      PaintAnswer list memory width height limit picture tags answer picture' tags' → answer ≡ check
  unfolding PaintAnswer
  frame-agrees picture tags answer picture' tags' l x = x.answered ∙ due-check _ (lent-right width height picture tags l)

  row-agrees :
      (y : ℕ) (picture tags : List ℕ) (answer : JvAnswer) (picture' tags' : List ℕ) → y < height → Lent width 1 picture tags →
      PaintRowAnswer list memory width height y limit picture tags answer picture' tags' → answer ≡ check
  unfolding PaintRowAnswer
  row-agrees y picture tags answer picture' tags' m l x = x.answered ∙ due-check _ (row-right y picture tags m l)

  -- what a row then is
  row_is :
      check.number ≡ 0 → (y : ℕ) (picture tags : List ℕ) (answer : JvAnswer) (picture' tags' : List ℕ) → y < height → Lent width 1 picture tags →
      PaintRowAnswer list memory width height y limit picture tags answer picture' tags' →
      (picture' ≡ row_colours memory (actions_of list (length memory) limit) width y) × (tags' ≡ row_tags memory (actions_of list (length memory) limit) width y)
  unfolding PaintRowAnswer
  row_is z y picture tags answer picture' tags' m l x =
      (x.painted ∙ left-done _ (row-right y picture tags m l) z _ _, x.tagged ∙ left-done _ (row-right y picture tags m l) z _ _)

  frame-is-rows :
      check.number ≡ 0 → (picture tags : List ℕ) (answer : JvAnswer) (picture' tags' : List ℕ) → Lent width height picture tags →
      PaintAnswer list memory width height limit picture tags answer picture' tags' →
      (pictures tag_runs : ℕ → List ℕ) (answers : ℕ → JvAnswer) (pictures' tag_runs' : ℕ → List ℕ) →
      ((y : ℕ) → y < height → Lent width 1 (pictures y) (tag_runs y)) →
      ((y : ℕ) → y < height → PaintRowAnswer list memory width height y limit (pictures y) (tag_runs y) (answers y) (pictures' y) (tag_runs' y)) →
      (picture' ≡ stacked pictures' height) × (tags' ≡ stacked tag_runs' height)
  unfolding PaintAnswer
  frame-is-rows z picture tags answer picture' tags' l x pictures tag_runs answers pictures' tag_runs' ls xs = (
    x.painted ∙ left-done _ (lent-right width height picture tags l) z _ _ ∙
        stacked-same _ pictures' height (λ y m. rw (zero-add y) (sym (row y m).0)),
    x.tagged ∙ left-done _ (lent-right width height picture tags l) z _ _ ∙
        stacked-same _ tag_runs' height (λ y m. rw (zero-add y) (sym (row y m).1)),
  )
    where
      row : (y : ℕ) → y < height → (pictures' y ≡ row_colours memory (actions_of list (length memory) limit) width y) × (tag_runs' y ≡ row_tags memory (actions_of list (length memory) limit) width y)
      row y m = row_is z y (pictures y) (tag_runs y) (answers y) (pictures' y) (tag_runs' y) m (ls y m) (xs y m)

  pub calls-agree : Agrees list memory width height limit check
  calls-agree = record { frame = frame-agrees; row = row-agrees; rows = frame-is-rows }
