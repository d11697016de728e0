-- What the one who edits a list has of jv_repaint. The third demand of the order speaks of actions and marks; these are the promises in terms of pictures.
use Rattle.std.specs.Prelude.{◌≡◌, List, ℕ, length, get_or, replicate}
use Rattle.action.specs.declared.Action.{Action}
use Rattle.paint.specs.Picture.{row_colours, row_tags}
use Rattle.repaint.specs.Repaint.{reaching}
use Rattle.jokulvisp.specs.declared.check.JvAnswer.{JvAnswer}
use Rattle.jokulvisp.specs.Agreement.{Lent}
use Rattle.jokulvisp.specs.Paint.{PaintAnswer, PaintRowAnswer}
use Rattle.jokulvisp.specs.Repaint.{RepaintAnswer}

-- THE CLAIM
pub record HoldsOfEdits : Type 0 where
  -- Where the same actions reach a row in the same order, the row is the same. So an unmarked row of the old picture is a row of the new one.
  pub equal_rows :
      (memory : List ℕ) (old new : List Action) (width y : ℕ) → reaching width y old ≡ reaching width y new →
      (row_colours memory old width y ≡ row_colours memory new width y) × (row_tags memory old width y ≡ row_tags memory new width y)
  -- A frame that held the old picture holds the new one, for every two lists that draw, every RAM_G, size and limit.
  pub carried_over :
      (old new memory : List ℕ) (width height limit : ℕ)
      (lent_picture lent_tags picture tags : List ℕ) (old_answer : JvAnswer) →
      PaintAnswer old memory width height limit lent_picture lent_tags old_answer picture tags → old_answer.number ≡ 0 →
      (other_picture other_tags new_picture new_tags : List ℕ) (new_answer : JvAnswer) →
      PaintAnswer new memory width height limit other_picture other_tags new_answer new_picture new_tags → new_answer.number ≡ 0 →
      (marks : List ℕ) (answer : JvAnswer) (picture' tags' marks' : List ℕ) → length marks ≡ height →
      RepaintAnswer old new memory width height limit picture tags marks answer picture' tags' marks' →
      (answer.number ≡ 0) × ((picture' ≡ new_picture) × (tags' ≡ new_tags))
  -- Repainting a list with itself marks nothing and changes nothing.
  pub itself :
      (list memory : List ℕ) (width height limit : ℕ) (picture tags marks : List ℕ) (answer : JvAnswer) (picture' tags' marks' : List ℕ) →
      RepaintAnswer list list memory width height limit picture tags marks answer picture' tags' marks' → answer.number ≡ 0 →
      (answer.count ≡ 0) × ((marks' ≡ replicate height 0) × ((picture' ≡ picture) × (tags' ≡ tags)))
  -- The answer and the marks do not depend on what the frame held.
  pub frame_free :
      (old new memory : List ℕ) (width height limit : ℕ)
      (picture tags marks : List ℕ) (answer : JvAnswer) (picture' tags' marks' : List ℕ) →
      Lent width height picture tags → length marks ≡ height →
      RepaintAnswer old new memory width height limit picture tags marks answer picture' tags' marks' →
      (other_picture other_tags other_marks : List ℕ) (other_answer : JvAnswer) (other_picture' other_tags' other_marks' : List ℕ) →
      Lent width height other_picture other_tags → length other_marks ≡ height →
      RepaintAnswer old new memory width height limit other_picture other_tags other_marks other_answer other_picture' other_tags' other_marks' →
      (answer ≡ other_answer) × (answer.number ≡ 0 → marks' ≡ other_marks')
  -- Nothing is missed: a row is marked whenever the two painted rows differ, in a colour or in a tag.
  pub nothing_missed :
      (old new memory : List ℕ) (width height limit y : ℕ)
      (lent_picture lent_tags old_picture old_tags : List ℕ) (old_answer : JvAnswer) →
      PaintRowAnswer old memory width height y limit lent_picture lent_tags old_answer old_picture old_tags → old_answer.number ≡ 0 →
      (other_picture other_tags new_picture new_tags : List ℕ) (new_answer : JvAnswer) →
      PaintRowAnswer new memory width height y limit other_picture other_tags new_answer new_picture new_tags → new_answer.number ≡ 0 →
      (picture tags marks : List ℕ) (answer : JvAnswer) (picture' tags' marks' : List ℕ) →
      RepaintAnswer old new memory width height limit picture tags marks answer picture' tags' marks' → answer.number ≡ 0 →
      ((old_picture ≡ new_picture) × (old_tags ≡ new_tags) → ⊥) → get_or marks' y 0 ≡ 1
