-- What holds between jv_check, jv_paint_row and jv_paint on the same list, RAM_G, size and limit. Document 01, 'Number table', is one table for all
-- calls: checking answers what painting would. 'A row is its picture and its tag bytes': painting a frame is painting its rows.
use Rattle.std.specs.Prelude.{◌≡◌, List, ℕ, ◌*◌, ◌<◌, length}
use Rattle.paint.specs.Picture.{stacked}
use Rattle.jokulvisp.specs.declared.check.JvAnswer.{JvAnswer}
use Rattle.jokulvisp.specs.Paint.{PaintAnswer, PaintRowAnswer}

-- picture and tags have the lengths of so many rows
pub record Lent (width rows : ℕ) (picture tags : List ℕ) : Type 0 where
  pub colours : length picture ≡ rows * (3 * width)
  pub tag_bytes : length tags ≡ rows * width

-- THE CLAIM, where jv_check answers `check`
pub record Agrees (list memory : List ℕ) (width height limit : ℕ) (check : JvAnswer) : Type 0 where
  -- jv_paint, lent what a frame takes, gives the same number, place and count: 0 exactly when jv_check does
  pub frame :
      (picture tags : List ℕ) (answer : JvAnswer) (picture' tags' : List ℕ) → Lent width height picture tags →
      PaintAnswer list memory width height limit picture tags answer picture' tags' → answer ≡ check
  -- jv_paint_row, lent what a row takes, likewise for every row of the frame
  pub row :
      (y : ℕ) (picture tags : List ℕ) (answer : JvAnswer) (picture' tags' : List ℕ) → y < height → Lent width 1 picture tags →
      PaintRowAnswer list memory width height y limit picture tags answer picture' tags' → answer ≡ check
  -- the frame that jv_paint leaves is the rows that jv_paint_row leaves, one after another
  pub rows :
      check.number ≡ 0 →
      (picture tags : List ℕ) (answer : JvAnswer) (picture' tags' : List ℕ) → Lent width height picture tags →
      PaintAnswer list memory width height limit picture tags answer picture' tags' →
      (pictures tag_runs : ℕ → List ℕ) (answers : ℕ → JvAnswer) (pictures' tag_runs' : ℕ → List ℕ) →
      ((y : ℕ) → y < height → Lent width 1 (pictures y) (tag_runs y)) →
      ((y : ℕ) → y < height → PaintRowAnswer list memory width height y limit (pictures y) (tag_runs y) (answers y) (pictures' y) (tag_runs' y)) →
      (picture' ≡ stacked pictures' height) × (tags' ≡ stacked tag_runs' height)
