-- What jv_paint_row and jv_paint answer, and every byte that they leave. Document 01, 'Number table', row 1: 'frame size out of limits, row number past
-- the frame, or a lent picture, tag or mark run of another length'; 'The row call lends one row's runs, the others the frame's. All numbers but 0
-- leave picture, tags and marks as lent.' 'The first build': 'three bytes R G B a pixel and one tag byte in a second run'.
use Rattle.std.specs.Prelude.{◌≡◌, Bool, true, cond, ◌&&◌, List, ℕ, ◌+◌, ◌*◌, ◌≤◌, eqb, ltb, length}
use Rattle.engine.specs.Run.{actions_of}
use Rattle.paint.specs.Picture.{colours_from, tags_from, row_colours, row_tags}
use Rattle.jokulvisp.specs.declared.check.JvAnswer.{JvAnswer}
use Rattle.jokulvisp.specs.Check.{answer_of}

-- runs of these lengths are those of so many rows
unfoldable pub is_lent : ℕ → ℕ → ℕ → ℕ → Bool
is_lent width rows picture tags = eqb picture (rows * (3 * width)) && eqb tags (rows * width)

-- a run of bytes after a call: new with number 0, with all others as lent
unfoldable pub left_by : JvAnswer → List ℕ → List ℕ → List ℕ
left_by answer new lent = cond (eqb answer.number 0) new lent

-- a call that paints: the answer that is due, and what is left of picture and tags
pub record Paints (due : JvAnswer) (colours tag_bytes picture tags : List ℕ) (answer : JvAnswer) (picture' tags' : List ℕ) : Type 0 where
  pub answered : answer ≡ due
  pub painted : picture' ≡ left_by due colours picture
  pub tagged : tags' ≡ left_by due tag_bytes tags

-- jv_paint_row, for every list, RAM_G, size, row and limit, and whatever is lent
unfoldable pub PaintRowAnswer : List ℕ → List ℕ → ℕ → ℕ → ℕ → ℕ → List ℕ → List ℕ → JvAnswer → List ℕ → List ℕ → Type 0
PaintRowAnswer list memory width height row limit picture tags =
    Paints
    (answer_of list (length memory) width height limit (ltb row height && is_lent width 1 (length picture) (length tags)))
    (row_colours memory (actions_of list (length memory) limit) width row)
    (row_tags memory (actions_of list (length memory) limit) width row)
    picture
    tags

-- jv_paint, likewise. A frame is its rows from 0 on
unfoldable pub PaintAnswer : List ℕ → List ℕ → ℕ → ℕ → ℕ → List ℕ → List ℕ → JvAnswer → List ℕ → List ℕ → Type 0
PaintAnswer list memory width height limit picture tags =
    Paints
    (answer_of list (length memory) width height limit (is_lent width height (length picture) (length tags)))
    (colours_from memory (actions_of list (length memory) limit) width 0 height)
    (tags_from memory (actions_of list (length memory) limit) width 0 height)
    picture
    tags

-- WHAT BOTH CALL. Any rows of the frame; `lent` says that they are the frame's, and that the runs hold them
abbrev pub Lends : Bool → ℕ → ℕ → ℕ → ℕ → ℕ → ℕ → Type 0
Lends lent width height first count picture tags =
    lent ≡ true → (first + count ≤ height) × ((picture ≡ count * (3 * width)) × (tags ≡ count * width))

unfoldable pub RowsAnswer : Bool → List ℕ → List ℕ → ℕ → ℕ → ℕ → ℕ → ℕ → List ℕ → List ℕ → JvAnswer → List ℕ → List ℕ → Type 0
RowsAnswer lent list memory width height first count limit picture tags =
    Paints
    (answer_of list (length memory) width height limit lent)
    (colours_from memory (actions_of list (length memory) limit) width first count)
    (tags_from memory (actions_of list (length memory) limit) width first count)
    picture
    tags
