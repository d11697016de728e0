-- What rowshow prints for a list. Document 01, 'Checked by hand', its last paragraph: 'Program rowshow reads a list's
-- raw bytes on standard input and draws row 0 of a 4 by 1 frame, limit 64, empty RAM_G'. The row is lent as zeros.
use Rattle.std.specs.Prelude.{◌≡◌, List, [], ℕ, replicate}
use Rattle.jokulvisp.specs.declared.check.JvAnswer.{JvAnswer}
use Rattle.jokulvisp.specs.Paint.{PaintRowAnswer}
use Rattle.rowshow.specs.Text.{answer_text}
use Rattle.rowshow.specs.declared.text.Shown.{Shown}

pub record Shows (list text : List ℕ) : Type 0 where
  pub answer : JvAnswer
  pub picture : List ℕ
  pub tags : List ℕ
  pub painted : PaintRowAnswer list [] 4 1 0 64 (replicate 12 0) (replicate 4 0) answer picture tags
  pub printed : text ≡ answer_text answer.number answer.place answer.count picture tags

-- the text of an answer and of the row that it left
abbrev pub shown_text : Shown → List ℕ
shown_text shown =
    answer_text shown.answer.number shown.answer.place shown.answer.count shown.row.picture shown.row.tags
