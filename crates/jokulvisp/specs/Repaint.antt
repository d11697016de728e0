-- What jv_repaint answers, and every byte that it leaves. Document 01, 'Number table': 'Repaint tests 1 to 4, then runs the old list, then the new; for 2
-- and 10 to 19 it names the list (old 1, told first; new 2), otherwise 0. Its count is the rows marked, at a fault the words that list fetched.' 'All
-- numbers but 0 leave picture, tags and marks as lent.' Document 02 of 20, which wish 1 brings: 'Numbers 20 to 25 carry place, count and list as 10 to 19
-- do.'
use Rattle.std.specs.Prelude.{◌≡◌, Bool, cond, ◌&&◌, List, ℕ, ◌*◌, eqb, length}
use Rattle.engine.specs.Run.{Ran, actions_of, ending_of, number_told, run_of}
use Rattle.paint.specs.Picture.{row_colours, row_tags, patched}
use Rattle.truth.specs.Must.{must}
use Rattle.repaint.specs.Repaint.{Marks, marked}
use Rattle.jokulvisp.specs.declared.check.JvAnswer.{JvAnswer}
use Rattle.jokulvisp.specs.Check.{ended, is_frame, is_list, is_memory, is_limit, refused_for}
use Rattle.jokulvisp.specs.Paint.{is_lent}

-- THE ANSWER. A list that does not draw ends the call; otherwise it goes on
unfoldable pub unless_faulty : ℕ → Ran → JvAnswer → JvAnswer
unless_faulty list r further =
    cond (eqb (number_told r.stop) 0) further (ended list (ending_of r))

abbrev pub repainted : ℕ → JvAnswer
repainted rows = record { number = 0; list = 0; place = 0; count = rows }

-- runs of these lengths are a frame's picture and tags, and a mark for each row
abbrev pub is_lent_for : ℕ → ℕ → ℕ → ℕ → ℕ → Bool
is_lent_for width height picture tags marks = is_lent width height picture tags && eqb marks height

-- 1, 2 of the old list, 2 of the new, 3, 4, the old run, the new run
unfoldable pub repaint_due : List ℕ → List ℕ → List ℕ → ℕ → ℕ → ℕ → Bool → ℕ → JvAnswer
repaint_due old new memory width height limit lent rows =
    must (is_frame width height && lent) (refused_for 0 1)
    (must (is_list (length old)) (refused_for 1 2)
    (must (is_list (length new)) (refused_for 2 2)
    (must (is_memory (length memory)) (refused_for 0 3)
    (must (is_limit limit) (refused_for 0 4)
    (unless_faulty 1 (run_of old (length memory) limit) (unless_faulty 2 (run_of new (length memory) limit) (repainted rows)))))))

-- WHAT IS LEFT OF THE RUNS, with number 0: a mark for each row, 'Marked rows become the new list's rows, every other row keeps its lent bytes'
pub record Repainted (old new memory : List ℕ) (width height limit : ℕ) (picture tags picture' tags' marks' : List ℕ) : Type 0 where
  pub marks : Marks (actions_of old (length memory) limit) (actions_of new (length memory) limit) width height marks'
  pub colours : picture' ≡ patched marks' (row_colours memory (actions_of new (length memory) limit) width) (3 * width) picture
  pub tag_bytes : tags' ≡ patched marks' (row_tags memory (actions_of new (length memory) limit) width) width tags

-- with any other number
pub record AsLent (picture tags marks picture' tags' marks' : List ℕ) : Type 0 where
  pub colours : picture' ≡ picture
  pub tag_bytes : tags' ≡ tags
  pub mark_bytes : marks' ≡ marks

-- jv_repaint, for every two lists, RAM_G, size and limit, and whatever is lent
pub record RepaintAnswer (old new memory : List ℕ) (width height limit : ℕ) (picture tags marks : List ℕ) (answer : JvAnswer) (picture' tags' marks' : List ℕ) : Type 0 where
  pub answered : answer ≡ repaint_due old new memory width height limit (is_lent_for width height (length picture) (length tags) (length marks)) (marked marks' height)
  pub done : answer.number ≡ 0 → Repainted old new memory width height limit picture tags picture' tags' marks'
  pub refused : (answer.number ≡ 0 → ⊥) → AsLent picture tags marks picture' tags' marks'
