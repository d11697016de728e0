-- What the one who edits a list has of jv_repaint, proved. Assumes nothing.
use mathlib.Core.Path.{◌≡◌, sym, ap, ◌∙◌}
use mathlib.Core.Bool.{true, ◌&&◌}
use mathlib.Core.List.{List}
use Prim.Native.Nat.{ℕ, ◌*◌, ◌<◌}
use native.Mathlib.Nat.{zero-add}
use lib.Dec.{eqb, ltb}
use lib.ListN.{length, get_or, replicate, get_or-replicate}
use borrow.Author.Tests.{eq-eqb, ltb-true}
use Rattle.truth.proofs.Bools.{both_true}
use Rattle.engine.specs.Run.{number_told, actions_of, run_of}
use Rattle.paint.proofs.Rows.{colours-long, tags-long}
use Rattle.paint.proofs.Stacks.{stacked-long, stacked-same}
use Rattle.paint.specs.Picture.{patched, pixel_of, row_colours, row_tags, stacked}
use Rattle.repaint.proofs.Settling.{colours-carried, mark_on, marked-none, marks-none, patched-itself, same_rows, tags-carried}
use Rattle.repaint.specs.Repaint.{marked}
use Rattle.jokulvisp.specs.declared.check.JvAnswer.{JvAnswer}
use Rattle.jokulvisp.specs.Agreement.{Lent}
use Rattle.jokulvisp.specs.Check.{is_frame, is_limit, is_list, is_memory}
use Rattle.jokulvisp.specs.Edits.{HoldsOfEdits}
use Rattle.jokulvisp.specs.Paint.{is_lent, PaintAnswer, PaintRowAnswer}
use Rattle.jokulvisp.specs.Repaint.{is_lent_for, RepaintAnswer}
use Rattle.jokulvisp.proofs.Agreeing.{lent-right}
use Rattle.jokulvisp.proofs.Checking.{drew}
use Rattle.jokulvisp.proofs.Painted.{lent-lends, number_of, paints-new}
use Rattle.jokulvisp.proofs.Repainted.{answer-settled, done-draws, Draws, draws-due}

-- A PAINTED FRAME, with number 0: every limit is kept, the list drew, and the frame is its rows
record Framed (list memory : List ℕ) (width height limit : ℕ) (picture tags : List ℕ) : Type 0 where
  frame : is_frame width height ≡ true
  list_long : is_list (length list) ≡ true
  memory_long : is_memory (length memory) ≡ true
  limit_right : is_limit limit ≡ true
  runs : (number_told (run_of list (length memory) limit).stop) ≡ 0
  colours : picture ≡ stacked (row_colours memory (actions_of list (length memory) limit) width) height
  tag_bytes : tags ≡ stacked (row_tags memory (actions_of list (length memory) limit) width) height

framed :
    (list memory : List ℕ) (width height limit : ℕ) (picture tags : List ℕ) (answer : JvAnswer) (picture' tags' : List ℕ) →
    PaintAnswer list memory width height limit picture tags answer picture' tags' → answer.number ≡ 0 →
    Framed list memory width height limit picture' tags'
unfolding PaintAnswer
framed list memory width height limit picture tags answer picture' tags' x z =
    let d = drew list (length memory) width height limit _ (number_of (sym x.answered) ∙ z) in
    let p = paints-new x z in
    record {
      frame = d.0.frame;
      list_long = d.0.list;
      memory_long = d.0.memory;
      limit_right = d.0.limit;
      runs = d.1;
      colours = p.0 ∙ stacked-same _ _ height (λ y l. rw (zero-add y));
      tag_bytes = p.1 ∙ stacked-same _ _ height (λ y l. rw (zero-add y));
    }

frame-long : {list memory : List ℕ} {width height limit : ℕ} {picture tags : List ℕ} → Framed list memory width height limit picture tags → Lent width height picture tags
frame-long {list} {memory} {width} {height} {limit} f =
    let actions = actions_of list (length memory) limit in
    record {
      colours =
          ap length f.colours
          ∙ stacked-long (row_colours memory actions width) (3 * width) height (λ y l. colours-long (pixel_of memory actions y) width);
      tag_bytes =
          ap length f.tag_bytes
          ∙ stacked-long (row_tags memory actions width) width height (λ y l. tags-long (pixel_of memory actions y) width);
    }

-- runs of a frame's lengths, and a mark for each row
lent-for : (width height : ℕ) (picture tags marks : List ℕ) → Lent width height picture tags → length marks ≡ height → is_lent_for width height (length picture) (length tags) (length marks) ≡ true
lent-for width height picture tags marks l m = rw (lent-right width height picture tags l, eq-eqb (length marks) height m)

-- A REPAINT
module _ {old new memory : List ℕ} {width height limit : ℕ} {picture tags marks : List ℕ} {answer : JvAnswer} {picture' tags' marks' : List ℕ}
    (x : RepaintAnswer old new memory width height limit picture tags marks answer picture' tags' marks') where
  -- of a frame that was painted
  carried :
      {new_picture new_tags : List ℕ} → Framed old memory width height limit picture tags → Framed new memory width height limit new_picture new_tags →
      length marks ≡ height → (answer.number ≡ 0) × ((picture' ≡ new_picture) × (tags' ≡ new_tags))
  carried o n long =
      let draws : Draws old new memory width height limit (is_lent_for width height (length picture) (length tags) (length marks)) =
      record {
        frame = rw o.frame (lent-for width height picture tags marks (frame-long o) long);
        old_list = o.list_long;
        new_list = n.list_long;
        memory_long = o.memory_long;
        limit_right = o.limit_right;
        old_run = o.runs;
        new_run = n.runs;
      }
      in
      let z : answer.number ≡ 0 = number_of (x.answered ∙ draws-due old new memory width height limit _ draws (marked marks' height)) in
      let left = x.done z in
      let old_actions = actions_of old (length memory) limit in
      let new_actions = actions_of new (length memory) limit in (
        z,
        (
          left.colours
              ∙ ap (patched marks' (row_colours memory new_actions width) (3 * width)) o.colours
              ∙ colours-carried memory old_actions new_actions width height marks' left.marks
              ∙ sym n.colours,
          left.tag_bytes
              ∙ ap (patched marks' (row_tags memory new_actions width) width) o.tag_bytes
              ∙ tags-carried memory old_actions new_actions width height marks' left.marks
              ∙ sym n.tag_bytes,
        ),
      )

  -- with number 0
  module _ (z : answer.number ≡ 0) where
    repaint-draws : Draws old new memory width height limit (is_lent_for width height (length picture) (length tags) (length marks))
    repaint-draws = done-draws old new memory width height limit _ (marked marks' height) (number_of (sym x.answered) ∙ z)

    repaint-count : answer.count ≡ marked marks' height
    repaint-count =
        ap (λ (a : JvAnswer). a.count) (x.answered ∙ draws-due old new memory width height limit _ repaint-draws (marked marks' height))

    repaint-long : (length picture ≡ height * (3 * width)) × (length tags ≡ height * width)
    repaint-long =
        let runs = is_lent width height (length picture) (length tags) in
        let lent = (both_true (is_frame width height) (runs && eqb (length marks) height) repaint-draws.frame).1 in
        lent-lends width height (length picture) (length tags) (both_true runs (eqb (length marks) height) lent).0

-- THE CLAIM
pub edits-hold : HoldsOfEdits
unfolding PaintRowAnswer
edits-hold = record {
  equal_rows = same_rows;
  carried_over = λ old new memory width height limit lent_picture lent_tags picture tags old_answer o zo other_picture other_tags new_picture new_tags new_answer n zn marks answer picture' tags' marks' long x.
      carried x
      (framed old memory width height limit lent_picture lent_tags old_answer picture tags o zo)
      (framed new memory width height limit other_picture other_tags new_answer new_picture new_tags n zn)
      long;
  itself = λ list memory width height limit picture tags marks answer picture' tags' marks' x z.
      let left = x.done z in
      let long = repaint-long x z in
      let none : marks' ≡ replicate height 0 = marks-none left.marks in
      let zeros : (y : ℕ) → y < height → get_or marks' y 0 ≡ 0 = λ y l. ap (λ (m : List ℕ). get_or m y 0) none ∙ get_or-replicate height y 0 0 l in (
        repaint-count x z ∙ marked-none marks' height zeros,
        (none, (left.colours ∙ patched-itself left.marks _ (3 * width) picture long.0, left.tag_bytes ∙ patched-itself left.marks _ width tags long.1)),
      );
  frame_free = λ old new memory width height limit picture tags marks answer picture' tags' marks' l m x other_picture other_tags other_marks other_answer other_picture' other_tags' other_marks' k n.
      answer-settled (lent-for width height picture tags marks l m ∙ sym (lent-for width height other_picture other_tags other_marks k n)) x;
  nothing_missed = λ old new memory width height limit y lent_picture lent_tags old_picture old_tags old_answer o zo other_picture other_tags new_picture new_tags new_answer n zn picture tags marks answer picture' tags' marks' x z differ.
      let passed = (drew old (length memory) width height limit _ (number_of (sym o.answered) ∙ zo)).0 in
      let inside : y < height = ltb-true y height (both_true (ltb y height) _ passed.runs).0 in
      let before = paints-new o zo in
      let after = paints-new n zn in
      mark_on ((x.done z).marks.each y inside)
      (λ e.
      let same = same_rows memory (actions_of old (length memory) limit) (actions_of new (length memory) limit) width y e in
      differ (before.0 ∙ same.0 ∙ sym after.0, before.1 ∙ same.1 ∙ sym after.1));
}
