-- jv_repaint: when its number is 0, what its answer depends on, and that no second answer fits. Assumes nothing.
use mathlib.Core.Path.{◌≡◌, refl, sym, ap, ◌∙◌}
use mathlib.Core.Bool.{Bool, true, false, cond, ◌&&◌}
use mathlib.Core.List.{List}
use mathlib.Core.Logic.{◌⊎◌, inl, inr, ⊎_elim}
use Prim.Native.Nat.{ℕ, ◌*◌, ◌≤◌}
use native.Mathlib.Omega.{arith}
use lib.Dec.{eqb}
use lib.ListN.{length}
use borrow.Author.Tests.{eq-eqb, eqb-false, eqb-true, ne_eqb}
use Rattle.truth.proofs.Bools.{both_true}
use Rattle.engine.specs.Run.{Ran, number_told, WithinLimits, actions_of, ending_of, most_list, run_of}
use Rattle.engine.specs.declared.running.Ending.{Ending}
use Rattle.paint.specs.Picture.{patched, row_colours, row_tags}
use Rattle.repaint.proofs.Settling.{marks-settled}
use Rattle.repaint.specs.Repaint.{Marks, marked}
use Rattle.units.specs.Units.{tallest, widest}
use Rattle.jokulvisp.specs.declared.check.JvAnswer.{JvAnswer}
use Rattle.jokulvisp.specs.Check.{ended, is_frame, is_limit, is_list, is_memory, refused_for}
use Rattle.jokulvisp.specs.Paint.{is_lent}
use Rattle.jokulvisp.specs.Repaint.{is_lent_for, RepaintAnswer, repaint_due, repainted, unless_faulty}
use Rattle.jokulvisp.proofs.Checking.{height-within, list-within, memory-within, width-within}
use Rattle.jokulvisp.proofs.Painted.{Same, lent-lends, number_of}

-- the number is not 0, and the answer the same however many rows are marked
record Fails (answers : ℕ → JvAnswer) : Type 0 where
  nonzero : (rows : ℕ) → (answers rows).number ≡ 0 → ⊥
  fixed : (rows rows' : ℕ) → answers rows ≡ answers rows'

-- a test, and what follows it
tested :
    {P : Type 0} (test : Bool) (otherwise : JvAnswer) (answers : ℕ → JvAnswer) → (test ≡ false → otherwise.number ≡ 0 → ⊥) →
    (test ≡ true → P ⊎ Fails answers) → P ⊎ Fails (λ rows. cond test (answers rows) otherwise)
tested true otherwise answers h k = k refl
tested false otherwise answers h k = inr (record { nonzero = λ rows. h refl; fixed = λ rows rows'. refl })

module _ (old new memory : List ℕ) (width height limit : ℕ) (lent : Bool) where
  -- every limit is kept, and both lists draw
  pub record Draws : Type 0 where
    pub frame : (is_frame width height && lent) ≡ true
    pub old_list : is_list (length old) ≡ true
    pub new_list : is_list (length new) ≡ true
    pub memory_long : is_memory (length memory) ≡ true
    pub limit_right : is_limit limit ≡ true
    pub old_run : (number_told (run_of old (length memory) limit).stop) ≡ 0
    pub new_run : (number_told (run_of new (length memory) limit).stop) ≡ 0

  draws-or-fails : Draws ⊎ Fails (repaint_due old new memory width height limit lent)
  unfolding repaint_due unless_faulty
  draws-or-fails =
      tested (is_frame width height && lent) (refused_for 0 1) _ (λ t z. omega arith)
      λ a. tested (is_list (length old)) (refused_for 1 2) _ (λ t z. omega arith)
      λ b. tested (is_list (length new)) (refused_for 2 2) _ (λ t z. omega arith)
      λ c. tested (is_memory (length memory)) (refused_for 0 3) _ (λ t z. omega arith)
      λ d. tested (is_limit limit) (refused_for 0 4) _ (λ t z. omega arith)
      λ e. tested (eqb (number_told (run_of old (length memory) limit).stop) 0) _ _ (λ t z. eqb-false (number_told (run_of old (length memory) limit).stop) 0 t z)
      λ f. tested (eqb (number_told (run_of new (length memory) limit).stop) 0) _ repainted (λ t z. eqb-false (number_told (run_of new (length memory) limit).stop) 0 t z)
      λ g. inl (record {
        frame = a;
        old_list = b;
        new_list = c;
        memory_long = d;
        limit_right = e;
        old_run = eqb-true (number_told (run_of old (length memory) limit).stop) 0 f;
        new_run = eqb-true (number_told (run_of new (length memory) limit).stop) 0 g;
      })

  -- the number is 0 only then
  pub done-draws : (rows : ℕ) → (repaint_due old new memory width height limit lent rows).number ≡ 0 → Draws
  done-draws rows z = ⊎_elim (λ d. d) (λ f. absurd (f.nonzero rows z)) draws-or-fails

  -- and the answer then counts the rows that are marked
  pub draws-due : Draws → (rows : ℕ) → repaint_due old new memory width height limit lent rows ≡ repainted rows
  unfolding repaint_due unless_faulty
  draws-due d rows =
      rw (
        d.frame,
        d.old_list,
        d.new_list,
        d.memory_long,
        d.limit_right,
        eq-eqb (number_told (run_of old (length memory) limit).stop) 0 d.old_run,
        eq-eqb (number_told (run_of new (length memory) limit).stop) 0 d.new_run,
      )

-- A RUN that is over, as its number tells
module _ (list : ℕ) (r : Ran) {e : Ending} (further : JvAnswer) (over : e ≡ ending_of r) where
  pub faulty : ((number_told e.stop) ≡ 0 → ⊥) → ended list e ≡ unless_faulty list r further
  unfolding unless_faulty
  faulty z = rw (over, ne_eqb (number_told r.stop) 0 (λ n. z (ap (λ (x : Ending). number_told x.stop) over ∙ n)))

  pub faultless : (number_told e.stop) ≡ 0 → further ≡ unless_faulty list r further
  unfolding unless_faulty
  faultless z = rw (eq-eqb (number_told r.stop) 0 (sym (ap (λ (x : Ending). number_told x.stop) over) ∙ z))

-- Of what is lent, answer and marks depend on the lengths alone.
pub answer-settled :
    {old new memory : List ℕ} {width height limit : ℕ} {picture tags marks : List ℕ} {a : JvAnswer} {p t m : List ℕ}
    {picture₂ tags₂ marks₂ : List ℕ} {b : JvAnswer} {q u n : List ℕ} →
    is_lent_for width height (length picture) (length tags) (length marks) ≡ is_lent_for width height (length picture₂) (length tags₂) (length marks₂) →
    RepaintAnswer old new memory width height limit picture tags marks a p t m →
    RepaintAnswer old new memory width height limit picture₂ tags₂ marks₂ b q u n → (a ≡ b) × (a.number ≡ 0 → m ≡ n)
answer-settled {old} {new} {memory} {width} {height} {limit} {picture} {tags} {marks} {a} {m} {b} {n} l x y =
    ⊎_elim
    (λ d.
    let za : a.number ≡ 0 = number_of (x.answered ∙ draws-due old new memory width height limit lent d (marked m height)) in
    let zb : b.number ≡ 0 = number_of (other ∙ draws-due old new memory width height limit lent d (marked n height)) in
    let e : m ≡ n = marks-settled (x.done za).marks (y.done zb).marks in
    (x.answered ∙ ap (λ (k : List ℕ). due (marked k height)) e ∙ sym other, λ z. e))
    (λ f. (
      x.answered ∙ f.fixed (marked m height) (marked n height) ∙ sym other,
      λ z. absurd (f.nonzero (marked m height) (number_of (sym x.answered) ∙ z)),
    ))
    (draws-or-fails old new memory width height limit lent)
  where
    lent : Bool
    lent = is_lent_for width height (length picture) (length tags) (length marks)

    due : ℕ → JvAnswer
    due = repaint_due old new memory width height limit lent

    other : b ≡ due (marked n height)
    other = y.answered ∙ ap (λ (v : Bool). repaint_due old new memory width height limit v (marked n height)) (sym l)

-- THE CALL. Any other number than 0 is told whatever would be counted, and leaves what is lent
pub refused-as-lent :
    {old new memory : List ℕ} {width height limit : ℕ} {picture tags marks : List ℕ} {told : JvAnswer} →
    told ≡ repaint_due old new memory width height limit (is_lent_for width height (length picture) (length tags) (length marks)) 0 → (told.number ≡ 0 → ⊥) →
    RepaintAnswer old new memory width height limit picture tags marks told picture tags marks
refused-as-lent {old} {new} {memory} {width} {height} {limit} {picture} {tags} {marks} e z =
    let lent = is_lent_for width height (length picture) (length tags) (length marks) in
    let other : repaint_due old new memory width height limit lent 0 ≡ repaint_due old new memory width height limit lent (marked marks height) =
    ⊎_elim
    (λ d. absurd (z (number_of (e ∙ draws-due old new memory width height limit lent d 0))))
    (λ f. f.fixed 0 (marked marks height))
    (draws-or-fails old new memory width height limit lent)
    in
    record {
      answered = e ∙ other;
      done = λ n. absurd (z n);
      refused = λ n. record { colours = refl; tag_bytes = refl; mark_bytes = refl };
    }

-- and with number 0 the rows can be painted, and are
module _ (old new memory : List ℕ) (width height limit picture tags marks : ℕ) {told : JvAnswer}
    (e : told ≡ repaint_due old new memory width height limit (is_lent_for width height picture tags marks) 0) (z : told.number ≡ 0) where
  draws : Draws old new memory width height limit (is_lent_for width height picture tags marks)
  draws = done-draws old new memory width height limit _ 0 (number_of (sym e) ∙ z)

  lends : is_lent_for width height picture tags marks ≡ true
  lends = (both_true (is_frame width height) _ draws.frame).1

  marks-long : marks ≡ height
  marks-long = eqb-true marks height (both_true (is_lent width height picture tags) _ lends).1

  pub may-repaint :
      ((length old ≤ most_list) × WithinLimits new (length memory)) ×
      ((marks ≤ tallest) × ((width ≤ widest) × ((picture ≡ marks * (3 * width)) × (tags ≡ marks * width))))
  may-repaint =
      let frame = (both_true (is_frame width height) _ draws.frame).0 in
      let runs = lent-lends width height picture tags (both_true (is_lent width height picture tags) _ lends).0 in (
        (list-within _ draws.old_list, (list-within _ draws.new_list, memory-within _ draws.memory_long)),
        rw marks-long (height-within width height frame, (width-within width height frame, runs)),
      )

pub repaint-done :
    {old new memory : List ℕ} {width height limit : ℕ} {picture tags marks : List ℕ} {told : JvAnswer} {rows : ℕ} {picture' tags' marks' : List ℕ} →
    told ≡ repaint_due old new memory width height limit (is_lent_for width height (length picture) (length tags) (length marks)) 0 → told.number ≡ 0 →
    Marks (actions_of old (length memory) limit) (actions_of new (length memory) limit) width (length marks) marks' →
    picture' ≡ patched marks' (row_colours memory (actions_of new (length memory) limit) width) (3 * width) picture →
    tags' ≡ patched marks' (row_tags memory (actions_of new (length memory) limit) width) width tags → rows ≡ marked marks' (length marks) →
    RepaintAnswer old new memory width height limit picture tags marks (repainted rows) picture' tags' marks'
repaint-done {old} {new} {memory} {width} {height} {limit} {picture} {tags} {marks} {marks' = marks'} e z m p t c =
    let d = draws old new memory width height limit (length picture) (length tags) (length marks) e z in
    let long = marks-long old new memory width height limit (length picture) (length tags) (length marks) e z in
    record {
      answered = ap repainted (rw long at c) ∙ sym (draws-due old new memory width height limit _ d (marked marks' height));
      done = λ n. record { marks = rw long at m; colours = p; tag_bytes = t };
      refused = λ n. absurd (n refl);
    }

-- NO SECOND ANSWER FITS: neither another number, list, place or count, nor another byte.
pub repaint-once :
    (old new memory : List ℕ) (width height limit : ℕ) (picture tags marks : List ℕ) (a b : JvAnswer) (p q t u m n : List ℕ) →
    RepaintAnswer old new memory width height limit picture tags marks a p t m →
    RepaintAnswer old new memory width height limit picture tags marks b q u n → Same a b p q t u × (m ≡ n)
repaint-once old new memory width height limit picture tags marks a b p q t u m n x y = go (eqb a.number 0) refl
  where
    settled : (a ≡ b) × (a.number ≡ 0 → m ≡ n)
    settled = answer-settled refl x y

    number : b.number ≡ a.number
    number = number_of (sym settled.0)

    go : (z : Bool) → eqb a.number 0 ≡ z → Same a b p q t u × (m ≡ n)
    go true e =
        let z = eqb-true a.number 0 e in
        let r = x.done z in
        let s = y.done (number ∙ z) in
        let mn = settled.1 z in (
          record {
            answer = settled.0;
            colours = r.colours ∙ ap (λ (k : List ℕ). patched k (row_colours memory (actions_of new (length memory) limit) width) (3 * width) picture) mn ∙ sym s.colours;
            tag_bytes = r.tag_bytes ∙ ap (λ (k : List ℕ). patched k (row_tags memory (actions_of new (length memory) limit) width) width tags) mn ∙ sym s.tag_bytes;
          },
          mn,
        )
    go false e =
        let f = eqb-false a.number 0 e in
        let r = x.refused f in
        let s = y.refused (λ z. f (sym number ∙ z)) in
        (record { answer = settled.0; colours = r.colours ∙ sym s.colours; tag_bytes = r.tag_bytes ∙ sym s.tag_bytes }, r.mark_bytes ∙ sym s.mark_bytes)
