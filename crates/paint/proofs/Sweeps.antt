-- A row swept column by column.
use mathlib.Core.Bool.{Bool, true, false, cond, ◌&&◌}
use mathlib.Core.Logic.{◌⊎◌, inl, inr, ⊎_elim}
use mathlib.Core.List.{List, ◌++◌}
use mathlib.Core.Path.{◌≡◌, refl, sym, ◌∙◌, ap}
use Prim.Native.Nat.{ℕ, ◌+◌, ◌-◌, ◌*◌, ◌^◌, ◌<◌, ◌≤◌}
use native.Mathlib.Nat.{le_refl, eq-or-lt_of_le, mul-le-mul}
use native.Mathlib.Omega.{arith}
use lib.Dec.{leb, ltb}
use lib.ListN.{length, get_or, take, drop, replicate}
use borrow.Author.Tests.{lt-ltb, ltb-true, ltb-false, leb-true, leb-false}
use Rattle.std.specs.List.{CopiedTo, SameBelow, SameFrom}
use Rattle.std.proofs.Common.{rules}
use Rattle.std.proofs.lemmas.Bool.{both_ways, cases_lt}
use Rattle.std.proofs.lemmas.List.{places}
use Rattle.truth.proofs.Bools.{both_true, both-made, same_truth}
use Rattle.action.specs.declared.Action.{Action}
use Rattle.pixel.specs.declared.Pixel.{Pixel}
use Rattle.pixel.specs.declared.plain.Fill.{Fill}
use Rattle.pixel.specs.Plain.{filled}
use Rattle.shape.specs.declared.Chord.{Chord}
use Rattle.shape.specs.Cover.{between, outline_of, outside, reaches}
use Rattle.shape.specs.OneRow.{has_column, holds_in, near_enough}
use Rattle.shape.proofs.Bools.{between-true, between-made}
use Rattle.units.specs.declared.Pixels.{Pixels}
use Rattle.units.specs.Units.{PixelOf, pixel_at, count_before, sampled}
use Rattle.units.proofs.Meaning.{pixels-at}
use Rattle.paint.specs.Picture.{drawn_at}
use Rattle.paint.specs.Runs.{Touched, Swept, Drawn, change, pixel_in}
use Rattle.paint.proofs.Points.{same-pixel, tinted}

pub swept_none : (from : ℕ) (step : ℕ → Pixel → Pixel) (old : ℕ → Pixel) → Swept from from step old old
swept_none from step old = record { inside = λ k h l. absurd (none k h l); outside = λ k h. refl }
  where
    none : (k : ℕ) → from ≤ k → k < from → ⊥
    none k h l = omega arith

pub swept-more :
    (from x : ℕ) (step : ℕ → Pixel → Pixel) (old now new : ℕ → Pixel) →
    from ≤ x → Swept from x step old now → Touched x (step x) now new → Swept from (x + 1) step old new
swept-more from x step old now new low s t =
    record {
      inside = λ k h l. ⊎_elim (λ (e : k ≡ x). rw e (t.at ∙ ap (step x) (s.outside x (inr (le_refl x))))) (λ (b : k < x). t.other k (omega arith) ∙ s.inside k h b) (split k l);
      outside = λ k h. ⊎_elim (λ (b : k < from). t.other k (omega arith) ∙ s.outside k (inl b)) (λ (b : x + 1 ≤ k). t.other k (omega arith) ∙ s.outside k (inr (omega arith))) h;
    }
  where
    split : (k : ℕ) → k < x + 1 → (k ≡ x) ⊎ (k < x)
    split k l = eq-or-lt_of_le (omega arith)

-- a pixel that was touched as a step makes it
pub touched-as :
    (x : ℕ) (step : ℕ → Pixel → Pixel) (old : ℕ → Pixel) {after : Pixel} {now : ℕ → Pixel} → after ≡ step x (old x) → Touched x (λ _. after) old now →
    Touched x (step x) old now
touched-as x step old same touched = record { at = touched.at ∙ same; other = touched.other }

-- A part of a run filled with one byte: what is read there, and elsewhere.
pub record Flooded (from to byte : ℕ) (old new : List ℕ) : Type 0 where
  pub inside : (k : ℕ) → from ≤ k → k < to → get_or new k 0 ≡ byte
  pub outside : (k : ℕ) → (k < from) ⊎ (to ≤ k) → get_or new k 0 ≡ get_or old k 0

pub flooded :
    (from to byte : ℕ) (run part : List ℕ) → from ≤ to → to ≤ length run →
    part ≡ replicate (length (take (to - from) (drop from run))) byte →
    Flooded from to byte run (take from run ++ (part ++ drop (to - from) (drop from run)))
flooded from to byte run part low high e =
    record {
      inside = λ k h l. rw e (search (rules, places));
      outside = λ k h. rw e (⊎_elim (λ (b : k < from). search (rules, places)) (λ (b : to ≤ k). search (rules, places)) h);
    }

-- the first bytes of a run filled
pub flooded-first :
    (to byte : ℕ) (run part : List ℕ) → to ≤ length run → part ≡ replicate (length (take to run)) byte → (k : ℕ) → k < to →
    get_or (part ++ drop to run) k 0 ≡ byte
flooded-first to byte run part high e k l = rw e (search (rules, places))

-- a row whose colours were swept and whose tags and alpha were then filled
pub swept-filled :
    (from to : ℕ) (with : Fill) (colours stencil : List ℕ) {tags alpha tags' alpha' : List ℕ} {old : ℕ → Pixel} →
    Swept from to (λ _. tinted with) old (pixel_in colours tags alpha stencil) → Flooded from to with.tag tags tags' → Flooded from to with.alpha alpha alpha' →
    Swept from to (λ _. filled with) old (pixel_in colours tags' alpha' stencil)
unfolding pixel_in tinted filled
swept-filled from to with colours stencil swept t a =
    record {
      inside =
          λ k h l.
          let s = swept.inside k h l in
          same-pixel _ _ (ap (λ (p : Pixel). p.red) s) (ap (λ (p : Pixel). p.green) s) (ap (λ (p : Pixel). p.blue) s) (a.inside k h l) (ap (λ (p : Pixel). p.stencil) s) (t.inside k h l);
      outside =
          λ k h.
          let s = swept.outside k h in
          same-pixel _ _ (ap (λ (p : Pixel). p.red) s) (ap (λ (p : Pixel). p.green) s) (ap (λ (p : Pixel). p.blue) s)
          (a.outside k h ∙ ap (λ (p : Pixel). p.alpha) s)
          (ap (λ (p : Pixel). p.stencil) s)
          (t.outside k h ∙ ap (λ (p : Pixel). p.tag) s);
    }

-- more colours of one kind, copied from those that stand
pub swept-copied :
    (from done more : ℕ) (with : Fill) (colours colours' tags alpha stencil : List ℕ) {old : ℕ → Pixel} → from + more ≤ done →
    CopiedTo colours colours' (3 * from) (3 * done) (3 * (from + more) - 3 * from) → SameBelow colours colours' (3 * done) →
    SameFrom colours colours' (3 * done + (3 * (from + more) - 3 * from)) →
    Swept from done (λ _. tinted with) old (pixel_in colours tags alpha stencil) →
    Swept from (done + more) (λ _. tinted with) old (pixel_in colours' tags alpha stencil)
unfolding pixel_in tinted
swept-copied from done more with colours colours' tags alpha stencil {old} room copied below above swept =
    record {
      inside = λ k h l. ⊎_elim (λ (b : k < done). stays k (λ i u. below i 0 (omega arith)) ∙ swept.inside k h b) (λ (b : done ≤ k). copy k b l) (cases_lt k done);
      outside = λ k h. ⊎_elim (λ (b : k < from). stays k (λ i u. below i 0 (omega arith)) ∙ swept.outside k (inl b)) (λ (b : done + more ≤ k). stays k (λ i u. above i 0 (omega arith)) ∙ swept.outside k (inr (omega arith))) h;
    }
  where
    stays : (k : ℕ) → ((i : ℕ) → (3 * k ≤ i) × (i < 3 * k + 3) → get_or colours' i 0 ≡ get_or colours i 0) → pixel_in colours' tags alpha stencil k ≡ pixel_in colours tags alpha stencil k
    stays k same = same-pixel _ _ (same (3 * k) (omega arith)) (same (3 * k + 1) (omega arith)) (same (3 * k + 2) (omega arith)) refl refl refl

    first : (k : ℕ) → done ≤ k → 3 * from + (3 * k - 3 * done) ≡ 3 * (from + (k - done))
    first k b = omega arith

    next : (k c : ℕ) → done ≤ k → 3 * from + (3 * k + c - 3 * done) ≡ 3 * (from + (k - done)) + c
    next k c b = omega arith

    copy : (k : ℕ) → done ≤ k → k < done + more → pixel_in colours' tags alpha stencil k ≡ tinted with (old k)
    copy k b l =
        let from_there = swept.inside (from + (k - done)) (omega arith) (omega arith) in
        let before = swept.outside k (inr b) in
        same-pixel _ _ (copied (3 * k) 0 (omega arith) (omega arith) ∙ rw (first k b) (ap (λ (p : Pixel). p.red) from_there))
        (copied (3 * k + 1) 0 (omega arith) (omega arith) ∙ rw (next k 1 b) (ap (λ (p : Pixel). p.green) from_there))
        (copied (3 * k + 2) 0 (omega arith) (omega arith) ∙ rw (next k 2 b) (ap (λ (p : Pixel). p.blue) from_there))
        (ap (λ (p : Pixel). p.alpha) before)
        (ap (λ (p : Pixel). p.stencil) before)
        (ap (λ (p : Pixel). p.tag) before)

-- a row whose stencil was filled and then all else
pub swept-wiped :
    (from to : ℕ) (with : Pixel) (colours tags alpha : List ℕ) {stencil stencil' : List ℕ} {now : ℕ → Pixel} →
    Flooded from to with.stencil stencil stencil' →
    Swept from to (λ _. filled (record { red = with.red; green = with.green; blue = with.blue; alpha = with.alpha; tag = with.tag })) (pixel_in colours tags alpha stencil') now →
    Swept from to (λ _ _. with) (pixel_in colours tags alpha stencil) now
unfolding pixel_in filled
swept-wiped from to with colours tags alpha s swept =
    record {
      inside = λ k h l. swept.inside k h l ∙ same-pixel _ _ refl refl refl refl (s.inside k h l) refl;
      outside = λ k h. swept.outside k h ∙ same-pixel _ _ refl refl refl refl (s.outside k h) refl;
    }

abbrev away : Chord → ℕ → ℕ
away chord x = outside (sampled (pixel_at x)) chord.near chord.far

-- a column between two that a chord holds is no further from it than one of them
pub held-between :
    (chord : Chord) (a k b : ℕ) → a ≤ k → k ≤ b → holds_in chord (pixel_at a) ≡ true → holds_in chord (pixel_at b) ≡ true →
    holds_in chord (pixel_at k) ≡ true
unfolding holds_in near_enough
held-between chord a k b low high e f =
    ⊎_elim (λ (h : away chord a < away chord k). nearer (away chord k) (away chord b) chord.room (omega arith) f) (λ (h : away chord k ≤ away chord a). nearer (away chord k) (away chord a) chord.room h e) (cases_lt (away chord a) (away chord k))
  where
    nearer : (d e room : ℕ) → d ≤ e → near_enough e room ≡ true → near_enough d room ≡ true
    nearer d e room h t =
        let u = both_true (ltb e (2 ^ 32)) (ltb (e * e) room) t in
        let less = ltb-true _ _ u.0 in
        let squares = ltb-true _ _ u.1 in
        both-made (lt-ltb d (2 ^ 32) (omega arith)) (lt-ltb (d * d) room (omega (arith, mul-le-mul h h)))

-- what was asked about a column
pub asked-of : (chord : Chord) {x : ℕ} {p : Pixels} {b v : Bool} → PixelOf x p → b ≡ holds_in chord p → b ≡ v → holds_in chord (pixel_at x) ≡ v
asked-of chord at asked e = ap (holds_in chord) (sym (pixels-at at)) ∙ sym asked ∙ e

-- no column from the one on and before the other is held
abbrev pub Without : Chord → ℕ → ℕ → Type 0
Without chord from to = (k : ℕ) → from ≤ k → k < to → holds_in chord (pixel_at k) ≡ false

-- going inwards from both ends over columns that are not held, up to such that are, or until none is left
module _ (chord : Chord) (width from to : ℕ) where
  abbrev left : ℕ
  left = count_before width chord.left

  abbrev right : ℕ
  right = count_before width chord.right

  pub exact-columns :
      {end : ℕ} → left ≤ from → to ≤ end → (end ≤ right) ⊎ (end ≤ left) → Without chord left from → Without chord to end →
      right ≤ end → (to ≤ from) ⊎ ((holds_in chord (pixel_at from) ≡ true) × (holds_in chord (pixel_at (to - 1)) ≡ true)) →
      (k : ℕ) → k < width → has_column chord (pixel_at k) ≡ between from to k
  exact-columns {end} low high ended before after past ends k h = same_truth _ _ has held
    where
      has : has_column chord (pixel_at k) ≡ true → between from to k ≡ true
      has e =
          let t = both_true (between chord.left.0 chord.right.0 (pixel_at k).0) (holds_in chord (pixel_at k)) e in
          let s = between-true chord.left.0 chord.right.0 (pixel_at k).0 t.0 in
          ⊎_elim (λ (b : k < from). absurd (both_ways _ (before k (omega arith) b) t.1))
          (λ (b : from ≤ k).
          ⊎_elim (λ (c : k < to). between-made from to k b c) (λ (c : to ≤ k). absurd (both_ways _ (after k c (omega arith)) t.1)) (cases_lt k to))
          (cases_lt k from)

      none : to ≤ from → from ≤ k → k < to → ⊥
      none b c d = omega arith

      held : between from to k ≡ true → has_column chord (pixel_at k) ≡ true
      held e =
          let t = between-true from to k e in
          let reached : k < right = ⊎_elim (λ (b : end ≤ right). omega arith) (λ (b : end ≤ left). omega arith) ended in
          both-made (between-made chord.left.0 chord.right.0 (pixel_at k).0 (omega arith) (omega arith))
          (⊎_elim (λ (b : to ≤ from). absurd (none b t.0 t.1))
          (λ (b : (holds_in chord (pixel_at from) ≡ true) × (holds_in chord (pixel_at (to - 1)) ≡ true)). held-between chord from k (to - 1) t.0 (omega arith) b.0 b.1)
          ends)

-- the columns that the action reaches, swept by a step that does at each what the drawing does
module _ (memory : List ℕ) (action : Action) (q : Pixels) (width from to : ℕ) (old now : ℕ → Pixel) where
  pub swept-drawn :
      ((k : ℕ) → k < width → reaches (outline_of action.drawing) action.scissor (pixel_at k) q ≡ between from to k) →
      {step : ℕ → Pixel → Pixel} → Swept from to step old now →
      ((k : ℕ) (p : Pixel) → step k p ≡ change memory action.masks action.drawing q k p) → Drawn memory action width q old now
  unfolding drawn_at
  swept-drawn exact s same x h =
      rw (exact x h) (go (leb from x) (ltb x to) refl refl)
    where
      go : (a b : Bool) → leb from x ≡ a → ltb x to ≡ b → now x ≡ cond (leb from x && ltb x to) (change memory action.masks action.drawing q x (old x)) (old x)
      go false b e f = rw e (s.outside x (inl (leb-false from x e)))
      go true false e f = rw (e, f) (s.outside x (inr (ltb-false x to f)))
      go true true e f = rw (e, f) (s.inside x (leb-true from x e) (ltb-true x to f) ∙ same x (old x))

-- a drawing that changes no pixel leaves the row as it is
pub still-drawn :
    (memory : List ℕ) (action : Action) (q : Pixels) (width : ℕ) (old : ℕ → Pixel) →
    ((k : ℕ) (p : Pixel) → change memory action.masks action.drawing q k p ≡ p) → Drawn memory action width q old old
unfolding drawn_at
still-drawn memory action q width old same x h = rw (same x (old x)) (sym (either (reaches (outline_of action.drawing) action.scissor (pixel_at x) q)))
  where
    either : (b : Bool) → cond b (old x) (old x) ≡ old x
    either true = refl
    either false = refl
