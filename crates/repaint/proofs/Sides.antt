-- One step of two lists side by side: what is passed tells nothing of a row that stands beside, and what is not passed settles it.
use mathlib.Core.Bool.{Bool, true, false, not, ◌&&◌, ◌||◌, and-false, and-true}
use mathlib.Core.List.{List, [], ◌∷◌, cons-ne-nil, head-eq_of_cons-eq, tail-eq_of_cons-eq}
use mathlib.Core.Logic.{◌⊎◌, inl, inr, ⊎_elim}
use mathlib.Core.Path.{◌≡◌, refl, sym, ◌∙◌, ap, subst}
use Rattle.std.specs.Prelude.{Option, Some, None, is_some, min, max}
use Prim.Native.Nat.{ℕ, ◌<◌, ◌≤◌}
use native.Mathlib.Omega.{arith}
use lib.Dec.{eqb, leb, ltb}
use lib.ListN.{length, get_or}
use borrow.Author.Tests.{eqb-false, eqb-true, le-leb, leb-false, leb-true, lt-ltb, ltb-true}
use Rattle.truth.proofs.Bools.{both_true, never, not_so}
use Rattle.action.specs.declared.Action.{Action}
use Rattle.shape.specs.Cover.{outline_of}
use Rattle.shape.specs.Reach.{Bands}
use Rattle.shape.proofs.Reaching.{row-by-none}
use Rattle.units.specs.Units.{pixel_at, tallest, widest}
use Rattle.repaint.specs.Repaint.{reaching}
use Rattle.repaint.specs.Rows.{Alike, Bounded, Compares, Passes, Stood, Touches, Turns, beside, later, meets_row, pace_of, passed, reaches_at, standing, with_rest}
use Rattle.repaint.specs.declared.compare.Pace.{Pace}

-- ONE ROW, one action
module _ (width y : ℕ) (a : Action) (rest : List Action) where
  reach-in : reaches_at a width y ≡ true → reaching width y (a ∷ rest) ≡ a ∷ reaching width y rest
  unfolding reaching
  reach-in e = rw e

  reach-out : reaches_at a width y ≡ false → reaching width y (a ∷ rest) ≡ reaching width y rest
  unfolding reaching
  reach-out e = rw e

reach-none : (width y : ℕ) → reaching width y [] ≡ []
unfolding reaching
reach-none width y = refl

-- an action that both lists have tells nothing
both-passed : (width y : ℕ) (a : Action) (p q : List Action) → Alike width y (a ∷ p) (a ∷ q) → Alike width y p q
both-passed width y a p q e = go (reaches_at a width y) refl
  where
    go : (b : Bool) → reaches_at a width y ≡ b → Alike width y p q
    go true r = tail-eq_of_cons-eq (sym (reach-in width y a p r) ∙ e ∙ reach-in width y a q r)
    go false r = sym (reach-out width y a p r) ∙ e ∙ reach-out width y a q r

both-returned : (width y : ℕ) (a : Action) (p q : List Action) → Alike width y p q → Alike width y (a ∷ p) (a ∷ q)
both-returned width y a p q e = go (reaches_at a width y) refl
  where
    go : (b : Bool) → reaches_at a width y ≡ b → Alike width y (a ∷ p) (a ∷ q)
    go true r = reach-in width y a p r ∙ ap (λ (l : List Action). a ∷ l) e ∙ sym (reach-in width y a q r)
    go false r = reach-out width y a p r ∙ e ∙ sym (reach-out width y a q r)

-- where both lists tell something of a row, and not the same, it differs
both-met :
    (width y : ℕ) (old new : Option Action) (p q : List Action) → (old ≡ new → ⊥) → meets_row old width y ≡ true → meets_row new width y ≡ true →
    Alike width y (with_rest old p) (with_rest new q) → ⊥
unfolding meets_row with_rest
both-met width y (Some a) (Some b) p q apart r s e =
    apart (ap (λ (x : Action). Some x) (head-eq_of_cons-eq (sym (reach-in width y a p r) ∙ e ∙ reach-in width y b q s)))
both-met width y (Some a) None p q apart r s e = cons-ne-nil a _ (sym (reach-in width y a p r) ∙ e ∙ reach-none width y)
both-met width y None (Some b) p q apart r s e = cons-ne-nil b _ (sym (reach-in width y b q s) ∙ sym e ∙ reach-none width y)
both-met width y None None p q apart r s e = apart refl

-- a list that goes on past what tells nothing of a row
past :
    (width y : ℕ) (go : Bool) (find : Option Action) (p : List Action) → (go ≡ true → is_some find ≡ true) → (meets_row find width y && go) ≡ false →
    reaching width y (passed go find p) ≡ reaching width y (with_rest find p)
unfolding meets_row passed with_rest
past width y false find p drawn off = refl
past width y true (Some a) p drawn off = sym (reach-out width y a p (sym (and-true (reaches_at a width y)) ∙ off))
past width y true None p drawn off = never (drawn refl)

-- a row outside of the bounds is not met
bounded-by : (find : Option Action) (top bottom : ℕ) → Bounded find top bottom → (width y : ℕ) → width ≤ widest → y < tallest → (y < top) ⊎ (bottom ≤ y) → meets_row find width y ≡ false
bounded-by find top bottom b width y w h off =
    not_so _ (λ e. let i = b width y w h e in ⊎_elim (λ (l : y < top). absurd (omega (arith, l, i.0))) (λ (l : bottom ≤ y). absurd (omega (arith, l, i.1))) off)

pub band-bounds : (a : Action) (top bottom : ℕ) → Bands a top bottom → Bounded (Some a) top bottom
unfolding meets_row
band-bounds a top bottom bands width y w h e = go (leb top y && ltb y bottom) refl
  where
    go : (t : Bool) → (leb top y && ltb y bottom) ≡ t → (top ≤ y) × (y < bottom)
    go true t = let i = both_true (leb top y) (ltb y bottom) t in (leb-true top y i.0, ltb-true y bottom i.1)
    go false t =
        never
        (sym
        (row-by-none (outline_of a.drawing) a.scissor width (pixel_at y)
        (λ x l.
        not_so _
        (λ r.
        let b = bands x y (omega arith) h r in
        never (sym t ∙ rw (le-leb top y b.0, lt-ltb y bottom b.1)))))
        ∙ e)

pub over-bounds : Bounded None 0 tallest
over-bounds width y w h e = (omega arith, h)

-- a step touches no row outside of the bounds of what is passed
module _ (old new : Option Action) (pace : Pace) where
  pub touch-old : {top bottom : ℕ} → Bounded old top bottom → pace.new ≡ false → Touches old new pace top bottom
  unfolding standing
  touch-old b e width y w h off = rw (bounded-by old _ _ b width y w h off, e, and-false (meets_row new width y))

  pub touch-new : {top bottom : ℕ} → Bounded new top bottom → pace.old ≡ false → Touches old new pace top bottom
  unfolding standing
  touch-new b e width y w h off = rw (bounded-by new _ _ b width y w h off, e, and-false (meets_row old width y))

  pub touch-both :
      {top bottom top' bottom' : ℕ} → Bounded old top bottom → Bounded new top' bottom' → Touches old new pace (min top top') (max bottom bottom')
  unfolding standing
  touch-both {top} {bottom} {top'} {bottom'} a b width y w h off =
      rw (
        bounded-by old top bottom a width y w h (⊎_elim (λ (l : y < min top top'). inl (omega (arith, l))) (λ (l : max bottom bottom' ≤ y). inr (omega (arith, l))) off),
        bounded-by new top' bottom' b width y w h (⊎_elim (λ (l : y < min top top'). inl (omega (arith, l))) (λ (l : max bottom bottom' ≤ y). inr (omega (arith, l))) off),
      )

-- THE PACE
not-met : (find : Option Action) (width y : ℕ) → not (meets_row find width y) ≡ true → is_some find ≡ true
unfolding meets_row
not-met (Some a) width y e = refl
not-met None width y e = never e

module _ (old new : Option Action) (p q width y : ℕ) where
  pub pace-old : (pace_of old new p q width y).old ≡ true → is_some old ≡ true
  unfolding pace_of
  pace-old e = not-met old width y (both_true (not (meets_row old width y)) _ e).0

  pub pace-new : (pace_of old new p q width y).new ≡ true → is_some new ≡ true
  unfolding pace_of
  pace-new e = not-met new width y (both_true (not (meets_row new width y)) _ e).0

-- row y is not left for later
waits : (a b c d : Bool) → standing a b (record { old = not a && c; new = not b && d }) ≡ later → ⊥
unfolding standing
waits true true c d h = absurd (omega arith)
waits true false c d h = absurd (omega arith)
waits false true c d h = absurd (omega arith)
waits false false c d h = absurd (omega arith)

not-later : (old new : Option Action) (p q width y : ℕ) → standing (meets_row old width y) (meets_row new width y) (pace_of old new p q width y) ≡ later → ⊥
unfolding pace_of
not-later old new p q width y h = waits (meets_row old width y) (meets_row new width y) _ _ h

-- a list goes on, or row y is settled
either-more : (p q : ℕ) → leb q p || leb p q ≡ true
either-more p q = go (leb q p) refl
  where
    go : (b : Bool) → leb q p ≡ b → b || leb p q ≡ true
    go true e = refl
    go false e = le-leb p q (omega (arith, leb-false q p e))

one-goes :
    (a b c d : Bool) → c || d ≡ true →
    ((not a && (b || c)) || (not b && (a || d)) ≡ true) ⊎ (standing a b (record { old = not a && (b || c); new = not b && (a || d) }) ≡ beside → ⊥)
unfolding standing
one-goes true true c d e = inr (λ z. absurd (omega (arith, z)))
one-goes true false c d e = inl refl
one-goes false true c d e = inl refl
one-goes false false c d e = inl e

some-goes :
    (old new : Option Action) (p q width y : ℕ) →
    ((pace_of old new p q width y).old || (pace_of old new p q width y).new ≡ true) ⊎
    (standing (meets_row old width y) (meets_row new width y) (pace_of old new p q width y) ≡ beside → ⊥)
unfolding pace_of
some-goes old new p q width y = one-goes (meets_row old width y) (meets_row new width y) (leb q p) (leb p q) (either-more p q)

-- A STEP of a row that stands beside
split : (a b c d : Bool) → (a && b) ≡ false → ((a && c) || (b && d)) ≡ false → ((a && c) ≡ false) × ((b && d) ≡ false)
split a b c d e h = go (a && c) (b && d) h
  where
    go : (x z : Bool) → (x || z) ≡ false → (x ≡ false) × (z ≡ false)
    go true z t = never (sym t)
    go false z t = (refl, t)

module _ (width y : ℕ) (old new : Option Action) (pace : Pace) (apart : old ≡ new → ⊥)
    (old_drawn : pace.old ≡ true → is_some old ≡ true) (new_drawn : pace.new ≡ true → is_some new ≡ true) where
  pub stood : {m' : ℕ} → m' ≡ standing (meets_row old width y) (meets_row new width y) pace → Passes width y old new pace beside m'
  unfolding standing
  stood {m'} is = go (meets_row old width y && meets_row new width y) refl
    where
      onto : ((meets_row old width y && pace.old) ≡ false) × ((meets_row new width y && pace.new) ≡ false) → m' ≡ beside → Passes width y old new pace beside m'
      onto off e = record {
        others = λ no-beside. absurd (no-beside refl);
        known = λ b. omega (arith, e);
        alike = λ b z. absurd (omega (arith, e, z));
        differs = λ b z. absurd (omega (arith, e, z));
        onwards = λ b z p q i. past width y pace.old old p old_drawn off.0 ∙ i ∙ sym (past width y pace.new new q new_drawn off.1);
        back = λ b z p q i. sym (past width y pace.old old p old_drawn off.0) ∙ i ∙ past width y pace.new new q new_drawn off.1;
      }

      apart-here : (meets_row old width y && meets_row new width y) ≡ true → m' ≡ 1 → Passes width y old new pace beside m'
      apart-here both e =
          let r = both_true (meets_row old width y) (meets_row new width y) both in
          record {
            others = λ no-beside. absurd (no-beside refl);
            known = λ b. omega (arith, e);
            alike = λ b z. absurd (omega (arith, e, z));
            differs = λ b z p q. both-met width y old new p q apart r.0 r.1;
            onwards = λ b z. absurd (omega (arith, e, z));
            back = λ b z. absurd (omega (arith, e, z));
          }

      left : m' ≡ later → Passes width y old new pace beside m'
      left e = record {
        others = λ no-beside. absurd (no-beside refl);
        known = λ b. omega (arith, e);
        alike = λ b z. absurd (omega (arith, e, z));
        differs = λ b z. absurd (omega (arith, e, z));
        onwards = λ b z. absurd (omega (arith, e, z));
        back = λ b z. absurd (omega (arith, e, z));
      }

      further : (c : Bool) → ((meets_row old width y && pace.old) || (meets_row new width y && pace.new)) ≡ c → (meets_row old width y && meets_row new width y) ≡ false → Passes width y old new pace beside m'
      further true e none = left (is ∙ rw (none, e))
      further false e none = onto (split (meets_row old width y) (meets_row new width y) pace.old pace.new none e) (is ∙ rw (none, e))

      go : (b : Bool) → (meets_row old width y && meets_row new width y) ≡ b → Passes width y old new pace beside m'
      go true e = apart-here e (is ∙ rw e)
      go false e = further ((meets_row old width y && pace.old) || (meets_row new width y && pace.new)) refl e

-- a row that does not stand beside stays as it is
pub unmoved : (width y : ℕ) (old new : Option Action) (pace : Pace) {m m' : ℕ} → (m ≡ beside → ⊥) → m' ≡ m → Passes width y old new pace m m'
unmoved width y old new pace off e = record {
  others = λ o. e;
  known = λ b. absurd (off b);
  alike = λ b. absurd (off b);
  differs = λ b. absurd (off b);
  onwards = λ b. absurd (off b);
  back = λ b. absurd (off b);
}

-- the same action in both lists
pub same-passed : (width y : ℕ) (old new : Option Action) {m : ℕ} → old ≡ new → is_some old ≡ true → Passes width y old new (record { old = true; new = true }) m m
unfolding passed with_rest
same-passed width y old new {m} e d = subst (λ (n : Option Action). Passes width y old n (record { old = true; new = true }) m m) e (alone old d)
  where
    alone : (find : Option Action) → is_some find ≡ true → Passes width y find find (record { old = true; new = true }) m m
    alone (Some a) d = record {
      others = λ o. refl;
      known = λ i. omega (arith, i);
      alike = λ i z. absurd (omega (arith, i, z));
      differs = λ i z. absurd (omega (arith, i, z));
      onwards = λ i z p q k. both-passed width y a p q k;
      back = λ i z p q k. both-returned width y a p q k;
    }
    alone None d = never d

-- both lists have ended
pub both-over : (width y : ℕ) (old new : Option Action) {m m' : ℕ} → old ≡ new → is_some old ≡ false → (m ≡ beside → m' ≡ 0) → ((m ≡ beside → ⊥) → m' ≡ m) → Passes width y old new (record { old = false; new = false }) m m'
unfolding passed with_rest
both-over width y old new {m} {m'} e d z o = subst (λ (n : Option Action). Passes width y old n (record { old = false; new = false }) m m') e (alone old d)
  where
    alone : (find : Option Action) → is_some find ≡ false → Passes width y find find (record { old = false; new = false }) m m'
    alone (Some a) d = never (sym d)
    alone None d = record {
      others = o;
      known = λ b. omega (arith, z b);
      alike = λ b k p q. refl;
      differs = λ b k. absurd (omega (arith, k, z b));
      onwards = λ b k. absurd (omega (arith, k, z b));
      back = λ b k. absurd (omega (arith, k, z b));
    }

-- ALL ROWS
drawn-too : (old new : Option Action) → old ≡ new → is_some old ≡ true → is_some new ≡ true
drawn-too old new e d = sym (ap is_some e) ∙ d

module _ {width y : ℕ} (old new : Option Action) {marks : List ℕ} where
  pub compare_same : old ≡ new → is_some old ≡ true → get_or marks y 0 ≡ beside → Compares width y old new (record { old = true; new = true }) marks marks
  compare_same e d at = record {
    old_drawn = λ t. d;
    new_drawn = λ t. drawn-too old new e d;
    rows = λ k h. same-passed width k old new e d;
    kept = λ z. absurd (omega (arith, z, at));
    moves = inl refl;
  }

  pub compare-over : {marks' : List ℕ} → old ≡ new → is_some old ≡ false → y < length marks → get_or marks y 0 ≡ beside → Turns beside 0 marks marks' → Compares width y old new (record { old = false; new = false }) marks marks'
  compare-over {marks'} e d h at t = record {
    old_drawn = λ i. never i;
    new_drawn = λ i. never i;
    rows = λ k l. both-over width k old new e d (t.turned k l) (t.others k l);
    kept = λ z. absurd (omega (arith, z, t.turned y h at));
    moves = inr (λ z. absurd (omega (arith, z, t.turned y h at)));
  }

  pub compare-apart : {marks' : List ℕ} → (p q : ℕ) → (old ≡ new → ⊥) → y < length marks → get_or marks y 0 ≡ beside → Stood width old new (pace_of old new p q width y) marks marks' → Compares width y old new (pace_of old new p q width y) marks marks'
  compare-apart {marks'} p q apart h at s = record {
    old_drawn = pace-old old new p q width y;
    new_drawn = pace-new old new p q width y;
    rows = λ k l. row k l (eqb (get_or marks k 0) beside) refl;
    kept = λ z. not-later old new p q width y (sym (s.moved y h at) ∙ z);
    moves = ⊎_elim (λ g. inl g) (λ z. inr (λ i. z (sym (s.moved y h at) ∙ i))) (some-goes old new p q width y);
  }
    where
      row : (k : ℕ) → k < length marks → (b : Bool) → eqb (get_or marks k 0) beside ≡ b → Passes width k old new (pace_of old new p q width y) (get_or marks k 0) (get_or marks' k 0)
      row k l true b =
          let e = eqb-true (get_or marks k 0) beside b in
          rw e (stood width k old new (pace_of old new p q width y) apart (pace-old old new p q width y) (pace-new old new p q width y) (s.moved k l e))
      row k l false b =
          let e = eqb-false (get_or marks k 0) beside b in
          unmoved width k old new (pace_of old new p q width y) e (s.others k l e)
