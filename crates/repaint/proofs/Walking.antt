-- A walk through both lists: how the rows stand at each turn, and at its end; and the walks one after another.
use mathlib.Core.Bool.{Bool, true, false}
use mathlib.Core.List.{List}
use mathlib.Core.Logic.{◌⊎◌, inl, inr, ⊎_elim}
use mathlib.Core.Path.{◌≡◌, refl, sym, ◌∙◌, ap}
use Rattle.std.specs.Prelude.{Option}
use Prim.Native.Nat.{ℕ, zero, suc, ◌<◌, ◌≤◌}
use native.Mathlib.Nat.{eq-or-lt_of_le}
use native.Mathlib.Omega.{arith}
use lib.Dec.{eqb}
use lib.ListN.{length, get_or, get_or-replicate, length-replicate, replicate}
use borrow.Author.Tests.{eqb-false, eqb-true}
use Rattle.action.specs.declared.Action.{Action}
use Rattle.repaint.specs.Repaint.{Mark, Marks, reaching}
use Rattle.repaint.specs.Rows.{AllStand, Begins, Compares, Passes, Seeks, Stands, Turns, Walks, beside, later, passed, with_rest}
use Rattle.repaint.specs.declared.compare.Pace.{Pace}
use Rattle.repaint.proofs.Marking.{before-or-from}

is-or-not : (m n : ℕ) → (m ≡ n) ⊎ (m ≡ n → ⊥)
is-or-not m n = go (eqb m n) refl
  where
    go : (b : Bool) → eqb m n ≡ b → (m ≡ n) ⊎ (m ≡ n → ⊥)
    go true e = inl (eqb-true m n e)
    go false e = inr (eqb-false m n e)

-- ONE ROW, one step on
stands-next :
    {old new : List Action} {width y : ℕ} (a b : Option Action) (p q : List Action) {pace : Pace} {m m' : ℕ} →
    Stands old new width y (with_rest a p) (with_rest b q) m → Passes width y a b pace m m' → Stands old new width y (passed pace.old a p) (passed pace.new b q) m'
stands-next {old} {new} {width} {y} a b p q {pace} {m} {m'} s t = ⊎_elim moving staying (is-or-not m beside)
  where
    moving : m ≡ beside → Stands old new width y (passed pace.old a p) (passed pace.new b q) m'
    moving e = record {
      known = t.known e;
      alike = λ z. s.back e (t.alike e z p q);
      differs = λ z i. t.differs e z p q (s.onwards e i);
      onwards = λ z i. t.onwards e z p q (s.onwards e i);
      back = λ z i. s.back e (t.back e z p q i);
    }

    staying : (m ≡ beside → ⊥) → Stands old new width y (passed pace.old a p) (passed pace.new b q) m'
    staying off = record {
      known = omega (arith, t.others off, s.known);
      alike = λ z. s.alike (sym (t.others off) ∙ z);
      differs = λ z. s.differs (sym (t.others off) ∙ z);
      onwards = λ z. absurd (off (sym (t.others off) ∙ z));
      back = λ z. absurd (off (sym (t.others off) ∙ z));
    }

-- THE WALK
pub record Walking (old new : List Action) (width y : ℕ) (start : List ℕ) (p q : List Action) (marks : List ℕ) (row : ℕ) : Type 0 where
  pub long : length marks ≡ length start
  pub seeks : Seeks marks y beside row
  pub stand : AllStand old new width p q marks
  pub kept : get_or marks y 0 ≡ later → ⊥
  pub others : (k : ℕ) → k < length start → (get_or start k 0 ≡ beside → ⊥) → get_or marks k 0 ≡ get_or start k 0

module _ {old new : List Action} {width y : ℕ} {start : List ℕ} where
  pub walking_start : {p q : List Action} → Begins old new width y start → p ≡ old → q ≡ new → Walking old new width y start p q start y
  walking_start b d e = record {
    long = refl;
    seeks = record { from = omega arith; to = omega (arith, b.within); before = λ k h l. absurd (omega arith); at = λ l. b.at };
    stand = rw (d, e) b.stand;
    kept = λ z. absurd (omega (arith, z, b.at));
    others = λ k h z. refl;
  }

  pub walking-next :
      {a b : Option Action} (p q : List Action) {p' q' : List Action} {marks marks' : List ℕ} {row row' : ℕ} {pace : Pace} →
      Walking old new width y start (with_rest a p) (with_rest b q) marks row → row < length marks → Compares width row a b pace marks marks' →
      length marks' ≡ length marks → p' ≡ passed pace.old a p → q' ≡ passed pace.new b q → Seeks marks' row beside row' → Walking old new width y start p' q' marks' row'
  walking-next {a} {b} p q {p'} {q'} {marks} {marks'} {row} {row'} {pace} w h c long d e s = record {
    long = long ∙ w.long;
    seeks = record {
      from = omega (arith, w.seeks.from, s.from);
      to = s.to;
      before = λ k f l z. ⊎_elim (λ (i : k < row). w.seeks.before k f i (stay k (omega arith) (w.seeks.before k f i) z)) (λ (i : row ≤ k). s.before k i l z) (before-or-from k row);
      at = s.at;
    };
    stand = λ k l. rw (d, e) (stands-next a b p q (w.stand k (omega (arith, long))) (c.rows k (omega (arith, long))));
    kept = λ z. ⊎_elim (λ (i : y ≡ row). c.kept (rw i at z)) (λ (i : y < row). w.kept (stay y (omega arith) (w.seeks.before y (omega arith) i) z)) (eq-or-lt_of_le w.seeks.from);
    others = λ k l z.
        let same = w.others k l z in
        (c.rows k (omega (arith, w.long))).others (λ i. z (sym same ∙ i)) ∙ same;
  }
    where
      stay : (k : ℕ) → k < length marks → (get_or marks k 0 ≡ beside → ⊥) → {m : ℕ} → get_or marks' k 0 ≡ m → get_or marks k 0 ≡ m
      stay k l off z = sym ((c.rows k l).others off) ∙ z

  pub walking-end : {p q : List Action} {marks : List ℕ} {row : ℕ} → Walking old new width y start p q marks row → Begins old new width y start → length start ≤ row → Walks old new width y start marks
  walking-end {p} {q} {marks} {row} w b l = record {
    stand = λ k h. settled k h (w.stand k h);
    none = none;
    others = w.others;
    kept = w.kept;
  }
    where
      none : (k : ℕ) → k < length start → get_or marks k 0 ≡ beside → ⊥
      none k h z =
          ⊎_elim (λ (i : k < y). b.before k i (sym (w.others k h (b.before k i)) ∙ z)) (λ (i : y ≤ k). w.seeks.before k i (omega arith) z) (before-or-from k y)

      settled : (k : ℕ) → k < length marks → Stands old new width k p q (get_or marks k 0) → Stands old new width k old new (get_or marks k 0)
      settled k h s = record {
        known = s.known;
        alike = s.alike;
        differs = s.differs;
        onwards = λ z. absurd (none k (omega (arith, w.long)) z);
        back = λ z. absurd (none k (omega (arith, w.long)) z);
      }

-- a row that does not stand so is past when the next that does is sought
pub seek-past : {marks : List ℕ} {y stand row : ℕ} → Seeks marks y stand row → y < length marks → (get_or marks y 0 ≡ stand → ⊥) → y < row
seek-past {marks} {y} {stand} {row} s l off =
    ⊎_elim (λ (e : y ≡ row). absurd (off (rw e (s.at (omega (arith, l, e)))))) (λ (m : y < row). m) (eq-or-lt_of_le s.from)

-- THE WALKS one after another, until no row is left for later
pub record Rounds (old new : List Action) (width height : ℕ) (marks : List ℕ) (y : ℕ) : Type 0 where
  pub long : length marks ≡ height
  pub seeks : Seeks marks 0 later y
  pub stand : AllStand old new width old new marks
  pub none : (k : ℕ) → k < length marks → get_or marks k 0 ≡ beside → ⊥

module _ {old new : List Action} {width height : ℕ} where
  pub rounds-start : {marks : List ℕ} → marks ≡ replicate height later → Rounds old new width height marks 0
  rounds-start {marks} e = record {
    long = long;
    seeks = record { from = omega arith; to = omega arith; before = λ k f l. absurd (omega arith); at = λ l. all 0 l };
    stand = λ k l. record {
      known = omega (arith, all k l);
      alike = λ z. absurd (omega (arith, all k l, z));
      differs = λ z. absurd (omega (arith, all k l, z));
      onwards = λ z i. i;
      back = λ z i. i;
    };
    none = λ k l z. absurd (omega (arith, all k l, z));
  }
    where
      long : length marks ≡ height
      long = ap length e ∙ length-replicate height later

      all : (k : ℕ) → k < length marks → get_or marks k 0 ≡ later
      all k l = ap (λ (m : List ℕ). get_or m k 0) e ∙ get_or-replicate height k later 0 (omega (arith, long))

  module _ {marks ready : List ℕ} {y : ℕ} (s : Rounds old new width height marks y) (l : y < length marks) (long : length ready ≡ length marks) (t : Turns later beside marks ready) where
    same : (k : ℕ) → k < length marks → (get_or marks k 0 ≡ later → ⊥) → get_or ready k 0 ≡ get_or marks k 0
    same k h off = t.others k h off

    pub rounds-begin : Begins old new width y ready
    rounds-begin = record {
      within = omega (arith, long);
      at = t.turned y l (s.seeks.at l);
      before = λ k h z.
          let off = s.seeks.before k (omega arith) h in
          s.none k (omega arith) (sym (same k (omega arith) off) ∙ z);
      stand = λ k h. ⊎_elim (opened k (omega (arith, long))) (closed k (omega (arith, long))) (is-or-not (get_or marks k 0) later);
    }
      where
        opened : (k : ℕ) → k < length marks → get_or marks k 0 ≡ later → Stands old new width k old new (get_or ready k 0)
        opened k h e = record {
          known = omega (arith, t.turned k h e);
          alike = λ z. absurd (omega (arith, t.turned k h e, z));
          differs = λ z. absurd (omega (arith, t.turned k h e, z));
          onwards = λ z i. i;
          back = λ z i. i;
        }

        closed : (k : ℕ) → k < length marks → (get_or marks k 0 ≡ later → ⊥) → Stands old new width k old new (get_or ready k 0)
        closed k h e = rw (same k h e) (s.stand k h)

    module _ {marks' : List ℕ} {y' : ℕ} (w : Walks old new width y ready marks') (long' : length marks' ≡ length ready) (n : Seeks marks' y later y') where
      pub rounds-next : Rounds old new width height marks' y'
      rounds-next = record {
        long = long' ∙ long ∙ s.long;
        seeks = record {
          from = omega arith;
          to = n.to;
          before = λ k f m z. ⊎_elim (λ (i : k < y). earlier k i z) (λ (i : y ≤ k). n.before k i m z) (before-or-from k y);
          at = n.at;
        };
        stand = w.stand;
        none = λ k h. w.none k (omega (arith, long'));
      }
        where
          earlier : (k : ℕ) → k < y → get_or marks' k 0 ≡ later → ⊥
          earlier k i z =
              let off = s.seeks.before k (omega arith) i in
              let was = same k (omega arith) off in
              off (sym was ∙ sym (w.others k (omega (arith, long)) (λ b. s.none k (omega arith) (sym was ∙ b))) ∙ z)

      -- each settles a row at least
      pub rounds-less : y < y'
      rounds-less = seek-past n (omega (arith, long, long')) w.kept

  pub rounds-end : {marks : List ℕ} {y : ℕ} → Rounds old new width height marks y → height ≤ y → Marks old new width height marks
  rounds-end {marks} {y} s l = record { long = s.long; each = λ k h. each k (get_or marks k 0) (s.stand k (omega (arith, s.long))) (s.seeks.before k (omega arith) (omega arith)) (s.none k (omega (arith, s.long))) }
    where
      each : (k m : ℕ) → Stands old new width k old new m → (m ≡ later → ⊥) → (m ≡ beside → ⊥) → Mark m (reaching width k old) (reaching width k new)
      each k zero t a b = inr (refl, t.alike refl)
      each k (suc zero) t a b = inl (refl, t.differs refl)
      each k (suc (suc zero)) t a b = absurd (a refl)
      each k (suc (suc (suc zero))) t a b = absurd (b refl)
      each k (suc (suc (suc (suc n)))) t a b = absurd (omega (arith, t.known))
