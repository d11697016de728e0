-- Rows of one length one after another, and a run that is gone through row by row from the front, each row lent as a part of it.
use mathlib.Core.List.{List, ◌++◌, append_assoc, append-nil}
use mathlib.Core.Logic.{⊎_elim}
use mathlib.Core.Path.{◌≡◌, refl, sym, ◌∙◌, ap}
use Prim.Native.Nat.{ℕ, zero, suc, ◌+◌, ◌*◌, ◌-◌, ◌<◌, ◌≤◌, zero-le}
use native.Mathlib.Nat.{add-sub_cancel_left, eq-or-lt_of_le, le_refl, mul-le-mul_right, not-suc-le-zero, suc-mul, zero-mul}
use native.Mathlib.Numerals.{add-one}
use native.Mathlib.Omega.{arith}
use lib.ListN.{length, take, drop, length-append, length-take, length-drop, take-append-drop, drop_of_length-le}
use lib.Seq.{take_all, take_at, take-append-le, drop_at, drop-append-le, drop-drop}
use Rattle.paint.specs.Picture.{stacked, row_in}

-- the first `height` of these rows are `wide` bytes each
abbrev pub Wide : (ℕ → List ℕ) → ℕ → ℕ → Type 0
Wide row wide height = (y : ℕ) → y < height → length (row y) ≡ wide

pub stacked-long : (row : ℕ → List ℕ) (wide height : ℕ) → Wide row wide height → length (stacked row height) ≡ height * wide
unfolding stacked
stacked-long row wide zero each = sym (zero-mul wide)
stacked-long row wide (suc height) each =
    length-append (stacked row height) (row height) ∙ rw (stacked-long row wide height (λ y l. each y (omega arith)), each height (omega arith), suc-mul)

pub stacked-same : (f g : ℕ → List ℕ) (n : ℕ) → ((y : ℕ) → y < n → f y ≡ g y) → stacked f n ≡ stacked g n
unfolding stacked
stacked-same f g zero h = refl
stacked-same f g (suc n) h = rw (stacked-same f g n (λ y l. h y (omega (arith, l))), h n (omega arith)) refl

-- row y ends within
pub row_within : (wide height y : ℕ) → y < height → y * wide + wide ≤ height * wide
row_within wide height y l = let m : suc y * wide ≤ height * wide = mul-le-mul_right wide l in rw suc-mul at m

pub row-long : (run : List ℕ) (wide height : ℕ) → length run ≡ height * wide → Wide (row_in run wide) wide height
row-long run wide height e y l = simp (length-take, length-drop) (omega (arith, row_within wide height y l))

-- a row of a stack is the row that was put there
row_last : (xs ys : List ℕ) (wide height : ℕ) → length xs ≡ height * wide → length ys ≡ wide → row_in (xs ++ ys) wide height ≡ ys
row_last xs ys wide height p q = ap (take wide) (drop_at xs ys (height * wide) p) ∙ take_all wide ys (omega arith)

row-earlier : (xs ys : List ℕ) (wide height y : ℕ) → length xs ≡ height * wide → y < height → row_in (xs ++ ys) wide y ≡ row_in xs wide y
row-earlier xs ys wide height y p l =
    let w = row_within wide height y l in
    ap (take wide) (drop-append-le (y * wide) xs ys (omega arith)) ∙ take-append-le wide (drop (y * wide) xs) ys (simp length-drop (omega arith))

pub row-stacked : (row : ℕ → List ℕ) (wide height : ℕ) → Wide row wide height → (y : ℕ) → y < height → row_in (stacked row height) wide y ≡ row y
unfolding stacked
row-stacked row wide zero each y l = absurd (not-suc-le-zero l)
row-stacked row wide (suc height) each y l =
    let below : Wide row wide height = λ i m. each i (omega arith) in
    let n = stacked-long row wide height below in
    ⊎_elim (λ (e : y ≡ height). rw e (row_last (stacked row height) (row height) wide height n (each height (omega arith))))
    (λ (m : y < height). row-earlier (stacked row height) (row height) wide height y n m ∙ row-stacked row wide height below y m)
    (eq-or-lt_of_le (omega arith))

-- `y` of `height` rows are done, the rest is as it was lent
pub record Filled (row : ℕ → List ℕ) (wide height : ℕ) (old now : List ℕ) (y : ℕ) : Type 0 where
  pub each : Wide row wide height
  pub most : y ≤ height
  pub long : length now ≡ height * wide
  pub is : now ≡ stacked row y ++ drop (y * wide) old

module _ {row : ℕ → List ℕ} {wide height : ℕ} {old : List ℕ} where
  pub filled_none : Wide row wide height → length old ≡ height * wide → Filled row wide height old old 0
  unfolding stacked
  filled_none each e = record { each = each; most = zero-le; long = e; is = rw zero-mul refl }

  module _ {now : List ℕ} {y : ℕ} (f : Filled row wide height old now y) where
    done-long : length (stacked row y) ≡ y * wide
    done-long = stacked-long row wide y (λ i l. f.each i (omega (arith, l, f.most)))

    -- a row that is written
    pub filled_more :
        (ys : List ℕ) → y < height → ys ≡ row y →
        Filled row wide height old (take (y * wide) now ++ (ys ++ drop (y * wide + wide - y * wide) (drop (y * wide) now))) (y + 1)
    unfolding stacked
    filled_more ys l e =
        let at = y * wide in
        let ht : take (y * wide) now ≡ stacked row y = ap (take (y * wide)) f.is ∙ take_at (stacked row y) (drop (y * wide) old) (y * wide) done-long in
        let hd : drop (y * wide) now ≡ drop (y * wide) old = ap (drop (y * wide)) f.is ∙ drop_at (stacked row y) (drop (y * wide) old) (y * wide) done-long in
        record {
          each = f.each;
          most = omega arith;
          long = simp (length-append, length-take, length-drop) (omega (arith, row_within wide height y l, f.long, ap length e ∙ f.each y l));
          is = rw (ht, hd, e, add-sub_cancel_left, drop-drop, add-one, append_assoc, suc-mul);
        }

    -- a row that stays as it was lent
    pub filled-skip : y < height → row y ≡ row_in old wide y → Filled row wide height old now (y + 1)
    unfolding stacked
    filled-skip l e =
        record {
          each = f.each;
          most = omega arith;
          long = f.long;
          is = f.is ∙ rw (add-one, append_assoc, e, suc-mul, ← drop-drop wide (y * wide) old, take-append-drop);
        }

    pub filled-all : height ≤ y → now ≡ stacked row height
    filled-all l =
        let s : y ≡ height = omega (arith, f.most) in
        let n : length old ≤ y * wide = omega (arith, simp (length-append, length-drop) at (ap length f.is), done-long, f.long, ap (λ (n : ℕ). n * wide) s) in
        f.is ∙ rw (drop_of_length-le old n, append-nil, s)

-- a run is its rows one after another
pub rows-stacked : (run : List ℕ) (wide height : ℕ) → length run ≡ height * wide → run ≡ stacked (row_in run wide) height
rows-stacked run wide height e = filled-all (to height (le_refl height)) (le_refl height)
  where
    to : (y : ℕ) → y ≤ height → Filled (row_in run wide) wide height run run y
    to zero l = filled_none (row-long run wide height e) e
    to (suc y) l = rw add-one at (filled-skip (to y (omega arith)) l refl)
