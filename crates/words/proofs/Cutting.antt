-- The fields that the code cuts out of a word by its command's layout are those that the table reads.
-- Assumes nothing.
use Prim.Native.Nat.{ℕ, zero, suc, ◌+◌, ◌-◌, ◌/◌, ◌^◌, ◌≤◌, ◌<◌}
use mathlib.Core.Path.{◌≡◌, refl, sym, ap, subst, ◌∙◌}
use mathlib.Core.List.{List, [], ◌∷◌}
use native.Mathlib.Omega.{arith}
use lib.ListN.{length, get_or}
use lib.Pow.{pow_mono}
use borrow.Author.Tests.{leb-true}
use Rattle.words.specs.declared.field.Field.{Field}
use Rattle.words.specs.declared.field.Field.TheVariants.{Signed}
use Rattle.words.specs.declared.fault.WordFault.TheVariants.{NoCommand}
use Rattle.words.specs.Fields.{above, values, all_mean, total}
use Rattle.words.specs.Layout.{filled, layout_of, all_signs, Cuttable, Digit, signs, Inside}
use Rattle.words.specs.Table.{row, Found, none, some, row_of}
use Rattle.words.specs.Words.{command, checked, decoded, spell_as, spell_word}
use Rattle.words.proofs.Digits.{halves, above-div}
use Rattle.words.proofs.Packing.{padded, total-padded, by-place}
use Rattle.words.proofs.Rows.{spelling-by}
use Rattle.words.proofs.Table.{Sound, sound}
use Rattle.std.specs.Prelude.{Option, MatchOption, Err}
use Rattle.truth.proofs.Bools.{both_true}

-- ONE FIELD.

pub signed-digit : {k n : ℕ} → Digit (Signed k) n → (2 ^ k / 2 ≤ 2 ^ 30) × (n < 2 ^ k / 2 + 2 ^ k / 2)
signed-digit {k} h = (omega (arith, pow_mono h.narrow), omega (arith, h.below, halves k h.narrow (leb-true _ _ h.signed)))

-- FIELDS WITHOUT BITS after a command's own read as 0 and change nothing.

above-padded : (fs : List Field) (k w : ℕ) → above (padded fs k) w ≡ above fs w
above-padded fs k w = above-div (padded fs k) w ∙ rw (total-padded fs k) (sym (above-div fs w))

values-padded : (fs : List Field) (k w i : ℕ) → get_or (values (padded fs k) w) i 0 ≡ get_or (values fs w) i 0
values-padded [] zero w i = refl
values-padded [] (suc k) w zero = omega arith
values-padded [] (suc k) w (suc i) = values-padded [] k w i
values-padded (f ∷ fs) k w zero = rw (above-padded fs k w)
values-padded (f ∷ fs) k w (suc i) = values-padded fs k w i

means-padded : (fs : List Field) (k w : ℕ) → all_mean (padded fs k) (values (padded fs k) w) ≡ all_mean fs (values fs w)
means-padded [] zero w = refl
means-padded [] (suc k) w = means-padded [] k w
means-padded (f ∷ fs) k w = rw (above-padded fs k w, means-padded fs k w)

signs-padded : (fs : List Field) (k : ℕ) → all_signs (padded fs k) ≡ all_signs fs
signs-padded [] zero = refl
signs-padded [] (suc k) = signs-padded [] k
signs-padded (f ∷ fs) k = rw (signs-padded fs k)

decoded-padded : (fs : List Field) (k n w : ℕ) → decoded n (padded fs k) w ≡ decoded n fs w
decoded-padded fs k n w =
    rw (means-padded fs k w)
    (ap (checked (all_mean fs (values fs w))) (spelling-by n (values (padded fs k) w) (values fs w) (values-padded fs k w)))

cuttable-padded : (fs : List Field) (k : ℕ) → Cuttable fs → Cuttable (padded fs k)
cuttable-padded fs k h = record { narrow = rw (total-padded fs k) h.narrow; signed = rw (signs-padded fs k) h.signed }

-- A ROW AS THE CODE KEEPS IT.

-- what a layout says of the word w, whose command's number is n
pub record Tells (w n : ℕ) (fs : List Field) : Type 0 where
  pub cuttable : Cuttable fs
  pub tells : length (values fs w) ≡ 5 → checked (all_mean fs (values fs w)) (record { command = n; numbers = values fs w }) ≡ spell_word w

pub telling : (w : ℕ) {n : ℕ} {l : Option (List Field)} → n ≡ command w → layout_of (row_of n) ≡ l → MatchOption l (spell_word w ≡ Err NoCommand) (Tells w n)
unfolding spell_word
telling w {n} e h = subst (λ (k : Option (List Field)). MatchOption k (spell_word w ≡ Err NoCommand) (Tells w n)) h (go (row_of n) refl (sound n))
  where
    spells : (f : Found) → row_of n ≡ f → spell_word w ≡ spell_as f w
    spells f q = rw (← e, q)

    go : (f : Found) → row_of n ≡ f → Sound n f → MatchOption (layout_of f) (spell_word w ≡ Err NoCommand) (Tells w n)
    go none q p = spells none q
    go (some (row code fs make)) q p =
        record {
          cuttable = cuttable-padded fs (5 - length fs) (record { narrow = p.narrow; signed = p.signed });
          tells = λ l.
              ap
              (λ (ns : List ℕ). checked (all_mean (filled fs) (values (filled fs) w)) (record { command = n; numbers = ns }))
              (sym (by-place 0 (values (filled fs) w) l))
              ∙ decoded-padded fs (5 - length fs) n w
              ∙ ap (λ (m : ℕ). decoded m fs w) (sym p.own)
              ∙ sym (spells (some (row code fs make)) q);
        }

-- ONE FIELD of several.
pub first : {f : Field} {fs : List Field} → Cuttable (f ∷ fs) → Inside f (total fs)
first {f} h = record { enough = h.narrow; signed = (both_true (signs f) _ h.signed).0 }

pub rest : {f : Field} {fs : List Field} → Cuttable (f ∷ fs) → Cuttable fs
rest {f} h = record { narrow = omega (arith, h.narrow); signed = (both_true (signs f) _ h.signed).1 }
