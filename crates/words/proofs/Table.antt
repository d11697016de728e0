-- What holds of every row of the table, by one computed test over the whole of it.
-- Assumes nothing.
use Prim.Native.Nat.{ℕ, zero, suc, ◌+◌, ◌*◌, ◌/◌, ◌^◌, ◌≤◌, ◌<◌}
use mathlib.Core.Path.{◌≡◌, refl, sym, ◌∙◌}
use mathlib.Core.Bool.{Bool, true, false, cond, ◌&&◌, ◌||◌}
use mathlib.Core.List.{List, [], ◌∷◌}
use mathlib.Core.Logic.{◌⊎◌, inl, inr, ⊎_elim}
use native.Mathlib.Nat.{le_of_suc-le-suc, not-suc-le-zero}
use native.Mathlib.Omega.{arith}
use lib.Dec.{leb, ltb, eqb}
use lib.ListN.{length}
use lib.Pow.{pow_mono}
use borrow.Author.Tests.{leb-true, ltb-true, eqb-true, ne_eqb}
use Rattle.truth.proofs.Bools.{both_true, either_true}
use Rattle.words.specs.declared.field.Field.{Field}
use Rattle.words.specs.Fields.{total}
use Rattle.words.specs.Layout.{all_signs}
use Rattle.words.specs.Table.{Row, row, Make, rows, Found, none, some, find, row_of}
use Rattle.words.specs.Words.{by_top_bits, command}

-- A top byte below 46 leaves 24 bits, the two top bits of a vertex 30; no command has more than five fields.
topped : ℕ → ℕ → Bool
topped code bits = ltb code 46 && leb bits 24 || (eqb code 0x40 || eqb code 0x80) && leb bits 30

proper : Row → Bool
proper (row code fs make) = leb (length fs) 5 && all_signs fs && topped code (total fs)

all_proper : List Row → Bool
all_proper [] = true
all_proper (r ∷ rs) = proper r && all_proper rs

rows-proper : all_proper rows ≡ true
unfolding all_proper proper topped
rows-proper = refl

-- what `topped` tests
top-cases : (code bits : ℕ) → topped code bits ≡ true → ((code < 46) × (bits ≤ 24)) ⊎ (((code ≡ 0x40) ⊎ (code ≡ 0x80)) × (bits ≤ 30))
unfolding topped
top-cases code bits h =
    ⊎_elim
    (λ a. let t = both_true (ltb code 46) _ a in inl (ltb-true _ _ t.0, leb-true _ _ t.1))
    (λ b. let t = both_true (eqb code 0x40 || eqb code 0x80) _ b in inr (vertex (either_true _ _ t.0), leb-true _ _ t.1))
    (either_true (ltb code 46 && leb bits 24) _ h)
  where
    vertex : (eqb code 0x40 ≡ true) ⊎ (eqb code 0x80 ≡ true) → (code ≡ 0x40) ⊎ (code ≡ 0x80)
    vertex v = ⊎_elim (λ e. inl (eqb-true _ _ e)) (λ e. inr (eqb-true _ _ e)) v

-- what the test says of the row that is found for the number n
pub record Proper (n code : ℕ) (fs : List Field) : Type 0 where
  pub own : code ≡ n
  pub few : length fs ≤ 5
  pub signed : all_signs fs ≡ true
  pub low : n ≤ 128
  pub narrow : total fs ≤ 30
  pub place : ((n < 46) × (total fs ≤ 24)) ⊎ ((n ≡ 0x40) ⊎ (n ≡ 0x80))

proper-row : (code : ℕ) (fs : List Field) (make : Make fs) → proper (row code fs make) ≡ true → Proper code code fs
unfolding proper
proper-row code fs make p = record {
  own = refl;
  few = leb-true _ _ (both_true _ _ t.0).0;
  signed = (both_true (leb (length fs) 5) _ t.0).1;
  low = ⊎_elim (λ a. omega (arith, a.0)) (λ b. ⊎_elim (λ v. omega arith) (λ v. omega arith) b.0) cases;
  narrow = ⊎_elim (λ a. omega (arith, a.1)) (λ b. b.1) cases;
  place = ⊎_elim (λ a. inl a) (λ b. inr b.0) cases;
}
  where
    t : (leb (length fs) 5 && all_signs fs ≡ true) × (topped code (total fs) ≡ true)
    t = both_true (leb (length fs) 5 && all_signs fs) _ p

    cases : ((code < 46) × (total fs ≤ 24)) ⊎ (((code ≡ 0x40) ⊎ (code ≡ 0x80)) × (total fs ≤ 30))
    cases = top-cases code (total fs) t.1

abbrev pub Sound : ℕ → Found → Type 0
Sound n none = Unit {0}
Sound n (some (row code fs make)) = Proper n code fs

sound-in : (rs : List Row) (n : ℕ) → all_proper rs ≡ true → Sound n (find n rs)
unfolding all_proper
sound-in [] n p = tt
sound-in (row code fs make ∷ rs) n p = go (eqb n code) refl (sound-in rs n (both_true (proper (row code fs make)) _ p).1)
  where
    go : (t : Bool) → eqb n code ≡ t → Sound n (find n rs) → Sound n (cond t (some (row code fs make)) (find n rs))
    go true e rest = rw (eqb-true n code e) (proper-row code fs make (both_true (proper (row code fs make)) _ p).0)
    go false e rest = rest

pub sound : (n : ℕ) → Sound n (row_of n)
sound n = sound-in rows n rows-proper

no_code : (n code : ℕ) {fs : List Field} → Proper code code fs → 46 ≤ n → (n ≡ 0x40 → ⊥) → (n ≡ 0x80 → ⊥) → n ≡ code → ⊥
no_code n code p l h k e =
    ⊎_elim
    (λ a. omega (arith, a.0))
    (λ b. ⊎_elim (λ v. h (e ∙ v)) (λ v. k (e ∙ v)) b)
    p.place

unlisted-in : (rs : List Row) (n : ℕ) → all_proper rs ≡ true → 46 ≤ n → (n ≡ 0x40 → ⊥) → (n ≡ 0x80 → ⊥) → find n rs ≡ none
unfolding all_proper
unlisted-in [] n p l h k = refl
unlisted-in (row code fs make ∷ rs) n p l h k =
    let t = both_true (proper (row code fs make)) _ p in
    rw (ne_eqb n code (no_code n code (proper-row code fs make t.0) l h k)) (unlisted-in rs n t.1 l h k)

-- a number that is no command's has no row
pub unlisted : (n : ℕ) → 46 ≤ n → (n ≡ 0x40 → ⊥) → (n ≡ 0x80 → ⊥) → row_of n ≡ none
unlisted n l h k = unlisted-in rows n rows-proper l h k

-- top bits 11 are no command's
pub no-vertex : (t w : ℕ) → 3 ≤ t → by_top_bits t w ≡ 0xC0
no-vertex zero w h = absurd (not-suc-le-zero h)
no-vertex (suc zero) w h = absurd (not-suc-le-zero (le_of_suc-le-suc h))
no-vertex (suc (suc zero)) w h = absurd (not-suc-le-zero (le_of_suc-le-suc (le_of_suc-le-suc h)))
no-vertex (suc (suc (suc t))) w h = refl

-- a word with a row's number at the top and its fields below has that row's command
pub command-of : {n code : ℕ} {fs : List Field} → Proper n code fs → (j : ℕ) → j < 2 ^ total fs → command (n * 2 ^ 24 + j) ≡ n
command-of {n} {code} {fs} p j h = ⊎_elim by_byte (λ v. ⊎_elim first second v) p.place
  where
    below : j < 2 ^ 30
    below = omega (arith, pow_mono p.narrow)

    by_byte : (n < 46) × (total fs ≤ 24) → command (n * 2 ^ 24 + j) ≡ n
    by_byte t =
        let l : j < 2 ^ 24 = omega (arith, pow_mono t.1) in
        let z : (n * 2 ^ 24 + j) / 2 ^ 30 ≡ 0 = omega (arith, t.0) in
        rw z (omega arith)

    first : n ≡ 0x40 → command (n * 2 ^ 24 + j) ≡ n
    first e = let z : (n * 2 ^ 24 + j) / 2 ^ 30 ≡ 1 = omega (arith, below) in rw z (sym e)

    second : n ≡ 0x80 → command (n * 2 ^ 24 + j) ≡ n
    second e = let z : (n * 2 ^ 24 + j) / 2 ^ 30 ≡ 2 = omega (arith, below) in rw z (sym e)
