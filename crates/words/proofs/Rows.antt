-- A row's numbers as a spelling and back, and what is written into a row's fields is read back. Assumes nothing.
use Prim.Native.Nat.{ℕ, zero, suc, ◌+◌, ◌*◌, ◌-◌, ◌^◌, ◌<◌, ◌≤◌}
use mathlib.Core.Path.{◌≡◌, refl, sym, ap, ◌∙◌}
use mathlib.Core.Bool.{Bool, true, false}
use mathlib.Core.List.{List, [], ◌∷◌}
use mathlib.Core.Logic.{⊎_elim}
use native.Mathlib.Omega.{arith}
use lib.ListN.{length, get_or}
use lib.Pow.{pow-add}
use borrow.Author.Tests.{ltb-true}
use Rattle.truth.proofs.Bools.{both_true}
use Rattle.words.specs.declared.field.Field.{Field}
use Rattle.words.specs.declared.field.Field.TheVariants.{Bits, Only, Signed}
use Rattle.words.specs.declared.spelling.Spelling.{Spelling}
use Rattle.words.specs.Fields.{holds, int, total, values, fit, join}
use Rattle.words.specs.Table.{Make, apply, spelling, numbers}
use Rattle.std.specs.Prelude.{Ok}
use Rattle.words.specs.Words.{command, checked, encoded}
use Rattle.words.proofs.Digits.{front, join-lt, values_join}
use Rattle.words.proofs.Table.{Proper, command-of}

-- A SPELLING has five numbers, and those past a command's fields are 0.

-- what the numbers of a word's fields are among the five
pub record Five (fs : List Field) (ns : List ℕ) (five : List ℕ) : Type 0 where
  pub fits : fit fs five ≡ fit fs ns
  pub joins : join fs five ≡ join fs ns
  pub first : front fs five ≡ ns

pub five-of : (fs : List Field) (n w : ℕ) → length fs ≤ 5 → Five fs (values fs w) (numbers (spelling n (values fs w)))
unfolding holds
five-of [] n w l = record { fits = refl; joins = refl; first = refl }
five-of (a ∷ []) n w l = record { fits = refl; joins = refl; first = refl }
five-of (a ∷ b ∷ []) n w l = record { fits = refl; joins = refl; first = refl }
five-of (a ∷ b ∷ c ∷ []) n w l = record { fits = refl; joins = refl; first = refl }
five-of (a ∷ b ∷ c ∷ d ∷ []) n w l = record { fits = refl; joins = refl; first = refl }
five-of (a ∷ b ∷ c ∷ d ∷ e ∷ []) n w l = record { fits = refl; joins = refl; first = refl }
five-of (a ∷ b ∷ c ∷ d ∷ e ∷ f ∷ fs) n w l = absurd (omega arith)

-- a command is made of its fields' numbers alone
pub apply-front : (fs : List Field) (make : Make fs) (ns : List ℕ) → apply fs make (front fs ns) ≡ apply fs make ns
apply-front [] make ns = refl
apply-front (f ∷ fs) make [] = refl
apply-front (Bits k ∷ fs) make (n ∷ ns) = apply-front fs (make n) ns
apply-front (Only k m ∷ fs) make (n ∷ ns) = apply-front fs (make n) ns
apply-front (Signed k ∷ fs) make (n ∷ ns) = apply-front fs (make (int n)) ns

-- past the last field there are zeros
rest-zero : (ns : List ℕ) (i : ℕ) → fit [] ns ≡ true → get_or ns i 0 ≡ 0
unfolding holds
rest-zero [] i h = refl
rest-zero (n ∷ ns) zero h = let l : n < 1 = ltb-true _ _ (both_true (holds (Bits 0) n) _ h).0 in omega arith
rest-zero (n ∷ ns) (suc i) h = rest-zero ns i (both_true (holds (Bits 0) n) _ h).1

front_at : (fs : List Field) (ns : List ℕ) (i : ℕ) → fit fs ns ≡ true → get_or (front fs ns) i 0 ≡ get_or ns i 0
front_at [] ns i h = sym (rest-zero ns i h)
front_at (f ∷ fs) [] i h = refl
front_at (f ∷ fs) (n ∷ ns) zero h = refl
front_at (f ∷ fs) (n ∷ ns) (suc i) h = front_at fs ns i (both_true (holds f n) _ h).1

pub spelling-by : (n : ℕ) (ns ms : List ℕ) → ((i : ℕ) → get_or ns i 0 ≡ get_or ms i 0) → spelling n ns ≡ spelling n ms
spelling-by n ns ms h = λ i. record { command = n; numbers = h 0 i ∷ h 1 i ∷ h 2 i ∷ h 3 i ∷ h 4 i ∷ [] }

pub spelling-back : (fs : List Field) (s : Spelling) → fit fs (numbers s) ≡ true → spelling s.command (front fs (numbers s)) ≡ spelling s.command s.numbers
spelling-back fs s h = spelling-by s.command (front fs (numbers s)) (numbers s) (λ i. front_at fs (numbers s) i h)

-- WRITTEN, THEN READ.

-- a row's number at the top is a multiple of what its fields count
pub lifted : {n code : ℕ} {fs : List Field} → Proper n code fs → (h : ℕ) × (n * 2 ^ 24 ≡ h * 2 ^ total fs)
lifted {n} {code} {fs} p = ⊎_elim by_byte (λ v. ⊎_elim (by_bits 1) (by_bits 2) v) p.place
  where
    place : (k : ℕ) (t : ℕ) → t ≤ k → 2 ^ k ≡ 2 ^ (k - t) * 2 ^ t
    place k t l = ap (λ (x : ℕ). 2 ^ x) (let e : k ≡ k - t + t = omega arith in e) ∙ pow-add 2 (k - t) t

    by_byte : (n < 46) × (total fs ≤ 24) → (h : ℕ) × (n * 2 ^ 24 ≡ h * 2 ^ total fs)
    by_byte t = (n * 2 ^ (24 - total fs), ap (λ (x : ℕ). n * x) (place 24 (total fs) t.1) ∙ omega arith)

    by_bits : (k : ℕ) → n ≡ k * 64 → (h : ℕ) × (n * 2 ^ 24 ≡ h * 2 ^ total fs)
    by_bits k e =
        (k * 2 ^ (30 - total fs), let m : n * 2 ^ 24 ≡ k * 2 ^ 30 = omega arith in m ∙ ap (λ (x : ℕ). k * x) (place 30 (total fs) p.narrow) ∙ omega arith)

-- what is accepted was found to have a meaning
pub checked-yes : {T : Type 0} (b : Bool) (x y : T) → checked b x ≡ Ok y → (b ≡ true) × (x ≡ y)
unfolding checked
checked-yes true x y h = (refl, cc)
checked-yes false x y h = let z : ◌≡◌ {A = ℕ} 0 1 = cc in absurd (omega arith)

-- the word w, into which a spelling was written
pub record Holds (fs : List Field) (s : Spelling) (w : ℕ) : Type 0 where
  pub fits : fit fs (numbers s) ≡ true
  pub own : command w ≡ s.command
  pub back : values fs w ≡ front fs (numbers s)

pub encoded-holds : {code : ℕ} {fs : List Field} (s : Spelling) (w : ℕ) → Proper s.command code fs → encoded fs s ≡ Ok w → Holds fs s w
encoded-holds {code} {fs} s w p e = record {
  fits = known.0;
  own = rw (← known.1) (command-of p (join fs (numbers s)) (join-lt fs (numbers s)));
  back = rw (← known.1, (lifted p).1) (values_join fs (numbers s) (lifted p).0 p.narrow p.signed known.0);
}
  where
    known : (fit fs (numbers s) ≡ true) × (s.command * 2 ^ 24 + join fs (numbers s) ≡ w)
    known = checked-yes _ _ w e
