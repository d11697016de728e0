-- The code's way to keep and pack a row's fields gives what the table says.
-- Assumes nothing.
use Prim.Native.Nat.{ℕ, zero, suc, ◌+◌, ◌-◌, ◌*◌, ◌%◌, ◌^◌, ◌≤◌}
use mathlib.Core.Path.{◌≡◌, refl, ap, subst}
use mathlib.Core.List.{List, [], ◌∷◌, ◌++◌}
use native.Mathlib.Omega.{arith}
use lib.ListN.{length, get_or, replicate}
use Rattle.words.specs.declared.field.Field.{Field}
use Rattle.words.specs.declared.field.Field.TheVariants.{Bits}
use Rattle.words.specs.declared.fault.WordFault.TheVariants.{NoCommand}
use Rattle.words.specs.declared.spelling.Spelling.{Spelling}
use Rattle.words.specs.Fields.{width, total, fit, join}
use Rattle.words.specs.Layout.{filled, layout_of}
use Rattle.words.specs.Table.{row, Found, none, some, row_of, numbers}
use Rattle.words.specs.Words.{checked, encoded, write_spelling}
use Rattle.words.proofs.Table.{Sound, sound}
use Rattle.std.specs.Prelude.{Option, MatchOption, Err}

-- FIELDS WITHOUT BITS after a command's own change nothing.

abbrev pub padded : List Field → ℕ → List Field
padded fs k = fs ++ replicate k (Bits 0)

pub total-padded : (fs : List Field) (k : ℕ) → total (padded fs k) ≡ total fs
total-padded [] zero = refl
total-padded [] (suc k) = omega (arith, total-padded [] k)
total-padded (f ∷ fs) k = ap (λ (t : ℕ). width f + t) (total-padded fs k)

join-padded : (fs : List Field) (k : ℕ) (ns : List ℕ) → join (padded fs k) ns ≡ join fs ns
join-padded [] zero ns = refl
join-padded [] (suc k) [] = refl
join-padded [] (suc k) (n ∷ ns) = let z : n % 1 ≡ 0 = omega arith in rw (join-padded [] k ns, z) (omega arith)
join-padded (f ∷ fs) k [] = refl
join-padded (f ∷ fs) k (n ∷ ns) = rw (total-padded fs k, join-padded fs k ns)

fit-padded : (fs : List Field) (k : ℕ) (ns : List ℕ) → length ns ≡ length fs + k → fit (padded fs k) ns ≡ fit fs ns
fit-padded [] zero ns h = refl
fit-padded [] (suc k) [] h = absurd (omega arith)
fit-padded [] (suc k) (n ∷ ns) h = rw (fit-padded [] k ns (omega arith))
fit-padded (f ∷ fs) k [] h = refl
fit-padded (f ∷ fs) k (n ∷ ns) h = rw (fit-padded fs k ns (omega arith))

pub encoded-padded : (fs : List Field) (k : ℕ) (s : Spelling) → 5 ≡ length fs + k → encoded (padded fs k) s ≡ encoded fs s
encoded-padded fs k s h = rw (fit-padded fs k (numbers s) h, join-padded fs k (numbers s))

-- A ROW AS THE CODE KEEPS IT.

-- the elements of an array of five by their places
pub by-place : {T : Type 0} (d : T) (xs : List T) → length xs ≡ 5 → get_or xs 0 d ∷ get_or xs 1 d ∷ get_or xs 2 d ∷ get_or xs 3 d ∷ get_or xs 4 d ∷ [] ≡ xs
by-place d [] l = absurd (omega arith)
by-place d (v ∷ []) l = absurd (omega arith)
by-place d (v ∷ w ∷ []) l = absurd (omega arith)
by-place d (v ∷ w ∷ x ∷ []) l = absurd (omega arith)
by-place d (v ∷ w ∷ x ∷ y ∷ []) l = absurd (omega arith)
by-place d (v ∷ w ∷ x ∷ y ∷ z ∷ []) l = refl
by-place d (v ∷ w ∷ x ∷ y ∷ z ∷ u ∷ xs) l = absurd (omega arith)

-- what a spelling's layout says of writing it
pub record Writes (s : Spelling) (fs : List Field) : Type 0 where
  pub low : s.command ≤ 128
  pub narrow : total fs ≤ 30
  pub writes : length s.numbers ≡ 5 → write_spelling s ≡ checked (fit fs s.numbers) (s.command * 2 ^ 24 + join fs s.numbers)

pub writing : (s : Spelling) {l : Option (List Field)} → layout_of (row_of s.command) ≡ l → MatchOption l (write_spelling s ≡ Err NoCommand) (Writes s)
unfolding write_spelling
writing s e = subst (λ (k : Option (List Field)). MatchOption k (write_spelling s ≡ Err NoCommand) (Writes s)) e (go (row_of s.command) refl (sound s.command))
  where
    go : (f : Found) → row_of s.command ≡ f → Sound s.command f → MatchOption (layout_of f) (write_spelling s ≡ Err NoCommand) (Writes s)
    go none q h = rw q
    go (some (row code fs make)) q h = record {
      low = h.low;
      narrow = rw (total-padded fs (5 - length fs)) h.narrow;
      writes = λ l.
          rw (q, ← encoded-padded fs (5 - length fs) s (omega (arith, h.few)))
          (ap (λ (ns : List ℕ). checked (fit (filled fs) ns) (s.command * 2 ^ 24 + join (filled fs) ns)) (by-place 0 s.numbers l));
    }
