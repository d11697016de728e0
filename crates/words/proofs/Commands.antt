-- What holds of every row of the table holds of every command that is read. Assumes nothing.
use mathlib.Core.Path.{◌≡◌, refl}
use mathlib.Core.Bool.{Bool, true, false, cond}
use mathlib.Core.List.{List, [], ◌∷◌}
use Prim.Native.Nat.{ℕ, ◌^◌, ◌<◌, ◌≤◌}
use native.Mathlib.Omega.{arith}
use lib.Dec.{eqb}
use lib.IntN.{ℤ}
use borrow.Author.Tests.{ltb-true}
use Rattle.truth.proofs.Bools.{both_true}
use Rattle.words.specs.declared.field.Field.{Field}
use Rattle.words.specs.declared.field.Field.TheVariants.{Bits, Only, Signed}
use Rattle.std.specs.Prelude.{Result, Ok, Err}
use Rattle.words.specs.declared.fault.WordFault.{WordFault}
use Rattle.words.specs.declared.fault.WordFault.TheVariants.{NoCommand, NoMeaning}
use Rattle.words.specs.declared.word.Word.{Word}
use Rattle.words.specs.Fields.{InBits, int, meant, holds, total, values, all_mean, fit}
use Rattle.words.specs.Table.{Row, row, Make, Found, none, some, find, rows, row_of, apply}
use Rattle.words.specs.Words.{command, checked, read_as, read_word}
use Rattle.words.proofs.Digits.{fit-values}
use Rattle.words.proofs.Table.{Sound, sound}
use Rattle.words.proofs.Integers.{signed-in}

-- P holds of the command, whatever its fields hold
abbrev pub Always : (Word → Type 0) → (fs : List Field) → Make fs → Type 0
Always P [] c = P c
Always P (Bits k ∷ fs) c = (n : ℕ) → n < 2 ^ k → Always P fs (c n)
Always P (Only k m ∷ fs) c = (n : ℕ) → meant m n ≡ true → Always P fs (c n)
Always P (Signed k ∷ fs) c = (z : ℤ) → InBits k z → Always P fs (c z)

-- and of the command of each row
abbrev pub InAll : (Word → Type 0) → List Row → Type 0
InAll P [] = Unit {0}
InAll P (row code fs make ∷ rs) = Always P fs make × InAll P rs

-- so it holds of the command with any numbers that fit
fitting : (P : Word → Type 0) (fs : List Field) (make : Make fs) (ns : List ℕ) → total fs ≤ 30 → fit fs ns ≡ true → Always P fs make → P (apply fs make ns)
unfolding holds
fitting P [] c ns w h a = a
fitting P (f ∷ fs) c [] w h a = let z : ◌≡◌ {A = ℕ} 0 1 = cc in absurd (omega arith)
fitting P (Bits k ∷ fs) c (n ∷ ns) w h a =
    let t = both_true (holds (Bits k) n) _ h in
    fitting P fs (c n) ns (omega arith) t.1 (a n (ltb-true _ _ t.0))
fitting P (Only k m ∷ fs) c (n ∷ ns) w h a =
    let t = both_true (holds (Only k m) n) _ h in
    fitting P fs (c n) ns (omega arith) t.1 (a n (both_true (meant m n) _ t.0).0)
fitting P (Signed k ∷ fs) c (n ∷ ns) w h a =
    let t = both_true (holds (Signed k) n) _ h in
    fitting P fs (c (int n)) ns (omega arith) t.1 (a (int n) (signed-in k n (omega arith) t.0))

abbrev InFound : (Word → Type 0) → Found → Type 0
InFound P none = Unit {0}
InFound P (some (row code fs make)) = Always P fs make

in-found : (P : Word → Type 0) (rs : List Row) → InAll P rs → (n : ℕ) → InFound P (find n rs)
in-found P [] a n = tt
in-found P (row code fs make ∷ rs) a n = go (eqb n code) (in-found P rs a.1 n)
  where
    go : (t : Bool) → InFound P (find n rs) → InFound P (cond t (some (row code fs make)) (find n rs))
    go true rest = a.0
    go false rest = rest

-- THE LAW: Q holds of what is read, whatever the word, if it follows from P of a command and holds of both refusals
module _ (P : Word → Type 0) (Q : Result Word WordFault → Type 0) (all : InAll P rows) (follows : (c : Word) → P c → Q (Ok c)) where
  pub read-cases : Q (Err NoCommand) → Q (Err NoMeaning) → (w : ℕ) → Q (read_word w)
  unfolding read_word checked
  read-cases p q w = go (row_of (command w)) (sound (command w)) (in-found P rows all (command w))
    where
      go : (f : Found) → Sound (command w) f → InFound P f → Q (read_as f w)
      go none s i = p
      go (some (row code fs make)) s i = by-meaning (all_mean fs (values fs w)) refl
        where
          by-meaning : (t : Bool) → all_mean fs (values fs w) ≡ t → Q (checked t (apply fs make (values fs w)))
          by-meaning true e =
              follows _ (fitting P fs make (values fs w) s.narrow (fit-values fs w s.narrow s.signed e) i)
          by-meaning false e = q
