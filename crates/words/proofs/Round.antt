-- THE ROUND TRIPS. Demand 2: 'Reading a written command gives it back; writing a read word gives the word with its reserved bits cleared.'
-- Assumes nothing.
use Prim.Native.Nat.{ℕ, ◌%◌, ◌^◌}
use mathlib.Core.Path.{◌≡◌, refl, sym, ap, subst, ◌∙◌}
use mathlib.Core.Bool.{Bool, true, false}
use mathlib.Core.List.{List, [], ◌∷◌}
use native.Mathlib.Nat.{mod-lt}
use native.Mathlib.Omega.{arith}
use lib.Pow.{pow_pos}
use Rattle.words.specs.declared.field.Field.{Field}
use Rattle.std.specs.Prelude.{Result, Ok, Err}
use Rattle.words.specs.declared.fault.WordFault.{WordFault}
use Rattle.words.specs.declared.spelling.Spelling.{Spelling}
use Rattle.words.specs.declared.word.Word.{Word}
use Rattle.words.specs.Fields.{total, values, all_mean}
use Rattle.words.specs.Table.{row, Make, Found, none, some, row_of, apply, spelling, numbers}
use Rattle.words.specs.Words.{command, checked, read_as, read_word, spell_as, spell_word, write_as, write_spelling, cleared_as, cleared}
use Rattle.words.proofs.Digits.{join-values, values_low, fit-values, fit-means}
use Rattle.words.proofs.Table.{Sound, sound, command-of}
use Rattle.words.proofs.Rows.{Five, five-of, apply-front, spelling-back, lifted, checked-yes, Holds, encoded-holds}

-- Reading a written command gives it back, with 0 for each of the five numbers that a list lacks.
pub spell-written-list : (s : Spelling) (w : ℕ) → write_spelling s ≡ Ok w → spell_word w ≡ Ok (spelling s.command s.numbers)
unfolding write_spelling spell_word checked
spell-written-list s w e = go (row_of s.command) refl (sound s.command) e
  where
    go : (f : Found) → row_of s.command ≡ f → Sound s.command f → write_as f s ≡ Ok w → spell_word w ≡ Ok (spelling s.command s.numbers)
    go none q p e = let z : ◌≡◌ {A = ℕ} 0 1 = cc in absurd (omega arith)
    go (some (row code fs make)) q p e =
        let h : Holds fs s w = encoded-holds s w p e in
        rw (h.own, q, h.back, fit-means fs (numbers s) h.fits, p.own) (ap (λ (x : Spelling). Ok x) (spelling-back fs s h.fits))

-- Reading a written command gives it back: its number, and the five numbers of its fields.
pub spell-written :
    (number a b c d e w : ℕ) → write_spelling (record { command = number; numbers = a ∷ b ∷ c ∷ d ∷ e ∷ [] }) ≡ Ok w →
    spell_word w ≡ Ok (record { command = number; numbers = a ∷ b ∷ c ∷ d ∷ e ∷ [] })
spell-written number a b c d e w x = spell-written-list (record { command = number; numbers = a ∷ b ∷ c ∷ d ∷ e ∷ [] }) w x

-- Writing a read word gives the word with its reserved bits cleared.
pub write-spelt : (w : ℕ) (s : Spelling) → spell_word w ≡ Ok s → write_spelling s ≡ Ok (cleared w)
unfolding checked spell_word write_spelling cleared
write-spelt w s e = go (row_of (command w)) refl (sound (command w)) e
  where
    go : (f : Found) → row_of (command w) ≡ f → Sound (command w) f → spell_as f w ≡ Ok s → write_spelling s ≡ Ok (cleared_as f w)
    go none q p e = let z : ◌≡◌ {A = ℕ} 0 1 = cc in absurd (omega arith)
    go (some (row code fs make)) q p e =
        let k : (all_mean fs (values fs w) ≡ true) × (spelling code (values fs w) ≡ s) = checked-yes _ _ s e in
        let h : Five fs (values fs w) (numbers (spelling (command w) (values fs w))) = five-of fs (command w) w p.few in
        rw (
          ← k.1,
          p.own,
          q,
          h.fits,
          fit-values fs w p.narrow p.signed k.0,
          h.joins,
          join-values fs w p.narrow p.signed,
        )

-- What is read as plain numbers is five of them.
pub spelt-five : (w : ℕ) (s : Spelling) → spell_word w ≡ Ok s → spelling s.command s.numbers ≡ s
unfolding spell_word
spelt-five w s e = go (row_of (command w)) e
  where
    go : (f : Found) → spell_as f w ≡ Ok s → spelling s.command s.numbers ≡ s
    go none e = let z : ◌≡◌ {A = ℕ} 0 1 = cc in absurd (omega arith)
    go (some (row code fs make)) e = subst (λ (x : Spelling). spelling x.command x.numbers ≡ x) (checked-yes _ _ s e).1 refl

-- THE COMMANDS. What is read as a command is what the same word's plain numbers name.

-- c is the command of these numbers' row, with the numbers in its fields
abbrev pub NamesBy : Found → List ℕ → Word → Type 0
NamesBy none ns c = ⊥
NamesBy (some (row code fs make)) ns c = apply fs make ns ≡ c

abbrev pub Names : Spelling → Word → Type 0
Names s c = NamesBy (row_of s.command) (numbers s) c

-- a word read both ways: the command that the plain numbers name, or the same refusal
abbrev pub Agree : Result Spelling WordFault → Result Word WordFault → Type 0
Agree (Ok s) q = (c : Word) × (q ≡ Ok c) × Names s c
Agree (Err fault) q = q ≡ Err fault

agree-where : (meant : Bool) (s : Spelling) (c : Word) → Names s c → Agree (checked meant s) (checked meant c)
unfolding checked
agree-where true s c h = (c, refl, h)
agree-where false s c h = refl

pub agree : (w : ℕ) → Agree (spell_word w) (read_word w)
unfolding spell_word read_word
agree w = go (row_of (command w)) refl (sound (command w))
  where
    go : (f : Found) → row_of (command w) ≡ f → Sound (command w) f → Agree (spell_as f w) (read_as f w)
    go none q p = refl
    go (some (row code fs make)) q p =
        agree-where
        (all_mean fs (values fs w))
        (spelling code (values fs w))
        (apply fs make (values fs w))
        (rw (p.own, q) (sym (apply-front fs make _) ∙ ap (apply fs make) (five-of fs (command w) w p.few).first))

-- Reading a written command gives the command that its numbers name.
pub read-written : (s : Spelling) (w : ℕ) → write_spelling s ≡ Ok w → (c : Word) × (read_word w ≡ Ok c) × Names s c
read-written s w e = subst (λ (x : Result Spelling WordFault). Agree x (read_word w)) (spell-written-list s w e) (agree w)

-- RESERVED BITS. Two words that differ in them only are read alike, whatever is made of a row and the numbers of its fields.

cleared-alike : {A : Type 0} (F : Found → ℕ → A) → ((code : ℕ) (fs : List Field) (make : Make fs) (v w : ℕ) → values fs v ≡ values fs w → F (some (row code fs make)) v ≡ F (some (row code fs make)) w) → (w : ℕ) → F (row_of (command (cleared w))) (cleared w) ≡ F (row_of (command w)) w
unfolding cleared
cleared-alike F same w = go (row_of (command w)) refl (sound (command w))
  where
    go : (f : Found) → row_of (command w) ≡ f → Sound (command w) f → F (row_of (command (cleared_as f w))) (cleared_as f w) ≡ F f w
    go none q p = rw q
    go (some (row code fs make)) q p =
        rw (command-of p (w % 2 ^ total fs) (mod-lt w (pow_pos (total fs))), q)
        (same code fs make _ w (rw (lifted p).1 (values_low fs w (lifted p).0)))

pub read-cleared : (w : ℕ) → read_word (cleared w) ≡ read_word w
unfolding read_word
read-cleared w = cleared-alike read_as (λ code fs make v w e. rw e) w

pub spell-cleared : (w : ℕ) → spell_word (cleared w) ≡ spell_word w
unfolding spell_word
spell-cleared w = cleared-alike spell_as (λ code fs make v w e. rw e) w
