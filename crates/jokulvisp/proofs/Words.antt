-- jv_read_word and jv_write_word: no second answer fits, and one undoes the other.
-- Assumes nothing.
use Prim.Native.Nat.{ℕ}
use mathlib.Core.Path.{◌≡◌, refl, sym, ap, ◌∙◌}
use native.Mathlib.Omega.{arith}
use Rattle.std.specs.Prelude.{Result, Ok, Err}
use Rattle.words.specs.declared.fault.WordFault.{WordFault}
use Rattle.words.specs.declared.fault.WordFault.TheVariants.{NoCommand, NoMeaning}
use Rattle.words.specs.declared.spelling.Spelling.{Spelling}
use Rattle.words.specs.Table.{spelling}
use Rattle.words.specs.Words.{spell_word, write_spelling}
use Rattle.words.proofs.Round.{spell-written-list, spelt-five, write-spelt}
use Rattle.jokulvisp.specs.declared.JvBits.{JvBits}
use Rattle.jokulvisp.specs.declared.JvWord.{JvWord}
use Rattle.jokulvisp.specs.RoundTrips.{numbers_in, RoundTrips}
use Rattle.jokulvisp.specs.Words.{read_told, written_told, ReadAnswer, WriteAnswer}

-- NO SECOND ANSWER FITS.

pub read-once : (bits : ℕ) (p q : JvWord) → ReadAnswer bits p → ReadAnswer bits q → p ≡ q
unfolding ReadAnswer
read-once bits p q h k = h ∙ sym k

pub write-once : (s : Spelling) (p q : JvBits) → WriteAnswer s p → WriteAnswer s q → p ≡ q
unfolding WriteAnswer
write-once s p q h k = h ∙ sym k

-- THE ROUND TRIPS.

bits_of : (q : Result ℕ WordFault) → (written_told q).number ≡ 0 → q ≡ Ok (written_told q).bits
bits_of (Ok n) h = refl
bits_of (Err NoCommand) h = absurd (omega arith)
bits_of (Err NoMeaning) h = absurd (omega arith)

fields-of : (q : Result Spelling WordFault) → ((s : Spelling) → q ≡ Ok s → spelling s.command s.numbers ≡ s) → (read_told q).number ≡ 0 → q ≡ Ok (numbers_in (read_told q))
fields-of (Ok s) five h = ap (λ (x : Spelling). Ok x) (sym (five s refl))
fields-of (Err NoCommand) five h = absurd (omega arith)
fields-of (Err NoMeaning) five h = absurd (omega arith)

pub round-trips : RoundTrips
unfolding WriteAnswer ReadAnswer
round-trips = record {
  given_back = λ s p q w z h. h ∙ ap read_told (spell-written-list s p.bits (kept s p w z));
  reserved_cleared = λ bits p q h z w. w ∙ ap written_told (write-spelt bits (numbers_in p) (found bits p h z));
}
  where
    kept : (s : Spelling) (p : JvBits) → p ≡ written_told (write_spelling s) → p.number ≡ 0 → write_spelling s ≡ Ok p.bits
    kept s p w z = bits_of (write_spelling s) (sym (ap (λ (x : JvBits). x.number) w) ∙ z) ∙ ap (λ (x : ℕ). Ok x) (sym (ap (λ (x : JvBits). x.bits) w))

    found : (bits : ℕ) (p : JvWord) → p ≡ read_told (spell_word bits) → p.number ≡ 0 → spell_word bits ≡ Ok (numbers_in p)
    found bits p h z = fields-of (spell_word bits) (spelt-five bits) (sym (ap (λ (x : JvWord). x.number) h) ∙ z) ∙ ap (λ (x : JvWord). Ok (numbers_in x)) (sym h)

-- FROM THE CRATE `words` TO AN ANSWER.

pub read_answer : (bits : ℕ) (found : Result Spelling WordFault) (answer : JvWord) → found ≡ spell_word bits → answer ≡ read_told found → ReadAnswer bits answer
unfolding ReadAnswer
read_answer bits found answer e h = h ∙ ap read_told e

pub write-answer : (s : Spelling) (made : Result ℕ WordFault) (answer : JvBits) → made ≡ write_spelling s → answer ≡ written_told made → WriteAnswer s answer
unfolding WriteAnswer
write-answer s made answer e h = h ∙ ap written_told e
