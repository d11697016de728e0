-- What holds between jv_write_word and jv_read_word. The second demand of the order: 'Reading a written command gives it back; writing a read word gives the
-- word with its reserved bits cleared.' Nothing is asked of a call but that its number is 0.
use Rattle.std.specs.Prelude.{◌≡◌, ℕ, [], ◌∷◌}
use Rattle.words.specs.declared.spelling.Spelling.{Spelling}
use Rattle.words.specs.Words.{cleared}
use Rattle.jokulvisp.specs.declared.JvBits.{JvBits}
use Rattle.jokulvisp.specs.declared.JvWord.{JvWord}
use Rattle.jokulvisp.specs.Words.{word_told, ReadAnswer, WriteAnswer}

-- the six numbers that jv_read_word answered, as jv_write_word takes them
abbrev pub numbers_in : JvWord → Spelling
numbers_in answer = record {
  command = answer.command;
  numbers = answer.a ∷ answer.b ∷ answer.c ∷ answer.d ∷ answer.e ∷ [];
}

-- THE CLAIM, for every six numbers and every word
pub record RoundTrips : Type 0 where
  -- Where jv_write_word answers 0, jv_read_word answers for its bits 0 and the six numbers that were written.
  pub given_back :
      (numbers : Spelling) (written : JvBits) (read : JvWord) →
      WriteAnswer numbers written → written.number ≡ 0 → ReadAnswer written.bits read → read ≡ word_told 0 numbers
  -- Where jv_read_word answers 0, jv_write_word answers for its six numbers 0 and the word with its reserved bits cleared.
  pub reserved_cleared :
      (bits : ℕ) (read : JvWord) (written : JvBits) →
      ReadAnswer bits read → read.number ≡ 0 → WriteAnswer (numbers_in read) written → written ≡ record { number = 0; bits = cleared bits }
