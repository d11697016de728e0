-- What jv_read_word and jv_write_word answer. Document 01, 'Number table': 'A word read or written alone gives only 0, 11 or 12'.
-- include/jokulvisp.h: the command's number and its fields as plain numbers; where the number is not 0 the rest is 0.
use Rattle.std.specs.Prelude.{ℕ, [], ◌≡◌, get_or, Result, Ok, Err}
use Rattle.words.specs.declared.fault.WordFault.{WordFault}
use Rattle.words.specs.declared.spelling.Spelling.{Spelling}
use Rattle.words.specs.Table.{spelling}
use Rattle.words.specs.Words.{word_fault_number, spell_word, write_spelling}
use Rattle.jokulvisp.specs.declared.JvBits.{JvBits}
use Rattle.jokulvisp.specs.declared.JvWord.{JvWord}

abbrev pub word_told : ℕ → Spelling → JvWord
word_told n s = record {
  number = n;
  command = s.command;
  a = get_or s.numbers 0 0;
  b = get_or s.numbers 1 0;
  c = get_or s.numbers 2 0;
  d = get_or s.numbers 3 0;
  e = get_or s.numbers 4 0;
}

abbrev pub read_told : Result Spelling WordFault → JvWord
read_told (Ok s) = word_told 0 s
read_told (Err fault) = word_told (word_fault_number fault) (spelling 0 [])

abbrev pub written_told : Result ℕ WordFault → JvBits
written_told (Ok n) = record { number = 0; bits = n }
written_told (Err fault) = record { number = word_fault_number fault; bits = 0 }

-- jv_read_word, for every word
unfoldable pub ReadAnswer : ℕ → JvWord → Type 0
ReadAnswer bits answer = answer ≡ read_told (spell_word bits)

-- jv_write_word, for every six numbers
unfoldable pub WriteAnswer : Spelling → JvBits → Type 0
WriteAnswer s answer = answer ≡ written_told (write_spelling s)
