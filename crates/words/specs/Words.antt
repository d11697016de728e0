-- What it means to read and to write a word. Document 01, 'Words and state' and rows 11 and 12 of its number table.
use Rattle.std.specs.Prelude.{ℕ, suc, zero, ◌+◌, ◌*◌, ◌/◌, ◌%◌, ◌^◌, Bool, true, false, List, Result, Ok, Err}
use Rattle.words.specs.declared.field.Field.{Field}
use Rattle.words.specs.declared.fault.WordFault.{WordFault}
use Rattle.words.specs.declared.fault.WordFault.TheVariants.{NoCommand, NoMeaning}
use Rattle.words.specs.declared.word.Word.{Word}
use Rattle.words.specs.declared.spelling.Spelling.{Spelling}
use Rattle.words.specs.Fields.{values, all_mean, fit, join, total}
use Rattle.words.specs.Table.{row, Found, none, some, row_of, apply, spelling, numbers}

-- 'Two top bits 01: VERTEX2F, 10: VERTEX2II. Otherwise the top byte'; two top bits 11 are no command's.
abbrev pub by_top_bits : ℕ → ℕ → ℕ
by_top_bits zero w = w / 2 ^ 24
by_top_bits (suc zero) w = 0x40
by_top_bits (suc (suc zero)) w = 0x80
by_top_bits (suc (suc (suc n))) w = 0xC0

-- the number of a word's command
abbrev pub command : ℕ → ℕ
command w = by_top_bits (w / 2 ^ 30) w

-- The number of a refusal: 11 for a number that is no command's, 12 for a value without meaning.
abbrev pub word_fault_number : WordFault → ℕ
word_fault_number NoCommand = 11
word_fault_number NoMeaning = 12

-- what has a meaning, or else its refusal
unfoldable pub checked : {T : Type 0} → Bool → T → Result T WordFault
checked true x = Ok x
checked false x = Err NoMeaning

-- READING. Bits that no field has are not looked at.
abbrev pub read_as : Found → ℕ → Result Word WordFault
read_as none w = Err NoCommand
read_as (some (row code fs make)) w = checked (all_mean fs (values fs w)) (apply fs make (values fs w))

unfoldable pub read_word : ℕ → Result Word WordFault
read_word w = read_as (row_of (command w)) w

-- READING AS PLAIN NUMBERS, by the same row. include/jokulvisp.h: 'the word's command, and its fields'.
abbrev pub decoded : ℕ → List Field → ℕ → Result Spelling WordFault
decoded code fs w = checked (all_mean fs (values fs w)) (spelling code (values fs w))

abbrev pub spell_as : Found → ℕ → Result Spelling WordFault
spell_as none w = Err NoCommand
spell_as (some (row code fs make)) w = decoded code fs w

unfoldable pub spell_word : ℕ → Result Spelling WordFault
spell_word w = spell_as (row_of (command w)) w

-- WRITING. 12 also for a field that its bits cannot hold. Bits that no field has are 0.
abbrev pub encoded : List Field → Spelling → Result ℕ WordFault
encoded fs s = checked (fit fs (numbers s)) (s.command * 2 ^ 24 + join fs (numbers s))

abbrev pub write_as : Found → Spelling → Result ℕ WordFault
write_as none s = Err NoCommand
write_as (some (row code fs make)) s = encoded fs s

unfoldable pub write_spelling : Spelling → Result ℕ WordFault
write_spelling s = write_as (row_of s.command) s

-- RESERVED BITS. The word with nothing but its command's number at the top and its fields at the bottom.
abbrev pub cleared_as : Found → ℕ → ℕ
cleared_as none w = w
cleared_as (some (row code fs make)) w = command w * 2 ^ 24 + w % 2 ^ total fs

unfoldable pub cleared : ℕ → ℕ
cleared w = cleared_as (row_of (command w)) w
