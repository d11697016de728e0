-- Where words lie in the ring, and which of them wait. Document 01, 'The ring': '4,096 bytes, so at most 4,092 wait. The coprocessor's four marks (read,
-- write, list offset, and fault ..)'. A place past the ring's end is one from its start on.
use Rattle.std.specs.Prelude.{Bool, cond, ◌&&◌, List, [], ◌∷◌, ℕ, zero, suc, ◌+◌, ◌-◌, ◌*◌, ◌/◌, ◌%◌, eqb, leb}
use Rattle.runs.specs.Runs.{word_at}
use Rattle.ring.specs.declared.marks.Marks.{Marks}

-- the place that so many bytes lead to
unfoldable pub around : ℕ → ℕ → ℕ
around at bytes = (at + bytes) % 4096

-- how many bytes wait between the read and the write mark
unfoldable pub waiting : Marks → ℕ
waiting m = around (4096 - m.read) m.write

-- the word that so many others precede, from a place on
unfoldable pub word_from : List ℕ → ℕ → ℕ → ℕ
word_from ring at k = word_at ring (around at (4 * k))

-- f k, f (k + 1) and so on, n of them
abbrev pub each : (ℕ → ℕ) → ℕ → ℕ → List ℕ
each f k zero = []
each f k (suc n) = f k ∷ each f (suc k) n

abbrev pub words_from : List ℕ → ℕ → ℕ → List ℕ
words_from ring at n = each (word_from ring at) 0 n

-- THE WORDS THAT WAIT, in order
unfoldable pub queue : List ℕ → Marks → List ℕ
queue ring m = words_from ring m.read (waiting m / 4)

-- number 33: 'read, write or list offset not a multiple of 4, read or write above 4,092, or list offset above 8,192'
abbrev pub is_place : ℕ → ℕ → Bool
is_place most at = eqb (at % 4) 0 && leb at most

unfoldable pub are_places : Marks → Bool
are_places m = is_place 4092 m.read && is_place 4092 m.write && is_place 8192 m.offset

-- 'fault: 0 for none, set to 1, any other number read as set'
unfoldable pub is_free : Marks → Bool
is_free m = eqb m.fault 0

-- 'under a fault it is reported as 0xFFF'
unfoldable pub reported : Marks → ℕ
reported m = cond (is_free m) m.read 0xFFF
