-- Runs of bytes: the word at a place and the bytes of a word, bytes laid over those of a run, and a part of a run.
-- Document 01, 'The first build': 'List: 4..8,192 bytes, a multiple of 4, little-endian.' 'The ring': 'MEMCPY (target, source, count, as if the
-- source were copied first)', which is a part of a run laid over the run that it was taken of.
use Rattle.std.specs.Prelude.{List, [], ◌∷◌, ◌++◌, ℕ, ◌+◌, ◌*◌, ◌/◌, ◌%◌, ◌^◌, drop, get_or, length, take}

-- the word at a place, little-endian; a byte past the end counts as 0
unfoldable pub word_at : List ℕ → ℕ → ℕ
word_at list at = get_or list at 0 + (2 ^ 8 * get_or list (at + 1) 0 + (2 ^ 16 * get_or list (at + 2) 0 + 2 ^ 24 * get_or list (at + 3) 0))

-- the four bytes of a word, little-endian
unfoldable pub bytes_of : ℕ → List ℕ
bytes_of w = w % 2 ^ 8 ∷ w / 2 ^ 8 % 2 ^ 8 ∷ w / 2 ^ 16 % 2 ^ 8 ∷ w / 2 ^ 24 % 2 ^ 8 ∷ []

-- bytes laid over those of a run, from a place on
unfoldable pub laid : ℕ → List ℕ → List ℕ → List ℕ
laid at new run = take at run ++ (new ++ drop (at + length new) run)

-- so many bytes of a run, from a place on
unfoldable pub part : ℕ → ℕ → List ℕ → List ℕ
part at count run = take count (drop at run)
