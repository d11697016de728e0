-- Document 01, 'Checked by hand': 'Proved of the meaning itself, as a single table under a single claim: 1-12.' The claim is `CheckedByHand`; example 13 is
-- run and compared.
use Rattle.std.specs.Prelude.{◌≡◌, List, [], ◌∷◌, ◌++◌, ℕ, zero, suc, ℤ, pos, neg_ℤ, Ok, Err}
use Rattle.action.specs.declared.numbers.Factor.TheVariants.{One}
use Rattle.engine.specs.Run.{State, next_of, number_told, place_told, run_of, at_start}
use Rattle.pixel.specs.Blend.{product, weight, blended}
use Rattle.runs.specs.Runs.{bytes_of}
use Rattle.units.specs.Units.{meant_pixels, floor16, sixteenth_at, floored}
use Rattle.words.specs.declared.fault.WordFault.TheVariants.{NoMeaning}
use Rattle.words.specs.declared.word.Word.TheVariants.{Vertex2f, Vertex2ii, ScissorSize}
use Rattle.words.specs.Words.{read_word}

-- the list of these words, as bytes
abbrev pub list_of : List ℕ → List ℕ
list_of [] = []
list_of (w ∷ ws) = bytes_of w ++ list_of ws

-- these words run from the start, with no RAM_G and so many words allowed: they draw nothing and end with this number, place and count
pub record Ends (words : List ℕ) (limit number place count : ℕ) : Type 0 where
  pub draws_nothing : (run_of (list_of words) 0 limit).actions ≡ []
  pub told : number_told (run_of (list_of words) 0 limit).stop ≡ number
  pub placed : place_told (run_of (list_of words) 0 limit).stop ≡ place
  pub fetched : (run_of (list_of words) 0 limit).count ≡ count

-- the state after so many of these words
abbrev pub after_words : List ℕ → ℕ → State
after_words words zero = at_start
after_words words (suc n) = next_of (list_of words) 0 (after_words words n)

-- COLOR_A 1 to 5 (10), each saved (22), and five restores (23); the alpha that is current after so many of these words
abbrev pub saves : List ℕ
saves =
    0x10000001 ∷ 0x22000000 ∷
    0x10000002 ∷ 0x22000000 ∷
    0x10000003 ∷ 0x22000000 ∷
    0x10000004 ∷ 0x22000000 ∷
    0x10000005 ∷ 0x22000000 ∷
    0x23000000 ∷ 0x23000000 ∷ 0x23000000 ∷ 0x23000000 ∷ 0x23000000 ∷ []

abbrev pub alpha_after : ℕ → ℕ
alpha_after n = (after_words saves n).engine.now.context.brush.alpha

-- sixteenth z lies in pixel q: as integers, and as the numbers that are kept
pub record LiesIn (z q : ℤ) : Type 0 where
  pub rounded : floor16 z ≡ q
  pub kept : meant_pixels (floored (sixteenth_at z)) ≡ q

pub record CheckedByHand : Type 0 where
  -- '1. 40F00110 reads VERTEX2F (480, 272).'
  pub one : read_word 0x40F00110 ≡ Ok (Vertex2f (pos 480) (pos 272))
  -- '2. 7FF80000 reads VERTEX2F (-16, 0).'
  pub two : read_word 0x7FF80000 ≡ Ok (Vertex2f (neg_ℤ (pos 16)) (pos 0))
  -- '3. 9B86EFD4 reads VERTEX2II (220, 110, 31, 84).'
  pub three : read_word 0x9B86EFD4 ≡ Ok (Vertex2ii 220 110 31 84)
  -- '4. 1C05003C reads SCISSOR_SIZE (80, 60).'
  pub four : read_word 0x1C05003C ≡ Ok (ScissorSize 80 60)
  -- '5. 1C800800 is accepted; 1C801800 gives 12.'
  pub five_accepted : read_word 0x1C800800 ≡ Ok (ScissorSize 2048 2048)
  pub five_refused : read_word 0x1C801800 ≡ Err NoMeaning
  -- '6. 1D000000 alone, limit 9: number 14, place 0, count 5.'
  pub six : Ends (0x1D000000 ∷ []) 9 14 0 5
  -- '7. 1E000000 alone, limit 3: number 19, place 0, count 3.'
  pub seven : Ends (0x1E000000 ∷ []) 3 19 0 3
  -- '8. S 100, D 200, factors 128 and 127: 150.'
  pub eight : blended 100 128 200 127 ≡ 150
  -- '9. S 200, D 100, both ONE: 255.' Whatever alpha comes and whatever is stored
  pub nine : (alpha stored : ℕ) → blended 200 (weight One alpha stored) 100 (weight One alpha stored) ≡ 255
  -- '10. 128 times 128: 64.'
  pub ten : product 128 128 ≡ 64
  -- '11. COLOR_A 1..5, each saved; five restores give 5, 4, 3, 2, 255.'
  pub eleven_first : alpha_after 11 ≡ 5
  pub eleven_second : alpha_after 12 ≡ 4
  pub eleven_third : alpha_after 13 ≡ 3
  pub eleven_fourth : alpha_after 14 ≡ 2
  pub eleven_fifth : alpha_after 15 ≡ 255
  -- '12. -1 sixteenth lies in pixel -1; 0 and 15 in pixel 0.'
  pub twelve_below : LiesIn (neg_ℤ (pos 1)) (neg_ℤ (pos 1))
  pub twelve_none : LiesIn (pos 0) (pos 0)
  pub twelve_last : LiesIn (pos 15) (pos 0)
