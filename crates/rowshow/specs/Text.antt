-- What rowshow prints, as lists of bytes. Document 01 says it by example, at the end of 'Checked by hand': `done 3` and
-- the row, four pixels as `ff0000:00`, for a list that draws; `fault 12 at 0 after 1`; 'Numbers 1 to 4 print
-- `refused N`.' Each line ends in a newline.
use Rattle.std.specs.Prelude.{cond, List, [], ◌∷◌, ◌++◌, ℕ, zero, suc, codes, ◌+◌, ◌*◌, ◌/◌, ◌%◌, eqb, ltb, get_or}
use Rattle.io.specs.Digits.{hex_digit_ascii}

abbrev pub newline : List ℕ
newline = 10 ∷ []

-- A ROW. A byte in base 16, always two digits: 'rrggbb:tt'
unfoldable pub hex_text : ℕ → List ℕ
hex_text byte = hex_digit_ascii (byte / 16) ∷ hex_digit_ascii (byte % 16) ∷ []

abbrev pub pixel_text : ℕ → ℕ → ℕ → ℕ → List ℕ
pixel_text red green blue tag = hex_text red ++ (hex_text green ++ (hex_text blue ++ (58 ∷ [] ++ hex_text tag)))

-- the text of its pixel k: three bytes R G B in one run, the tag byte in a second
abbrev pub pixel_text_at : List ℕ → List ℕ → ℕ → List ℕ
pixel_text_at picture tags k =
    pixel_text
    (get_or picture (3 * k) 0)
    (get_or picture (3 * k + 1) 0)
    (get_or picture (3 * k + 2) 0)
    (get_or tags k 0)

-- pixels 1 to k, each behind a space
abbrev pub pixels_after : List ℕ → List ℕ → ℕ → List ℕ
pixels_after picture tags zero = []
pixels_after picture tags (suc k) = pixels_after picture tags k ++ (32 ∷ [] ++ pixel_text_at picture tags (suc k))

-- the row
abbrev pub row_text : List ℕ → List ℕ → List ℕ
row_text picture tags = pixel_text_at picture tags 0 ++ (pixels_after picture tags 3 ++ newline)

-- A NUMBER in base 10, without zeros in front, where `more` digits and one hold it
unfoldable pub decimal_within : ℕ → ℕ → List ℕ
decimal_within zero n = hex_digit_ascii (n % 10) ∷ []
decimal_within (suc more) n =
    cond
    (ltb n 10)
    (hex_digit_ascii (n % 10) ∷ [])
    (decimal_within more (n / 10) ++ (hex_digit_ascii (n % 10) ∷ []))

-- of a number of 32 bits, which ten digits hold
unfoldable pub decimal_text : ℕ → List ℕ
decimal_text n = decimal_within 9 n

-- THE LINES. A word, and a number behind it
abbrev pub named_text : List ℕ → ℕ → List ℕ
named_text word number = word ++ decimal_text number

-- `done 3` and the row
abbrev pub done_text : ℕ → List ℕ → List ℕ → List ℕ
done_text count picture tags = named_text (codes "done ") count ++ (newline ++ row_text picture tags)

-- `refused 2`
abbrev pub refused_text : ℕ → List ℕ
refused_text number = named_text (codes "refused ") number ++ newline

-- `fault 12 at 0 after 1`
abbrev pub fault_text : ℕ → ℕ → ℕ → List ℕ
fault_text number place count =
    named_text (codes "fault ") number
    ++ (named_text (codes " at ") place ++ (named_text (codes " after ") count ++ newline))

-- of an answer and the row that it left
abbrev pub answer_text : ℕ → ℕ → ℕ → List ℕ → List ℕ → List ℕ
answer_text number place count picture tags =
    cond
    (eqb number 0)
    (done_text count picture tags)
    (cond (ltb number 5) (refused_text number) (fault_text number place count))
