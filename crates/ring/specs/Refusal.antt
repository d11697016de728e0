-- Why a call is refused, and its number. Document 01, 'The ring': '33, 36, 37, 38 change nothing.'
use Rattle.std.specs.Prelude.{◌≡◌, true, false, ℕ, Result, Ok, Err}
use Rattle.ring.specs.declared.marks.Answer.{Answer}
use Rattle.ring.specs.declared.marks.Marks.{Marks}
use Rattle.ring.specs.declared.refusal.Refusal.{Refusal}
use Rattle.ring.specs.declared.refusal.Refusal.TheVariants as r
use Rattle.ring.specs.Ring.{are_places, is_free}

-- '33 read, write or list offset not a multiple of 4, read or write above 4,092, or list offset above 8,192', '36 already
-- in fault', '37 ring not 4,096 bytes, RAM_DL or shown list not 8,192, or RAM_G above its limit' and for the host's words
-- '37 (a multiple of 4 bytes)', '38 no room for the host's words'
unfoldable pub refusal_number : Refusal → ℕ
refusal_number r.BadMark = 33
refusal_number r.Faulty = 36
refusal_number r.BadRun = 37
refusal_number r.NoRoom = 38

-- what the tests of the marks say, in their order
abbrev pub Refuses : Marks → Refusal → Type 0
Refuses m r.BadMark = are_places m ≡ false
Refuses m r.Faulty = (are_places m ≡ true) × (is_free m ≡ false)
Refuses m r.BadRun = ⊥
Refuses m r.NoRoom = ⊥

-- a call's answer: place and count are 0, and the marks as they were, if it was refused
abbrev pub told : Result Answer Refusal → Marks → Answer
told (Ok answer) m = answer
told (Err why) m = record { number = refusal_number why; place = 0; count = 0; marks = m }
