-- The host's side: words put into the ring, and the reset. Document 01, 'The ring': 'The host's words are tested for 37 (a multiple of 4 bytes), 33, 36, 38.'
-- '38 no room for the host's words'; '33, 36, 37, 38 change nothing. A host reset zeroes all marks.'
use Rattle.std.specs.Prelude.{◌≡◌, ◌&&◌, List, ℕ, ◌-◌, ◌%◌, eqb, leb, length, take, drop}
use Rattle.runs.specs.Runs.{laid}
use Rattle.truth.specs.Must.{must}
use Rattle.ring.specs.declared.marks.Answer.{Answer}
use Rattle.ring.specs.declared.marks.Marks.{Marks}
use Rattle.ring.specs.Ring.{around, waiting, are_places, is_free}

-- 'at most 4,092 wait'
unfoldable pub room : Marks → ℕ
room m = 4092 - waiting m

-- bytes laid from a place on, and past the ring's end from its start on
unfoldable pub laid_around : ℕ → List ℕ → List ℕ → List ℕ
laid_around at new ring = laid 0 (drop (4096 - at) new) (laid at (take (4096 - at) new) ring)

pub record Put : Type 0 where
  pub number : ℕ
  pub marks : Marks
  pub ring : List ℕ

abbrev pub refused : ℕ → Marks → List ℕ → Put
refused number m ring = record { number = number; marks = m; ring = ring }

-- the write mark moves past the words, and no other
abbrev pub past_words : Marks → ℕ → Marks
past_words m bytes = record { read = m.read; write = around m.write bytes; offset = m.offset; fault = m.fault }

-- '37 (a multiple of 4 bytes), 33, 36, 38'
unfoldable pub put : List ℕ → List ℕ → Marks → Put
put ring words m =
    must (eqb (length ring) 4096 && eqb (length words % 4) 0) (refused 37 m ring)
    (must (are_places m) (refused 33 m ring)
    (must (is_free m) (refused 36 m ring)
    (must (leb (length words) (room m)) (refused 38 m ring)
    (record { number = 0; marks = past_words m (length words); ring = laid_around m.write words ring }))))

abbrev pub host_answer : Put → Answer
host_answer p = record { number = p.number; place = 0; count = 0; marks = p.marks }

-- the host's words told, and every byte of the ring
pub record Puts (p : Put) (answer : Answer) (ring : List ℕ) : Type 0 where
  pub answered : answer ≡ host_answer p
  pub left : ring ≡ p.ring

abbrev pub reset : Answer
reset = record { number = 0; place = 0; count = 0; marks = record { read = 0; write = 0; offset = 0; fault = 0 } }
