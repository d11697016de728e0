-- What holds of the host's words and the run together. Document 01, 'The ring': 'A run stops at idle, waiting, swap or fault, after at most 1,023 commands';
-- '36 already in fault'; 'Taken room is free again'. Nothing here asks that a call was not refused.
use Rattle.std.specs.Prelude.{◌≡◌, Bool, true, false, cond, List, [], ◌∷◌, ◌++◌, ℕ, ◌+◌, ◌*◌, ◌/◌, ◌≤◌, ◌<◌}
use Rattle.std.specs.Prelude.{eqb, length, Ok, Err}
use Rattle.runs.specs.Runs.{word_at}
use Rattle.ring.specs.declared.marks.Marks.{Marks}
use Rattle.ring.specs.Command.{Runs, Outcome, obeyed}
use Rattle.ring.specs.Host.{put, refused, room}
use Rattle.ring.specs.Ring.{each, queue, are_places, is_free}
use Rattle.ring.specs.Run.{Ran, run, ran, stopped}

-- the words that a run of bytes is
unfoldable pub words_in : List ℕ → List ℕ
words_in bytes = each (λ k. word_at bytes (4 * k)) 0 (length bytes / 4)

-- the words of commands, one after another
abbrev pub joined : List (List ℕ) → List ℕ
joined [] = []
joined (words ∷ rest) = words ++ joined rest

-- what commands leave that are obeyed one after another, each with the list offset that the one before it left
abbrev pub offset_after : Outcome → ℕ → ℕ
offset_after (Ok taken) before = taken.offset
offset_after (Err why) before = before

abbrev pub all_obeyed : List (List ℕ) → ℕ → Runs → Runs
all_obeyed [] offset x = x
all_obeyed (words ∷ rest) offset x =
    all_obeyed rest (offset_after (obeyed words offset x).outcome offset) (obeyed words offset x).runs

-- CALLS ONE AFTER ANOTHER: the host's, with its bytes, and the run's
pub data Call : Type 0 where
  host : List ℕ → Call
  coprocessor : Call

-- what calls are made on
pub record Site : Type 0 where
  pub ring : List ℕ
  pub marks : Marks
  pub runs : Runs

abbrev pub after : Call → Site → Site
after (host bytes) s = record { ring = (put s.ring bytes s.marks).ring; marks = (put s.ring bytes s.marks).marks; runs = s.runs }
after coprocessor s = record { ring = s.ring; marks = (ran s.ring s.marks s.runs).marks; runs = (ran s.ring s.marks s.runs).runs }

-- the words that a call put in: with number 0, the host's
abbrev pub words_put : Call → Site → List ℕ
words_put (host bytes) s = cond (eqb (put s.ring bytes s.marks).number 0) (words_in bytes) []
words_put coprocessor s = []

-- the words that a call took out, which are those of the commands that it obeyed
abbrev pub words_taken : Call → Site → List ℕ
words_taken (host bytes) s = []
words_taken coprocessor s = joined (ran s.ring s.marks s.runs).commands

abbrev pub finally : List Call → Site → Site
finally [] s = s
finally (call ∷ calls) s = finally calls (after call s)

abbrev pub all : (Call → Site → List ℕ) → List Call → Site → List ℕ
all f [] s = []
all f (call ∷ calls) s = f call s ++ all f calls (after call s)

abbrev pub waits : Site → List ℕ
waits s = queue s.ring s.marks

-- NUMBER, PLACE AND MARKS of a run
abbrev pub is_one_of : List ℕ → ℕ → Bool
is_one_of [] n = false
is_one_of (k ∷ ks) n = cond (eqb n k) true (is_one_of ks n)

pub record Regular (m : Marks) (r : Ran) : Type 0 where
  -- a number of the page, and none of the host's
  pub numbered : is_one_of (0 ∷ 30 ∷ 31 ∷ 32 ∷ 33 ∷ 34 ∷ 35 ∷ 36 ∷ 37 ∷ []) r.number ≡ true
  -- '32, 34, 35 set the fault mark and give the command's ring offset as place (0 for other numbers); the stored read mark stays there'
  pub faulty : is_one_of (32 ∷ 34 ∷ 35 ∷ []) r.number ≡ true → (r.place ≡ r.marks.read) × (r.marks.fault ≡ 1)
  pub others : is_one_of (32 ∷ 34 ∷ 35 ∷ []) r.number ≡ false → (r.place ≡ 0) × (r.marks.fault ≡ m.fault)
  -- the write mark is the host's to move
  pub write : r.marks.write ≡ m.write

-- THE CLAIM
pub record Flows : Type 0 where
  -- Whatever the host writes and however often the ring is run: what waited at first and then what the host wrote is what the runs took and then what
  -- still waits. So the words that are taken are those that were written, in order, past the wrap too; none is lost and none is taken twice.
  pub in_order : (calls : List Call) (s : Site) → waits s ++ all words_put calls s ≡ all words_taken calls s ++ waits (finally calls s)
  -- What a run leaves of RAM_DL, the shown list and RAM_G is what the commands that it took leave, and nothing besides.
  pub by_commands : (ring : List ℕ) (m : Marks) (x : Runs) → (ran ring m x).runs ≡ all_obeyed (ran ring m x).commands m.offset x
  -- Number, place and marks are as the page says, whatever is in the ring.
  pub regular : (ring : List ℕ) (m : Marks) (x : Runs) → Regular m (ran ring m x)
  -- No run takes more than 1,023 commands, and one that was allowed more would take no more.
  pub at_most : (ring : List ℕ) (m : Marks) (x : Runs) → length (ran ring m x).commands ≤ 1023
  pub stops : (ring : List ℕ) (m : Marks) (x : Runs) (n : ℕ) → are_places m ≡ true → run ring (1023 + n) m x ≡ run ring 1023 m x
  -- Idle is an empty ring.
  pub idle : (ring : List ℕ) (m : Marks) (x : Runs) → (ran ring m x).number ≡ 0 → queue ring (ran ring m x).marks ≡ []
  -- The room of what was taken is free again.
  pub freed : (ring : List ℕ) (m : Marks) (x : Runs) → are_places m ≡ true →
      room (ran ring m x).marks ≡ room m + 4 * length (joined (ran ring m x).commands)
  -- Under a fault neither call gives 0, and neither changes anything.
  pub halted : (ring bytes : List ℕ) (m : Marks) (x : Runs) → is_free m ≡ false →
      ((0 < (ran ring m x).number) × (ran ring m x ≡ stopped (ran ring m x).number m x))
      × ((0 < (put ring bytes m).number) × (put ring bytes m ≡ refused (put ring bytes m).number m ring))
