-- The run, and what the call answers and leaves. Document 01, 'The ring': the marks 'move on as each command is taken'; 'A run stops at idle, waiting, swap or
-- fault, after at most 1,023 commands'; the numbers 0, 30 to 37 with their order, place and count.
use Rattle.std.specs.Prelude.{◌≡◌, Bool, cond, ◌&&◌, List, [], ◌∷◌, ◌++◌, ℕ, zero, suc, ◌*◌, eqb, leb, ltb, length, Ok, Err}
use Rattle.truth.specs.Must.{must}
use Rattle.ring.specs.declared.marks.Answer.{Answer}
use Rattle.ring.specs.declared.marks.Marks.{Marks}
use Rattle.ring.specs.declared.command.Command.{Command}
use Rattle.ring.specs.Command.{Runs, Outcome, fault_number, lent, command_of, size_of, obeyed}
use Rattle.ring.specs.Ring.{around, waiting, word_from, words_from, are_places, is_free}

-- how a run ended: number and place, the commands that it took, in order and each with its words, and what it left
pub record Ran : Type 0 where
  pub number : ℕ
  pub place : ℕ
  pub commands : List (List ℕ)
  pub marks : Marks
  pub runs : Runs

abbrev pub stopped : ℕ → Marks → Runs → Ran
stopped number m x = record { number = number; place = 0; commands = []; marks = m; runs = x }

-- WHICH MARKS MOVE. A command that is taken moves the read mark past its words, and the list offset as it says
abbrev pub moved_on : Marks → ℕ → ℕ → Marks
moved_on m words offset = record { read = around m.read (4 * words); write = m.write; offset = offset; fault = m.fault }

-- 'set the fault mark and give the command's ring offset as place ..; the stored read mark stays there'
abbrev pub faulted : Marks → Marks
faulted m = record { read = m.read; write = m.write; offset = m.offset; fault = 1 }

-- ONE COMMAND AT THE READ MARK
abbrev pub command_at : List ℕ → Marks → Command
command_at ring m = command_of (word_from ring m.read 0)

abbrev pub words_at : List ℕ → Marks → List ℕ
words_at ring m = words_from ring m.read (size_of (command_at ring m))

abbrev pub settled : Marks → List ℕ → Outcome → Runs → Ran
settled m words (Ok taken) x =
    record {
      number = cond taken.swaps 31 0;
      place = 0;
      commands = words ∷ [];
      marks = moved_on m (length words) taken.offset;
      runs = x;
    }
settled m words (Err why) x =
    record { number = fault_number why; place = m.read; commands = []; marks = faulted m; runs = x }

-- number 30: 'parameters not all there, that command not taken', before 32, 34 and 35
unfoldable pub step : List ℕ → Marks → Runs → Ran
step ring m x =
    cond (ltb (waiting m) (4 * size_of (command_at ring m)))
    (stopped 30 m x)
    (settled m (words_at ring m) (obeyed (words_at ring m) m.offset x).outcome (obeyed (words_at ring m) m.offset x).runs)

-- THE RUN, by recursion on the commands still possible. It goes on after number 0 only
unfoldable pub then : Ran → Ran → Ran
then s rest =
    cond (eqb s.number 0)
    (record { number = rest.number; place = rest.place; commands = s.commands ++ rest.commands; marks = rest.marks; runs = rest.runs })
    s

-- The 1,023 commands of `ran` never run out before the ring does: at most 4,092 bytes wait, and each command takes a word of them at least, so after 1,023
-- the ring is empty. The claim `stops` of Flow.antt says so.
unfoldable pub run : List ℕ → ℕ → Marks → Runs → Ran
run ring zero m x = stopped 0 m x
run ring (suc n) m x =
    cond (eqb m.read m.write)
    (stopped 0 m x)
    (then (step ring m x) (run ring n (step ring m x).marks (step ring m x).runs))

-- THE CALL. Number 37: 'ring not 4,096 bytes, RAM_DL or shown list not 8,192, or RAM_G above its limit'
unfoldable pub are_sized : ℕ → ℕ → ℕ → ℕ → Bool
are_sized ring list shown memory = eqb ring 4096 && eqb list 8192 && eqb shown 8192 && leb memory 1048576

-- 'Order 37, 33, 36, then 30 to 35 by command'
unfoldable pub ran : List ℕ → Marks → Runs → Ran
ran ring m x =
    must (are_sized (length ring) (length x.list) (length x.shown) (length x.memory)) (stopped 37 m x)
    (must (are_places m) (stopped 33 m x)
    (must (is_free m) (stopped 36 m x)
    (run ring 1023 m x)))

-- 'The count is of commands taken, a faulting one not.'
abbrev pub run_answer : Ran → Answer
run_answer r = record { number = r.number; place = r.place; count = length r.commands; marks = r.marks }

-- a run of the ring told, and every byte that it leaves; the ring itself is only read
pub record Tells (r : Ran) (answer : Answer) (list shown memory : List ℕ) : Type 0 where
  pub answered : answer ≡ run_answer r
  pub left : r.runs ≡ lent list shown memory
