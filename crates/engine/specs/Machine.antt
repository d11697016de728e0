-- The machine: how it starts, and one word read and obeyed. Document 01, 'Words and state' and the rows 11 and 12 of 'Number table'.
use Rattle.std.specs.Prelude.{None, ℕ, replicate, Result, Ok, Err}
use Rattle.words.specs.Words.{read_word, word_fault_number}
use Rattle.words.specs.declared.fault.WordFault.{WordFault}
use Rattle.words.specs.declared.word.Word.{Word}
use Rattle.engine.specs.declared.command.Then.{Then}
use Rattle.engine.specs.declared.command.Then.TheVariants as t
use Rattle.engine.specs.declared.handles.Handles.{Handles}
use Rattle.engine.specs.declared.machine.Event.TheVariants as e
use Rattle.engine.specs.declared.machine.Machine.{Machine}
use Rattle.engine.specs.declared.machine.Stepped.{Stepped}
use Rattle.engine.specs.Command.{obeys}
use Rattle.engine.specs.Context.{starting}
use Rattle.engine.specs.Vertex.{vertexed}

-- every run starts at the list's first word, with no call open and no primitive begun
abbrev pub started : Machine
started =
    record {
      context = starting;
      calls = replicate 4 0;
      depth = 0;
      primitive = None;
      at = 0;
      corner = None;
    }

-- A WORD: 11 and 12 as it is read, else the command, and a vertex drawn
pub record Steps : Type 0 where
  pub stepped : Stepped
  pub handles : Handles

abbrev pub follows : Machine → Handles → ℕ → Then → Steps
follows m hs memory (t.Tell event) = record { stepped = record { machine = m; event = event }; handles = hs }
follows m hs memory (t.Place vertex) = record { stepped = vertexed m hs memory vertex; handles = hs }

abbrev pub steps_by : Machine → Handles → ℕ → Result Word WordFault → Steps
steps_by m hs memory (Ok word) =
    follows (obeys m hs word).obeyed.machine (obeys m hs word).handles memory (obeys m hs word).obeyed.then
steps_by m hs memory (Err fault) = record { stepped = record { machine = m; event = e.Fault (word_fault_number fault) }; handles = hs }

unfoldable pub steps : Machine → Handles → ℕ → ℕ → Steps
steps m hs memory bits = steps_by m hs memory (read_word bits)
