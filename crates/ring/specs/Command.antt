-- One command: its words, and what it does. Document 01, 'The ring': 'Words whose top byte is not FF go to RAM_DL
-- unexamined. Commands: FFFFFF00 DLSTART, 01 SWAP (copies RAM_DL to the shown list, RAM_DL and list offset stay),
-- 32 COLDSTART (no effect yet), 1B MEMSET (address, value's low byte, count), 1C MEMZERO (address, count), 1D MEMCPY
-- (target, source, count, as if the source were copied first), 1E APPEND (address, count).'
-- How the list offset moves is the guide's: 5.3, each word written to RAM_DL moves it on, and 5.10, DLSTART sets it
-- to 0; 5.14, APPEND moves it on by its count.
use Rattle.std.specs.Prelude.{Bool, true, false, cond, ◌&&◌, List, ℕ, ◌+◌, ◌/◌, ◌%◌, ◌^◌, eqb, leb}
use Rattle.std.specs.Prelude.{get_or, length, replicate, Result, Ok, Err}
use Rattle.runs.specs.Runs.{bytes_of, laid, part}
use Rattle.ring.specs.declared.command.Command.{Command}
use Rattle.ring.specs.declared.command.Command.TheVariants as c
use Rattle.ring.specs.declared.command.Taken.{Taken}
use Rattle.ring.specs.declared.command.Fault.{Fault}
use Rattle.ring.specs.declared.command.Fault.TheVariants as f

unfoldable pub command_of : ℕ → Command
command_of word =
    cond (eqb (word / 2 ^ 24) 0xFF)
    (cond (eqb word 0xFFFFFF00) c.DlStart
    (cond (eqb word 0xFFFFFF01) c.Swap
    (cond (eqb word 0xFFFFFF32) c.ColdStart
    (cond (eqb word 0xFFFFFF1B) c.MemSet
    (cond (eqb word 0xFFFFFF1C) c.MemZero
    (cond (eqb word 0xFFFFFF1D) c.MemCpy
    (cond (eqb word 0xFFFFFF1E) c.Append c.Unknown)))))))
    c.Plain

-- how many words it takes, its parameters included
unfoldable pub size_of : Command → ℕ
size_of c.Plain = 1
size_of c.DlStart = 1
size_of c.Swap = 1
size_of c.ColdStart = 1
size_of c.MemSet = 4
size_of c.MemZero = 3
size_of c.MemCpy = 4
size_of c.Append = 3
size_of c.Unknown = 1

-- WHAT COMMANDS WORK ON: RAM_DL, the shown list and RAM_G
pub record Runs : Type 0 where
  pub list : List ℕ
  pub shown : List ℕ
  pub memory : List ℕ

abbrev pub lent : List ℕ → List ℕ → List ℕ → Runs
lent list shown memory = record { list = list; shown = shown; memory = memory }

abbrev pub with_list : List ℕ → Runs → Runs
with_list list x = lent list x.shown x.memory

abbrev pub with_memory : List ℕ → Runs → Runs
with_memory memory x = lent x.list x.shown memory

-- '32 unknown FF word', '34 RAM_DL full', '35 an address plus the count past RAM_G's end, count 0 too, or APPEND count
-- not a multiple of 4'
unfoldable pub fault_number : Fault → ℕ
fault_number f.Unknown = 32
fault_number f.ListFull = 34
fault_number f.BadRange = 35

-- what a command came to
abbrev pub Outcome : Type 0
Outcome = Result Taken Fault

-- and what it left
pub record Done : Type 0 where
  pub outcome : Outcome
  pub runs : Runs

abbrev pub came : Outcome → Runs → Done
came outcome x = record { outcome = outcome; runs = x }

-- taken, with the list offset after it
abbrev pub taken : ℕ → Runs → Done
taken offset x = came (Ok (record { offset = offset; swaps = false })) x

-- 'That command alone has no effect'
abbrev pub fault : Fault → Runs → Done
fault why x = came (Err why) x

-- number 35: 'an address plus the count past RAM_G's end, count 0 too'. The sum does not wrap
unfoldable pub is_inside : ℕ → ℕ → List ℕ → Bool
is_inside at count memory = leb (at + count) (length memory)

-- these bytes become RAM_G's from an address on
unfoldable pub stored : Bool → ℕ → List ℕ → ℕ → Runs → Done
stored fits at new offset x = cond fits (taken offset (with_memory (laid at new x.memory) x)) (fault f.BadRange x)

-- these bytes become RAM_DL's next. Number 34: 'RAM_DL full'
unfoldable pub listed : List ℕ → ℕ → Runs → Done
listed new offset x =
    cond (leb (offset + length new) 8192)
    (taken (offset + length new) (with_list (laid offset new x.list) x))
    (fault f.ListFull x)

-- MEMSET and MEMZERO: count times one byte
abbrev pub filled : ℕ → ℕ → ℕ → ℕ → Runs → Done
filled address value count offset x = stored (is_inside address count x.memory) address (replicate count value) offset x

-- MEMCPY, 'as if the source were copied first'
abbrev pub copied : ℕ → ℕ → ℕ → ℕ → Runs → Done
copied target source count offset x =
    stored
    (is_inside target count x.memory && is_inside source count x.memory)
    target
    (part source count x.memory)
    offset
    x

-- APPEND. 35 too: 'or APPEND count not a multiple of 4'; '35 before 34'
unfoldable pub appended : ℕ → ℕ → ℕ → Runs → Done
appended address count offset x =
    cond (is_inside address count x.memory && eqb (count % 4) 0)
    (listed (part address count x.memory) offset x)
    (fault f.BadRange x)

-- A COMMAND OBEYED, given its words: word 0 is the command's own, its parameters follow
abbrev pub word : ℕ → List ℕ → ℕ
word k words = get_or words k 0

unfoldable pub does : Command → List ℕ → ℕ → Runs → Done
does c.Plain words offset x = listed (bytes_of (word 0 words)) offset x
does c.DlStart words offset x = taken 0 x
does c.Swap words offset x = came (Ok (record { offset = offset; swaps = true })) (lent x.list x.list x.memory)
does c.ColdStart words offset x = taken offset x
does c.MemSet words offset x = filled (word 1 words) (word 2 words % 2 ^ 8) (word 3 words) offset x
does c.MemZero words offset x = filled (word 1 words) 0 (word 2 words) offset x
does c.MemCpy words offset x = copied (word 1 words) (word 2 words) (word 3 words) offset x
does c.Append words offset x = appended (word 1 words) (word 2 words) offset x
does c.Unknown words offset x = fault f.Unknown x

unfoldable pub obeyed : List ℕ → ℕ → Runs → Done
obeyed words offset x = does (command_of (word 0 words)) words offset x
