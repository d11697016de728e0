-- The three ways of a step, each with what the command at the read mark came to. Assumes nothing.
use mathlib.Core.Path.{◌≡◌, ◌∙◌}
use mathlib.Core.List.{List, [], ◌∷◌}
use Prim.Native.Nat.{ℕ, ◌*◌, ◌<◌, ◌≤◌}
use borrow.Author.Tests.{lt-ltb, le-ltb}
use native.Mathlib.Omega.{arith}
use Rattle.ring.specs.declared.command.Command.{Command}
use Rattle.ring.specs.declared.command.Command.TheVariants as c
use Rattle.ring.specs.declared.command.Fault.{Fault}
use Rattle.ring.specs.declared.command.Taken.{Taken}
use Rattle.ring.specs.declared.marks.Marks.{Marks}
use Rattle.std.specs.Prelude.{Ok, Err, cond}
use Rattle.ring.specs.Command.{Runs, Outcome, fault_number, size_of, came, does, obeyed}
use Rattle.ring.specs.Ring.{waiting}
use Rattle.ring.specs.Run.{stopped, moved_on, faulted, command_at, words_at, settled, step}
use Rattle.ring.proofs.Steps.{first_word, words_long}

module _ (ring : List ℕ) (m : Marks) (x : Runs) where
  pub step-short : waiting m < 4 * size_of (command_at ring m) → step ring m x ≡ stopped 30 m x
  unfolding step
  step-short h = rw (lt-ltb _ _ h)

  module _ (there : 4 * size_of (command_at ring m) ≤ waiting m) where
    step-settled : (outcome : Outcome) (y : Runs) → does (command_at ring m) (words_at ring m) m.offset x ≡ came outcome y
        → step ring m x ≡ settled m (words_at ring m) outcome y
    unfolding step obeyed
    step-settled outcome y e = rw (le-ltb _ _ there, first_word ring m.read (command_at ring m), e)

    pub step-taken : (taken : Taken) (y : Runs) → does (command_at ring m) (words_at ring m) m.offset x ≡ came (Ok taken) y
        → step ring m x ≡ record {
          number = cond taken.swaps 31 0;
          place = 0;
          commands = words_at ring m ∷ [];
          marks = moved_on m (size_of (command_at ring m)) taken.offset;
          runs = y;
        }
    step-taken taken y e =
        step-settled (Ok taken) y e ∙ rw (words_long ring m.read (size_of (command_at ring m)))

    pub step-fault : (why : Fault) (y : Runs) → does (command_at ring m) (words_at ring m) m.offset x ≡ came (Err why) y
        → step ring m x ≡ record { number = fault_number why; place = m.read; commands = []; marks = faulted m; runs = y }
    step-fault why y e = step-settled (Err why) y e

-- a command is four words at most
pub size-most : (command : Command) → size_of command ≤ 4
unfolding size_of
size-most c.Plain = omega arith
size-most c.DlStart = omega arith
size-most c.Swap = omega arith
size-most c.ColdStart = omega arith
size-most c.MemSet = omega arith
size-most c.MemZero = omega arith
size-most c.MemCpy = omega arith
size-most c.Append = omega arith
size-most c.Unknown = omega arith
