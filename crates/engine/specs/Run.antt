-- The run of a list: its actions in order, and its number, place and count together. Document 01, 'Number table': the rows 0, 10 and 19, and
-- 'Numbers 10 to 19 carry the byte offset of the word (for 10 and 19, the one that would be next). Words fetched are counted, the faulting
-- one included'. Wish 1 of document 02 adds 20, which is told as these are.
use Rattle.std.specs.Prelude.{cond, Option, Some, None, List, [], ◌∷◌, ℕ, zero, suc, ◌+◌, ◌^◌, ◌≤◌, ltb, length}
use Rattle.action.specs.declared.Action.{Action}
use Rattle.action.specs.declared.ink.Clear.{Clear}
use Rattle.action.specs.declared.Drawing.{Drawing}
use Rattle.action.specs.declared.Drawing.TheVariants as d
use Rattle.runs.specs.Runs.{word_at}
use Rattle.engine.specs.declared.running.Ending.{Ending}
use Rattle.engine.specs.declared.run.Stop.{Stop}
use Rattle.engine.specs.declared.context.Context.{Context}
use Rattle.engine.specs.declared.fault.Fault.TheVariants as fault
use Rattle.engine.specs.declared.handles.Handles.{Handles}
use Rattle.engine.specs.declared.kept.Engine.{Engine}
use Rattle.engine.specs.declared.machine.Event.{Event}
use Rattle.engine.specs.declared.machine.Event.TheVariants as e
use Rattle.engine.specs.declared.machine.Flags.{Flags}
use Rattle.engine.specs.declared.machine.Shape.{Shape}
use Rattle.engine.specs.declared.machine.Shape.TheVariants as s
use Rattle.engine.specs.Changes.{with_place}
use Rattle.engine.specs.Context.{ink_of, scissor_of}
use Rattle.engine.specs.Fault.{fault_number}
use Rattle.engine.specs.Handles.{all_unset}
use Rattle.engine.specs.Kept.{begun, pushed, popped, called, returned}
use Rattle.engine.specs.Machine.{Steps, steps}

-- THE LIMITS. 'List: 4..8,192 bytes', 'Graphics memory (RAM_G): 0..1,048,576 bytes': a longer one is refused and never runs
abbrev pub most_list : ℕ
most_list = 8192

abbrev pub most_memory : ℕ
most_memory = 2 ^ 20

-- a list, and how long RAM_G is
abbrev pub WithinLimits : List ℕ → ℕ → Type 0
WithinLimits list memory = (length list ≤ most_list) × (memory ≤ most_memory)

-- AN ACTION: a shape, with the context's values that document 01 lists under 'An action's values'
abbrev pub clear_of : Context → Flags → Clear
clear_of c flags = record { colour = flags.colour; stencil = flags.stencil; tag = flags.tag; values = c.clearing }

unfoldable pub drawing_of : Context → Shape → Drawing
drawing_of c (s.Clear flags) = d.Clear (clear_of c flags)
drawing_of c (s.Point p) = d.Point p (ink_of c.brush)
drawing_of c (s.Rectangle r) = d.Rectangle r (ink_of c.brush)
drawing_of c (s.Bitmap b) = d.Bitmap b (ink_of c.brush)
drawing_of c (s.Segment l) = d.Segment l (ink_of c.brush)

unfoldable pub action_of : Context → Shape → Action
action_of c shape = record { scissor = scissor_of c.placing; masks = c.masks; drawing = drawing_of c shape }

-- ONE STEP. What it changes; the list and RAM_G's length stay
pub record State : Type 0 where
  pub engine : Engine
  pub handles : Handles

abbrev pub place_of : State → ℕ
place_of x = x.engine.now.at

-- the word at the place, obeyed by a machine whose place is the word after it
abbrev pub step_of : List ℕ → ℕ → State → Steps
step_of list memory x = steps (with_place x.engine.now (place_of x + 4)) x.handles memory (word_at list (place_of x))

abbrev pub event_of : List ℕ → ℕ → State → Event
event_of list memory x = (step_of list memory x).stepped.event

-- SAVE_CONTEXT, RESTORE_CONTEXT, CALL and RETURN are the engine's, every other command the machine's
abbrev pub settled : Event → Engine → Engine
settled e.Quiet x = x
settled e.Save x = pushed x
settled e.Restore x = popped x
settled (e.Call to) x = called x to
settled e.Return x = returned x
settled (e.Draw shape) x = x
settled e.Ended x = x
settled (e.Fault number) x = x

abbrev pub next_of : List ℕ → ℕ → State → State
next_of list memory x =
    record {
      engine =
          settled (event_of list memory x) (record { now = (step_of list memory x).stepped.machine; kept = x.engine.kept });
      handles = (step_of list memory x).handles;
    }

-- THE RUN, by recursion on the words still allowed
pub record Ran : Type 0 where
  pub actions : List Action
  pub stop : Option Stop
  pub count : ℕ

abbrev pub stop_at : ℕ → ℕ → Option Stop
stop_at number place = Some (record { number = number; place = place })

-- number and place: a run that came to the list's end has number 0, and '0 to 4 carry offset 0'
abbrev pub number_told : Option Stop → ℕ
number_told None = 0
number_told (Some stop) = stop.number

abbrev pub place_told : Option Stop → ℕ
place_told None = 0
place_told (Some stop) = stop.place

abbrev pub stopped : Option Stop → ℕ → Ran
stopped stop count = record { actions = []; stop = stop; count = count }

-- one word more was fetched
abbrev pub counted : Ran → Ran
counted r = record { actions = r.actions; stop = r.stop; count = r.count + 1 }

abbrev pub acted : Action → Ran → Ran
acted a r = record { actions = a ∷ r.actions; stop = r.stop; count = r.count }

-- what each event stands for: the word at a place, and then the rest of the run. `c` is the context that the word left
unfoldable pub after : ℕ → Context → Event → Ran → Ran
after at c e.Quiet rest = counted rest
after at c e.Save rest = counted rest
after at c e.Restore rest = counted rest
after at c (e.Call to) rest = counted rest
after at c e.Return rest = counted rest
after at c (e.Draw shape) rest = acted (action_of c shape) (counted rest)
after at c e.Ended rest = stopped None 1
after at c (e.Fault number) rest = stopped (stop_at number at) 1

-- 19 before 10, and both before the word is looked at
unfoldable pub run : List ℕ → ℕ → ℕ → State → Ran
run list memory zero x = stopped (stop_at (fault_number fault.LimitReached) (place_of x)) 0
run list memory (suc n) x =
    cond (ltb (place_of x) (length list))
    (after (place_of x) (next_of list memory x).engine.now.context (event_of list memory x) (run list memory n (next_of list memory x)))
    (stopped (stop_at (fault_number fault.PastTheEnd) (place_of x)) 0)

-- 'Every run starts with all handles unset.'
abbrev pub at_start : State
at_start = record { engine = begun; handles = all_unset }

-- the run of a whole list, over a RAM_G of so many bytes and with so many words allowed
abbrev pub run_of : List ℕ → ℕ → ℕ → Ran
run_of list memory limit = run list memory limit at_start

abbrev pub actions_of : List ℕ → ℕ → ℕ → List Action
actions_of list memory limit = (run_of list memory limit).actions

abbrev pub ending_of : Ran → Ending
ending_of r = record { stop = r.stop; count = r.count }
