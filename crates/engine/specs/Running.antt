-- The run of a screen's list, at once or from one drawing action to the next.
use Rattle.std.specs.Prelude.{List, length}
use Rattle.action.specs.declared.Action.{Action}
use Rattle.engine.specs.declared.running.Run.{Run}
use Rattle.engine.specs.declared.screen.Screen.{Screen}
use Rattle.engine.specs.Run.{Ran, run, run_of}

abbrev pub run_in : Screen → Ran
run_in s = run_of s.list.now (length s.memory.now) s.limit

abbrev pub actions_in : Screen → List Action
actions_in s = (run_in s).actions

-- the actions of a run that are still to come
unfoldable pub actions_left : Run → List Action
actions_left r =
    (run r.screen.list.now (length r.screen.memory.now) r.left (record { engine = r.engine; handles = r.handles })).actions
