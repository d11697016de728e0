-- What is kept, as a plain list. Document 01, 'Words and state': 'Four contexts are kept. A fifth save drops the earliest; a restore with none
-- kept loads the starting values. Primitive, open rectangle corner and bitmap handle settings are not part of a context.' The engine keeps
-- an array, oldest first, and a count; `KeptAsSaid` says that they behave as the list of saves, newest first, cut to four.
use Rattle.std.specs.Prelude.{◌≡◌, List, [], ◌∷◌, reverse, ℕ, ◌+◌, ◌≤◌, length, take, drop, Ok}
use Rattle.runs.specs.Runs.{word_at}
use Rattle.words.specs.Words.{read_word}
use Rattle.words.specs.declared.word.Word.TheVariants as v
use Rattle.engine.specs.declared.context.Context.{Context}
use Rattle.engine.specs.declared.kept.Engine.{Engine}
use Rattle.engine.specs.declared.kept.Kept.{Kept}
use Rattle.engine.specs.declared.machine.Machine.{Machine}
use Rattle.engine.specs.Changes.{with_place}
use Rattle.engine.specs.Context.{starting}
use Rattle.engine.specs.Kept.{kept_with, newest, dropped, begun, pushed, popped}
use Rattle.engine.specs.Run.{State, place_of, next_of}

-- the kept contexts, newest first: those of the array that are counted, the other way round
abbrev pub saved : Kept → List Context
saved k = reverse (take k.count k.contexts)

-- 'Four contexts are kept': an array of four, of which at most four count
pub record Whole (k : Kept) : Type 0 where
  pub places : length k.contexts ≡ 4
  pub count : k.count ≤ 4

-- 'a restore with none kept loads the starting values'
abbrev pub first : List Context → Context
first [] = starting
first (c ∷ cs) = c

-- A save of the context `c`: it is the newest, and of more than four the earliest is dropped.
pub record Saved (c : Context) (before after : Kept) : Type 0 where
  pub list : saved after ≡ take 4 (c ∷ saved before)
  pub whole : Whole after

-- A restore that loads the context `c`: it is the newest of those kept, and it is kept no longer.
pub record Restored (c : Context) (before after : Kept) : Type 0 where
  pub context : c ≡ first (saved before)
  pub list : saved after ≡ drop 1 (saved before)
  pub whole : Whole after

-- the machine's parts that 'are not part of a context': the primitive and the open corner, and the place and the open calls. The open corner is a
-- line's open end too, 'which no context holds' by wish 1 of document 02
pub record SameElse (m n : Machine) : Type 0 where
  pub calls : m.calls ≡ n.calls
  pub depth : m.depth ≡ n.depth
  pub primitive : m.primitive ≡ n.primitive
  pub at : m.at ≡ n.at
  pub corner : m.corner ≡ n.corner

-- what is kept after these saves, the newest first, and no restore
abbrev pub after_saves : List Context → Kept
after_saves [] = begun.kept
after_saves (c ∷ cs) = kept_with (after_saves cs) c

-- THE CLAIM, of the kept contexts, of the engine, and of the two words in any list
pub record KeptAsSaid : Type 0 where
  pub start : saved begun.kept ≡ []
  pub start-whole : Whole begun.kept
  pub save : (k : Kept) (c : Context) → Whole k → Saved c k (kept_with k c)
  pub restore : (k : Kept) → Whole k → Restored (newest k) k (dropped k)
  pub saves : (cs : List Context) → saved (after_saves cs) ≡ take 4 cs
  pub push : (e : Engine) → Whole e.kept → Saved e.now.context e.kept (pushed e).kept
  pub push-now : (e : Engine) → (pushed e).now ≡ e.now
  pub pop : (e : Engine) → Whole e.kept → Restored (popped e).now.context e.kept (popped e).kept
  pub pop-else : (e : Engine) → SameElse (popped e).now e.now
  -- every state of a run is whole, since the start is
  pub next-whole : (list : List ℕ) (memory : ℕ) (x : State) → Whole x.engine.kept → Whole (next_of list memory x).engine.kept
  -- the two words do to the engine what push and pop do, past the word, and leave the bitmap handle settings as they are
  pub save-word : (list : List ℕ) (memory : ℕ) (x : State) → read_word (word_at list (place_of x)) ≡ Ok v.SaveContext →
      next_of list memory x ≡
      record { engine = pushed (record { now = with_place x.engine.now (place_of x + 4); kept = x.engine.kept }); handles = x.handles }
  pub restore-word : (list : List ℕ) (memory : ℕ) (x : State) → read_word (word_at list (place_of x)) ≡ Ok v.RestoreContext →
      next_of list memory x ≡
      record { engine = popped (record { now = with_place x.engine.now (place_of x + 4); kept = x.engine.kept }); handles = x.handles }
