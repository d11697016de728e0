-- What is kept is the list of saves, cut to four. Assumes nothing.
use mathlib.Core.Path.{◌≡◌, refl, ap, ◌∙◌}
use mathlib.Core.List.{List, [], ◌∷◌}
use Prim.Native.Nat.{ℕ, zero, suc, ◌+◌, ◌≤◌}
use native.Mathlib.Omega.{arith}
use lib.ListN.{take}
use Rattle.runs.specs.Runs.{word_at}
use Rattle.words.specs.Words.{read_word}
use Rattle.std.specs.Prelude.{Ok}
use Rattle.words.specs.declared.word.Word.TheVariants as v
use Rattle.engine.specs.declared.context.Context.{Context}
use Rattle.engine.specs.declared.kept.Engine.{Engine}
use Rattle.engine.specs.declared.kept.Kept.{Kept}
use Rattle.engine.specs.declared.machine.Event.{Event}
use Rattle.engine.specs.declared.machine.Event.TheVariants as e
use Rattle.engine.specs.declared.machine.Machine.{Machine}
use Rattle.engine.specs.Kept.{kept_with, newest, dropped, begun, pushed, popped, called, returned}
use Rattle.engine.specs.Changes.{with_place}
use Rattle.engine.specs.Command.{obeys}
use Rattle.engine.specs.Machine.{Steps, steps_by, steps}
use Rattle.engine.specs.Run.{State, place_of, settled, event_of, next_of}
use Rattle.engine.proofs.Four.{by-four}
use Rattle.engine.specs.Saves.{saved, Whole, Saved, Restored, after_saves, KeptAsSaid}

-- what holds of every array of four with a count of 0 to 4 holds of all that is whole
by_count : (P : ℕ → Type 0) → P 0 → P 1 → P 2 → P 3 → P 4 → (n : ℕ) → n ≤ 4 → P n
by_count P p0 p1 p2 p3 p4 zero h = p0
by_count P p0 p1 p2 p3 p4 (suc zero) h = p1
by_count P p0 p1 p2 p3 p4 (suc (suc zero)) h = p2
by_count P p0 p1 p2 p3 p4 (suc (suc (suc zero))) h = p3
by_count P p0 p1 p2 p3 p4 (suc (suc (suc (suc zero)))) h = p4
by_count P p0 p1 p2 p3 p4 (suc (suc (suc (suc (suc n))))) h = absurd (omega arith)

abbrev kept : List Context → ℕ → Kept
kept l n = record { contexts = l; count = n }

by_whole : (P : Kept → Type 0) → ((a b c d : Context) (n : ℕ) → n ≤ 4 → P (kept (a ∷ b ∷ c ∷ d ∷ []) n)) → (k : Kept) → Whole k → P k
by_whole P p k w = by-four (λ l. P (kept l k.count)) (λ a b c d. p a b c d k.count w.count) k.contexts w.places

save : (k : Kept) (x : Context) → Whole k → Saved x k (kept_with k x)
unfolding kept_with
save k x =
    by_whole (λ k. Saved x k (kept_with k x))
    (λ a b c d.
    by_count (λ n. Saved x (kept (a ∷ b ∷ c ∷ d ∷ []) n) (kept_with (kept (a ∷ b ∷ c ∷ d ∷ []) n) x))
    (record { list = refl; whole = record { places = refl; count = omega arith } })
    (record { list = refl; whole = record { places = refl; count = omega arith } })
    (record { list = refl; whole = record { places = refl; count = omega arith } })
    (record { list = refl; whole = record { places = refl; count = omega arith } })
    (record { list = refl; whole = record { places = refl; count = omega arith } }))
    k

restore : (k : Kept) → Whole k → Restored (newest k) k (dropped k)
unfolding newest dropped
restore k =
    by_whole (λ k. Restored (newest k) k (dropped k))
    (λ a b c d.
    by_count (λ n. Restored (newest (kept (a ∷ b ∷ c ∷ d ∷ []) n)) (kept (a ∷ b ∷ c ∷ d ∷ []) n) (dropped (kept (a ∷ b ∷ c ∷ d ∷ []) n)))
    (record { context = refl; list = refl; whole = record { places = refl; count = omega arith } })
    (record { context = refl; list = refl; whole = record { places = refl; count = omega arith } })
    (record { context = refl; list = refl; whole = record { places = refl; count = omega arith } })
    (record { context = refl; list = refl; whole = record { places = refl; count = omega arith } })
    (record { context = refl; list = refl; whole = record { places = refl; count = omega arith } }))
    k

start-whole : Whole begun.kept
start-whole = record { places = refl; count = omega arith }

saves-whole : (cs : List Context) → Whole (after_saves cs)
saves-whole [] = start-whole
saves-whole (c ∷ cs) = (save (after_saves cs) c (saves-whole cs)).whole

-- a list cut to four and then to three is cut to three
four-three : {A : Type 0} (l : List A) → take 3 (take 4 l) ≡ take 3 l
four-three [] = refl
four-three (a ∷ []) = refl
four-three (a ∷ b ∷ []) = refl
four-three (a ∷ b ∷ c ∷ l) = refl

saves : (cs : List Context) → saved (after_saves cs) ≡ take 4 cs
saves [] = refl
saves (c ∷ cs) = (save (after_saves cs) c (saves-whole cs)).list ∙ ap (λ l. take 4 (c ∷ l)) (saves cs) ∙ ap (λ l. c ∷ l) (four-three cs)

settled-whole : (event : Event) (x : Engine) → Whole x.kept → Whole (settled event x).kept
unfolding pushed popped called returned
settled-whole e.Quiet x w = w
settled-whole e.Save x w = (save x.kept x.now.context w).whole
settled-whole e.Restore x w = (restore x.kept w).whole
settled-whole (e.Call to) x w = w
settled-whole e.Return x w = w
settled-whole (e.Draw shape) x w = w
settled-whole e.Ended x w = w
settled-whole (e.Fault number) x w = w

next-whole : (list : List ℕ) (memory : ℕ) (x : State) → Whole x.engine.kept → Whole (next_of list memory x).engine.kept
next-whole list memory x w = settled-whole (event_of list memory x) _ w

module _ (list : List ℕ) (memory : ℕ) (x : State) where
  -- the next state, by what the word at the place did
  then-on : Steps → State
  then-on s =
      record {
        engine = settled s.stepped.event (record { now = s.stepped.machine; kept = x.engine.kept });
        handles = s.handles;
      }

  abbrev past : Machine
  past = with_place x.engine.now (place_of x + 4)

  save-word : read_word (word_at list (place_of x)) ≡ Ok v.SaveContext →
      next_of list memory x ≡ record { engine = pushed (record { now = past; kept = x.engine.kept }); handles = x.handles }
  unfolding steps obeys then-on
  save-word h = ap (λ read. then-on (steps_by past x.handles memory read)) h

  restore-word : read_word (word_at list (place_of x)) ≡ Ok v.RestoreContext →
      next_of list memory x ≡ record { engine = popped (record { now = past; kept = x.engine.kept }); handles = x.handles }
  unfolding steps obeys then-on
  restore-word h = ap (λ read. then-on (steps_by past x.handles memory read)) h

pub kept-as-said : KeptAsSaid
unfolding pushed popped
kept-as-said =
    record {
      start = refl;
      start-whole = start-whole;
      save = save;
      restore = restore;
      saves = saves;
      push = λ e. save e.kept e.now.context;
      push-now = λ e. refl;
      pop = λ e. restore e.kept;
      pop-else = λ e. record { calls = refl; depth = refl; primitive = refl; at = refl; corner = refl };
      next-whole = next-whole;
      save-word = save-word;
      restore-word = restore-word;
    }
