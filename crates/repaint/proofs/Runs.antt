-- How much is ahead of the two lists, that a walk ends.
use mathlib.Core.Bool.{Bool, true, false, ◌||◌}
use mathlib.Core.List.{List}
use mathlib.Core.Path.{◌≡◌, refl, sym, ◌∙◌, ap, subst}
use Rattle.std.specs.Prelude.{Option, Some, None, is_some}
use Prim.Native.Nat.{◌+◌, ◌<◌, ◌≤◌, ℕ}
use native.Mathlib.Omega.{arith}
use lib.ListN.{length}
use Rattle.truth.proofs.Bools.{never}
use Rattle.action.specs.declared.Action.{Action}
use Rattle.std.specs.Option.{option_eq}
use Rattle.action.specs.contracts.ActionPartialEq.TheImpl as action
use Rattle.action.proofs.Sameness.{action_tells}
use Rattle.engine.specs.Running.{actions_left}
use Rattle.engine.specs.declared.running.Run.{Run}
use Rattle.std.specs.Iterator.{YieldsFirst}
use Rattle.repaint.specs.Rows.{passed, with_rest}
use Rattle.engine.specs.Advance.{Advances, heard, then}
use Rattle.engine.specs.Run.{Ran, run}
use Rattle.engine.specs.declared.handles.Handles.{Handles}
use Rattle.engine.specs.declared.kept.Engine.{Engine}
use Rattle.engine.specs.declared.run.Advanced.{Advanced}
use Rattle.engine.specs.declared.run.Find.{Find}
use Rattle.engine.specs.declared.run.Find.TheVariants as f

module _ (a : Bool) (find : Option Action) (rest : List Action) where
  -- a list does not grow
  pub not-longer : (a ≡ true → is_some find ≡ true) → length (passed a find rest) ≤ length (with_rest find rest)
  unfolding passed with_rest
  not-longer = go a find
    where
      go : (a : Bool) (find : Option Action) → (a ≡ true → is_some find ≡ true) → length (passed a find rest) ≤ length (with_rest find rest)
      go true (Some x) d = omega arith
      go true None d = never (d refl)
      go false find d = omega arith

  -- and one that goes on is shorter
  pub shorter : a ≡ true → is_some find ≡ true → length (passed a find rest) < length (with_rest find rest)
  unfolding passed with_rest
  shorter = go a find
    where
      go : (a : Bool) (find : Option Action) → a ≡ true → is_some find ≡ true → length (passed a find rest) < length (with_rest find rest)
      go true (Some x) t d = omega arith
      go true None t d = never d
      go false find t d = never t

-- where one of two goes on, less is ahead of both
pub less-ahead :
    (a b : Bool) (old new : Option Action) (p q : List Action) → a || b ≡ true → (a ≡ true → is_some old ≡ true) → (b ≡ true → is_some new ≡ true) →
    length (passed a old p) + length (passed b new q) < length (with_rest old p) + length (with_rest new q)
less-ahead true b old new p q e d f = omega (arith, shorter true old p refl (d refl), not-longer b new q f)
less-ahead false true old new p q e d f = omega (arith, not-longer false old p d, shorter true new q refl (f refl))
less-ahead false false old new p q e d f = never e

-- what a run came to, with what is left of it, was left of it before
pub came : (before : Run) (here : Option Action) (after : Run) → YieldsFirst actions_left before here after → with_rest here (actions_left after) ≡ actions_left before
unfolding with_rest
came before (Some a) after e = sym e
came before None after e = sym e.0

-- what `==` of an Option of actions answers
pub same_here : (old new : Option Action) → option_eq (action.ghosts).eq old new ≡ true → old ≡ new
same_here (Some a) (Some b) e = ap (λ (x : Action). Some x) ((action_tells a b).holds e)
same_here (Some a) None e = never e
same_here None (Some b) e = never e
same_here None None e = refl

pub apart_here : (old new : Option Action) → option_eq (action.ghosts).eq old new ≡ false → old ≡ new → ⊥
apart_here old new e s = go old (subst (λ (n : Option Action). option_eq (action.ghosts).eq old n ≡ false) (sym s) e)
  where
    go : (find : Option Action) → option_eq (action.ghosts).eq find find ≡ false → ⊥
    go (Some a) f = never (sym f ∙ (action_tells a a).told refl)
    go None f = never (sym f)

-- the action that a run came to, as `advance` tells it
abbrev pub come_to : Find → Option Action
come_to (f.Drew a) = Some a
come_to (f.Over stop) = None

then-actions : (k : ℕ) (find : Find) (rest : Ran) → (heard true (then k find rest)).actions ≡ with_rest (come_to find) rest.actions
unfolding heard then with_rest
then-actions k (f.Drew a) rest = refl
then-actions k (f.Over stop) rest = refl

module _ {list : List ℕ} {memory left : ℕ} {engine : Engine} {handles after : Handles} {next : Advanced}
    (went : Advances list memory left true (record { engine = engine; handles = handles }) next after) where
  -- what is ahead after a run went on
  pub went_on : with_rest (come_to next.find) (run list memory next.left (record { engine = next.engine; handles = after })).actions
      ≡ (run list memory left (record { engine = engine; handles = handles })).actions
  unfolding heard
  went_on = sym (ap (λ (r : Ran). r.actions) went.whole ∙ then-actions _ _ _)
