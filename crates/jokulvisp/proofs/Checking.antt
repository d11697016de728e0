-- The answer of a call on one list: when it is not a refusal, and that no second answer of jv_check fits. Assumes nothing.
use mathlib.Core.Path.{◌≡◌, refl, sym, ◌∙◌}
use mathlib.Core.Bool.{Bool, true, false, cond, not, ◌&&◌}
use mathlib.Core.List.{List}
use Prim.Native.Nat.{ℕ, zero, suc, ◌≤◌}
use native.Mathlib.Omega.{arith}
use lib.Dec.{leb}
use lib.ListN.{length}
use borrow.Author.Tests.{leb-true}
use Rattle.truth.proofs.Bools.{answered-no, answered-yes, both-alike, both_true}
use Rattle.engine.specs.Run.{Ran, number_told, run_of, most_list, most_memory}
use Rattle.units.specs.Units.{tallest, widest}
use Rattle.jokulvisp.specs.declared.check.JvAnswer.{JvAnswer}
use Rattle.jokulvisp.specs.Check.{is_frame, is_list, is_memory, is_limit, refusal_of, refused, unless_refused, answer_of, CheckAnswer}

pub check-once : (list : List ℕ) (memory width height limit : ℕ) (a b : JvAnswer) → CheckAnswer list memory width height limit a → CheckAnswer list memory width height limit b → a ≡ b
unfolding CheckAnswer
check-once list memory width height limit a b p q = p ∙ sym q

-- a refusal carries its number and nothing else
pub told-refused : (n : ℕ) (r : Ran) → (n ≡ 0 → ⊥) → unless_refused n r ≡ refused n
told-refused zero r h = absurd (h refl)
told-refused (suc n) r h = refl

told-done : (n : ℕ) (r : Ran) → (unless_refused n r).number ≡ 0 → n ≡ 0
told-done zero r e = refl
told-done (suc n) r e = e

told-drew : (n : ℕ) (r : Ran) → (unless_refused n r).number ≡ 0 → (number_told r.stop) ≡ 0
told-drew zero r e = e
told-drew (suc n) r e = absurd (omega (arith, e))

-- the test for number 1, made with the answer of `is_frame`
pub no-frame : (answer frame lent : Bool) → answer ≡ frame → not (answer && lent) ≡ true → (frame && lent) ≡ false
no-frame answer frame lent e h = answered-no (both-alike e refl) h

pub a-frame : (answer frame lent : Bool) → answer ≡ frame → not (answer && lent) ≡ false → (frame && lent) ≡ true
a-frame answer frame lent e h = answered-yes (both-alike e refl) h

-- what is not refused is within its limits
pub record Admitted (l m w h : ℕ) (lent : Bool) : Type 0 where
  pub list : l ≤ most_list
  pub memory : m ≤ most_memory
  pub width : w ≤ widest
  pub height : h ≤ tallest
  pub runs : lent ≡ true

pub list-within : (n : ℕ) → is_list n ≡ true → n ≤ most_list
unfolding is_list
list-within n e = leb-true n most_list (both_true (leb 4 n) _ (both_true (leb 4 n && leb n most_list) _ e).0).1

pub memory-within : (n : ℕ) → is_memory n ≡ true → n ≤ most_memory
unfolding is_memory
memory-within n e = leb-true n most_memory e

pub width-within : (w h : ℕ) → is_frame w h ≡ true → w ≤ widest
unfolding is_frame
width-within w h e = leb-true w widest (both_true (leb 1 w) _ (both_true (leb 1 w && leb w widest) _ e).0).1

pub height-within : (w h : ℕ) → is_frame w h ≡ true → h ≤ tallest
unfolding is_frame
height-within w h e = leb-true h tallest (both_true (leb 1 h) _ (both_true (leb 1 w && leb w widest) _ e).1).1

-- the tests that it passed
pub record Passed (l m w h k : ℕ) (lent : Bool) : Type 0 where
  pub frame : is_frame w h ≡ true
  pub runs : lent ≡ true
  pub list : is_list l ≡ true
  pub memory : is_memory m ≡ true
  pub limit : is_limit k ≡ true

abbrev refusal : Bool → Bool → Bool → Bool → ℕ
refusal f l m k = cond f (cond l (cond m (cond k 0 4) 3) 2) 1

passed : (list memory width height limit : ℕ) (lent : Bool) → refusal_of list memory width height limit lent ≡ 0 → Passed list memory width height limit lent
unfolding refusal_of
passed list memory width height limit lent = go (is_frame width height && lent) (is_list list) (is_memory memory) (is_limit limit) refl refl refl refl
  where
    go :
        (f l m k : Bool) → (is_frame width height && lent) ≡ f → is_list list ≡ l → is_memory memory ≡ m → is_limit limit ≡ k →
        refusal f l m k ≡ 0 → Passed list memory width height limit lent
    go true true true true o p q r e =
        record { frame = (both_true (is_frame width height) lent o).0; runs = (both_true (is_frame width height) lent o).1; list = p; memory = q; limit = r }
    go false l m k o p q r e = absurd (omega arith)
    go true false m k o p q r e = absurd (omega arith)
    go true true false k o p q r e = absurd (omega arith)
    go true true true false o p q r e = absurd (omega arith)

pub admitted : (list memory width height limit : ℕ) (lent : Bool) → refusal_of list memory width height limit lent ≡ 0 → Admitted list memory width height lent
admitted list memory width height limit lent e =
    let p = passed list memory width height limit lent e in
    record {
      list = list-within list p.list;
      memory = memory-within memory p.memory;
      width = width-within width height p.frame;
      height = height-within width height p.frame;
      runs = p.runs;
    }

-- with number 0 nothing is refused
pub done : (list : List ℕ) (memory width height limit : ℕ) (lent : Bool) → (answer_of list memory width height limit lent).number ≡ 0 → Admitted (length list) memory width height lent
unfolding answer_of
done list memory width height limit lent e = admitted (length list) memory width height limit lent (told-done (refusal_of (length list) memory width height limit lent) _ e)

-- and the list drew
pub drew :
    (list : List ℕ) (memory width height limit : ℕ) (lent : Bool) → (answer_of list memory width height limit lent).number ≡ 0 →
    Passed (length list) memory width height limit lent × ((number_told (run_of list memory limit).stop) ≡ 0)
unfolding answer_of
drew list memory width height limit lent e =
    let refusal = refusal_of (length list) memory width height limit lent in
    let r = run_of list memory limit in
    (passed (length list) memory width height limit lent (told-done refusal r e), told-drew refusal r e)
