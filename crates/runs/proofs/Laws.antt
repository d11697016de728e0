-- Laws of bytes laid over a run and of a part of one. Assumes nothing.
use mathlib.Core.List.{List, [], ◌∷◌, ◌++◌, append_assoc}
use mathlib.Core.Path.{◌≡◌, sym, ap, ◌∙◌}
use Prim.Native.Nat.{ℕ, suc, ◌+◌, ◌-◌, ◌<◌, ◌≤◌}
use native.Mathlib.Nat.{add-sub_cancel_left, add-suc, add-zero, suc-add}
use native.Mathlib.Omega.{arith}
use lib.ListN.{length, get_or, set, take, drop, length-append, length-take, length-drop, take-append-drop, get_or-append}
use lib.Seq.{drop-cons, drop-drop, get_or-append-add, get_or-drop, get_or-take, length-take-le, set_at, take-suc}
use Rattle.runs.specs.Runs.{laid, part}

pub laid-long : (at : ℕ) (new run : List ℕ) → at + length new ≤ length run → length (laid at new run) ≡ length run
unfolding laid
laid-long at new run h = simp (length-append, length-take, length-drop) (omega arith)

pub part-long : (at count : ℕ) (run : List ℕ) → at + count ≤ length run → length (part at count run) ≡ count
unfolding part
part-long at count run h = simp (length-take, length-drop) (omega arith)

-- what a part that was lent to a call leaves, and the part that is lent
pub laid-lent : (a count : ℕ) (new run : List ℕ) → a + count ≤ length run → length new ≡ count
    → take a run ++ (new ++ drop (a + count - a) (drop a run)) ≡ laid a new run
unfolding laid
laid-lent a count new run h e = rw (add-sub_cancel_left, drop-drop, e)

pub lent-part : (a count : ℕ) (run : List ℕ) → take (a + count - a) (drop a run) ≡ part a count run
unfolding part
lent-part a count run = rw add-sub_cancel_left

pub lent-part-long : (a count : ℕ) (run : List ℕ) → a + count ≤ length run → length (take (a + count - a) (drop a run)) ≡ count
lent-part-long a count run h = ap length (lent-part a count run) ∙ part-long a count run h

pub laid_none : (at : ℕ) (run : List ℕ) → at ≤ length run → laid at [] run ≡ run
unfolding laid
laid_none at run h = rw (add-zero, take-append-drop)

-- the byte at a place
pub laid-inside : (at : ℕ) (new run : List ℕ) (j : ℕ) → j < length new → at + length new ≤ length run → get_or (laid at new run) (at + j) 0 ≡ get_or new j 0
unfolding laid
laid-inside at new run j l h =
    let n : length (take at run) ≡ at = length-take-le at run (omega arith) in
    rw n at (get_or-append-add (take at run) (new ++ drop (at + length new) run) j 0) ∙ get_or-append new (drop (at + length new) run) 0 j l

pub laid-before : (at : ℕ) (new run : List ℕ) (k : ℕ) → k < at → at + length new ≤ length run → get_or (laid at new run) k 0 ≡ get_or run k 0
unfolding laid
laid-before at new run k l h =
    let n : length (take at run) ≡ at = length-take-le at run (omega arith) in
    get_or-append (take at run) (new ++ drop (at + length new) run) 0 k (omega arith) ∙ get_or-take at run k 0 l

pub laid-past : (at : ℕ) (new run : List ℕ) (k : ℕ) → at + length new ≤ k → at + length new ≤ length run → get_or (laid at new run) k 0 ≡ get_or run k 0
unfolding laid
laid-past at new run k l h =
    let rest = drop (at + length new) run in
    let n : length (take at run ++ new) ≡ at + length new = simp (length-append, length-take) (omega arith) in
    let e : k ≡ at + length new + (k - (at + length new)) = omega arith in
    let past = rw n at (get_or-append-add (take at run ++ new) rest (k - (at + length new)) 0) ∙ get_or-drop (at + length new) run (k - (at + length new)) 0 in
    rw (append_assoc, ← e) at past

-- one byte more, behind or in front
pub laid-snoc : (at : ℕ) (new run : List ℕ) (b : ℕ) → at + length new < length run → laid at (new ++ (b ∷ [])) run ≡ set (laid at new run) (at + length new) b
unfolding laid
laid-snoc at new run b h =
    let rest = drop (suc (at + length new)) run in
    let n : length (take at run ++ new) ≡ at + length new = simp (length-append, length-take) (omega arith) in
    let e : at + length (new ++ (b ∷ [])) ≡ suc (at + length new) = simp length-append (omega arith) in
    ap (λ (k : ℕ). take at run ++ ((new ++ (b ∷ [])) ++ drop k run)) e
    ∙ ap (λ (l : List ℕ). take at run ++ l) (append_assoc new (b ∷ []) rest)
    ∙ sym (append_assoc (take at run) new (b ∷ rest))
    ∙ sym (set_at (take at run ++ new) (get_or run (at + length new) 0) rest b (at + length new) n)
    ∙ ap (λ (l : List ℕ). set l (at + length new) b)
    (append_assoc (take at run) new (get_or run (at + length new) 0 ∷ rest) ∙ ap (λ (l : List ℕ). take at run ++ (new ++ l)) (sym (drop-cons run (at + length new) 0 h)))

pub laid_cons : (at : ℕ) (new run : List ℕ) (b : ℕ) → at < length run → laid at (b ∷ new) run ≡ set (laid (suc at) new run) at b
unfolding laid
laid_cons at new run b h =
    let rest = new ++ drop (suc at + length new) run in
    ap (λ (k : ℕ). take at run ++ (b ∷ (new ++ drop k run))) (add-suc at (length new) ∙ sym (suc-add at (length new)))
    ∙ sym (set_at (take at run) (get_or run at 0) rest b at (length-take-le at run (omega arith)))
    ∙ ap (λ (l : List ℕ). set l at b)
    (sym (append_assoc (take at run) (get_or run at 0 ∷ []) rest) ∙ ap (λ (l : List ℕ). l ++ rest) (sym (take-suc run at 0 h)))

pub part-snoc : (at i : ℕ) (run : List ℕ) → at + i < length run → part at (suc i) run ≡ part at i run ++ (get_or run (at + i) 0 ∷ [])
unfolding part
part-snoc at i run h = take-suc (drop at run) i 0 (simp length-drop (omega arith)) ∙ rw get_or-drop

pub part-cons : (at i : ℕ) (run : List ℕ) → at < length run → part at (suc i) run ≡ get_or run at 0 ∷ part (suc at) i run
unfolding part
part-cons at i run h = ap (take (suc i)) (drop-cons run at 0 h)
