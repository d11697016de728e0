-- What commands leave of a run of which they are lent a part, in the words of the definitions. Assumes nothing.
use mathlib.Core.Path.{◌≡◌, sym, ◌∙◌, ap}
use mathlib.Core.List.{List, [], ◌++◌, append_assoc, append-nil}
use Prim.Native.Nat.{ℕ, ◌+◌, ◌-◌, ◌≤◌, zero-le}
use native.Mathlib.Nat.{add-sub_cancel_left, le_refl, zero-add}
use native.Mathlib.Omega.{arith}
use lib.ListN.{length, take, drop, replicate, length-drop, length-replicate, drop_of_length-le}
use lib.Seq.{drop-drop, paste, take_all}
use Rattle.runs.specs.Runs.{laid, part}
use Rattle.ring.specs.Host.{laid_around}
use Rattle.runs.proofs.Laws.{laid-lent, laid_none, lent-part, lent-part-long, part-long}

-- a part that was flooded
pub flooded : (at count b : ℕ) (run new : List ℕ) → at + count ≤ length run → new ≡ replicate (length (take (at + count - at) (drop at run))) b
    → laid at (replicate count b) run ≡ take at run ++ (new ++ drop (at + count - at) (drop at run))
flooded at count b run new h e =
    let n = lent-part-long at count run h in
    let f : new ≡ replicate count b = e ∙ ap (λ (k : ℕ). replicate k b) n in
    sym (rw f (laid-lent at count (replicate count b) run h (length-replicate count b)))

-- a part of one run copied over a part of another
pub copied-part : (at count : ℕ) (run : List ℕ) (source : ℕ) (from new : List ℕ) → at + count ≤ length run → source + count ≤ length from
    → new ≡ take (source + count - source) (drop source from)
    → laid at (part source count from) run ≡ take at run ++ (new ++ drop (at + count - at) (drop at run))
copied-part at count run source from new h k e =
    let f : new ≡ part source count from = rw (lent-part source count from) at e in
    sym (rw f (laid-lent at count (part source count from) run h (part-long source count from k)))

-- a part of a run copied within it
pub copied-within : (target source count : ℕ) (run : List ℕ) → source + count ≤ length run
    → laid target (part source count run) run ≡ paste run target (drop source run) (source + count - source)
unfolding laid part
copied-within target source count run h =
    let n : length (take count (drop source run)) ≡ count = part-long source count run h in
    rw (n, add-sub_cancel_left) (sym (append_assoc (take target run) (take count (drop source run)) (drop (target + count) run)))

-- bytes copied over the end of a run, from a place on
pub copied_tail : (at n : ℕ) (run src new : List ℕ) → length run ≡ n → at + length src ≤ n
    → new ≡ src ++ drop (length src) (take (n - at) (drop at run))
    → take at run ++ (new ++ drop (n - at) (drop at run)) ≡ laid at src run
unfolding laid
copied_tail at n run src new l h e =
    let t : take (n - at) (drop at run) ≡ drop at run = take_all (n - at) (drop at run) (simp length-drop (omega arith)) in
    let d : drop (n - at) (drop at run) ≡ [] = drop_of_length-le (drop at run) {i = n - at} (simp length-drop (omega arith)) in
    rw (e, t, d, append-nil, drop-drop)

-- bytes that end before the ring does, and bytes that go on from its start
pub short-around : (at : ℕ) (words ring : List ℕ) → length ring ≡ 4096 → at + length words ≤ 4096 → laid_around at words ring ≡ laid at words ring
unfolding laid_around
short-around at words ring n h =
    let d : drop (4096 - at) words ≡ [] = drop_of_length-le words {i = 4096 - at} (omega arith) in
    rw (d, take_all (4096 - at) words (omega arith)) (laid_none 0 (laid at words ring) zero-le)

pub long-around : (at : ℕ) (words ring ring' : List ℕ) → ring' ≡ laid at (take (4096 - at) words) ring
    → laid_around at words ring ≡ drop (4096 - at) words ++ drop (length (drop (4096 - at) words)) ring'
unfolding laid_around laid
long-around at words ring ring' e = rw (e, zero-add)

-- a whole run copied over another of its length
pub copied : (src dst : List ℕ) → length src ≡ length dst → take (length src) src ++ drop (length src) dst ≡ src
copied src dst e =
    let n : length dst ≤ length src = omega arith in
    rw (take_all (length src) src (le_refl _), drop_of_length-le dst n, append-nil)

-- a run copied over a part of another
pub copied-over : (at count : ℕ) (run src new : List ℕ) → at + count ≤ length run → length src ≡ count → new ≡ src
    → laid at src run ≡ take at run ++ (new ++ drop (at + count - at) (drop at run))
copied-over at count run src new h n e = sym (rw e (laid-lent at count src run h n))
