-- A word stored byte by byte, and a turn of each of the loops that copy within a run. Assumes nothing.
use mathlib.Core.List.{List, [], ◌∷◌}
use mathlib.Core.Path.{◌≡◌}
use Prim.Native.Nat.{ℕ, suc, ◌+◌, ◌-◌, ◌<◌, ◌≤◌}
use native.Mathlib.Nat.{add-zero}
use native.Mathlib.Numerals.{add-one}
use native.Mathlib.Omega.{arith}
use lib.ListN.{length, get_or, set}
use Rattle.runs.specs.Runs.{laid, part}
use Rattle.runs.proofs.Laws.{laid-before, laid_cons, laid_none, laid-past, laid-snoc, part-cons, part-long, part-snoc}

pub four-stored : (at : ℕ) (run : List ℕ) (a b c d : ℕ) → at + 4 ≤ length run
    → set (set (set (set run at a) (at + 1) b) (at + 2) c) (at + 3) d ≡ laid at (a ∷ b ∷ c ∷ d ∷ []) run
four-stored at run a b c d h =
    let one : laid at (a ∷ []) run ≡ set run at a = rw (add-zero, laid_none at run (omega arith)) at (laid-snoc at [] run a (omega arith)) in
    rw (laid-snoc at (a ∷ b ∷ c ∷ []) run d (omega arith), laid-snoc at (a ∷ b ∷ []) run c (omega arith), laid-snoc at (a ∷ []) run b (omega arith), one)

module _ (target source count i : ℕ) (run : List ℕ) where
  -- front to back: what is read lies past what is laid
  pub down-more : target ≤ source → source + count ≤ length run → i < count
      → set (laid target (part source i run) run) (target + i) (get_or (laid target (part source i run) run) (source + i) 0) ≡ laid target (part source (i + 1) run) run
  down-more p h l =
      let n : length (part source i run) ≡ i = part-long source i run (omega arith) in
      let read : get_or (laid target (part source i run) run) (source + i) 0 ≡ get_or run (source + i) 0 = laid-past target (part source i run) run (source + i) (omega arith) (omega arith) in
      let more = laid-snoc target (part source i run) run (get_or run (source + i) 0) (omega arith) in
      rw (read, add-one, part-snoc source i run (omega arith), more, n)

  -- back to front: what is read lies before what is laid
  pub up_more : source ≤ target → target + count ≤ length run → 0 < i → i ≤ count
      → set (laid (target + i) (part (source + i) (count - i) run) run) (target + (i - 1)) (get_or (laid (target + i) (part (source + i) (count - i) run) run) (source + (i - 1)) 0)
      ≡ laid (target + (i - 1)) (part (source + (i - 1)) (count - (i - 1)) run) run
  up_more p h z l =
      let n : length (part (source + i) (count - i) run) ≡ count - i = part-long (source + i) (count - i) run (omega arith) in
      let read : get_or (laid (target + i) (part (source + i) (count - i) run) run) (source + (i - 1)) 0 ≡ get_or run (source + (i - 1)) 0 = laid-before (target + i) (part (source + i) (count - i) run) run (source + (i - 1)) (omega arith) (omega arith) in
      let t : suc (target + (i - 1)) ≡ target + i = omega arith in
      let s : suc (source + (i - 1)) ≡ source + i = omega arith in
      let m : count - (i - 1) ≡ suc (count - i) = omega arith in
      let more = laid_cons (target + (i - 1)) (part (source + i) (count - i) run) run (get_or run (source + (i - 1)) 0) (omega arith) in
      rw (read, m, part-cons (source + (i - 1)) (count - i) run (omega arith), s, more, t)
