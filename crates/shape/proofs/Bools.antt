-- Tests of numbers, and of a number between two others. Assumes nothing.
use mathlib.Core.Path.{◌≡◌, refl, sym, ◌∙◌}
use mathlib.Core.Bool.{Bool, true, false}
use Prim.Native.Nat.{ℕ, ◌≤◌, ◌<◌}
use native.Mathlib.Omega.{arith}
use lib.Dec.{leb, ltb}
use borrow.Author.Tests.{ltb-true, leb-true, leb-false, lt-ltb, le-ltb, le-leb}
use Rattle.truth.proofs.Bools.{both-made, both_true, not_so}
use Rattle.shape.specs.Cover.{between}

pub same_tests : (a b c d : ℕ) → (a ≤ b → c < d) → (b < a → d ≤ c) → leb a b ≡ ltb c d
same_tests a b c d f g = go (leb a b) refl
  where
    go : (t : Bool) → leb a b ≡ t → leb a b ≡ ltb c d
    go true e = e ∙ sym (lt-ltb c d (f (leb-true a b e)))
    go false e = e ∙ sym (le-ltb c d (g (leb-false a b e)))

pub between-true : (first end n : ℕ) → between first end n ≡ true → (first ≤ n) × (n < end)
between-true first end n e =
    let t = both_true (leb first n) (ltb n end) e in
    (leb-true first n t.0, ltb-true n end t.1)

pub between-made : (first end n : ℕ) → first ≤ n → n < end → between first end n ≡ true
between-made first end n h k = both-made (le-leb first n h) (lt-ltb n end k)

pub between_none : (first end n : ℕ) → end ≤ first → between first end n ≡ false
between_none first end n h = not_so _ (λ e. let t = between-true first end n e in omega arith)
