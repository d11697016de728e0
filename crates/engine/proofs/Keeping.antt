-- The kept contexts in a run: their array stays four long, and what a restore loads is the newest. Assumes nothing.
use mathlib.Core.Path.{◌≡◌, refl, ap, sym, ◌∙◌}
use mathlib.Core.Bool.{Bool, true, false, false≢true, cond}
use mathlib.Core.List.{List, [], ◌∷◌, ◌++◌}
use Prim.Native.Nat.{ℕ, zero, suc, ◌-◌, ◌<◌, ◌≤◌}
use native.Mathlib.Omega.{arith}
use lib.Dec.{eqb, ltb, leb}
use lib.ListN.{length, get_or, drop, length-set, get_or-eq_default}
use borrow.Author.Tests.{lt-ltb, ltb-true, leb-true, leb-false, ne_eqb}
use Rattle.engine.specs.declared.context.Context.{Context}
use Rattle.engine.specs.declared.kept.Kept.{Kept}
use Rattle.engine.specs.Context.{starting}
use Rattle.engine.specs.Kept.{kept_with, newest, dropped}
use Rattle.engine.specs.Advance.{is_kept}
use Rattle.truth.proofs.Bools.{both_true}
use Rattle.engine.proofs.Four.{any, by-four}

pub some-kept : (n : ℕ) → is_kept n ≡ true → (0 < n) × (n ≤ 4)
unfolding is_kept
some-kept n e =
    let t = both_true _ _ e in
    (ltb-true 0 n t.0, leb-true n 4 t.1)

pub four-kept : (k : Kept) (c : Context) → length k.contexts ≡ 4 → length (kept_with k c).contexts ≡ 4
unfolding kept_with
four-kept k c h = go (ltb k.count 4) refl
  where
    go : (t : Bool) → ltb k.count 4 ≡ t → length (kept_with k c).contexts ≡ 4
    go true e = rw e (length-set k.contexts k.count c ∙ h)
    go false e = rw e (by-four (λ l. length (drop 1 l ++ (c ∷ [])) ≡ 4) (λ _ _ _ _. refl) k.contexts h)

pub newest-there : (k : Kept) (d : Context) → length k.contexts ≡ 4 → is_kept k.count ≡ true → get_or k.contexts (k.count - 1) d ≡ newest k
unfolding newest
newest-there k d h e =
    let s = some-kept k.count e in
    let n : k.count ≡ 0 → ⊥ = λ z. (omega (arith, s.0, z)) in
    rw (ne_eqb _ _ n) (any d starting k.contexts (k.count - 1) (omega (arith, h, s.0, s.1)))

none_kept : (n : ℕ) (l : List Context) → length l ≡ 4 → is_kept n ≡ false → starting ≡ cond (eqb n 0) starting (get_or l (n - 1) starting)
unfolding is_kept
none_kept zero l h e = refl
none_kept (suc m) l h e = go (leb (suc m) 4) refl
  where
    go : (b : Bool) → leb (suc m) 4 ≡ b → starting ≡ cond (eqb (suc m) 0) starting (get_or l (suc m - 1) starting)
    go true q = absurd (false≢true (sym e ∙ rw (lt-ltb 0 (suc m) (omega arith), q)))
    go false q =
        let f : 4 < suc m = leb-false (suc m) 4 q in
        let z : suc m ≡ 0 → ⊥ = λ y. omega (arith, y) in
        rw (ne_eqb _ _ z) (sym (get_or-eq_default l starting (omega (arith, h, f))))

pub newest-none : (k : Kept) → length k.contexts ≡ 4 → is_kept k.count ≡ false → starting ≡ newest k
unfolding newest
newest-none k h e = none_kept k.count k.contexts h e

-- with none kept there is none to drop
pub none_dropped : (k : Kept) → k.count ≡ 0 → k ≡ dropped k
unfolding dropped
none_dropped k z = let e : k.count ≡ k.count - 1 = omega arith in ap (λ (n : ℕ). record { contexts = k.contexts; count = n }) e
