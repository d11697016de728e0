-- The order of kept numbers is that of the integers that they stand for, and every integer from one of these on is kept.
-- Each law holds for any displacement d. Assumes nothing.
use mathlib.Core.Path.{◌≡◌, refl, ap}
use mathlib.Core.Bool.{Bool, true, false}
use Prim.Native.Nat.{ℕ, suc, ◌+◌, ◌-◌, ◌≤◌, ◌<◌}
use native.Mathlib.Omega.{arith}
use lib.Dec.{ltb, leb, leb→le}
use lib.IntN.{ℤ, pos, negsuc, sub_ℕ}
use lib.Signed.{◌≤ℤ◌, ◌<ℤ◌, clash_ℤ}
use borrow.Author.Tests.{lt-ltb, le-ltb, ltb-true, ltb-false, leb-true, le-leb}
use Rattle.units.proofs.AnyDisplacement.{order-meant, strict-meant}
use Rattle.action.specs.Same.{Tells}

-- of two numbers, one is below the other or the other is not above it
pub by_order : {P : Type 0} (a b : ℕ) → (a < b → P) → (b ≤ a → P) → P
by_order {P} a b below from = go (ltb a b) refl
  where
    go : (t : Bool) → ltb a b ≡ t → P
    go true e = below (ltb-true a b e)
    go false e = from (ltb-false a b e)

pub tells-le : (d a b : ℕ) → Tells (leb a b) (sub_ℕ a d ≤ℤ sub_ℕ b d)
tells-le d a b = record {
  holds = λ e. order-meant d a b (leb-true a b e);
  told = λ h. le-leb a b (by_order b a (λ l. clash_ℤ (strict-meant d b a l) h) (λ l. l));
}

pub tells-lt : (d a b : ℕ) → Tells (ltb a b) (sub_ℕ a d <ℤ sub_ℕ b d)
tells-lt d a b = record {
  holds = λ e. strict-meant d a b (ltb-true a b e);
  told = λ h. lt-ltb a b (by_order a b (λ l. l) (λ l. clash_ℤ h (order-meant d b a l)));
}

-- an integer from a kept one on is kept too
pub record Kept (d : ℕ) (z : ℤ) : Type 0 where
  pub number : ℕ
  pub meant : sub_ℕ number d ≡ z

below-kept : (d a n : ℕ) → sub_ℕ a d ≤ℤ negsuc n → suc n ≤ d
below-kept d a n h = by_order a d (λ l. below l) (λ l. absurd (above l))
  where
    below : a < d → suc n ≤ d
    below l =
        let k : negsuc (d - suc a) ≤ℤ negsuc n = rw (lt-ltb a d l) at h in
        omega (arith, leb→le n (d - suc a) k.le)

    above : d ≤ a → ⊥
    above l = let k : pos (a - d) ≤ℤ negsuc n = rw (le-ltb a d l) at h in k.le

pub kept_from : (d a : ℕ) (z : ℤ) → sub_ℕ a d ≤ℤ z → Kept d z
kept_from d a (pos n) h =
    record { number = n + d; meant = rw (le-ltb (n + d) d (omega arith)) (ap pos (omega arith)) }
kept_from d a (negsuc n) h =
    let k : suc n ≤ d = below-kept d a n h in
    record { number = d - suc n; meant = rw (lt-ltb (d - suc n) d (omega arith)) (ap negsuc (omega arith)) }
