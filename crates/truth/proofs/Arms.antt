-- What the last arm of a match on a number knows. Assumes nothing.
use mathlib.Core.Path.{◌≡◌}
use Prim.Native.Nat.{ℕ, zero, suc, ◌≤◌}
use native.Mathlib.Omega.{arith}

-- a number that is none of 0 to n - 1
abbrev pub NoneBelow : ℕ → ℕ → Type 0
NoneBelow zero k = Unit
NoneBelow (suc n) k = NoneBelow n k × (k ≡ n → ⊥)

pub past : (n k : ℕ) → NoneBelow n k → n ≤ k
past zero k h = omega arith
past (suc n) k h = let p : n ≤ k = past n k h.0 in let q : k ≡ n → ⊥ = h.1 in omega arith
