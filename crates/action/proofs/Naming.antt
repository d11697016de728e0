-- A number names one case, and a case has one number. Assumes nothing.
use mathlib.Core.Path.{◌≡◌, refl, ◌∙◌}
use mathlib.Core.List.{List, [], ◌∷◌}
use mathlib.Core.Logic.{◌⊎◌, inl, inr}
use Prim.Native.Nat.{ℕ, zero, suc, ◌+◌, ◌≤◌, ◌<◌}
use native.Mathlib.Nat.{le_of_suc-le-suc, not-suc-le-zero}
use native.Mathlib.Omega.{arith}
use lib.ListN.{length, get_or}
use Rattle.action.specs.declared.numbers.Test.{Test}
use Rattle.action.specs.declared.numbers.Test.TheVariants as t
use Rattle.action.specs.declared.numbers.StencilAction.{StencilAction}
use Rattle.action.specs.declared.numbers.StencilAction.TheVariants as s
use Rattle.action.specs.declared.numbers.Factor.{Factor}
use Rattle.action.specs.declared.numbers.Factor.TheVariants as f
use Rattle.action.specs.declared.numbers.Format.{Format}
use Rattle.action.specs.declared.numbers.Format.TheVariants as m
use Rattle.action.specs.Numbers.{test_number, test_of, tests, stencil_action_number, stencil_action_of, stencil_actions, factor_number, factor_of, factors, format_number, format_of}

-- the entries of a table and the case after the last have the numbers from i on
abbrev Counted : {A : Type 0} → (A → ℕ) → ℕ → List A → A → Type 0
Counted number i [] last = number last ≡ i
Counted number i (x ∷ xs) last = (number x ≡ i) × Counted number (suc i) xs last

counted-at : {A : Type 0} (number : A → ℕ) (i : ℕ) (xs : List A) (last : A) → Counted number i xs last → (n : ℕ) → n ≤ length xs → number (get_or xs n last) ≡ i + n
counted-at number i [] last h zero l = omega (arith, h)
counted-at number i [] last h (suc n) l = absurd (not-suc-le-zero l)
counted-at number i (x ∷ xs) last h zero l = omega (arith, h.0)
counted-at number i (x ∷ xs) last h (suc n) l =
    counted-at number (suc i) xs last h.1 n (le_of_suc-le-suc l) ∙ omega arith

pub test-number : (n : ℕ) → n < 8 → test_number (test_of n) ≡ n
unfolding test_number test_of
test-number n h =
    counted-at test_number 0 tests t.Always
    (refl, (refl, (refl, (refl, (refl, (refl, (refl, refl)))))))
    n
    (omega arith)
    ∙ omega arith

pub test-of : (a : Test) → test_of (test_number a) ≡ a
unfolding test_number test_of
test-of t.Never = refl
test-of t.Less = refl
test-of t.LessOrEqual = refl
test-of t.Greater = refl
test-of t.GreaterOrEqual = refl
test-of t.Equal = refl
test-of t.NotEqual = refl
test-of t.Always = refl

pub stencil-action-number : (n : ℕ) → n < 6 → stencil_action_number (stencil_action_of n) ≡ n
unfolding stencil_action_number stencil_action_of
stencil-action-number n h =
    counted-at stencil_action_number 0 stencil_actions s.Invert
    (refl, (refl, (refl, (refl, (refl, refl)))))
    n
    (omega arith)
    ∙ omega arith

pub stencil-action-of : (a : StencilAction) → stencil_action_of (stencil_action_number a) ≡ a
unfolding stencil_action_number stencil_action_of
stencil-action-of s.Zero = refl
stencil-action-of s.Keep = refl
stencil-action-of s.Replace = refl
stencil-action-of s.Incr = refl
stencil-action-of s.Decr = refl
stencil-action-of s.Invert = refl

pub factor-number : (n : ℕ) → n < 6 → factor_number (factor_of n) ≡ n
unfolding factor_number factor_of
factor-number n h =
    counted-at factor_number 0 factors f.OneMinusDstAlpha
    (refl, (refl, (refl, (refl, (refl, refl)))))
    n
    (omega arith)
    ∙ omega arith

pub factor-of : (a : Factor) → factor_of (factor_number a) ≡ a
unfolding factor_number factor_of
factor-of f.Zero = refl
factor-of f.One = refl
factor-of f.SrcAlpha = refl
factor-of f.DstAlpha = refl
factor-of f.OneMinusSrcAlpha = refl
factor-of f.OneMinusDstAlpha = refl

pub format-number : (n : ℕ) → ((n ≡ 0) ⊎ (n ≡ 3)) ⊎ (n ≡ 7) → format_number (format_of n) ≡ n
unfolding format_number format_of
format-number n (inl (inl e)) = rw e
format-number n (inl (inr e)) = rw e
format-number n (inr e) = rw e

pub format-of : (a : Format) → format_of (format_number a) ≡ a
unfolding format_number format_of
format-of m.Argb1555 = refl
format-of m.L8 = refl
format-of m.Rgb565 = refl
