-- The numbers of a valid state name what the guide's tables name, and a vertex lies where document 01 places it. Assumes nothing.
use mathlib.Core.Path.{◌≡◌}
use mathlib.Core.Bool.{true, ◌||◌}
use mathlib.Core.Logic.{inl, inr, ⊎_elim}
use Prim.Native.Nat.{ℕ}
use native.Mathlib.Omega.{arith}
use lib.Dec.{eqb}
use borrow.Author.Tests.{eqb-true}
use Rattle.truth.proofs.Bools.{either_true}
use Rattle.action.specs.Numbers.{format_number, format_of}
use Rattle.action.proofs.Naming.{test-number, stencil-action-number, factor-number, format-number}
use Rattle.engine.specs.declared.context.Brush.{Brush}
use Rattle.engine.specs.Drawn.{drawn_format}
use Rattle.invariant.specs.Numbers.{NamedBrush, NumbersMeant}
use Rattle.invariant.specs.State.{ValidBrush}
use Rattle.invariant.proofs.Vertices.{vertices-meant}

brush-named : (b : Brush) → ValidBrush b → NamedBrush b
brush-named b v = record {
  alphatest = test-number b.alphatest (omega arith);
  stenciltest = test-number b.stenciltest (omega arith);
  fail = stencil-action-number b.fail (omega arith);
  pass = stencil-action-number b.pass (omega arith);
  source = factor-number b.source (omega arith);
  target = factor-number b.target (omega arith);
}

format-named : (n : ℕ) → drawn_format n ≡ true → format_number (format_of n) ≡ n
unfolding drawn_format
format-named n e =
    format-number n
    (⊎_elim
    (λ f. ⊎_elim (λ a. inl (inl (eqb-true _ _ a))) (λ b. inl (inr (eqb-true _ _ b))) (either_true (eqb n 0) _ f))
    (λ c. inr (eqb-true _ _ c))
    (either_true (eqb n 0 || eqb n 3) _ e))

pub numbers-meant : NumbersMeant
numbers-meant = record {
  brushes = brush-named;
  formats =
      λ hs v. record {
        format = λ handle layout e. format-named _ (v.format handle layout e);
        drawn-with = λ handle h e. format-named _ (v.drawn-with handle h e);
      };
  vertices = vertices-meant;
}
