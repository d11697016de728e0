-- What a search through a range of numbers finds, from its end. Assumes nothing.
use mathlib.Core.Path.{◌≡◌, refl, sym, subst, ap, ◌∙◌}
use mathlib.Core.Bool.{Bool, true, false}
use mathlib.Core.List.{List, [], ◌∷◌}
use Prim.Native.Nat.{ℕ, ◌≤◌, ◌<◌}
use native.Mathlib.Omega.{arith}
use denote.Ref.{Bor}
use denote.Param.Members.{Mut}
use Rattle.std.specs.Bool.{⊤}
use Rattle.std.specs.Fn.{CalledAt}
use Rattle.std.specs.Iterator.{Yields, YieldsThen}
use Rattle.std.specs.Iterator.Adapters.{rev_source, rev_steps}
use Rattle.std.specs.List.{FoldsTo}
use Rattle.std.specs.Option.{MatchOption, unwrap_or}
use Rattle.std.specs.declared.iter.Rev.{Rev}
use Rattle.std.specs.declared.ops.Range.{Range}
use Rattle.std.specs.declared.option.Option.{Option}
use Rattle.std.specs.declared.option.Option.TheVariants.{None, Some}
use Rattle.std.proofs.iter.runs.Sources.{nat_range_steps_back}
use Rattle.shape.proofs.Order.{by_order}

-- `rev().find` through a range, whose first number passes, finds the last one that does
module _ {F : Type 0} {g : Mut F (Bor ℕ × Unit {0}) Bool} (f : F) (Yes No : ℕ → Type 0)
    (passes : (x : ℕ) (q : F) → CalledAt g f x true q → Yes x) (fails : (x : ℕ) (q : F) → CalledAt g f x false q → (q ≡ f) × No x) where
  gone : (xs : List ℕ) (s t : Rev (Range ℕ)) (p j : F) → p ≡ f → Yields (rev_steps nat_range_steps_back) s xs t → FoldsTo (λ p x q. CalledAt g p x false q) p xs j →
      (j ≡ f) × ((rev_source t).start ≡ (rev_source s).start) × ((rev_source t).end ≤ (rev_source s).end) × ((k : ℕ) → (rev_source t).end ≤ k → k < (rev_source s).end → No k)
  gone [] s t p j e y d =
      let n : (rev_source s).end ≡ (rev_source t).end = ap (λ (z : Rev (Range ℕ)). (rev_source z).end) y in
      (sym d ∙ e, ap (λ (z : Rev (Range ℕ)). (rev_source z).start) (sym y), omega arith, λ k l m. absurd (omega arith))
  gone (x ∷ xs) s t p j e y d =
      let n = fails x d.0 (subst (λ z. CalledAt g z x false d.0) e d.1) in
      let h = gone xs y.0 t d.0 j n.0 y.2 d.2 in (
        h.0,
        h.1 ∙ y.1.0,
        omega (arith, h.2, y.1.1.2),
        λ k l m. by_order k (rev_source y.0).end (λ a. h.3 k l a) (λ a. subst No (omega (arith, y.1.1.2)) n.1),
      )

  pub last_or_first : (a b : ℕ) (s u : Rev (Range ℕ)) → rev_source s ≡ record { start = a; end = b } → a < b → Yes a → (r : Option ℕ)
      → (xs : List ℕ) × (j : F) × YieldsThen (rev_steps nat_range_steps_back) s xs r u × FoldsTo (λ p x q. CalledAt g p x false q) f xs j × MatchOption r ⊤ (λ x. (h : F) × CalledAt g j x true h)
      → (a ≤ unwrap_or r a) × (unwrap_or r a < b) × Yes (unwrap_or r a) × ((k : ℕ) → unwrap_or r a < k → k < b → No k)
  last_or_first a b s u e some first None d =
      let h = gone d.0 s d.2.0 f d.1 refl d.2.1 d.3 in
      let n = ap (λ (z : Range ℕ). z.start) e in
      let m = ap (λ (z : Range ℕ). z.end) e in
      (omega arith, some, first, λ k l o. h.3 k (omega (arith, h.1, d.2.2.1.0)) (omega arith))
  last_or_first a b s u e some first (Some x) d =
      let h = gone d.0 s d.2.0 f d.1 refl d.2.1 d.3 in
      let n = ap (λ (z : Range ℕ). z.start) e in
      let m = ap (λ (z : Range ℕ). z.end) e in (
        omega (arith, h.1, d.2.2.1),
        omega (arith, h.2, d.2.2.1),
        passes x d.4.0 (subst (λ z. CalledAt g z x true d.4.0) h.0 d.4.1),
        λ k l o. h.3 k (omega (arith, d.2.2.1)) (omega arith),
      )
