use mathlib.Core.Path.{◌∙◌, sym}
use borrow.Author.Tests.{eqb-true}
use Rattle.truth.proofs.Bools.{both_true}
use Rattle.pixel.proofs.Short.{nothing-cleared, wiped}
use Rattle.pixel.proofs.plain.plain_clear.Goals as goal

pub returns-then-not-is_any : goal.returns-then-not-is_any
returns-then-not-is_any c =
    nothing-cleared _ _ (sym c.is_any.ensures ∙ c.if-not-is_any.true)

pub returns-then-all_flags-all_set : goal.returns-then-all_flags-all_set
returns-then-all_flags-all_set c =
    let t = both_true _ _ c.if-all_flags-all_set.true in
    let s = both_true _ _ t.0 in
    rw (c.byte-then-all_flags-all_set-6.ensures, c.byte-then-all_flags-all_set-5.ensures, c.byte-then-all_flags-all_set-4.ensures, c.byte-then-all_flags-all_set-3.ensures, c.byte-then-all_flags-all_set-2.ensures, c.byte-then-all_flags-all_set.ensures)
    (wiped _ _ (sym c.all_flags.ensures ∙ s.0) (sym c.all_set.ensures ∙ s.1) (sym c.byte.ensures ∙ eqb-true _ _ t.1))
