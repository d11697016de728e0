use mathlib.Core.Path.{◌∙◌, sym}
use Rattle.std.proofs.Common.{rules, tests}
use Rattle.std.proofs.iter.runs.Sources.{ranges}
use Rattle.std.proofs.lemmas.Iterator.{first_from_Range}
use Rattle.std.proofs.lemmas.Option.{MatchOption-at_none, MatchOption-at_some}
use Rattle.shape.proofs.Narrowing.{Covers, Misses, columns-narrow, far-narrows, none-narrow}
use Rattle.shape.proofs.Searching.{last_or_first}
use Rattle.shape.proofs.line.columns.Goals as goal

pub returns-then-not-is_short : goal.returns-then-not-is_short
returns-then-not-is_short c =
    rw c.none.ensures (far-narrows _ _ _ (sym c.is_short.ensures ∙ c.if-not-is_short.true))

pub returns-in_default : goal.returns-in_default
returns-in_default c =
    let s = c.args in
    rw c.none-in_default.ensures
    (none-narrow _ _ s.chord c.requires.1 c.near_line-line.result c.near_line-line.ensures c.max-left.result.0 c.min-right.result.0 (search rules) (search rules)
    (MatchOption-at_none _ _ c.in_default.is (first_from_Range _ _ _ _ (Covers s.segment s.q) (Misses s.segment s.q) c.find.ensures.ran (λ x q k. search (rules, tests)) (λ x q k. search (rules, tests)))))

pub overflow_add-last : goal.overflow_add-last
overflow_add-last c = search (rules, ranges)

pub returns : goal.returns
returns c =
    let s = c.args in
    let first =
    MatchOption-at_some _ _ _ c.in-Some.is (first_from_Range _ _ _ _ (Covers s.segment s.q) (Misses s.segment s.q) c.find.ensures.ran (λ x q k. search (rules, tests)) (λ x q k. search (rules, tests))) in
    rw (c.flat.ensures, c.unwrap_or-last.ensures)
    (columns-narrow _ _ s.chord c.requires.1 c.near_line-line.result c.near_line-line.ensures c.max-left.result.0 c.min-right.result.0 (search rules) (search rules) _ _ first
    (last_or_first _ (Covers s.segment s.q) (Misses s.segment s.q) (λ x q k. search (rules, tests)) (λ x q k. search (rules, tests))
    _ _ _ _ c.rev.ensures.source first.1 first.2 _ c.find-2.ensures.ran))
