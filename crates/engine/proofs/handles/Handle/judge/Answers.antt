use mathlib.Core.Bool.{true≢false}
use mathlib.Core.Path.{sym, ◌∙◌}
use native.Mathlib.Omega.{arith}
use Rattle.engine.specs.Handles.{bitmap_of}
use Rattle.engine.proofs.Judging.{Drawn, undrawn, drawn, start_by, line-fits, lines_fit}
use Rattle.units.proofs.Meaning.{pixels-holding}
use Rattle.engine.proofs.handles.Handle.judge.Goals as goal

pub returns-then-self-eq0 : goal.returns-then-self-eq0
returns-then-self-eq0 c =
    undrawn _ _ _ (λ d. omega (arith, c.then-self-eq0.either))

-- a line longer than RAM_G, or more lines than it has bytes
pub returns-then-room-self : goal.returns-then-room-self
returns-then-room-self c =
    undrawn _ _ _ (λ d. omega (arith, c.then-room-self.either, line-fits d, lines_fit d))

pub returns-then-room-size : goal.returns-then-room-size
returns-then-room-size c =
    undrawn _ _ _ (λ d. omega arith)

pub returns-then-room-start : goal.returns-then-room-start
returns-then-room-start c =
    undrawn _ _ _ (λ d. omega (arith, c.if-room-start.true, start_by c.args.self c.from.ensures c.from-2.ensures))

pub returns-then-not-is_aligned : goal.returns-then-not-is_aligned
returns-then-not-is_aligned c =
    undrawn _ _ _ (λ d. true≢false (sym d.aligned ∙ sym c.if-not-is_aligned.ensures))

pub returns : goal.returns
unfolding bitmap_of
returns c =
    let start = start_by c.args.self c.from.ensures c.from-2.ensures in
    let d : Drawn c.args.self c.args.v.cell c.args.memory =
    record {
      stride = omega arith;
      rows = omega arith;
      width = omega arith;
      height = omega arith;
      inside = omega (arith, c.if-room-start.false, start);
      aligned = sym c.if-not-is_aligned.ensures;
    }
    in
    rw (c.from-3.ensures, c.cover.ensures, pixels-holding c.floor-2.ensures, pixels-holding c.floor.ensures, start)
    (drawn _ _ _ d)
