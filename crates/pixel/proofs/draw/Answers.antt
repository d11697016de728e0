use mathlib.Core.Path.{◌∙◌, sym}
use native.Mathlib.Omega.{arith}
use borrow.Author.Tests.{eqb-true}
use Rattle.truth.proofs.Bools.{both_true}
use Rattle.pixel.specs.Pixel.{drawn}
use Rattle.pixel.proofs.Blending.{drawn-clear, drawn-opaque}
use Rattle.pixel.proofs.draw.Goals as goal

pub returns-then-f-g : goal.returns-then-f-g
returns-then-f-g c =
    let t = both_true _ _ c.if-f-g.true in
    let a = c.args in
    rw (drawn-clear a.ink a.masks a.s a.before (omega arith) (omega arith) (omega arith) (omega arith) (sym c.weigh-f.ensures ∙ eqb-true _ _ t.0) (sym c.weigh-g.ensures ∙ eqb-true _ _ t.1), c.write-tag.ensures, c.byte.ensures)

pub returns-then-f-g-2 : goal.returns-then-f-g-2
returns-then-f-g-2 c =
    let t = both_true _ _ c.if-f-g-2.true in
    let a = c.args in
    rw (drawn-opaque a.ink a.masks a.s a.before (omega arith) (omega arith) (omega arith) (omega arith) (sym c.weigh-f.ensures ∙ eqb-true _ _ t.0) (sym c.weigh-g.ensures ∙ eqb-true _ _ t.1), c.write-then-f-g-2-3.ensures, c.write-then-f-g-2-2.ensures, c.write-then-f-g-2.ensures, c.write.ensures, c.write-tag.ensures, c.byte.ensures)

pub returns : goal.returns
unfolding drawn
returns c =
    rw (c.channel-4.ensures, c.channel-3.ensures, c.channel-2.ensures, c.channel.ensures, c.write-tag.ensures, c.byte.ensures, c.weigh-g.ensures, c.weigh-f.ensures)
