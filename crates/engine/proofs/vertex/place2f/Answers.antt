use mathlib.Core.Path.{◌≡◌}
use mir.Syntax.{w32}
use mir.Val.{to_z, of_z}
use borrow.Author.Rules.{rules}
use Rattle.engine.specs.Vertex.{placed2f}
use Rattle.units.proofs.Meaning.{moved_at}
use Rattle.engine.proofs.vertex.place2f.Goals as goal

pub returns : goal.returns
unfolding placed2f
returns c =
    let a = c.args in
    let e : to_z w32 (of_z w32 a.x) ≡ a.x = search rules in
    let f : to_z w32 (of_z w32 a.y) ≡ a.y = search rules in
    let x = moved_at c.of.ensures c.moved.ensures in
    let y = moved_at c.of-2.ensures c.moved-2.ensures in
    rw (x, y, c.unit-u.ensures.value, e, f)
