use mathlib.Core.Path.{◌≡◌}
use Prim.Native.Nat.{◌≤◌}
use native.Mathlib.Omega.{arith}
use Rattle.units.specs.Units.{end_near, first_near, sampled}
use Rattle.shape.specs.Cover.{outside}
use Rattle.shape.proofs.Columns.{rectangle-off, rectangle-has}
use Rattle.shape.proofs.Chord.of_rectangle.Goals as goal

pub returns-then-width-d : goal.returns-then-width-d
returns-then-width-d c =
    let s = c.args in
    rw c.none.ensures (rectangle-off s.rectangle s.q (omega arith))

pub returns : goal.returns
returns c =
    let s = c.args in
    let e : c.gap-d.result ≡ outside (sampled s.q) s.rectangle.top s.rectangle.bottom = omega arith in
    let l : c.first_near.result.0 ≤ (first_near s.rectangle.left s.rectangle.width).0 = omega arith in
    let r : (end_near s.rectangle.right s.rectangle.width).0 ≤ c.end_near.result.0 = omega arith in
    rw e (rectangle-has s.rectangle s.q _ _ _ (omega arith) (omega arith) l r (omega arith))
