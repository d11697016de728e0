use mathlib.Core.Path.{◌≡◌}
use native.Mathlib.Omega.{arith}
use Rattle.std.proofs.Common.{rules}
use Rattle.units.specs.Units.{larger, smaller}
use Rattle.shape.proofs.Banding.{band-of}
use Rattle.shape.proofs.reach.rows_of.Goals as goal

pub returns : goal.returns
returns c =
    λ x y hx hy e.
    let rows = c.rows-rows.result in
    let scissor = c.args.action.scissor in
    let top : c.max.result.0 ≡ larger rows.top.0 scissor.top.0 = search rules in
    let bottom : c.min.result.0 ≡ smaller rows.bottom.0 scissor.bottom.0 = search rules in
    let b = band-of _ _ rows (rw c.outline.ensures at c.rows-rows.ensures) x y hx hy e in
    (omega (arith, top, b.0), omega (arith, bottom, b.1))
