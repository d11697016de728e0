use mathlib.Core.Path.{◌≡◌}
use native.Mathlib.Omega.{arith}
use lib.ListN.{length}
use Prim.Native.Nat.{◌≤◌}
use borrow.Author.Rules.{rules}
use borrow.Author.Tests.{le-ltb}
use Rattle.engine.specs.Kept.{kept_with}
use Rattle.engine.proofs.Four.{long, shift-set}
use Rattle.engine.proofs.kept.Kept.push.Goals as goal

pub returns-in_default : goal.returns-in_default
unfolding kept_with
returns-in_default c =
    let a = c.args in
    let h : length a.self.contexts ≡ 4 = search (rules, long) in
    let p : 4 ≤ a.self.count = omega arith in
    rw (le-ltb _ _ p, shift-set _ _ _ h)
