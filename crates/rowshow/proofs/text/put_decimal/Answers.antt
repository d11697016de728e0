use Prim.Native.Nat.{◌^◌, ◌<◌}
use native.Mathlib.Omega.{arith}
use borrow.Author.Rules.{rules}
use Rattle.rowshow.proofs.Decimals.{spelt}
use Rattle.rowshow.proofs.text.put_decimal.Goals as goal

pub put_word-requires : goal.put_word-requires
put_word-requires c =
    let d = c.decimal-count.ensures in
    let small : c.args.number < 2 ^ 32 = search rules in
    rw (d.digits, spelt _ _ small d.len) c.requires

pub returns : goal.returns
returns c =
    let d = c.decimal-count.ensures in
    let small : c.args.number < 2 ^ 32 = search rules in
    rw (d.digits, spelt _ _ small d.len) at c.put_word.ensures
