use mathlib.Core.Path.{◌≡◌, sym}
use lib.ListN.{length}
use native.Mathlib.Omega.{arith}
use Rattle.std.proofs.Common.{None, Some}
use Rattle.std.proofs.lemmas.Result.{err_from_is_err_and}
use Rattle.words.specs.declared.fault.WordFault.TheVariants.{NoCommand}
use Rattle.words.specs.Layout.{layout_of}
use Rattle.words.specs.Table.{row_of}
use Rattle.words.proofs.Cutting.{telling}
use Rattle.words.proofs.telling.spell_bits.Goals as goal

pub returns-in_err-fields : goal.returns-in_err-fields
returns-in_err-fields c =
    let n : layout_of (row_of c.command_of-command.result) ≡ None = grind arith in
    let k : c.in_err-fields.field-0.0 ≡ NoCommand = grind arith in
    let p = err_from_is_err_and c.from_residual.result c.from_residual.ensures.1 in
    rw (p.1, p.2, k) (sym (telling c.args.w c.command_of-command.ensures n))

pub returns : goal.returns
returns c =
    let n : layout_of (row_of c.command_of-command.result) ≡ Some c.in_ok-fields.fields = grind arith in
    let t = telling c.args.w c.command_of-command.ensures n in
    rw (c.checked.ensures, c.are_meaningful.ensures, c.cut_all-numbers.ensures)
    (t.tells (let l : length c.cut_all-numbers.result ≡ 5 = grind arith in rw (← c.cut_all-numbers.ensures) l))
