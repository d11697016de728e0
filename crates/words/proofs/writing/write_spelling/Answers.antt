use mathlib.Core.Path.{◌≡◌, sym}
use native.Mathlib.Omega.{arith}
use Rattle.std.proofs.Common.{None, Some}
use Rattle.std.proofs.lemmas.Result.{err_from_is_err_and}
use Rattle.words.specs.declared.fault.WordFault.TheVariants.{NoCommand}
use Rattle.words.specs.Layout.{layout_of}
use Rattle.words.specs.Table.{row_of}
use Rattle.words.proofs.Digits.{join-fits}
use Rattle.words.proofs.Packing.{writing}
use Rattle.words.proofs.writing.write_spelling.Goals as goal

pub returns-in_err-fields : goal.returns-in_err-fields
returns-in_err-fields c =
    let n : layout_of (row_of c.args.s.command) ≡ None = grind arith in
    let k : c.in_err-fields.field-0.0 ≡ NoCommand = grind arith in
    let p = err_from_is_err_and c.from_residual.result c.from_residual.ensures.1 in
    rw (p.1, p.2, k) (sym (writing c.args.s n))

pub overflow_add-s : goal.overflow_add-s
overflow_add-s c =
    let n : layout_of (row_of c.args.s.command) ≡ Some c.in_ok-fields.fields = grind arith in
    let w = writing c.args.s n in
    rw c.pack_all.ensures (omega (arith, join-fits c.in_ok-fields.fields c.args.s.numbers w.narrow, w.low))

pub returns : goal.returns
returns c =
    let n : layout_of (row_of c.args.s.command) ≡ Some c.in_ok-fields.fields = grind arith in
    let w = writing c.args.s n in
    rw (c.checked.ensures, c.is_fit.ensures, c.pack_all.ensures) (sym (w.writes (grind arith)))
