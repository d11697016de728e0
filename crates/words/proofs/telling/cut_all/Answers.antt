use mathlib.Core.Path.{sym, subst, ap, ◌∙◌}
use mathlib.Core.List.{List}
use native.Mathlib.Omega.{arith}
use Rattle.std.proofs.Common.{rules}
use Rattle.words.specs.declared.field.Field.{Field}
use Rattle.words.specs.declared.field.Field.TheVariants.{Bits}
use Rattle.words.specs.Fields.{values}
use Rattle.words.specs.Layout.{Cuttable}
use Rattle.words.proofs.Packing.{by-place}
use Rattle.words.proofs.telling.cut_all.Goals as goal

pub cut-fifth-requires : goal.cut-fifth-requires
cut-fifth-requires c = let r = subst Cuttable (sym (by-place (Bits 0) c.args.fields (grind arith))) c.requires in search rules

pub cut-fourth-requires : goal.cut-fourth-requires
cut-fourth-requires c = let r = subst Cuttable (sym (by-place (Bits 0) c.args.fields (grind arith))) c.requires in search rules

pub returns : goal.returns
returns c = search rules ∙ ap (λ (x : List Field). values x c.args.w) (by-place (Bits 0) c.args.fields (grind arith))
