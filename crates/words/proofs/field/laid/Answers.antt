use Rattle.std.proofs.Common.{rules}
use Rattle.std.proofs.lemmas.List.{drop-replicate}
use Rattle.words.specs.declared.field.Field.TheVariants.{Bits}
use Rattle.words.proofs.field.laid.Goals as goal

pub returns : goal.returns
returns g c = let d = drop-replicate g.row.N 5 (Bits 0) in search rules
