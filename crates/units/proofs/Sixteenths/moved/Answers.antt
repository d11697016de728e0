use borrow.Author.Rules.{rules}
use Rattle.units.proofs.Meaning.{translated-by}
use Rattle.units.proofs.Sixteenths.moved.Goals as goal

pub returns : goal.returns
returns c =
    translated-by _ _ (search rules) c.requires
