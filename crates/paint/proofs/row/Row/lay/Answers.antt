use Rattle.paint.proofs.Rows.{colours-laid, tags-laid}
use lib.ListN.{length}
use mathlib.Core.Path.{◌∙◌}
use native.Mathlib.Omega.{arith}
use Rattle.paint.proofs.row.Row.lay.Goals as goal

pub returns : goal.returns
returns c =
    record {
      picture_after = c.copy_from_slice.ensures.after ∙ rw c.requires.1 (colours-laid c.args.self.now (length c.args.tags.now) (omega arith));
      tags_after = c.copy_from_slice-2.ensures.after ∙ tags-laid c.args.self.now (length c.args.tags.now) (omega arith);
    }
