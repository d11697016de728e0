use Rattle.paint.proofs.Rows.{colours-same, drawn-row, tags-same}
use mathlib.Core.Path.{◌∙◌}
use Rattle.paint.proofs.Painter.paint_row.Goals as goal

pub returns : goal.returns
returns c =
    let at = drawn-row _ _ _ _ _ _ c.restart.ensures c.draw.ensures in
    record {
      picture_after = c.lay.ensures.picture_after ∙ rw c.requires.1.1 (colours-same _ _ _ at);
      tags_after = c.lay.ensures.tags_after ∙ rw c.requires.1.1 (tags-same _ _ _ at);
    }
