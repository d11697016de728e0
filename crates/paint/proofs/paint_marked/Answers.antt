use Rattle.paint.proofs.Patching.{patched-is}
use Rattle.paint.specs.Picture.{is_marked}
use Rattle.std.proofs.Common.{rules}
use mathlib.Core.Path.{◌∙◌}
use Rattle.paint.proofs.paint_marked.Goals as goal

pub returns : goal.returns
returns c =
    let p = c.paint_wanted.ensures (is_marked c.args.marks.now) (search rules) in
    record { picture_after = p.0 ∙ patched-is _ _ _ _; tags_after = p.1 ∙ patched-is _ _ _ _ }
