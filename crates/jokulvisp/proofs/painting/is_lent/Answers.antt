use Rattle.jokulvisp.proofs.Painted.{lent-told}
use Rattle.jokulvisp.proofs.painting.is_lent.Goals as goal

pub returns : goal.returns
returns c =
    let a = c.args in
    rw (c.saturating_sub-last.ensures, c.saturating_sub.ensures) (lent-told a.width a.rows a.picture a.tags)
