-- What rowshow prints: no second text fits.
use mathlib.Core.List.{List, []}
use mathlib.Core.Path.{◌≡◌, sym, ◌∙◌}
use Prim.Native.Nat.{ℕ}
use lib.ListN.{replicate}
use Rattle.jokulvisp.proofs.Painted.{paint-row-once}
use Rattle.rowshow.specs.Show.{Shows}

pub shown-once : (list a b : List ℕ) → Shows list a → Shows list b → a ≡ b
shown-once list a b s t =
    let row : List ℕ = replicate 12 0 in
    let tags : List ℕ = replicate 4 0 in
    let same =
    paint-row-once list [] 4 1 0 64 row tags s.answer t.answer s.picture t.picture s.tags t.tags s.painted t.painted in
    s.printed ∙ rw (same.answer, same.colours, same.tag_bytes) (sym t.printed)
