use Rattle.paint.proofs.Sweeps.{still-drawn, swept-drawn}
use Rattle.paint.specs.Picture.{changed}
use Rattle.paint.specs.Runs.{texel_in}
use Rattle.pixel.specs.Plain.{filled}
use Rattle.pixel.specs.Pixel.{cleared}
use Rattle.std.proofs.Common.{rules}
use Rattle.units.specs.Units.{pixel_at}
use mathlib.Core.Logic.{inl, inr}
use mathlib.Core.Path.{refl, sym}
use Rattle.paint.proofs.row.Row.draw.Goals as goal

pub returns-in-Nothing : goal.returns-in-Nothing
returns-in-Nothing c =
    still-drawn _ _ _ _ _ (λ k p. c.in-Nothing.ensures c.args.memory.now (pixel_at k) c.args.q p)

pub returns-in-Fill : goal.returns-in-Fill
unfolding filled
returns-in-Fill c =
    swept-drawn _ _ _ _ _ _ _ _ c.reached-from.ensures.exact c.fill.ensures
    (λ k p. sym (c.in-Fill.ensures c.args.memory.now (pixel_at k) c.args.q p))

pub returns-in-Wipe : goal.returns-in-Wipe
returns-in-Wipe c =
    swept-drawn _ _ _ _ _ _ _ _ c.reached-from-in-Wipe.ensures.exact c.wipe.ensures
    (λ k p. sym (c.in-Wipe.ensures c.args.memory.now (pixel_at k) c.args.q p))

pub returns-in-Clear : goal.returns-in-Clear
unfolding changed
returns-in-Clear c =
    swept-drawn _ _ _ _ _ _ _ _ c.reached-from-in-Each.ensures.exact (c.sweep.ensures (λ _. cleared c.in-Clear.clear c.args.action.masks) (search rules))
    (λ k p. rw c.in-Clear.is refl)

pub returns-in-Bitmap : goal.returns-in-Bitmap
unfolding changed texel_in
returns-in-Bitmap c =
    swept-drawn _ _ _ _ _ _ _ _ c.reached-from-in-Each.ensures.exact c.ink.ensures (λ k p. rw c.in-Bitmap.is refl)

pub returns-in-Point : goal.returns-in-Point
unfolding changed texel_in
returns-in-Point c =
    swept-drawn _ _ _ _ _ _ _ _ c.reached-from-in-Each.ensures.exact c.ink-in-Point.ensures (λ k p. elim c.in-Point.is [
      | inl w ↦ rw w.1 refl
      | inr r ↦ elim r [ inl w ↦ rw w.1 refl | inr w ↦ rw w.1 refl ]
    ])
