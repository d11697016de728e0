-- What was stored of an action is read back as that action. Assumes nothing.
use mathlib.Core.Path.{◌≡◌, refl, ap, ◌∙◌}
use mathlib.Core.List.{List, [], ◌∷◌, ◌++◌}
use Prim.Native.Nat.{ℕ, ◌≤◌}
use native.Mathlib.Omega.{arith}
use lib.Dec.{lit≤}
use lib.ListN.{length, drop}
use Rattle.action.proofs.Naming.{test-of, stencil-action-of, factor-of, format-of}
use Rattle.action.specs.declared.Action.{Action}
use Rattle.action.specs.declared.Drawing.{Drawing}
use Rattle.action.specs.declared.Drawing.TheVariants as d
use Rattle.action.specs.declared.ink.Ink.{Ink}
use Rattle.action.specs.declared.ink.Masks.{Masks}
use Rattle.action.specs.declared.shape.Area.{Area}
use Rattle.store.specs.Reading.{numbers_each, places_each, masks_of, clear_of, ink_of, scissor_of, point_of, rectangle_of, bitmap_of, segment_of, drawing_of, action_of}
use Rattle.store.specs.Store.{Room, Put, group_of, kept_at}
use Rattle.store.specs.Writing.{stored_from, mask_numbers, ink_numbers, bitmap_numbers, segment_numbers, area_places, drawing_numbers, drawing_places, numbers_of, places_of}
use Rattle.store.proofs.Groups.{stored-all, stored-long, group-long, replaced, replaced-here, replaced-before, replaced-long}

ink-back : (masks : Masks) (kind : ℕ) (ink : Ink) (more ns : List ℕ) → ink_of ((mask_numbers masks ++ (kind ∷ ink_numbers ink ++ more)) ++ ns) ≡ ink
unfolding ink_of
ink-back masks kind ink more ns =
    rw (test-of ink.alpha.test, test-of ink.stencil.test, stencil-action-of ink.actions.fail, stencil-action-of ink.actions.pass, factor-of ink.blend.source, factor-of ink.blend.target)

drawing-back : (masks : Masks) (area : Area) (drawing : Drawing) (ns ps : List ℕ)
    → drawing_of ((mask_numbers masks ++ drawing_numbers drawing) ++ ns) ((area_places area ++ drawing_places drawing) ++ ps) ≡ drawing
unfolding drawing_of clear_of point_of rectangle_of bitmap_of segment_of
drawing-back masks area (d.Clear clear) ns ps = refl
drawing-back masks area (d.Point point ink) ns ps =
    ap (λ i. d.Point point i) (ink-back masks 1 ink (point.size.0 ∷ []) ns)
drawing-back masks area (d.Rectangle rectangle ink) ns ps =
    ap (λ i. d.Rectangle rectangle i) (ink-back masks 2 ink (rectangle.width.0 ∷ []) ns)
drawing-back masks area (d.Bitmap bitmap ink) ns ps =
    rw format-of (ap (λ i. d.Bitmap bitmap i) (ink-back masks 3 ink (bitmap_numbers bitmap) ns))
drawing-back masks area (d.Segment segment ink) ns ps =
    ap (λ i. d.Segment segment i) (ink-back masks 4 ink (segment_numbers segment) ns)

-- whatever stands behind
pub action-back : (action : Action) (ns ps : List ℕ) → action_of (numbers_of action ++ ns) (places_of action ++ ps) ≡ action
unfolding action_of numbers_of places_of masks_of scissor_of
action-back action ns ps = rw (drawing-back action.masks action.scissor action.drawing ns ps)

drawing-fits : (masks : Masks) (area : Area) (drawing : Drawing)
    → (length (mask_numbers masks ++ drawing_numbers drawing) ≤ numbers_each) × (length (area_places area ++ drawing_places drawing) ≤ places_each)
drawing-fits masks area (d.Clear clear) = (lit≤ tt, lit≤ tt)
drawing-fits masks area (d.Point point ink) = (lit≤ tt, lit≤ tt)
drawing-fits masks area (d.Rectangle rectangle ink) = (lit≤ tt, lit≤ tt)
drawing-fits masks area (d.Bitmap bitmap ink) = (lit≤ tt, lit≤ tt)
drawing-fits masks area (d.Segment segment ink) = (lit≤ tt, lit≤ tt)

pub action-fits : (action : Action) → (length (numbers_of action) ≤ numbers_each) × (length (places_of action) ≤ places_each)
unfolding numbers_of places_of
action-fits action = drawing-fits action.masks action.scissor action.drawing

stored_back : (action : Action) (ns ps : List ℕ) → length ns ≡ numbers_each → length ps ≡ places_each → action_of (stored_from 0 ns (numbers_of action)) (stored_from 0 ps (places_of action)) ≡ action
stored_back action ns ps m n =
    let f = action-fits action in
    let p : length (numbers_of action) ≤ length ns = omega (arith, f.0, m) in
    let q : length (places_of action) ≤ length ps = omega (arith, f.1, n) in
    rw (stored-all ns (numbers_of action) p, stored-all ps (places_of action) q)
    (action-back action (drop (length (numbers_of action)) ns) (drop (length (places_of action)) ps))

-- the action was stored in the k-th groups
pub put-in-group : (action : Action) (k : ℕ) (numbers places ns ps : List ℕ) → Room k numbers places
    → ns ≡ stored_from 0 (group_of numbers_each k numbers) (numbers_of action) → ps ≡ stored_from 0 (group_of places_each k places) (places_of action)
    → Put action k numbers places (replaced numbers_each k numbers ns) (replaced places_each k places ps)
unfolding kept_at
put-in-group action k numbers places ns ps room e f =
    let a = group-long numbers_each k numbers room.0 in
    let b = group-long places_each k places room.1 in
    let m : length ns ≡ numbers_each = ap length e ∙ stored-long 0 (group_of numbers_each k numbers) (numbers_of action) ∙ a in
    let n : length ps ≡ places_each = ap length f ∙ stored-long 0 (group_of places_each k places) (places_of action) ∙ b in
    record {
      kept = rw (replaced-here numbers_each k numbers ns room.0 m, replaced-here places_each k places ps room.1 n, e, f) (stored_back action (group_of numbers_each k numbers) (group_of places_each k places) a b);
      others = λ j l. rw (replaced-before numbers_each k numbers ns room.0 j l, replaced-before places_each k places ps room.1 j l);
      lengths = (replaced-long numbers_each k numbers ns room.0 m, replaced-long places_each k places ps room.1 n);
    }
