-- The actions that reach a row settle its pixels, and those of two lists its mark. Assumes nothing.
use mathlib.Core.Bool.{Bool, true, false, cond}
use mathlib.Core.List.{List, [], ◌∷◌}
use mathlib.Core.Logic.{inl, inr, ⊎_elim}
use mathlib.Core.Path.{◌≡◌, refl, sym, ◌∙◌, ap}
use Prim.Native.Nat.{ℕ, zero, suc, ◌+◌, ◌*◌, ◌<◌}
use native.Mathlib.Nat.{eq-or-lt_of_le, not-suc-le-zero}
use native.Mathlib.Omega.{arith}
use lib.Dec.{eqb}
use lib.ListN.{length, get_or, replicate, get_or-replicate, length-replicate}
use lib.Seq.{ext_get_or}
use borrow.Author.Tests.{eqb-false}
use Rattle.action.specs.declared.Action.{Action}
use Rattle.paint.proofs.Rows.{colours-long, colours-same, tags-long, tags-same}
use Rattle.paint.proofs.Patching.{patched-all, patched-none}
use Rattle.paint.proofs.Stacks.{row-stacked}
use Rattle.paint.specs.Picture.{drawn_at, drawn_by, is_marked, patched, pixel_of, row_colours, row_tags, stacked}
use Rattle.pixel.specs.declared.Pixel.{Pixel}
use Rattle.shape.proofs.Reaching.{none-reached}
use Rattle.shape.specs.Cover.{outline_of, reaches_row}
use Rattle.units.specs.Units.{pixel_at}
use Rattle.repaint.specs.Repaint.{Mark, Marks, marked, reaching}

-- A ROW. An action that reaches no pixel of it leaves it as it is
module _ (memory : List ℕ) (width x y : ℕ) (l : x < width) where
  drawn-off : (a : Action) → reaches_row (outline_of a.drawing) a.scissor width (pixel_at y) ≡ false → (p : Pixel) → drawn_at memory a (pixel_at x) (pixel_at y) p ≡ p
  unfolding drawn_at
  drawn-off a off p = rw (none-reached (outline_of a.drawing) a.scissor width (pixel_at y) off x l)

  -- so that those which reach it are all that draw on it
  pub drawn-reaching :
      (actions : List Action) (p : Pixel) →
      drawn_by memory actions (pixel_at x) (pixel_at y) p ≡ drawn_by memory (reaching width y actions) (pixel_at x) (pixel_at y) p
  unfolding drawn_by reaching
  drawn-reaching [] p = refl
  drawn-reaching (a ∷ rest) p =
      drawn-reaching rest (drawn_at memory a (pixel_at x) (pixel_at y) p) ∙ go (reaches_row (outline_of a.drawing) a.scissor width (pixel_at y)) refl
    where
      go :
          (b : Bool) → reaches_row (outline_of a.drawing) a.scissor width (pixel_at y) ≡ b →
          drawn_by memory (reaching width y rest) (pixel_at x) (pixel_at y) (drawn_at memory a (pixel_at x) (pixel_at y) p) ≡
          drawn_by memory (cond b (a ∷ reaching width y rest) (reaching width y rest)) (pixel_at x) (pixel_at y) p
      go true e = refl
      go false e = ap (drawn_by memory (reaching width y rest) (pixel_at x) (pixel_at y)) (drawn-off a e p)

module _ (memory : List ℕ) (old new : List Action) (width y : ℕ) (same : reaching width y old ≡ reaching width y new) where
  same-pixels : (x : ℕ) → x < width → pixel_of memory old y x ≡ pixel_of memory new y x
  same-pixels x l = rw (drawn-reaching memory width x y l old, drawn-reaching memory width x y l new, same)

  -- where the same actions reach it, the row is the same
  pub same_rows : (row_colours memory old width y ≡ row_colours memory new width y) × (row_tags memory old width y ≡ row_tags memory new width y)
  same_rows =
      (colours-same (pixel_of memory old y) (pixel_of memory new y) width same-pixels, tags-same (pixel_of memory old y) (pixel_of memory new y) width same-pixels)

-- A MARK. No second one fits
module _ {old new : List Action} where
  pub mark-settled : {m n : ℕ} → Mark m old new → Mark n old new → m ≡ n
  mark-settled (inl h) (inl k) = h.0 ∙ sym k.0
  mark-settled (inl h) (inr k) = absurd (h.1 k.1)
  mark-settled (inr h) (inl k) = absurd (k.1 h.1)
  mark-settled (inr h) (inr k) = h.0 ∙ sym k.0

  -- a row that is not marked has the same actions
  pub mark-off : {m : ℕ} → Mark m old new → eqb m 1 ≡ false → old ≡ new
  mark-off {m} (inl h) e = absurd (eqb-false m 1 e h.0)
  mark-off (inr h) e = h.1

  -- and one whose actions differ is marked
  pub mark_on : {m : ℕ} → Mark m old new → (old ≡ new → ⊥) → m ≡ 1
  mark_on (inl h) d = h.0
  mark_on (inr h) d = absurd (d h.1)

pub mark-none : {actions : List Action} {m : ℕ} → Mark m actions actions → m ≡ 0
mark-none (inl h) = absurd (h.1 refl)
mark-none (inr h) = h.0

-- ALL MARKS
pub marks-settled :
    {old new : List Action} {width height : ℕ} {marks marks' : List ℕ} → Marks old new width height marks → Marks old new width height marks' → marks ≡ marks'
marks-settled {marks} {marks'} m n =
    ext_get_or 0 marks marks' (m.long ∙ sym n.long) (λ y l. mark-settled (m.each y (omega (arith, m.long))) (n.each y (omega (arith, m.long))))

-- where the two lists are one
pub marks-none : {actions : List Action} {width height : ℕ} {marks : List ℕ} → Marks actions actions width height marks → marks ≡ replicate height 0
marks-none {height} {marks} m =
    ext_get_or 0 marks (replicate height 0) (m.long ∙ sym (length-replicate height 0))
    (λ y l. mark-none (m.each y (omega (arith, m.long))) ∙ sym (get_or-replicate height y 0 0 (omega (arith, m.long))))

pub marked-none : (marks : List ℕ) (n : ℕ) → ((y : ℕ) → y < n → get_or marks y 0 ≡ 0) → marked marks n ≡ 0
unfolding marked
marked-none marks zero h = refl
marked-none marks (suc n) h = rw (marked-none marks n (λ y l. h y (omega arith)), h n (omega arith))

-- where no row is marked, every byte stays
unmarked : (marks : List ℕ) (n : ℕ) → marked marks n ≡ 0 → (y : ℕ) → y < n → is_marked marks y ≡ false
unfolding marked
unmarked marks zero e y l = absurd (not-suc-le-zero l)
unmarked marks (suc n) e y l =
    ⊎_elim (λ (i : y ≡ n). rw i (last (is_marked marks n) e)) (λ (i : y < n). unmarked marks n (omega (arith, e)) y i) (eq-or-lt_of_le (omega arith))
  where
    last : (b : Bool) → marked marks n + cond b 1 0 ≡ 0 → b ≡ false
    last true z = absurd (omega (arith, z))
    last false z = refl

pub none-patched :
    (marks : List ℕ) (row : ℕ → List ℕ) (wide : ℕ) (lent : List ℕ) → marked marks (length marks) ≡ 0 → length lent ≡ length marks * wide →
    lent ≡ patched marks row wide lent
none-patched marks row wide lent none long = sym (patched-none marks row wide lent (unmarked marks (length marks) none) long)

-- A FRAME that held the old list's rows holds the new list's
module _ (memory : List ℕ) (old new : List Action) (width height : ℕ) (marks : List ℕ) (m : Marks old new width height marks) where
  carried :
      (old_row new_row : ℕ → List ℕ) (wide : ℕ) → ((y : ℕ) → length (old_row y) ≡ wide) →
      ((y : ℕ) → reaching width y old ≡ reaching width y new → old_row y ≡ new_row y) → patched marks new_row wide (stacked old_row height) ≡ stacked new_row height
  carried old_row new_row wide long same =
      patched-all marks new_row wide (stacked old_row height)
      (λ y l e.
      let h : y < height = omega (arith, m.long) in
      row-stacked old_row wide height (λ i k. long i) y h ∙ same y (mark-off (m.each y h) e))
      ∙ ap (stacked new_row) m.long

  pub colours-carried :
      patched marks (row_colours memory new width) (3 * width) (stacked (row_colours memory old width) height) ≡ stacked (row_colours memory new width) height
  colours-carried =
      carried (row_colours memory old width) (row_colours memory new width) (3 * width)
      (λ y. colours-long (pixel_of memory old y) width)
      (λ y e. (same_rows memory old new width y e).0)

  pub tags-carried : patched marks (row_tags memory new width) width (stacked (row_tags memory old width) height) ≡ stacked (row_tags memory new width) height
  tags-carried =
      carried (row_tags memory old width) (row_tags memory new width) width
      (λ y. tags-long (pixel_of memory old y) width)
      (λ y e. (same_rows memory old new width y e).1)

-- where the two lists are one, every byte stays
pub patched-itself :
    {actions : List Action} {width height : ℕ} {marks : List ℕ} → Marks actions actions width height marks →
    (row : ℕ → List ℕ) (wide : ℕ) (lent : List ℕ) → length lent ≡ height * wide → patched marks row wide lent ≡ lent
patched-itself {height} {marks} m row wide lent e =
    patched-none marks row wide lent (λ y l. rw (mark-none (m.each y (omega (arith, m.long))))) (e ∙ ap (λ (n : ℕ). n * wide) (sym m.long))
