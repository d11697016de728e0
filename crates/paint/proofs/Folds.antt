-- Actions one after another: two lists joined, one action more, and the actions that are kept.
use mathlib.Core.Logic.{⊎_elim}
use mathlib.Core.List.{List, [], ◌∷◌, ◌++◌}
use mathlib.Core.Path.{◌≡◌, refl, sym, ◌∙◌, ap}
use Prim.Native.Nat.{ℕ, zero, suc, ◌+◌, ◌<◌}
use native.Mathlib.Nat.{eq-or-lt_of_le}
use native.Mathlib.Numerals.{add-one}
use native.Mathlib.Omega.{arith}
use Rattle.action.specs.declared.Action.{Action}
use Rattle.pixel.specs.declared.Pixel.{Pixel}
use Rattle.store.specs.Store.{kept_at}
use Rattle.units.specs.declared.Pixels.{Pixels}
use Rattle.units.specs.Units.{pixel_at}
use Rattle.paint.specs.Actions.{AllBands, Keeps, kept_up_to}
use Rattle.paint.specs.Picture.{drawn_at, drawn_by}
use Rattle.paint.specs.declared.kept.Kept.{Kept}
use Rattle.paint.specs.Runs.{Drawn, DrawnAll}

-- drawing the whole from the start comes to drawing the rest from here
abbrev pub Rest : List ℕ → List Action → List Action → ℕ → Pixels → (ℕ → Pixel) → (ℕ → Pixel) → Type 0
Rest memory whole rest width q old now = (x : ℕ) → x < width → drawn_by memory whole (pixel_at x) q (old x) ≡ drawn_by memory rest (pixel_at x) q (now x)

pub drawn-append :
    (memory : List ℕ) (before after : List Action) (p q : Pixels) (x : Pixel) →
    drawn_by memory (before ++ after) p q x ≡ drawn_by memory after p q (drawn_by memory before p q x)
unfolding drawn_by
drawn-append memory [] after p q x = refl
drawn-append memory (a ∷ before) after p q x = drawn-append memory before after p q (drawn_at memory a p q x)

module _ (memory : List ℕ) (width : ℕ) (q : Pixels) where
  -- an action more at the end
  pub all_more :
      (actions : List Action) (a : Action) (old now new : ℕ → Pixel) →
      DrawnAll memory actions width q old now → Drawn memory a width q now new → DrawnAll memory (actions ++ (a ∷ [])) width q old new
  unfolding drawn_by
  all_more actions a old now new d e x h =
      e x h ∙ ap (drawn_at memory a (pixel_at x) q) (d x h) ∙ sym (drawn-append memory actions (a ∷ []) (pixel_at x) q (old x))

  -- what is still to be drawn, when an action of it was
  pub rest-less :
      (whole rest : List Action) (a : Action) (old now new : ℕ → Pixel) →
      Rest memory whole (a ∷ rest) width q old now → Drawn memory a width q now new → Rest memory whole rest width q old new
  unfolding drawn_by
  rest-less whole rest a old now new r d x h = r x h ∙ ap (drawn_by memory rest (pixel_at x) q) (sym (d x h))

  pub rest-none : (whole : List Action) (old now : ℕ → Pixel) → Rest memory whole [] width q old now → DrawnAll memory whole width q old now
  unfolding drawn_by
  rest-none whole old now r x h = sym (r x h)

-- the kept actions up to the k-th
pub kept_more : (numbers places : List ℕ) (k : ℕ) → kept_up_to numbers places (k + 1) ≡ kept_up_to numbers places k ++ (kept_at numbers places k ∷ [])
unfolding kept_up_to
kept_more numbers places k = rw add-one

pub kept-none : (numbers places : List ℕ) → kept_up_to numbers places 0 ≡ []
unfolding kept_up_to
kept-none numbers places = refl

pub kept-start :
    (memory numbers places : List ℕ) (width : ℕ) (q : Pixels) (old : ℕ → Pixel) → DrawnAll memory (kept_up_to numbers places 0) width q old old
unfolding drawn_by kept_up_to
kept-start memory numbers places width q old x h = refl

pub kept_next :
    (memory numbers places : List ℕ) (width k : ℕ) (q : Pixels) (old now new : ℕ → Pixel) →
    DrawnAll memory (kept_up_to numbers places k) width q old now → Drawn memory (kept_at numbers places k) width q now new →
    DrawnAll memory (kept_up_to numbers places (k + 1)) width q old new
kept_next memory numbers places width k q old now new d e =
    rw kept_more (all_more memory width q (kept_up_to numbers places k) (kept_at numbers places k) old now new d e)

-- actions that are the same one by one are the same list
pub kept_same :
    (numbers places numbers' places' : List ℕ) (n : ℕ) →
    ((j : ℕ) → j < n → kept_at numbers' places' j ≡ kept_at numbers places j) → kept_up_to numbers' places' n ≡ kept_up_to numbers places n
unfolding kept_up_to
kept_same numbers places numbers' places' zero same = refl
kept_same numbers places numbers' places' (suc n) same =
    rw (kept_same numbers places numbers' places' n (λ j h. same j (omega arith)), same n (omega arith))

-- one action more was kept
module _ {action : Action} {k : ℕ} {old now : Kept} (keeps : Keeps action k old now) where
  pub keeps-list : kept_up_to now.numbers now.places (k + 1) ≡ kept_up_to old.numbers old.places k ++ (action ∷ [])
  keeps-list = rw (kept_more, kept_same old.numbers old.places now.numbers now.places k keeps.others, keeps.kept)

  pub keeps-bands : AllBands old.numbers old.places old.bands k → AllBands now.numbers now.places now.bands (k + 1)
  keeps-bands all j h =
      ⊎_elim (λ (e : j ≡ k). rw e keeps.banded)
      (λ (b : j < k). rw (keeps.others j b, keeps.other_bands j b) (all j b))
      (eq-or-lt_of_le (omega arith))
