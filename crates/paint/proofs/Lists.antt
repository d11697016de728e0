-- Runs of bytes of a row's own length, and the pixels in them. Assumes nothing.
use mathlib.Core.List.{List, [], ◌∷◌, ◌++◌}
use mathlib.Core.Path.{◌≡◌, refl, sym, ◌∙◌, ap}
use Prim.Native.Nat.{ℕ, zero, suc, ◌*◌, ◌<◌, ◌≤◌}
use native.Mathlib.Nat.{not-suc-le-zero, le_of_suc-le-suc, le_refl}
use native.Mathlib.Numerals.{add-one, add-two}
use native.Mathlib.Omega.{arith}
use lib.ListN.{length, get_or, take, replicate}
use lib.Seq.{take_all}
use Rattle.action.specs.declared.Action.{Action}
use Rattle.pixel.specs.declared.Pixel.{Pixel}
use Rattle.units.specs.Units.{pixel_at}
use Rattle.paint.specs.Picture.{colours_of, drawn_by, pixel_of, row_colours, row_tags, tags_of}
use Rattle.paint.specs.Runs.{DrawnAll, pixel_in}
use Rattle.paint.proofs.Rows.{blank_at}

take-one : (l : List ℕ) (m : ℕ) → m < length l → take (suc m) l ≡ take m l ++ (get_or l m 0 ∷ [])
take-one [] m h = absurd (not-suc-le-zero h)
take-one (a ∷ l) zero h = refl
take-one (a ∷ l) (suc m) h = ap (λ (t : List ℕ). a ∷ t) (take-one l m (le_of_suc-le-suc h))

take-three :
    (l : List ℕ) (m : ℕ) → suc (suc m) < length l →
    take (suc (suc (suc m))) l ≡ take m l ++ (get_or l m 0 ∷ get_or l (suc m) 0 ∷ get_or l (suc (suc m)) 0 ∷ [])
take-three [] m h = absurd (not-suc-le-zero h)
take-three (a ∷ []) m h = absurd (not-suc-le-zero (le_of_suc-le-suc h))
take-three (a ∷ b ∷ []) m h = absurd (not-suc-le-zero (le_of_suc-le-suc (le_of_suc-le-suc h)))
take-three (a ∷ b ∷ c ∷ l) zero h = refl
take-three (a ∷ b ∷ c ∷ l) (suc m) h = ap (λ (t : List ℕ). a ∷ t) (take-three (b ∷ c ∷ l) m (le_of_suc-le-suc h))

module _ (f : ℕ → Pixel) (width : ℕ) (picture tags alpha stencil : List ℕ) (at : (x : ℕ) → x < width → pixel_in picture tags alpha stencil x ≡ f x) where
  colours-to : length picture ≡ 3 * width → (n : ℕ) → n ≤ width → take (3 * n) picture ≡ colours_of f n
  unfolding colours_of pixel_in
  colours-to long zero h = refl
  colours-to long (suc n) h =
      let e : 3 * suc n ≡ suc (suc (suc (3 * n))) = omega arith in
      rw (e, take-three picture (3 * n) (omega arith), colours-to long n (omega arith), ← at n h, add-one, add-two)

  pub colours-are : length picture ≡ 3 * width → picture ≡ colours_of f width
  colours-are long = sym (take_all (3 * width) picture (omega arith)) ∙ colours-to long width (le_refl width)

  tags-to : length tags ≡ width → (n : ℕ) → n ≤ width → take n tags ≡ tags_of f n
  unfolding tags_of pixel_in
  tags-to long zero h = refl
  tags-to long (suc n) h = rw (take-one tags n (omega arith), tags-to long n (omega arith), ← at n h)

  pub tags-are : length tags ≡ width → tags ≡ tags_of f width
  tags-are long = sym (take_all width tags (omega arith)) ∙ tags-to long width (le_refl width)

-- a row drawn from zeros is the row
pub drawn-from-zeros :
    (memory : List ℕ) (actions : List Action) (width y a b n m : ℕ) (picture tags alpha stencil : List ℕ) →
    DrawnAll memory actions width (pixel_at y) (pixel_in (replicate a 0) (replicate b 0) (replicate n 0) (replicate m 0)) (pixel_in picture tags alpha stencil) →
    length picture ≡ 3 * width → length tags ≡ width →
    (picture ≡ row_colours memory actions width y) × (tags ≡ row_tags memory actions width y)
drawn-from-zeros memory actions width y a b n m picture tags alpha stencil drawn long-picture long-tags =
    let at : (x : ℕ) → x < width → pixel_in picture tags alpha stencil x ≡ pixel_of memory actions y x =
    λ x h. drawn x h ∙ ap (drawn_by memory actions (pixel_at x) (pixel_at y)) (blank_at a b n m x)
    in (
      colours-are (pixel_of memory actions y) width picture tags alpha stencil at long-picture,
      tags-are (pixel_of memory actions y) width picture tags alpha stencil at long-tags,
    )
