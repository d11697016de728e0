-- The bytes of a row are those of its pixels.
use mathlib.Core.List.{List, append_assoc}
use mathlib.Core.Path.{◌≡◌, refl, ◌∙◌, ap}
use Prim.Native.Nat.{ℕ, zero, suc, ◌+◌, ◌*◌, ◌<◌, ◌≤◌}
use native.Mathlib.Numerals.{add-one, add-two}
use native.Mathlib.Omega.{arith}
use lib.Seq.{take-suc}
use lib.ListN.{length, get_or, take, replicate, length-append}
use Rattle.action.specs.declared.Action.{Action}
use Rattle.pixel.specs.declared.Pixel.{Pixel}
use Rattle.units.specs.Units.{pixel_at}
use Rattle.paint.specs.Picture.{blank, colours_of, drawn_by, pixel_of, tags_of}
use Rattle.paint.specs.Runs.{BlankUpTo, DrawnAll, pixel_in, pixels}
use Rattle.paint.specs.declared.row.Row.{Row}
use Rattle.paint.proofs.Points.{same-pixel}

-- runs of zeros are blank pixels
zero-at : (n i : ℕ) → ◌≡◌ {A = ℕ} (get_or (replicate n 0) i 0) 0
zero-at zero i = refl
zero-at (suc n) zero = refl
zero-at (suc n) (suc i) = zero-at n i

pub blank_at : (a b c d x : ℕ) → pixel_in (replicate a 0) (replicate b 0) (replicate c 0) (replicate d 0) x ≡ blank
unfolding pixel_in
blank_at a b c d x =
    same-pixel _ _ (zero-at a (3 * x)) (zero-at a (3 * x + 1)) (zero-at a (3 * x + 2)) (zero-at c x) (zero-at d x) (zero-at b x)

-- the bytes of a row's first pixels
module _ (row : Row) where
  pub colours-laid : (n : ℕ) → 3 * n ≤ length row.colours → take (3 * n) row.colours ≡ colours_of (pixels row) n
  unfolding colours_of pixel_in
  colours-laid zero h = refl
  colours-laid (suc n) h =
      let e : 3 * suc n ≡ suc (suc (suc (3 * n))) = omega arith in
      rw
      (e, take-suc row.colours (suc (suc (3 * n))) 0 (omega arith), take-suc row.colours (suc (3 * n)) 0 (omega arith), take-suc row.colours (3 * n) 0 (omega arith), append_assoc, append_assoc, colours-laid n (omega arith), add-one, add-two)

  pub tags-laid : (n : ℕ) → n ≤ length row.tags → take n row.tags ≡ tags_of (pixels row) n
  unfolding tags_of pixel_in
  tags-laid zero h = refl
  tags-laid (suc n) h = rw (take-suc row.tags n 0 (omega arith), tags-laid n (omega arith))

pub colours-long : (f : ℕ → Pixel) (width : ℕ) → length (colours_of f width) ≡ 3 * width
unfolding colours_of
colours-long f zero = refl
colours-long f (suc width) = length-append (colours_of f width) _ ∙ omega (arith, colours-long f width)

pub tags-long : (f : ℕ → Pixel) (width : ℕ) → length (tags_of f width) ≡ width
unfolding tags_of
tags-long f zero = refl
tags-long f (suc width) = length-append (tags_of f width) _ ∙ omega (arith, tags-long f width)

-- pixels that are the same below the width make the same bytes
pub colours-same : (f g : ℕ → Pixel) (width : ℕ) → ((x : ℕ) → x < width → f x ≡ g x) → colours_of f width ≡ colours_of g width
unfolding colours_of
colours-same f g zero h = refl
colours-same f g (suc width) h = rw (colours-same f g width (λ x l. h x (omega arith)), h width (omega arith))

pub tags-same : (f g : ℕ → Pixel) (width : ℕ) → ((x : ℕ) → x < width → f x ≡ g x) → tags_of f width ≡ tags_of g width
unfolding tags_of
tags-same f g zero h = refl
tags-same f g (suc width) h = rw (tags-same f g width (λ x l. h x (omega arith)), h width (omega arith))

-- the pixels of a row drawn from zeros
pub drawn-row :
    (memory : List ℕ) (actions : List Action) (width y : ℕ) (start row : Row) → BlankUpTo width start →
    DrawnAll memory actions width (pixel_at y) (pixels start) (pixels row) → (x : ℕ) → x < width → pixels row x ≡ pixel_of memory actions y x
drawn-row memory actions width y start row zeros drawn x h = drawn x h ∙ ap (drawn_by memory actions (pixel_at x) (pixel_at y)) (zeros x h)
