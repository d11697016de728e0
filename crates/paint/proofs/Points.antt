-- One pixel of a row written: it is read back, and every other pixel is as it was.
use mathlib.Core.List.{List}
use mathlib.Core.Path.{◌≡◌, ◌∙◌, refl}
use Prim.Native.Nat.{ℕ, ◌+◌, ◌*◌, ◌<◌}
use native.Mathlib.Omega.{arith}
use lib.ListN.{length, get_or, set, length-set}
use lib.Seq.{get_or-set_same, get_or-set_other}
use Rattle.pixel.specs.declared.Pixel.{Pixel}
use Rattle.pixel.specs.declared.plain.Fill.{Fill}
use Rattle.pixel.specs.Plain.{filled}
use Rattle.paint.specs.Runs.{Touched, pixel_in}

pub same-pixel :
    (p q : Pixel) → p.red ≡ q.red → p.green ≡ q.green → p.blue ≡ q.blue → p.alpha ≡ q.alpha → p.stencil ≡ q.stencil → p.tag ≡ q.tag → p ≡ q
same-pixel p q e f g h j k = λ i. record { red = e i; green = f i; blue = g i; alpha = h i; stencil = j i; tag = k i }

-- the three bytes of a pixel are written
module _ (picture : List ℕ) (x r g b : ℕ) where
  abbrev one : List ℕ
  one = set picture (3 * x) r

  abbrev two : List ℕ
  two = set one (3 * x + 1) g

  abbrev pub three : List ℕ
  three = set two (3 * x + 2) b

  red-back : 3 * x + 2 < length picture → get_or three (3 * x) 0 ≡ r
  red-back h =
      get_or-set_other two (3 * x + 2) (3 * x) b 0 (omega arith)
      ∙ get_or-set_other one (3 * x + 1) (3 * x) g 0 (omega arith)
      ∙ get_or-set_same picture (3 * x) r 0 (omega arith)

  green-back : 3 * x + 2 < length picture → get_or three (3 * x + 1) 0 ≡ g
  green-back h =
      get_or-set_other two (3 * x + 2) (3 * x + 1) b 0 (omega arith)
      ∙ get_or-set_same one (3 * x + 1) g 0 (simp length-set (omega arith))

  blue-back : 3 * x + 2 < length picture → get_or three (3 * x + 2) 0 ≡ b
  blue-back h = get_or-set_same two (3 * x + 2) b 0 (simp length-set (omega arith))

  elsewhere : (i : ℕ) → (i ≡ 3 * x → ⊥) → (i ≡ 3 * x + 1 → ⊥) → (i ≡ 3 * x + 2 → ⊥) → get_or three i 0 ≡ get_or picture i 0
  elsewhere i e f h =
      get_or-set_other two (3 * x + 2) i b 0 h ∙ get_or-set_other one (3 * x + 1) i g 0 f ∙ get_or-set_other picture (3 * x) i r 0 e

-- a pixel with the colour of a filling
unfoldable pub tinted : Fill → Pixel → Pixel
tinted with before =
    record {
      red = with.red;
      green = with.green;
      blue = with.blue;
      alpha = before.alpha;
      stencil = before.stencil;
      tag = before.tag;
    }

module _ (x : ℕ) (colours tags alpha stencil : List ℕ) where
  pub touched_tinted :
      (p : Fill) → 3 * x + 2 < length colours →
      Touched x (tinted p) (pixel_in colours tags alpha stencil) (pixel_in (three colours x p.red p.green p.blue) tags alpha stencil)
  unfolding pixel_in tinted
  touched_tinted p h =
      record {
        at = same-pixel _ _ (red-back colours x _ _ _ h) (green-back colours x _ _ _ h) (blue-back colours x _ _ _ h) refl refl refl;
        other =
            λ k n. same-pixel _ _ (elsewhere colours x _ _ _ (3 * k) (omega arith) (omega arith) (omega arith))
            (elsewhere colours x _ _ _ (3 * k + 1) (omega arith) (omega arith) (omega arith))
            (elsewhere colours x _ _ _ (3 * k + 2) (omega arith) (omega arith) (omega arith))
            refl
            refl
            refl;
      }

module _ (x : ℕ) (colours tags alpha stencil : List ℕ) (p : Pixel) where
  pub touched_set :
      3 * x + 2 < length colours → x < length tags → x < length alpha → x < length stencil →
      Touched x (λ _. p) (pixel_in colours tags alpha stencil)
      (pixel_in (three colours x p.red p.green p.blue) (set tags x p.tag) (set alpha x p.alpha) (set stencil x p.stencil))
  unfolding pixel_in
  touched_set h t a s =
      record {
        at =
            same-pixel _ _ (red-back colours x _ _ _ h) (green-back colours x _ _ _ h) (blue-back colours x _ _ _ h)
            (get_or-set_same alpha x _ 0 a)
            (get_or-set_same stencil x _ 0 s)
            (get_or-set_same tags x _ 0 t);
        other =
            λ k n. same-pixel _ _ (elsewhere colours x _ _ _ (3 * k) (omega arith) (omega arith) (omega arith))
            (elsewhere colours x _ _ _ (3 * k + 1) (omega arith) (omega arith) (omega arith))
            (elsewhere colours x _ _ _ (3 * k + 2) (omega arith) (omega arith) (omega arith))
            (get_or-set_other alpha x k _ 0 n)
            (get_or-set_other stencil x k _ 0 n)
            (get_or-set_other tags x k _ 0 n);
      }

-- a filling written, colour, alpha and tag
module _ (x : ℕ) (picture tags alpha stencil : List ℕ) where
  pub touched-fill :
      (f : Fill) → 3 * x + 2 < length picture → x < length tags → x < length alpha →
      Touched x (filled f) (pixel_in picture tags alpha stencil) (pixel_in (three picture x f.red f.green f.blue) (set tags x f.tag) (set alpha x f.alpha) stencil)
  unfolding pixel_in filled
  touched-fill f h t a =
      record {
        at =
            same-pixel _ _ (red-back picture x _ _ _ h) (green-back picture x _ _ _ h) (blue-back picture x _ _ _ h)
            (get_or-set_same alpha x _ 0 a)
            refl
            (get_or-set_same tags x _ 0 t);
        other =
            λ k n. same-pixel _ _ (elsewhere picture x _ _ _ (3 * k) (omega arith) (omega arith) (omega arith))
            (elsewhere picture x _ _ _ (3 * k + 1) (omega arith) (omega arith) (omega arith))
            (elsewhere picture x _ _ _ (3 * k + 2) (omega arith) (omega arith) (omega arith))
            (get_or-set_other alpha x k _ 0 n)
            refl
            (get_or-set_other tags x k _ 0 n);
      }
