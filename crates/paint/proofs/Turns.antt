-- A row swept by a loop, turn by turn. Assumes nothing.
use mathlib.Core.Bool.{Bool, true, false}
use mathlib.Core.Logic.{◌⊎◌, inl, inr, ⊎_elim}
use mathlib.Core.List.{List}
use mathlib.Core.Path.{◌≡◌, refl, ◌∙◌}
use Prim.Native.Nat.{ℕ, ◌+◌, ◌<◌, ◌≤◌}
use native.Mathlib.Nat.{le_refl}
use native.Mathlib.Omega.{arith}
use lib.Dec.{ltb}
use lib.ListN.{length}
use borrow.Author.Tests.{ltb-true, ltb-false}
use Rattle.pixel.specs.declared.Pixel.{Pixel}
use Rattle.pixel.specs.declared.plain.Plain.{Plain}
use Rattle.pixel.specs.declared.plain.Plain.TheVariants as p
use Rattle.paint.specs.Runs.{Touched, Swept, pixel_in}
use Rattle.paint.proofs.Sweeps.{swept_none, swept-more}

below_or_not : (k n : ℕ) → (k < n) ⊎ (n ≤ k)
below_or_not k n = go (ltb k n) refl
  where
    go : (t : Bool) → ltb k n ≡ t → (k < n) ⊎ (n ≤ k)
    go true e = inl (ltb-true k n e)
    go false e = inr (ltb-false k n e)

-- the loop ended: at the end, or at the start where the end lies before it
pub swept_all :
    (from to x : ℕ) (step : ℕ → Pixel → Pixel) (old now : ℕ → Pixel) →
    to ≤ x → (x ≤ to) ⊎ (x ≡ from) → Swept from x step old now → Swept from to step old now
swept_all from to x step old now high end s =
    record {
      inside = λ k h l. s.inside k h (omega arith);
      outside = λ k h. ⊎_elim (λ (b : k < from). s.outside k (inl b)) (λ (b : to ≤ k). past k b) h;
    }
  where
    past : (k : ℕ) → to ≤ k → now k ≡ old k
    past k b =
        ⊎_elim (λ (e : x ≤ to). s.outside k (inr (omega arith)))
        (λ (e : x ≡ from). ⊎_elim (λ (f : k < from). s.outside k (inl f)) (λ (f : from ≤ k). s.outside k (inr (omega arith))) (below_or_not k from))
        end

-- the runs keep their lengths
pub record SameLong (picture₀ tags₀ alpha₀ stencil₀ picture tags alpha stencil : List ℕ) : Type 0 where
  pub pictures : length picture ≡ length picture₀
  pub tagged : length tags ≡ length tags₀
  pub alphas : length alpha ≡ length alpha₀
  pub stencils : length stencil ≡ length stencil₀

pub same_none : {picture tags alpha stencil : List ℕ} → SameLong picture tags alpha stencil picture tags alpha stencil
same_none = record { pictures = refl; tagged = refl; alphas = refl; stencils = refl }

module _ {picture₀ tags₀ alpha₀ stencil₀ picture tags alpha stencil : List ℕ} (s : SameLong picture₀ tags₀ alpha₀ stencil₀ picture tags alpha stencil) where
  pub same_more :
      (picture' tags' alpha' stencil' : List ℕ) →
      length picture' ≡ length picture → length tags' ≡ length tags → length alpha' ≡ length alpha → length stencil' ≡ length stencil →
      SameLong picture₀ tags₀ alpha₀ stencil₀ picture' tags' alpha' stencil'
  same_more picture' tags' alpha' stencil' p t a c =
      record { pictures = p ∙ s.pictures; tagged = t ∙ s.tagged; alphas = a ∙ s.alphas; stencils = c ∙ s.stencils }

-- what holds at each turn of a loop over columns
pub record Sweeps (from to : ℕ) (step : ℕ → Pixel → Pixel) (picture₀ tags₀ alpha₀ stencil₀ picture tags alpha stencil : List ℕ) (x : ℕ) : Type 0 where
  pub low : from ≤ x
  pub end : (x ≤ to) ⊎ (x ≡ from)
  pub long : SameLong picture₀ tags₀ alpha₀ stencil₀ picture tags alpha stencil
  pub done : Swept from x step (pixel_in picture₀ tags₀ alpha₀ stencil₀) (pixel_in picture tags alpha stencil)

module _ (from to : ℕ) (step : ℕ → Pixel → Pixel) (picture₀ tags₀ alpha₀ stencil₀ : List ℕ) where
  pub sweeps-none : Sweeps from to step picture₀ tags₀ alpha₀ stencil₀ picture₀ tags₀ alpha₀ stencil₀ from
  sweeps-none =
      record {
        low = le_refl from;
        end = inr refl;
        long = same_none;
        done = swept_none from step (pixel_in picture₀ tags₀ alpha₀ stencil₀);
      }

  module _ {picture tags alpha stencil : List ℕ} {x : ℕ} (s : Sweeps from to step picture₀ tags₀ alpha₀ stencil₀ picture tags alpha stencil x) where
    pub sweeps-more :
        (picture' tags' alpha' stencil' : List ℕ) → x < to →
        length picture' ≡ length picture → length tags' ≡ length tags → length alpha' ≡ length alpha → length stencil' ≡ length stencil →
        Touched x (step x) (pixel_in picture tags alpha stencil) (pixel_in picture' tags' alpha' stencil') →
        Sweeps from to step picture₀ tags₀ alpha₀ stencil₀ picture' tags' alpha' stencil' (x + 1)
    sweeps-more picture' tags' alpha' stencil' h p t a c touched =
        record {
          low = omega (arith, s.low);
          end = inl (omega arith);
          long = same_more s.long picture' tags' alpha' stencil' p t a c;
          done = swept-more from x step _ _ _ s.low s.done touched;
        }

    pub sweeps-all : to ≤ x → Swept from to step (pixel_in picture₀ tags₀ alpha₀ stencil₀) (pixel_in picture tags alpha stencil)
    sweeps-all h = swept_all from to x step _ _ h s.end s.done

-- another step that does the same
pub swept_as :
    (from to : ℕ) (step step' : ℕ → Pixel → Pixel) (old now : ℕ → Pixel) →
    ((k : ℕ) → k < to → (p : Pixel) → step k p ≡ step' k p) → Swept from to step old now → Swept from to step' old now
swept_as from to step step' old now same s = record { inside = λ k h l. s.inside k h l ∙ same k l (old k); outside = s.outside }

-- a way that writes all of a pixel
abbrev pub is_wipe : Plain → Bool
is_wipe p.Nothing = false
is_wipe (p.Fill fill) = false
is_wipe (p.Wipe pixel) = true
is_wipe p.Each = false
