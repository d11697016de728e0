-- A chord's columns asked about one by one: a step is done where the chord holds the column. Assumes nothing.
use mathlib.Core.Bool.{Bool, true, false, cond, false≢true}
use mathlib.Core.List.{List}
use mathlib.Core.Path.{◌≡◌, refl, sym, ◌∙◌, ap}
use Prim.Native.Nat.{ℕ, ◌*◌, ◌<◌, ◌≤◌}
use native.Mathlib.Omega.{arith}
use lib.ListN.{length}
use Rattle.action.specs.declared.Drawing.{Drawing}
use Rattle.action.specs.declared.ink.Masks.{Masks}
use Rattle.pixel.specs.declared.Pixel.{Pixel}
use Rattle.pixel.specs.declared.plain.Fill.{Fill}
use Rattle.pixel.specs.declared.plain.Plain.{Plain}
use Rattle.pixel.specs.declared.plain.Plain.TheVariants as p
use Rattle.pixel.specs.Plain.{filled}
use Rattle.shape.specs.declared.Chord.{Chord}
use Rattle.shape.specs.OneRow.{Sampled, holds_in}
use Rattle.units.specs.declared.Pixels.{Pixels}
use Rattle.units.proofs.Meaning.{pixels-at}
use Rattle.units.specs.Units.{PixelOf, pixel_at, widest}
use Rattle.paint.specs.Runs.{PlainDrawing, Touched, Swept, change}
use Rattle.paint.proofs.Turns.{SameLong, is_wipe, swept_as}

-- a step at the columns that a chord holds
unfoldable pub held : Chord → (ℕ → Pixel → Pixel) → ℕ → Pixel → Pixel
held chord step x before = cond (holds_in chord (pixel_at x)) (step x before) before

-- a drawing that does the same to every pixel, over a chord, of which a wiped one holds every column of a frame
pub record PlainOver (chord : Chord) (masks : Masks) (drawing : Drawing) (plain : Plain) : Type 0 where
  pub plainly : PlainDrawing masks drawing plain
  pub flat : (with : Pixel) → plain ≡ p.Wipe with → (x : ℕ) → x < widest → holds_in chord (pixel_at x) ≡ true

-- the runs of a row of this width; 'Work rows hold alpha and stencil for 800 pixels'
abbrev pub Lent : ℕ → List ℕ → List ℕ → List ℕ → List ℕ → Type 0
Lent width picture tags alpha stencil =
    (length picture ≡ 3 * width) × ((length tags ≡ width) × ((length alpha ≡ widest) × ((length stencil ≡ widest) × (width ≤ widest))))

-- the runs are still of these lengths
module _ {picture₀ tags₀ alpha₀ stencil₀ picture tags alpha stencil : List ℕ} (s : SameLong picture₀ tags₀ alpha₀ stencil₀ picture tags alpha stencil) where
  pub still-there : (width : ℕ) → Lent width picture₀ tags₀ alpha₀ stencil₀ → Lent width picture tags alpha stencil
  still-there width l =
      (s.pictures ∙ l.0, (s.tagged ∙ l.1.0, (s.alphas ∙ l.1.1.0, (s.stencils ∙ l.1.1.1.0, l.1.1.1.1))))

-- a column was asked about: it is held and was touched, or it is not and was left
module _ (chord : Chord) (step : ℕ → Pixel → Pixel) {x : ℕ} {p : Pixels} {b : Bool} (old : ℕ → Pixel) (at : PixelOf x p) (asked : b ≡ holds_in chord p) where
  pub touched-held :
      (step' : Pixel → Pixel) (now : ℕ → Pixel) → b ≡ true → step' (old x) ≡ step x (old x) → Touched x step' old now → Touched x (held chord step x) old now
  unfolding held
  touched-held step' now t same touched =
      let e : holds_in chord (pixel_at x) ≡ true = ap (holds_in chord) (sym (pixels-at at)) ∙ sym asked ∙ t in
      record { at = touched.at ∙ same ∙ rw e; other = touched.other }

  pub touched-left : b ≡ false → Touched x (held chord step x) old old
  unfolding held
  touched-left t =
      let e : holds_in chord (pixel_at x) ≡ false = ap (holds_in chord) (sym (pixels-at at)) ∙ sym asked ∙ t in
      record { at = rw e; other = λ k n. refl }

pub held_same :
    (chord : Chord) (step step' : ℕ → Pixel → Pixel) (x : ℕ) (p : Pixel) → step x p ≡ step' x p → held chord step x p ≡ held chord step' x p
unfolding held
held_same chord step step' x p e = ap (λ (q : Pixel). cond (holds_in chord (pixel_at x)) q p) e

pub over_any : (chord : Chord) (masks : Masks) (drawing : Drawing) (plain : Plain) → is_wipe plain ≡ false → PlainDrawing masks drawing plain → PlainOver chord masks drawing plain
over_any chord masks drawing plain other plainly =
    record { plainly = plainly; flat = λ with e. absurd (false≢true (sym other ∙ ap is_wipe e)) }

pub over-flat :
    (chord : Chord) (masks : Masks) (drawing : Drawing) (plain : Plain) → PlainDrawing masks drawing plain →
    ((p : Pixels) → Sampled p → holds_in chord p ≡ true) → PlainOver chord masks drawing plain
over-flat chord masks drawing plain plainly all = record { plainly = plainly; flat = λ with e x h. all (pixel_at x) (omega arith) }

-- a choice of one thing
either_way : (b : Bool) (p : Pixel) → cond b p p ≡ p
either_way true p = refl
either_way false p = refl

-- the short ways: what they make of a column is what the drawing makes of it
module _ (memory : List ℕ) (masks : Masks) (drawing : Drawing) (q : Pixels) (chord : Chord) (from to : ℕ) (old now : ℕ → Pixel) where
  abbrev drawn : ℕ → Pixel → Pixel
  drawn = held chord (change memory masks drawing q)

  pub swept-nothing : PlainDrawing masks drawing p.Nothing → now ≡ old → Swept from to drawn old now
  unfolding held
  swept-nothing plain e =
      rw e
      (record {
        inside = λ k h l. sym (rw (plain memory (pixel_at k) q (old k)) (either_way (holds_in chord (pixel_at k)) (old k)));
        outside = λ k h. refl;
      })

  pub swept-fill : (fill : Fill) → PlainDrawing masks drawing (p.Fill fill) → Swept from to (held chord (λ _. filled fill)) old now → Swept from to drawn old now
  swept-fill fill plain =
      swept_as from to _ drawn old now
      (λ k h p. held_same chord (λ _. filled fill) (change memory masks drawing q) k p (sym (plain memory (pixel_at k) q p)))

  pub swept-wipe :
      (with : Pixel) → PlainDrawing masks drawing (p.Wipe with) → ((k : ℕ) → k < to → holds_in chord (pixel_at k) ≡ true) →
      Swept from to (λ _ _. with) old now → Swept from to drawn old now
  unfolding held
  swept-wipe with plain all =
      swept_as from to _ drawn old now (λ k h p. rw (all k h) (sym (plain memory (pixel_at k) q p)))
