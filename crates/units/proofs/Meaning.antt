-- Each definition on kept numbers means what its contract says, and a number meant is kept in one way. Assumes nothing.
use mathlib.Core.Path.{◌≡◌, refl, sym, ◌∙◌, ap}
use Prim.Native.Nat.{ℕ, ◌+◌, ◌-◌, ◌*◌, ◌^◌, ◌<◌, ◌≤◌}
use native.Mathlib.Omega.{arith}
use lib.IntN.{ℤ, pos, nat_abs, sub_ℕ, ◌+ℤ◌, ◌-ℤ◌, ◌*ℤ◌}
use lib.Signed.{◌≤ℤ◌}
use Rattle.units.specs.Units.{displacement, meant_pixels, meant_sixteenths, distance, pixel_at, sixteenth_at, floored, further_on, sampled, spaced, Movable, no_translation, meant_translation, translation_at, TranslationOf, PixelOf, FurtherOn, SixteenthOf, MovedBy, Holds, SampledAt, ApartBy}
use Rattle.units.specs.declared.LengthInPixels.{LengthInPixels}
use Rattle.units.specs.declared.Pixels.{Pixels}
use Rattle.units.specs.declared.Sixteenths.{Sixteenths}
use Rattle.units.proofs.AnyDisplacement.{nearby, meant-once, pixel-meant, moved-meant, origin-meant, meant-kept, floor-meant, times-meant, mean-meant, apart-meant, order-meant, counted-most, counted-sum}

pub pixel-at : (n : ℕ) → PixelOf n (pixel_at n)
unfolding meant_pixels
pixel-at n = record { kept = refl; meant = pixel-meant displacement n }

pub further-on : (count : LengthInPixels) (p : Pixels) → FurtherOn count p (further_on p count)
unfolding meant_pixels
further-on count p =
    record { kept = refl; meant = moved-meant (pos displacement) (pos p.0) (pos count.0) }

pub sixteenth-at : (z : ℤ) → nat_abs z ≤ 8 * displacement → SixteenthOf z (sixteenth_at z)
unfolding meant_sixteenths sixteenth_at
sixteenth-at z h =
    let e = nearby (16 * displacement) (8 * displacement) z h (omega arith) in
    record {
      kept = refl;
      near = (omega arith, omega arith);
      meant = ap (λ (y : ℤ). y -ℤ pos (16 * displacement)) (sym e.sum) ∙ origin-meant (pos (16 * displacement)) z;
    }

pub moved_by : (t : ℤ) (s : Sixteenths) → nat_abs t ≤ 2 ^ 31 → Movable s → MovedBy t s (record { 0 = nat_abs (pos s.0 +ℤ t) })
unfolding meant_sixteenths
moved_by t s h m =
    let e = nearby s.0 (2 ^ 31) t h m.0 in
    record {
      kept = refl;
      near = e.near;
      meant = ap (λ (y : ℤ). y -ℤ pos (16 * displacement)) (sym e.sum) ∙ moved-meant (pos (16 * displacement)) (pos s.0) t;
    }

pub translation-of : (t : ℤ) → nat_abs t ≤ no_translation → TranslationOf t (translation_at t)
unfolding meant_translation translation_at
translation-of t h =
    let e = nearby no_translation no_translation t h (omega arith) in
    record { kept = refl; meant = ap (λ (y : ℤ). y -ℤ pos no_translation) (sym e.sum) ∙ origin-meant (pos no_translation) t }

pub translated-by : (n : ℕ) (s : Sixteenths) → n < 2 ^ 32 → Movable s → MovedBy (meant_translation n) s (record { 0 = s.0 + n - no_translation })
unfolding meant_translation
translated-by n s l m =
    rw (sym (counted-sum s.0 n no_translation m.0)) (moved_by (sub_ℕ n no_translation) s (counted-most n no_translation l) m)

pub floored-holds : (s : Sixteenths) → Holds (floored s) s
unfolding meant_pixels meant_sixteenths
floored-holds s = record { kept = refl; meant = floor-meant displacement s.0 }

pub sampled-at : (p : Pixels) → SampledAt p (sampled p)
unfolding meant_pixels meant_sixteenths
sampled-at p = record { kept = refl; meant = times-meant 16 displacement p.0 }

pub apart_by : {d : ℕ} (a b : Sixteenths) → d ≡ spaced a b → ApartBy a b d
unfolding meant_sixteenths distance
apart_by a b e = record { kept = e; meant = e ∙ sym (apart-meant (16 * displacement) a.0 b.0) }

-- no second number is kept for what is meant
pub pixels-once : (p q : Pixels) → meant_pixels p ≡ meant_pixels q → p.0 ≡ q.0
unfolding meant_pixels
pixels-once p q e = meant-once displacement p.0 q.0 e

pub sixteenths-once : (s t : Sixteenths) → meant_sixteenths s ≡ meant_sixteenths t → s.0 ≡ t.0
unfolding meant_sixteenths
sixteenths-once s t e = meant-once (16 * displacement) s.0 t.0 e

-- a position is the number that is kept of it
pub pixels-at : {n : ℕ} {p : Pixels} → PixelOf n p → p ≡ pixel_at n
pixels-at e = ap (λ (n : ℕ). record { 0 = n }) e.kept

pub pixels-on : {n : LengthInPixels} {p q : Pixels} → FurtherOn n p q → q ≡ further_on p n
pixels-on e = ap (λ (n : ℕ). record { 0 = n }) e.kept

pub pixels-holding : {p : Pixels} {s : Sixteenths} → Holds p s → p ≡ floored s
pixels-holding e = ap (λ (n : ℕ). record { 0 = n }) e.kept

-- a position is where it is meant to be
pub at-meant : (s : Sixteenths) → s ≡ sixteenth_at (meant_sixteenths s)
unfolding meant_sixteenths sixteenth_at
at-meant s = rw (meant-kept (pos (16 * displacement)) (pos s.0))

pub placed_at : {s : Sixteenths} {z : ℤ} → meant_sixteenths s ≡ z → s ≡ sixteenth_at z
placed_at {s} e = at-meant s ∙ ap sixteenth_at e

-- a vertex of VERTEX2F, and one of VERTEX2II: the number in sixteenths, and the translation
pub moved_at : {z t : ℤ} {s r : Sixteenths} → SixteenthOf z s → MovedBy t s r → r ≡ sixteenth_at (z +ℤ t)
moved_at {z} {t} o m = placed_at (m.meant ∙ ap (λ (y : ℤ). y +ℤ t) o.meant)

pub sampled-moved-at : {n : ℕ} {t : ℤ} {p : Pixels} {s r : Sixteenths} → PixelOf n p → SampledAt p s → MovedBy t s r → r ≡ sixteenth_at (pos (16 * n) +ℤ t)
sampled-moved-at {n} {t} o a m =
    placed_at
    (m.meant
    ∙ ap (λ (y : ℤ). y +ℤ t) (a.meant ∙ ap (λ (y : ℤ). pos 16 *ℤ y) o.meant))

-- two kept numbers in order mean two numbers in order
pub in_order : (a b : Sixteenths) → a.0 ≤ b.0 → meant_sixteenths a ≤ℤ meant_sixteenths b
unfolding meant_sixteenths
in_order a b l = order-meant (16 * displacement) a.0 b.0 l

-- the mean of two positions by two weights, as kept and as meant
pub mean-apart : (k n : ℕ) (a b s : Sixteenths) → distance (pos (k + n) *ℤ meant_sixteenths s) (pos k *ℤ meant_sixteenths a +ℤ pos n *ℤ meant_sixteenths b) ≡ spaced (record { 0 = (k + n) * s.0 }) (record { 0 = k * a.0 + n * b.0 })
unfolding distance meant_sixteenths
mean-apart k n a b s = mean-meant (16 * displacement) k n a.0 b.0 s.0
