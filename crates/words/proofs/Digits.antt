-- One law of digits for every command: fields laid side by side are read back as they were laid, and laid as they were read.
-- Assumes nothing.
use Prim.Native.Nat.{ℕ, suc, ◌+◌, ◌*◌, ◌-◌, ◌/◌, ◌%◌, ◌^◌, ◌<◌, ◌≤◌}
use mathlib.Core.Path.{◌≡◌, refl, sym, ap, ◌∙◌}
use mathlib.Core.Bool.{Bool, true, false, cond, ◌&&◌}
use mathlib.Core.List.{List, [], ◌∷◌}
use mathlib.Core.Logic.{⊎_elim}
use native.Mathlib.Nat.{mod-lt, mod-eq_of_lt, mul-le-mul_right, pow-suc}
use native.Mathlib.Omega.{arith}
use lib.Dec.{ltb, leb}
use lib.Pow.{pow_pos, pow-add, pow_mono, mod-pow-add, high, low, high_ones}
use borrow.Author.Tests.{ltb-true, ltb-false, lt-ltb, le-ltb, le-leb, leb-true}
use Rattle.truth.proofs.Bools.{both-made, both_true, either_true}
use Rattle.words.specs.declared.field.Field.{Field}
use Rattle.words.specs.declared.field.Field.TheVariants.{Bits, Only, Signed}
use Rattle.words.specs.Fields.{meant, extended, holds_signed, width, value, means, holds, total, above, values, all_mean, fit, join}
use Rattle.words.specs.Layout.{signs, all_signs}

-- a digit below A before a number below B
below : (A B a b : ℕ) → a < A → b < B → a * B + b < A * B
below A B a b ha hb = omega (arith, mul-le-mul_right B ha)

-- bits of a field laid above others
pub laid-lt : (k t n j : ℕ) → j < 2 ^ t → n % 2 ^ k * 2 ^ t + j < 2 ^ (k + t)
laid-lt k t n j h = rw (pow-add 2 k t) (below (2 ^ k) (2 ^ t) (n % 2 ^ k) j (mod-lt n (pow_pos k)) h)

pub join-lt : (fs : List Field) (ns : List ℕ) → join fs ns < 2 ^ total fs
join-lt [] ns = omega arith
join-lt (f ∷ fs) [] = pow_pos (total (f ∷ fs))
join-lt (f ∷ fs) (n ∷ ns) = laid-lt (width f) (total fs) n (join fs ns) (join-lt fs ns)

pub pack-fits : (k t n j : ℕ) → j < 2 ^ t → k + t ≤ 30 → n % 2 ^ k * 2 ^ t + j < 2 ^ 32
pack-fits k t n j h l = omega (arith, laid-lt k t n j h, pow_mono l)

pub join-fits : (fs : List Field) (ns : List ℕ) → total fs ≤ 30 → join fs ns < 2 ^ 30
join-fits fs ns l = omega (arith, join-lt fs ns, pow_mono l)

-- ONE FIELD. A number that it holds is read back from its bits, and its bits back from the number that they stand for.

-- a signed field of k bits
module _ (k : ℕ) (wide : k ≤ 30) (some : 1 ≤ k) where
  pub halves : 2 ^ k / 2 + 2 ^ k / 2 ≡ 2 ^ k
  halves =
      let q : k ≡ suc (k - 1) = omega arith in
      let e : 2 ^ k ≡ 2 ^ (k - 1) * 2 = ap (λ (x : ℕ). 2 ^ x) q ∙ pow-suc 2 (k - 1) in
      omega arith

  -- set bits above the field do not count
  upper : (m : ℕ) → m < 2 ^ k → (2 ^ 32 - 2 ^ k + m) % 2 ^ k ≡ m
  upper m h =
      let q : 32 ≡ 32 - k + k = omega arith in
      let e : 2 ^ 32 - 2 ^ k ≡ (2 ^ (32 - k) - 1) * 2 ^ k = ap (λ (x : ℕ). 2 ^ x - 2 ^ k) q ∙ high_ones (32 - k) k in
      rw e (low (2 ^ (32 - k) - 1) k h)

  small : 2 ^ k ≤ 2 ^ 30
  small = pow_mono wide

  extended-bits : (n : ℕ) → n < 2 ^ k → extended (2 ^ k / 2) n % 2 ^ k ≡ n
  extended-bits n h = go (ltb n (2 ^ k / 2))
    where
      go : (t : Bool) → cond t n (2 ^ 32 - (2 ^ k / 2 + 2 ^ k / 2) + n) % 2 ^ k ≡ n
      go true = mod-eq_of_lt h
      go false = rw halves (upper n h)

  extended-held : (n : ℕ) → n < 2 ^ k → holds_signed (2 ^ k / 2) (extended (2 ^ k / 2) n) ≡ true
  unfolding holds_signed
  extended-held n h = go (ltb n (2 ^ k / 2)) refl
    where
      go : (t : Bool) → ltb n (2 ^ k / 2) ≡ t → holds_signed (2 ^ k / 2) (cond t n (2 ^ 32 - (2 ^ k / 2 + 2 ^ k / 2) + n)) ≡ true
      go true e = rw e
      go false e =
          let l : 2 ^ k / 2 ≤ n = ltb-false _ _ e in
          rw (
            halves,
            le-ltb (2 ^ 32 - 2 ^ k + n) (2 ^ k / 2) (omega (arith, small)),
            le-leb (2 ^ 32 - 2 ^ k / 2) (2 ^ 32 - 2 ^ k + n) (omega (arith, small, halves)),
            lt-ltb (2 ^ 32 - 2 ^ k + n) (2 ^ 32) (omega (arith, small)),
          )

  held-extended : (n : ℕ) → holds_signed (2 ^ k / 2) n ≡ true → extended (2 ^ k / 2) (n % 2 ^ k) ≡ n
  unfolding holds_signed
  held-extended n ok = ⊎_elim below_half above_half (either_true _ _ ok)
    where
      below_half : ltb n (2 ^ k / 2) ≡ true → extended (2 ^ k / 2) (n % 2 ^ k) ≡ n
      below_half e =
          let l : n < 2 ^ k / 2 = ltb-true _ _ e in
          let m : n % 2 ^ k ≡ n = mod-eq_of_lt (omega (arith, halves)) in
          rw (m, e)

      above_half : leb (2 ^ 32 - 2 ^ k / 2) n && ltb n (2 ^ 32) ≡ true → extended (2 ^ k / 2) (n % 2 ^ k) ≡ n
      above_half e =
          let l : 2 ^ 32 - 2 ^ k / 2 ≤ n = leb-true _ _ (both_true (leb (2 ^ 32 - 2 ^ k / 2) n) _ e).0 in
          let u : n < 2 ^ 32 = ltb-true _ _ (both_true (leb (2 ^ 32 - 2 ^ k / 2) n) _ e).1 in
          let q : 2 ^ 32 - 2 ^ k + (n - (2 ^ 32 - 2 ^ k)) ≡ n = omega (arith, small, halves) in
          let m : n % 2 ^ k ≡ n - (2 ^ 32 - 2 ^ k) =
          ap (λ (x : ℕ). x % 2 ^ k) (sym q) ∙ upper (n - (2 ^ 32 - 2 ^ k)) (omega (arith, small, halves)) in
          rw (m, le-ltb (n - (2 ^ 32 - 2 ^ k)) (2 ^ k / 2) (omega (arith, small, halves)), halves) q

value-bits : (f : Field) (n : ℕ) → width f ≤ 30 → signs f ≡ true → n < 2 ^ width f → value f n % 2 ^ width f ≡ n
value-bits (Bits k) n w s h = mod-eq_of_lt h
value-bits (Only k m) n w s h = mod-eq_of_lt h
value-bits (Signed k) n w s h = extended-bits k w (leb-true _ _ s) n h

value-held : (f : Field) (n : ℕ) → width f ≤ 30 → signs f ≡ true → n < 2 ^ width f → means f (value f n) ≡ true → holds f (value f n) ≡ true
unfolding holds
value-held (Bits k) n w s h m = lt-ltb _ _ h
value-held (Only k t) n w s h m = rw m (lt-ltb _ _ h)
value-held (Signed k) n w s h m = extended-held k w (leb-true _ _ s) n h

held-value : (f : Field) (n : ℕ) → width f ≤ 30 → signs f ≡ true → holds f n ≡ true → value f (n % 2 ^ width f) ≡ n
unfolding holds
held-value (Bits k) n w s h = mod-eq_of_lt (ltb-true _ _ h)
held-value (Only k m) n w s h = mod-eq_of_lt (ltb-true _ _ (both_true (meant m n) _ h).1)
held-value (Signed k) n w s h = held-extended k w (leb-true _ _ s) n h

held-means : (f : Field) (n : ℕ) → holds f n ≡ true → means f n ≡ true
unfolding holds
held-means (Bits k) n h = refl
held-means (Only k m) n h = (both_true (meant m n) _ h).0
held-means (Signed k) n h = refl

-- ALL FIELDS.

pub above-div : (fs : List Field) (w : ℕ) → above fs w ≡ w / 2 ^ total fs
above-div [] w = omega arith
above-div (f ∷ fs) w = refl

regroup : (h k t a j : ℕ) → h * 2 ^ (k + t) + (a * 2 ^ t + j) ≡ (h * 2 ^ k + a) * 2 ^ t + j
regroup h k t a j = rw (pow-add 2 k t) (omega arith)

-- the digit above the fields fs
digit : (fs : List Field) (h k a j : ℕ) → a < 2 ^ k → j < 2 ^ total fs → above fs ((h * 2 ^ k + a) * 2 ^ total fs + j) % 2 ^ k ≡ a
digit fs h k a j la lj = rw (above-div fs ((h * 2 ^ k + a) * 2 ^ total fs + j), high (h * 2 ^ k + a) (total fs) lj) (low h k la)

-- as many numbers as there are fields
abbrev pub front : List Field → List ℕ → List ℕ
front [] ns = []
front (f ∷ fs) [] = []
front (f ∷ fs) (n ∷ ns) = n ∷ front fs ns

-- numbers that are laid are read back, whatever stands above them
pub values_join : (fs : List Field) (ns : List ℕ) (h : ℕ) → total fs ≤ 30 → all_signs fs ≡ true → fit fs ns ≡ true → values fs (h * 2 ^ total fs + join fs ns) ≡ front fs ns
values_join [] ns h w s f = refl
values_join (g ∷ fs) [] h w s f = let z : ◌≡◌ {A = ℕ} 0 1 = cc in absurd (omega arith)
values_join (g ∷ fs) (n ∷ ns) h w s f =
    rw (
      regroup h (width g) (total fs) (n % 2 ^ width g) (join fs ns),
      digit fs h (width g) (n % 2 ^ width g) (join fs ns) (mod-lt n (pow_pos (width g))) (join-lt fs ns),
      held-value g n (omega arith) (both_true (signs g) _ s).0 (both_true (holds g n) _ f).0,
      values_join fs ns (h * 2 ^ width g + n % 2 ^ width g) (omega arith) (both_true (signs g) _ s).1 (both_true (holds g n) _ f).1,
    )

-- numbers that are read are laid as they were
pub join-values : (fs : List Field) (w : ℕ) → total fs ≤ 30 → all_signs fs ≡ true → join fs (values fs w) ≡ w % 2 ^ total fs
join-values [] w l s = omega arith
join-values (g ∷ fs) w l s =
    rw (
      value-bits g (above fs w % 2 ^ width g) (omega arith) (both_true (signs g) _ s).0 (mod-lt _ (pow_pos (width g))),
      join-values fs w (omega arith) (both_true (signs g) _ s).1,
      above-div fs w,
      ← mod-pow-add w (width g) (total fs),
    )

-- what lies above the fields is not read
pub values_low : (fs : List Field) (w h : ℕ) → values fs (h * 2 ^ total fs + w % 2 ^ total fs) ≡ values fs w
values_low [] w h = refl
values_low (g ∷ fs) w h =
    rw (
      mod-pow-add w (width g) (total fs),
      regroup h (width g) (total fs) (w / 2 ^ total fs % 2 ^ width g) (w % 2 ^ total fs),
      digit fs h (width g) (w / 2 ^ total fs % 2 ^ width g) (w % 2 ^ total fs) (mod-lt _ (pow_pos (width g))) (mod-lt w (pow_pos (total fs))),
      values_low fs w (h * 2 ^ width g + w / 2 ^ total fs % 2 ^ width g),
      above-div fs w,
    )

-- numbers that are read and have a meaning fit
pub fit-values : (fs : List Field) (w : ℕ) → total fs ≤ 30 → all_signs fs ≡ true → all_mean fs (values fs w) ≡ true → fit fs (values fs w) ≡ true
fit-values [] w l s m = refl
fit-values (g ∷ fs) w l s m =
    let t = both_true (means g (value g (above fs w % 2 ^ width g))) _ m in
    both-made
    (value-held g (above fs w % 2 ^ width g) (omega arith) (both_true (signs g) _ s).0 (mod-lt _ (pow_pos (width g))) t.0)
    (fit-values fs w (omega arith) (both_true (signs g) _ s).1 t.1)

-- numbers that fit have a meaning
pub fit-means : (fs : List Field) (ns : List ℕ) → fit fs ns ≡ true → all_mean fs (front fs ns) ≡ true
fit-means [] ns f = refl
fit-means (g ∷ fs) [] f = refl
fit-means (g ∷ fs) (n ∷ ns) f = both-made (held-means g n (both_true (holds g n) _ f).0) (fit-means fs ns (both_true (holds g n) _ f).1)
