-- What the host's words do to the words that wait: they join their end. Assumes nothing.
use mathlib.Core.Path.{◌≡◌, sym, ◌∙◌}
use mathlib.Core.List.{List, ◌++◌}
use Prim.Native.Nat.{ℕ, ◌+◌, ◌*◌, ◌-◌, ◌/◌, ◌%◌, ◌≤◌, ◌<◌, min}
use native.Mathlib.Nat.{add-zero, zero-add}
use native.Mathlib.Decide.{dec_le}
use native.Mathlib.Omega.{arith}
use lib.ListN.{length, get_or, take, drop, length-take, length-drop}
use lib.Seq.{get_or-take, get_or-drop}
use Rattle.runs.specs.Runs.{word_at, laid}
use Rattle.runs.proofs.Laws.{laid-long, laid-inside, laid-before, laid-past}
use Rattle.ring.specs.declared.marks.Marks.{Marks}
use Rattle.ring.specs.Flow.{words_in}
use Rattle.ring.specs.Host.{laid_around, room, past_words}
use Rattle.ring.specs.Ring.{around, waiting, word_from, queue}
use Rattle.ring.proofs.Places.{Placed, around-again, around-byte, around-within, around-past, waiting-most, waiting-whole, waiting-past-words, write-behind}
use Rattle.ring.proofs.Taking.{each-split, each_same}

same_word : (a b : List ℕ) (p q : ℕ) → ((i : ℕ) → i < 4 → get_or a (p + i) 0 ≡ get_or b (q + i) 0) → word_at a p ≡ word_at b q
unfolding word_at
same_word a b p q h =
    let e : get_or a p 0 ≡ get_or b q 0 = simp add-zero at (h 0 (omega arith)) in
    rw (e, h 1 (omega arith), h 2 (omega arith), h 3 (omega arith))

-- of bytes laid around, those up to the ring's end, and those from its start on
abbrev front : ℕ → List ℕ → List ℕ
front at new = take (4096 - at) new

abbrev back : ℕ → List ℕ → List ℕ
back at new = drop (4096 - at) new

-- THE BYTE at a place of a ring over which bytes were laid, told by how far behind their start it lies
module _ (at : ℕ) (new ring : List ℕ) (l : at ≤ 4092) (r : length ring ≡ 4096) (n : length new ≤ 4096) where
  front_long : length (front at new) ≡ min (4096 - at) (length new)
  front_long = length-take (4096 - at) new

  back_long : length (back at new) ≡ length new - (4096 - at)
  back_long = length-drop (4096 - at) new

  front_fits : at + length (front at new) ≤ length ring
  front_fits = let f = front_long in omega arith

  back_fits : 0 + length (back at new) ≤ length (laid at (front at new) ring)
  back_fits = rw (laid-long at (front at new) ring front_fits) (let b = back_long in omega arith)

  -- at a place past those from the ring's start on
  past_back : (k : ℕ) → length new - (4096 - at) ≤ k → get_or (laid_around at new ring) k 0 ≡ get_or (laid at (front at new) ring) k 0
  unfolding laid_around
  past_back k h = laid-past 0 (back at new) (laid at (front at new) ring) k (let b = back_long in omega arith) back_fits

  start-new : (j : ℕ) → j < length new → 4096 ≤ at + j → get_or (laid_around at new ring) (around at j) 0 ≡ get_or new j 0
  unfolding laid_around
  start-new j h o =
      let b = back_long in
      let q = at + j - 4096 in
      let e : 4096 - at + q ≡ j = omega arith in
      rw (around-past at j o (omega arith))
      (rw zero-add at (laid-inside 0 (back at new) (laid at (front at new) ring) q (omega arith) back_fits) ∙ get_or-drop (4096 - at) new q 0 ∙ rw e)

  byte-new : (j : ℕ) → j < length new → get_or (laid_around at new ring) (around at j) 0 ≡ get_or new j 0
  byte-new j h = elim (dec_le 4096 (at + j)) [ yes o ↦ start-new j h o | no o ↦ to_end (omega arith) ]
    where
      to_end : at + j < 4096 → get_or (laid_around at new ring) (around at j) 0 ≡ get_or new j 0
      to_end o =
          let f = front_long in
          rw (around-within at j o)
          (past_back (at + j) (omega arith) ∙ laid-inside at (front at new) ring j (omega arith) front_fits ∙ get_or-take (4096 - at) new j 0 (omega arith))

  byte-old : (j : ℕ) → length new ≤ j → j < 4096 → get_or (laid_around at new ring) (around at j) 0 ≡ get_or ring (around at j) 0
  byte-old j h k = elim (dec_le 4096 (at + j)) [ yes o ↦ from_start o | no o ↦ to_end (omega arith) ]
    where
      to_end : at + j < 4096 → get_or (laid_around at new ring) (around at j) 0 ≡ get_or ring (around at j) 0
      to_end o =
          let f = front_long in
          rw (around-within at j o) (past_back (at + j) (omega arith) ∙ laid-past at (front at new) ring (at + j) (omega arith) front_fits)

      from_start : 4096 ≤ at + j → get_or (laid_around at new ring) (around at j) 0 ≡ get_or ring (around at j) 0
      from_start o =
          rw (around-past at j o (omega arith)) (past_back (at + j - 4096) (omega arith) ∙ laid-before at (front at new) ring (at + j - 4096) (omega arith) front_fits)

  -- THE WORD there
  module _ (whole : at % 4 ≡ 0) where
    word-new : (j : ℕ) → 4 * j + 4 ≤ length new → word_at (laid_around at new ring) (around at (4 * j)) ≡ word_at new (4 * j)
    word-new j h = same_word _ _ _ _ (λ i k. rw (around-byte at (4 * j) i whole (omega arith) k) (byte-new (4 * j + i) (omega arith)))

    word-old : (b : ℕ) → b % 4 ≡ 0 → length new ≤ b → b + 4 ≤ 4096 → word_at (laid_around at new ring) (around at b) ≡ word_at ring (around at b)
    word-old b e h k = same_word _ _ _ _ (λ i q. rw (around-byte at b i whole e q) (byte-old (b + i) (omega arith) (omega arith)))

-- THE QUEUE after the host's words
module _ (ring bytes : List ℕ) {m : Marks} (p : Placed m) (r : length ring ≡ 4096) (whole : length bytes % 4 ≡ 0) (h : length bytes ≤ room m) where
  few : waiting m + length bytes ≤ 4092
  unfolding room
  few = let w = waiting-most p in omega arith

  still : (k : ℕ) → k < waiting m / 4 → word_from (laid_around m.write bytes ring) m.read k ≡ word_from ring m.read k
  unfolding word_from
  still k l =
      let f = few in
      let v = waiting-whole p in
      let d : waiting m + (4096 - waiting m + 4 * k) ≡ 4096 + 4 * k = omega arith in
      let e : around m.read (4 * k) ≡ around m.write (4096 - waiting m + 4 * k) = sym (write-behind p (4096 - waiting m + 4 * k) ∙ rw d (around-again m.read (4 * k))) in
      rw e (word-old m.write bytes ring p.write-most r (omega arith) p.write-whole (4096 - waiting m + 4 * k) (omega arith) (omega arith) (omega arith))

  joins : (j : ℕ) → j < length bytes / 4 → word_from (laid_around m.write bytes ring) m.read (waiting m / 4 + j) ≡ word_at bytes (4 * j)
  unfolding word_from
  joins j l =
      let f = few in
      let v = waiting-whole p in
      let d : 4 * (waiting m / 4 + j) ≡ waiting m + 4 * j = omega arith in
      let e : around m.read (4 * (waiting m / 4 + j)) ≡ around m.write (4 * j) = rw d (sym (write-behind p (4 * j))) in
      rw e (word-new m.write bytes ring p.write-most r (omega arith) p.write-whole j (omega arith))

  pub host-queue : queue (laid_around m.write bytes ring) (past_words m (length bytes)) ≡ queue ring m ++ words_in bytes
  unfolding queue words_in
  host-queue =
      let v = waiting-whole p in
      let e : waiting (past_words m (length bytes)) / 4 ≡ waiting m / 4 + length bytes / 4 = omega (arith, waiting-past-words p (length bytes) h) in
      let f = word_from (laid_around m.write bytes ring) m.read in
      let a = each_same f (word_from ring m.read) 0 0 (waiting m / 4) (λ k l. rw zero-add (still k l)) in
      let b = each_same f (λ k. word_at bytes (4 * k)) (0 + waiting m / 4) 0 (length bytes / 4) (λ k l. simp zero-add (joins k l)) in
      rw (e, each-split, a, b)
