-- Places in the ring and what waits between them, as plain arithmetic: the marks that are places, the laws of going around and of waiting, and which marks
-- stay places. Assumes nothing.
use mathlib.Core.Path.{◌≡◌, refl, sym, ap, ◌∙◌}
use mathlib.Core.Bool.{true, ◌&&◌}
use Prim.Native.Nat.{ℕ, ◌+◌, ◌*◌, ◌-◌, ◌%◌, ◌≤◌, ◌<◌}
use native.Mathlib.Decide.{dec_le}
use native.Mathlib.Omega.{arith}
use lib.Dec.{eqb, leb}
use borrow.Author.Tests.{eqb-true, leb-true, eq-eqb, le-leb}
use Rattle.truth.proofs.Bools.{both_true}
use Rattle.ring.specs.declared.marks.Marks.{Marks}
use Rattle.ring.specs.declared.placed.Placed as c
use Rattle.ring.specs.Host.{past_words, room}
use Rattle.ring.specs.Ring.{around, waiting, is_place, are_places}
use Rattle.ring.specs.Run.{moved_on, faulted}

-- A PLACE
pub place : (most at : ℕ) → is_place most at ≡ true → (at ≤ most) × (at % 4 ≡ 0)
place most at e =
    let t = both_true (eqb (at % 4) 0) (leb at most) e in
    (leb-true at most t.1, eqb-true (at % 4) 0 t.0)

pub is-place : (most at : ℕ) → at ≤ most → at % 4 ≡ 0 → is_place most at ≡ true
is-place most at l w = rw (eq-eqb (at % 4) 0 w, le-leb at most l)

pub record Placed (m : Marks) : Type 0 where
  pub read-most : m.read ≤ 4092
  pub read_whole : m.read % 4 ≡ 0
  pub write-most : m.write ≤ 4092
  pub write-whole : m.write % 4 ≡ 0
  pub offset-most : m.offset ≤ 8192
  pub offset-whole : m.offset % 4 ≡ 0

pub placed : (m : Marks) → are_places m ≡ true → Placed m
unfolding are_places
placed m e =
    let t = both_true (is_place 4092 m.read && is_place 4092 m.write) (is_place 8192 m.offset) e in
    let s = both_true (is_place 4092 m.read) (is_place 4092 m.write) t.0 in
    let r = place 4092 m.read s.0 in
    let w = place 4092 m.write s.1 in
    let o = place 8192 m.offset t.1 in
    record { read-most = r.0; read_whole = r.1; write-most = w.0; write-whole = w.1; offset-most = o.0; offset-whole = o.1 }

pub arranged : (m : Marks) → Placed m → are_places m ≡ true
unfolding are_places
arranged m p =
    rw (
      is-place 4092 m.read p.read-most p.read_whole,
      is-place 4092 m.write p.write-most p.write-whole,
      is-place 8192 m.offset p.offset-most p.offset-whole,
    )

pub arranged_at : (at : c.Placed) → are_places at.marks ≡ true
arranged_at at =
    arranged at.marks
    (record {
      read-most = at.read.0;
      read_whole = at.read.1;
      write-most = at.write.0;
      write-whole = at.write.1;
      offset-most = at.offset.0;
      offset-whole = at.offset.1;
    })

-- GOING AROUND
pub around-whole : (a b : ℕ) → a % 4 ≡ 0 → b % 4 ≡ 0 → (around a b ≤ 4092) × (around a b % 4 ≡ 0)
unfolding around
around-whole a b h k = omega arith

pub around-within : (a b : ℕ) → a + b < 4096 → around a b ≡ a + b
unfolding around
around-within a b h = omega arith

pub around-past : (a b : ℕ) → 4096 ≤ a + b → a + b < 8192 → around a b ≡ a + b - 4096
unfolding around
around-past a b h l = omega arith

pub around-around : (a b c : ℕ) → around (around a b) c ≡ around a (b + c)
unfolding around
around-around a b c = omega arith

pub around-again : (a b : ℕ) → around a (4096 + b) ≡ around a b
unfolding around
around-again a b = omega arith

around-inner : (a b c : ℕ) → around a (around b c) ≡ around (around a b) c
unfolding around
around-inner a b c = omega arith

-- inside a word
pub around-byte : (a b i : ℕ) → a % 4 ≡ 0 → b % 4 ≡ 0 → i < 4 → around a b + i ≡ around a (b + i)
unfolding around
around-byte a b i h k l = omega arith

-- how far one place lies behind another
ahead : (r w : ℕ) → r ≤ w → w ≤ 4092 → around (4096 - r) w ≡ w - r
unfolding around
ahead r w h l = omega arith

behind : (r w : ℕ) → w < r → r ≤ 4092 → around (4096 - r) w ≡ 4096 - r + w
unfolding around
behind r w h l = omega arith

nearer : (r w j : ℕ) → r ≤ 4092 → w ≤ 4092 → j ≤ around (4096 - r) w → around (4096 - around r j) w + j ≡ around (4096 - r) w
nearer r w j a b h = elim (dec_le r w) [ yes l ↦ on l | no l ↦ elim (dec_le 4096 (r + j)) [ yes o ↦ past (omega arith) o | no o ↦ short (omega arith) (omega arith) ] ]
  where
    on : r ≤ w → around (4096 - around r j) w + j ≡ around (4096 - r) w
    on l =
        let e = ahead r w l b in
        let i : around r j ≡ r + j = around-within r j (omega arith) in
        rw (i, ahead (r + j) w (omega arith) b, e) (omega arith)

    past : w < r → 4096 ≤ r + j → around (4096 - around r j) w + j ≡ around (4096 - r) w
    past l o =
        let e = behind r w l a in
        let i : around r j ≡ r + j - 4096 = around-past r j o (omega arith) in
        rw (i, ahead (r + j - 4096) w (omega arith) b, e) (omega arith)

    short : w < r → r + j < 4096 → around (4096 - around r j) w + j ≡ around (4096 - r) w
    short l o =
        let e = behind r w l a in
        let i : around r j ≡ r + j = around-within r j o in
        let f : around (4096 - (r + j)) w ≡ 4096 - (r + j) + w = around-within (4096 - (r + j)) w (omega arith) in
        rw (i, f, e) (omega arith)

-- WAITING
module _ (m : Marks) where
  pub waiting_none : m.read ≤ 4092 → m.read ≡ m.write → waiting m ≡ 0
  unfolding waiting around
  waiting_none l e = omega arith

  pub waiting-faulted : waiting (faulted m) ≡ waiting m
  unfolding waiting
  waiting-faulted = refl

module _ {m : Marks} (p : Placed m) where
  pub waiting-most : waiting m ≤ 4092
  unfolding waiting around
  waiting-most = omega arith

  pub waiting-whole : waiting m % 4 ≡ 0
  unfolding waiting around
  waiting-whole = omega arith

  pub none-waiting : waiting m ≡ 0 → m.read ≡ m.write
  unfolding waiting around
  none-waiting e = omega arith

  pub waiting-some : (m.read ≡ m.write → ⊥) → 4 ≤ waiting m
  waiting-some busy =
      elim (dec_le 4 (waiting m)) [ yes h ↦ h | no h ↦ let w = waiting-whole in absurd (busy (none-waiting (omega arith))) ]

  pub waiting-moved : (k offset : ℕ) → 4 * k ≤ waiting m → waiting (moved_on m k offset) + 4 * k ≡ waiting m
  unfolding waiting
  waiting-moved k offset h = nearer m.read m.write (4 * k) p.read-most p.write-most h

  -- the write mark lies as far behind the read mark as bytes wait
  behind-read : around m.read (waiting m) ≡ m.write
  unfolding waiting around
  behind-read = omega arith

  pub write-behind : (bytes : ℕ) → around m.write bytes ≡ around m.read (waiting m + bytes)
  write-behind bytes = ap (λ (w : ℕ). around w bytes) (sym behind-read) ∙ around-around m.read (waiting m) bytes

  pub waiting-past-words : (bytes : ℕ) → bytes ≤ room m → waiting (past_words m bytes) ≡ waiting m + bytes
  unfolding waiting room
  waiting-past-words bytes h =
      let most = waiting-most in
      around-inner (4096 - m.read) m.write bytes ∙ around-within (waiting m) bytes (omega arith)

  pub placed-moved : (k offset : ℕ) → offset ≤ 8192 → offset % 4 ≡ 0 → Placed (moved_on m k offset)
  placed-moved k offset l w =
      let r = around-whole m.read (4 * k) p.read_whole (omega arith) in
      record { read-most = r.0; read_whole = r.1; write-most = p.write-most; write-whole = p.write-whole; offset-most = l; offset-whole = w }

  pub placed-faulted : Placed (faulted m)
  placed-faulted = omega arith
