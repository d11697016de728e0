-- Which number, place and marks a run can end with. Assumes nothing.
use mathlib.Core.Path.{◌≡◌, refl, sym, ◌∙◌}
use mathlib.Core.Bool.{Bool, true, false}
use mathlib.Core.List.{List, [], ◌∷◌}
use Rattle.std.specs.Prelude.{Ok, Err}
use Prim.Native.Nat.{ℕ, zero, suc}
use Rattle.truth.specs.Must.{must}
use Rattle.truth.proofs.Bools.{never}
use Rattle.ring.specs.declared.command.Fault.{Fault}
use Rattle.ring.specs.declared.command.Fault.TheVariants as f
use Rattle.ring.specs.declared.marks.Marks.{Marks}
use Rattle.ring.specs.Command.{Runs, Outcome, fault_number}
use Rattle.ring.specs.Flow.{is_one_of, Regular}
use Rattle.ring.specs.Ring.{are_places, is_free}
use Rattle.ring.specs.Run.{Ran, stopped, words_at, settled, step, run, ran}
use Rattle.ring.proofs.Steps.{is_sized, now, step-cases}
use Rattle.ring.proofs.Taking.{turn-cases}

-- A RUN THAT STOPPED without a fault, with one
abbrev ListedNumber : ℕ → Type 0
ListedNumber n = is_one_of (0 ∷ 30 ∷ 31 ∷ 32 ∷ 33 ∷ 34 ∷ 35 ∷ 36 ∷ 37 ∷ []) n ≡ true

abbrev is_fault : ℕ → Bool
is_fault n = is_one_of (32 ∷ 34 ∷ 35 ∷ []) n

fault-listed : (why : Fault) → ListedNumber (fault_number why) × (is_fault (fault_number why) ≡ true)
unfolding fault_number
fault-listed f.Unknown = (refl, refl)
fault-listed f.ListFull = (refl, refl)
fault-listed f.BadRange = (refl, refl)

module _ (m : Marks) where
  quiet : (r : Ran) → ListedNumber r.number → is_fault r.number ≡ false → r.place ≡ 0 → r.marks.fault ≡ m.fault → r.marks.write ≡ m.write → Regular m r
  quiet r l f p q w = record { numbered = l; faulty = λ e. never (sym f ∙ e); others = λ e. (p, q); write = w }

  refused : (number : ℕ) (x : Runs) → ListedNumber number → is_fault number ≡ false → Regular m (stopped number m x)
  refused number x l f = quiet (stopped number m x) l f refl refl refl

  settled-regular : (words : List ℕ) (out : Outcome) (y : Runs) → Regular m (settled m words out y)
  settled-regular words (Ok taken) y = go taken.swaps
    where
      go : (swaps : Bool) → Regular m (settled m words (Ok (record { offset = taken.offset; swaps = swaps })) y)
      go true = quiet (settled m words (Ok (record { offset = taken.offset; swaps = true })) y) refl refl refl refl refl
      go false = quiet (settled m words (Ok (record { offset = taken.offset; swaps = false })) y) refl refl refl refl refl
  settled-regular words (Err why) y =
      record {
        numbered = (fault-listed why).0;
        faulty = λ e. (refl, refl);
        others = λ e. never (sym e ∙ (fault-listed why).1);
        write = refl;
      }

module _ (ring : List ℕ) where
  step-regular : (m : Marks) (x : Runs) → Regular m (step ring m x)
  step-regular m x =
      step-cases ring m x (λ r. Regular m r) (refused m 30 x refl refl)
      (λ h. settled-regular m (words_at ring m) (now ring m x).outcome (now ring m x).runs)

  run-regular : (n : ℕ) (m : Marks) (x : Runs) → Regular m (run ring n m x)
  unfolding run
  run-regular zero m x = refused m 0 x refl refl
  run-regular (suc n) m x =
      turn-cases ring (λ r. Regular m r) m x n (λ e. refused m 0 x refl refl) (λ busy z. step-regular m x)
      (λ busy z.
      let s = step-regular m x in
      let r = run-regular n (step ring m x).marks (step ring m x).runs in
      record {
        numbered = r.numbered;
        faulty = r.faulty;
        others = λ e. ((r.others e).0, (r.others e).1 ∙ (s.others (rw z refl)).1);
        write = r.write ∙ s.write;
      })

  pub ran-regular : (m : Marks) (x : Runs) → Regular m (ran ring m x)
  unfolding ran
  ran-regular m x = go (is_sized ring x) (are_places m) (is_free m)
    where
      go : (a b c : Bool) → Regular m (must a (stopped 37 m x) (must b (stopped 33 m x) (must c (stopped 36 m x) (run ring 1023 m x))))
      go false b c = refused m 37 x refl refl
      go true false c = refused m 33 x refl refl
      go true true false = refused m 36 x refl refl
      go true true true = run-regular 1023 m x
