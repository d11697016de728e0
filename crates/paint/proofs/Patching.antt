-- A run of which some rows are painted: what it comes to, and how it is gone through row by row.
use mathlib.Core.Bool.{Bool, true, false, cond}
use mathlib.Core.List.{List, ◌++◌}
use mathlib.Core.Path.{◌≡◌, refl, sym, ◌∙◌}
use Prim.Native.Nat.{ℕ, ◌+◌, ◌*◌, ◌-◌, ◌<◌}
use native.Mathlib.Nat.{zero-add}
use lib.ListN.{length, take, drop}
use Rattle.paint.specs.Picture.{is_marked, patched, row_in, stacked}
use Rattle.paint.specs.Runs.{wanted_rows}
use Rattle.paint.proofs.Stacks.{Filled, filled_more, filled_none, filled-skip, row-long, rows-stacked, stacked-same}

module _ (marks : List ℕ) (row : ℕ → List ℕ) (wide : ℕ) (lent : List ℕ) where
  -- where every row that is not marked is right already, all are
  pub patched-all :
      ((y : ℕ) → y < length marks → is_marked marks y ≡ false → row_in lent wide y ≡ row y) → patched marks row wide lent ≡ stacked row (length marks)
  unfolding patched
  patched-all h = stacked-same _ row (length marks) (λ y l. go y (is_marked marks y) (h y l))
    where
      go : (y : ℕ) (b : Bool) → (b ≡ false → row_in lent wide y ≡ row y) → cond b (row y) (row_in lent wide y) ≡ row y
      go y true e = refl
      go y false e = e refl

  pub patched-none : ((y : ℕ) → y < length marks → is_marked marks y ≡ false) → length lent ≡ length marks * wide → patched marks row wide lent ≡ lent
  unfolding patched
  patched-none h e = stacked-same _ (row_in lent wide) (length marks) (λ y l. rw (h y l)) ∙ sym (rows-stacked lent wide (length marks) e)

either-long : (b : Bool) (xs ys : List ℕ) (n : ℕ) → length xs ≡ n → length ys ≡ n → length (cond b xs ys) ≡ n
either-long true xs ys n p q = p
either-long false xs ys n p q = q

-- a frame's rows from the first on, of which those that are marked are wanted
pub patched-is :
    (marks : List ℕ) (row : ℕ → List ℕ) (wide : ℕ) (lent : List ℕ) →
    wanted_rows (is_marked marks) (λ y. row (0 + y)) wide (length marks) lent ≡ patched marks row wide lent
unfolding patched
patched-is marks row wide lent = stacked-same _ _ (length marks) (λ y l. rw zero-add refl)

-- rows of which those that are wanted are painted, gone through one by one
module _ (wanted : ℕ → Bool) (row : ℕ → List ℕ) (wide height : ℕ) (lent : List ℕ) where
  abbrev rows : ℕ → List ℕ
  rows y = cond (wanted y) (row y) (row_in lent wide y)

  pub wanted-none : ((y : ℕ) → length (row y) ≡ wide) → length lent ≡ height * wide → Filled rows wide height lent lent 0
  wanted-none each e = filled_none (λ y l. either-long (wanted y) _ _ wide (each y) (row-long lent wide height e y l)) e

  module _ {now : List ℕ} {y : ℕ} (f : Filled rows wide height lent now y) (l : y < height) where
    pub wanted-painted :
        (ys : List ℕ) → true ≡ wanted y → ys ≡ row y →
        Filled rows wide height lent (take (y * wide) now ++ (ys ++ drop (y * wide + wide - y * wide) (drop (y * wide) now))) (y + 1)
    wanted-painted ys told e = filled_more f ys l (rw (← told, e))

    pub wanted-left : false ≡ wanted y → Filled rows wide height lent now (y + 1)
    wanted-left told = filled-skip f l (rw (← told))
