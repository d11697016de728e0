use Rattle.paint.proofs.Sweeps.{asked-of, exact-columns}
use Rattle.shape.specs.OneRow.{holds_in}
use Rattle.units.specs.Units.{count_before, pixel_at}
use Rattle.std.proofs.lemmas.Bool.{cases_lt}
use Prim.Native.Nat.{◌-◌, ◌<◌, ◌≤◌}
use mathlib.Core.Bool.{true}
use mathlib.Core.Logic.{◌⊎◌, inl, inr, ⊎_elim}
use mathlib.Core.Path.{◌≡◌}
use native.Mathlib.Omega.{arith}
use Rattle.paint.proofs.row.columns.Goals as goal
use Rattle.paint.proofs.row.columns.Goals.{then-loop-from-test+else-not-holds, else-loop-from-test, then-loop-to-test+else-not-holds-2, else-loop-to-test}

pub returns-then-is_flat-clause-exact : goal.returns-then-is_flat-clause-exact
returns-then-is_flat-clause-exact c =
    let chord = c.args.chord in
    let from = c.before-from.result in
    let to = c.max-to.result in
    let left = count_before c.args.width chord.left in
    let right = count_before c.args.width chord.right in
    let ended : (to ≤ right) ⊎ (to ≤ left) =
    ⊎_elim (λ (b : left < right). inl (omega arith)) (λ (b : right ≤ left). inr (omega arith)) (cases_lt left right) in
    let held = c.is_flat.ensures.all c.if-is_flat.true in
    exact-columns chord c.args.width from to {end = to} (omega arith) (omega arith) ended
    (λ k h l. absurd (omega arith)) (λ k h l. absurd (omega arith)) (omega arith) (inr (held (pixel_at from) (omega arith), held (pixel_at (to - 1)) (omega arith)))

pub returns-clause-exact : goal.returns-clause-exact
returns-clause-exact c =
    let chord = c.args.chord in
    let from = c.loop-from.from in
    let to = c.loop-to.to in
    let left = count_before c.args.width chord.left in
    let right = count_before c.args.width chord.right in
    let ended : (c.max-to.result ≤ right) ⊎ (c.max-to.result ≤ left) =
    ⊎_elim (λ (b : left < right). inl (omega arith)) (λ (b : right ≤ left). inr (omega arith)) (cases_lt left right) in
    let ends : (to ≤ from) ⊎ ((holds_in chord (pixel_at from) ≡ true) × (holds_in chord (pixel_at (to - 1)) ≡ true)) =
    elim c.loop-to-test.branch [
      | then-loop-to-test+else-not-holds-2 w ↦
          elim c.loop-from-test.branch [
            | then-loop-from-test+else-not-holds v ↦
                inr (asked-of chord v.of.ensures v.holds.ensures v.if-not-holds.false, asked-of chord w.of-in-loop-to.ensures w.holds-in-loop-to.ensures w.if-not-holds-2.false)
            | else-loop-from-test v ↦ inl (omega arith)
          ]
      | else-loop-to-test w ↦ inl (omega arith)
    ] in
    exact-columns chord c.args.width from to {end = c.max-to.result} (omega arith) (omega arith) ended
    (rw c.before-from.ensures at c.loop-from.invariant.1) c.loop-to.invariant.1 (omega arith) ends
