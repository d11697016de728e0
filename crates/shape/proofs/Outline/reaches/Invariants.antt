use mathlib.Core.Path.{◌≡◌}
use mathlib.Core.Bool.{false}
use Prim.Native.Nat.{ℕ, ◌≤◌, ◌<◌}
use Rattle.shape.specs.OneRow.{holds_in}
use Rattle.shape.proofs.Outline.reaches.Given as goal

abbrev pub invariant-loop-x : goal.invariant-loop-x
invariant-loop-x l =
    (k : ℕ) → l.chord.left.0 ≤ k → k < l.x → holds_in l.chord (record { 0 = k }) ≡ false
