use native.Mathlib.Omega.{arith}
use Rattle.pixel.specs.Blend.{blended}
use Rattle.pixel.proofs.blend.mix.Goals as goal

pub returns-then-sum-lt65025 : goal.returns-then-sum-lt65025
unfolding blended
returns-then-sum-lt65025 c =
    omega (arith, c.by_255.ensures)

pub returns-else-sum-lt65025 : goal.returns-else-sum-lt65025
unfolding blended
returns-else-sum-lt65025 c = omega arith
