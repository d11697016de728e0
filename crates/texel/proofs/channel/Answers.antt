use mathlib.Core.Path.{◌≡◌}
use Prim.Native.Nat.{ℕ, ◌<◌, ◌*◌, ◌%◌, ◌^◌}
use native.Mathlib.Nat.{mod-eq_of_lt}
use native.Mathlib.Omega.{arith}
use lib.Bits.{and_mask}
use lib.Pow.{pow-lt}
use Rattle.texel.proofs.channel.Goals as goal

-- bit number `width`, where it is set alone
bit : (width : ℕ) → width < 8 → 1 * 2 ^ width % 2 ^ 32 ≡ 2 ^ width
bit width h = let e : 1 * 2 ^ width ≡ 2 ^ width = omega arith in rw e (mod-eq_of_lt (pow-lt {j = 32} (omega arith)))

pub returns : goal.returns
returns c =
    rw (c.widen.ensures, bit c.args.width (omega arith), and_mask _ c.args.width)
