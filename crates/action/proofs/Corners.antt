-- Two corners that are put in order are in order. Assumes nothing.
use native.Mathlib.Omega.{arith}
use Rattle.units.specs.declared.LengthInSixteenths.{LengthInSixteenths}
use Rattle.units.specs.declared.Sixteenths.{Sixteenths}
use Rattle.units.proofs.Meaning.{in_order}
use Rattle.action.specs.Corners.{corners_in_order, InOrder}

pub corners-in-order : (ax ay bx by : Sixteenths) (width : LengthInSixteenths) → InOrder (corners_in_order ax ay bx by width)
unfolding corners_in_order
corners-in-order ax ay bx by width =
    record { across = in_order _ _ (omega arith); down = in_order _ _ (omega arith) }
