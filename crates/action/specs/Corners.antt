-- The rectangle of two corners. Document 01, 'Which pixels', RECTS: "corners are put in order, x and y apart".
use Rattle.std.specs.Prelude.{◌≤ℤ◌}
use Rattle.units.specs.declared.LengthInSixteenths.{LengthInSixteenths}
use Rattle.units.specs.declared.Sixteenths.{Sixteenths}
use Rattle.units.specs.Units.{larger, smaller, meant_sixteenths}
use Rattle.action.specs.declared.shape.Rectangle.{Rectangle}

unfoldable pub corners_in_order : Sixteenths → Sixteenths → Sixteenths → Sixteenths → LengthInSixteenths → Rectangle
corners_in_order ax ay bx by width =
    record {
      left = record { 0 = smaller ax.0 bx.0 };
      top = record { 0 = smaller ay.0 by.0 };
      right = record { 0 = larger ax.0 bx.0 };
      bottom = record { 0 = larger ay.0 by.0 };
      width = width;
    }

-- corners in order, over the integers meant: as `corners_in_order` puts any two, see `corners-in-order` of proofs/Corners.antt
pub record InOrder (d : Rectangle) : Type 0 where
  pub across : meant_sixteenths d.left ≤ℤ meant_sixteenths d.right
  pub down : meant_sixteenths d.top ≤ℤ meant_sixteenths d.bottom
