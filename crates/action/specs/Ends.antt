-- Where the ends of a line may lie. Wish 1 of document 02: "20 when an end lies outside -32768..32767 sixteenths".
use Rattle.std.specs.Prelude.{Bool, ◌&&◌}
use Rattle.units.specs.Units.{is_short}
use Rattle.action.specs.declared.shape.End.{End}
use Rattle.action.specs.declared.shape.Segment.{Segment}

unfoldable pub short_end : End → Bool
short_end e = is_short e.x && is_short e.y

unfoldable pub short_ends : Segment → Bool
short_ends d = short_end d.from && short_end d.to
