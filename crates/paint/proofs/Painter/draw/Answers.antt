use mathlib.Core.Path.{ap}
use Rattle.std.specs.Option.{option_copied}
use Rattle.paint.proofs.Painter.draw.Goals as goal

pub draw_kept-requires-clause-all : goal.draw_kept-requires-clause-all
draw_kept-requires-clause-all c = c.args.self.now.ready.1 _ (ap option_copied c.in-Some.is) _ c.in-Some-count.is
