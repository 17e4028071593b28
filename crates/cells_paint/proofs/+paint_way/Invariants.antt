use Rattle.std.proofs.Common.{◌-◌}
use Rattle.cells_paint.proofs.+paint_way.Given as goal

abbrev pub decreases-paint_way : goal.decreases-paint_way
decreases-paint_way l = l.max - l.min
