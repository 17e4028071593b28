use Rattle.std.proofs.Common.{arith}
use Rattle.cells_read.proofs.Running.{freed}
use Rattle.cells_read.proofs.long.free.Goals as goal

pub returns : goal.returns
returns c =
    freed c.requires.window c.requires.begun c.requires.onward c.requires.inside (omega arith) (omega arith) (c.fill.ensures.after (λ y e. e)) (c.fill-2.ensures.after (λ y e. e))
