use native.Mathlib.Omega.{arith}
use Rattle.index_finish.proofs.Finishing.{parting}
use Rattle.index_finish.proofs.rule.all_apart.Goals as goal

pub returns-then-blocks_apart : goal.returns-then-blocks_apart
returns-then-blocks_apart c = grind (arith, parting)
