-- the first k blocks are clear
use Rattle.index_finish.proofs.Clearing.{ClearTo}
use Rattle.index_finish.proofs.rule.blocks_clear.Given as goal

abbrev pub invariant-loop-k : goal.invariant-loop-k
invariant-loop-k l = ClearTo l.pieces l.blocks l.n l.k
