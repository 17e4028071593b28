-- one block more is clear
use Rattle.index_finish.proofs.Clearing.{clear_turn}
use Rattle.index_finish.proofs.rule.blocks_clear.Goals as goal

pub loop-k-preserved : goal.loop-k-preserved
loop-k-preserved c = clear_turn c.loop-k.invariant c.loop-k-test.true c.block_clear.ensures c.if-not-block_clear.false
