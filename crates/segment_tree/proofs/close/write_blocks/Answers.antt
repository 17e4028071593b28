use Rattle.segment_tree.proofs.WritingAll.{onward_more}
use Rattle.segment_tree.proofs.close.write_blocks.Goals as goal

pub loop-j-preserved : goal.loop-j-preserved
loop-j-preserved c = onward_more c.loop-j.invariant c.loop-j-test.true c.of_block-owned.ensures c.read.ensures.first c.get-root.ensures c.write_location.ensures
