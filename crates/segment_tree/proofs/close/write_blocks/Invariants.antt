use Rattle.segment_tree.proofs.WritingAll.{OnwardFrom}
use Rattle.segment_tree.proofs.close.write_blocks.Given as goal

abbrev pub invariant-loop-j : goal.invariant-loop-j
invariant-loop-j l = OnwardFrom l.blocks l.fn.nodes l.fn.entries l.nodes l.entries l.end l.n l.j
