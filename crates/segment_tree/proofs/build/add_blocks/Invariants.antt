use Rattle.segment_tree.specs.Lives.{block_life}
use Rattle.segment_tree.proofs.AddingRows.{Onward}
use Rattle.segment_tree.proofs.build.add_blocks.Given as goal

abbrev pub invariant-loop-j : goal.invariant-loop-j
invariant-loop-j l = Onward l.fn.nodes l.nodes l.end (block_life l.blocks) l.n l.j
