use Rattle.segment_tree.specs.Lives.{piece_life}
use Rattle.segment_tree.proofs.AddingRows.{Onward}
use Rattle.segment_tree.proofs.build.add_pieces.Given as goal

abbrev pub invariant-loop-j : goal.invariant-loop-j
invariant-loop-j l = Onward l.fn.nodes l.nodes l.end (piece_life l.pieces l.end) l.n l.j
