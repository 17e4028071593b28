-- the first k pieces are counted
use Rattle.handed_rows.proofs.Tallying.{PiecesTo}
use Rattle.handed_rows.proofs.tally_pieces.Given as goal

abbrev pub invariant-loop-k : goal.invariant-loop-k
invariant-loop-k l = PiecesTo l.pieces l.m l.fn.blocks l.blocks l.n l.k
