-- `occupation_read::occupied_cells`: what is counted so far, and what the windows from `k` on have.
use Rattle.occupation_read.proofs.Counting.{Counting}
use Rattle.occupation_read.proofs.occupied_cells.Given as goal

abbrev pub invariant-loop-k : goal.invariant-loop-k
invariant-loop-k l = Counting l.closed.blocks.now l.store l.closed.nodes.now l.closed.entries.now l.kind l.tick l.windows l.k l.occupied
