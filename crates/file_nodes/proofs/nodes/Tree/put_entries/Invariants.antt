-- The first i entries of the run are put.
use Rattle.file_nodes.proofs.Treeing.{EntriesTo}
use Rattle.file_nodes.proofs.nodes.Tree.put_entries.Given as goal

abbrev pub invariant-loop-i : goal.invariant-loop-i
invariant-loop-i l = EntriesTo l.self.entries.now l.first l.count l.self.listed l.fn.out l.at l.i l.out l.next
