-- What the entries that are left leave, all leave from the start.
use Rattle.std.proofs.Common.{◌+◌, ◌-◌}
use Rattle.file_fill.proofs.FillingEntries.{Onward}
use Rattle.file_fill.proofs.nodes.Source.fill_entries.Given as goal

abbrev pub invariant-loop-more : goal.invariant-loop-more
invariant-loop-more l = Onward l.self.blocks.now l.self.file.now l.at l.first l.count l.fn.entries l.entries (l.first + l.more) (l.count - l.more) l.reader
