-- The trees that are awaited, with what is counted so far, say the same as the whole tree. Each turn takes bytes of the file.
use Rattle.std.proofs.Common.{◌-◌, length}
use Rattle.file_scan.proofs.NodeCounts.{Awaits}
use Rattle.file_scan.proofs.nodes.pass.Given as goal

abbrev pub invariant-loop-awaited : goal.invariant-loop-awaited
invariant-loop-awaited l = Awaits l.initial.reader l.awaited l.nodes l.entries l.reader

abbrev pub decreases-loop-awaited : goal.decreases-loop-awaited
decreases-loop-awaited l = length l.reader.file.now - l.reader.at
