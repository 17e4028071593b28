-- The blocks that are left, with the bytes counted so far, say the same as all of them.
use Rattle.std.proofs.Common.{◌-◌}
use Rattle.file_scan.proofs.BlockCounts.{Counts}
use Rattle.file_scan.proofs.blocks.pass.Given as goal

abbrev pub invariant-loop : goal.invariant-loop
invariant-loop l = Counts l.kind l.count l.initial.reader (l.count - l.counter) l.bytes l.reader
