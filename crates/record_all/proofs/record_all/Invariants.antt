-- `count` operations have been played, and whatever is played from there on completes them.
use Rattle.std.proofs.Common.{length}
use Rattle.layout.specs.Tables.{tables}
use Rattle.record_all.proofs.Playing.{Turning}
use Rattle.record_all.proofs.record_all.Given as goal

abbrev pub invariant-loop-count : goal.invariant-loop-count
invariant-loop-count l =
    Turning l.state (length l.scratch) l.kind l.list (tables l.fn.pieces l.fn.blocks l.fn.store l.nodes l.entries)
    (tables l.pieces l.blocks l.store l.nodes l.entries) l.fn.answers l.answers l.most l.count l.at
