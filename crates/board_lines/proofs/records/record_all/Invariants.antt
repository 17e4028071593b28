-- From the record at a position on, what is to be printed of all follows what is put; each record takes some bytes.
use Rattle.std.proofs.Common.{◌-◌, length}
use Rattle.board_lines.proofs.Recording.{Turning}
use Rattle.board_lines.proofs.records.record_all.Given as goal

abbrev pub invariant-loop-record : goal.invariant-loop-record
invariant-loop-record l = Turning l.input l.initial.pieces l.initial.blocks l.initial.store l.kind l.initial.out l.pieces l.blocks l.store l.out l.position l.k

abbrev pub decreases-loop-record : goal.decreases-loop-record
decreases-loop-record l = length l.input - l.position
