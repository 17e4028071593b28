-- the rounds that are left suffice
use Rattle.history.specs.Words.{cell_place}
use Rattle.recording.proofs.Clearing.{Round}
use Rattle.recording.proofs.clear.Given as goal

abbrev pub invariant-loop-round : goal.invariant-loop-round
invariant-loop-round l =
    Round l.fn.pieces l.pieces l.fn.blocks l.blocks l.cells.tick (cell_place l.cells.kind l.cells.first) (cell_place l.cells.kind l.cells.end) l.count l._round
