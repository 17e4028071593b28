-- what the test from a place on says, is said of all
use Rattle.std.proofs.Common.{◌-◌, ◌^◌}
use Rattle.index_finish.proofs.Clearing.{ClearAhead}
use Rattle.index_finish.proofs.rule.pieces_clear.Given as goal

abbrev pub invariant-loop-place : goal.invariant-loop-place
invariant-loop-place l = ClearAhead l.pieces l.kind l.first l.end l.destroyed l.place

abbrev pub decreases-loop-place : goal.decreases-loop-place
decreases-loop-place l = 2 ^ 64 - l.place
