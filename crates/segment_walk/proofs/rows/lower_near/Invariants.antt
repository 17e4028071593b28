-- The rows passed are below the key.
use Rattle.segment_walk.specs.Rowing.{Between}
use Rattle.segment_walk.proofs.rows.lower_near.Given as goal

abbrev pub invariant-loop-row : goal.invariant-loop-row
invariant-loop-row l = Between l.entries l.fn.rows l.key l.row l.to
