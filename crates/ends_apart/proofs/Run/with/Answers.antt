-- a row of a later tick begins the run of that tick
use Rattle.ends_apart.proofs.Turning.{goes_later}
use Rattle.ends_apart.proofs.Run.with.Goals as goal

pub returns-then-self-row : goal.returns-then-self-row
returns-then-self-row c = goes_later c.if-self-row.true c.end-end.ensures c.pushed.ensures
