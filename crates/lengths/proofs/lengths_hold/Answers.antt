-- `lengths::lengths_hold`: a slice of the length that `length_for` gives has the rows asked for.
use Rattle.lengths.proofs.Holding.{rows-held}
use Rattle.lengths.proofs.lengths_hold.Goals as goal

pub returns : goal.returns
returns c = rows-held
