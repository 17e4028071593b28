use Rattle.growth.proofs.Longer.{longer-tables}
use Rattle.growth.proofs.longer_tables.Goals as goal

pub returns : goal.returns
returns c = longer-tables
