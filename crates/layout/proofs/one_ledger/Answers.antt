use Rattle.layout.proofs.Unique.{unique}
use Rattle.layout.proofs.one_ledger.Goals as goal

pub returns : goal.returns
returns c = unique
