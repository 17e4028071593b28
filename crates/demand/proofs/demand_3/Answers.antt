use Rattle.demand.proofs.Runs.{demand}
use Rattle.demand.proofs.demand_3.Goals as goal

pub returns : goal.returns
returns c = demand
