use Rattle.segment_near.proofs.Neighbouring.{owning}
use Rattle.segment_near.proofs.own_neighbour.Goals as goal

pub returns-in-From : goal.returns-in-From
returns-in-From c = search owning

pub returns-in-Before : goal.returns-in-Before
returns-in-Before c = search owning

pub returns-in_default : goal.returns-in_default
returns-in_default c = search owning

pub returns-in_default-2 : goal.returns-in_default-2
returns-in_default-2 c = search owning
