use Rattle.segment_near.proofs.Neighbouring.{nearing}
use Rattle.segment_near.proofs.nearer.Goals as goal

pub returns-in_default : goal.returns-in_default
returns-in_default c = search nearing

pub returns-in_default-below : goal.returns-in_default-below
returns-in_default-below c = search nearing

pub returns-in-From : goal.returns-in-From
returns-in-From c = search nearing

pub returns-in-Before : goal.returns-in-Before
returns-in-Before c = search nearing

pub returns-in_default-side : goal.returns-in_default-side
returns-in_default-side c = search nearing

pub returns-in_default-side-2 : goal.returns-in_default-side-2
returns-in_default-side-2 c = search nearing
