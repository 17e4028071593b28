use Rattle.segment_find.proofs.Extending.{extended_none, extended_more}
use Rattle.segment_find.proofs.extend_from_self.Goals as goal

pub loop-i-init : goal.loop-i-init
loop-i-init c = extended_none

pub loop-i-preserved : goal.loop-i-preserved
loop-i-preserved c = extended_more c.loop-i.invariant
