-- where the survey stands, and that the place rises
use Rattle.std.proofs.Common.{◌-◌}
use Rattle.survey.proofs.Surveying.{Turning}
use Rattle.survey.proofs.survey.Given as goal

abbrev pub invariant-loop-seen : goal.invariant-loop-seen
invariant-loop-seen l = Turning l.pieces l.store l.kind l.first l.bytes l.seen.place l.seen.met l.seen.rests l.seen.same

abbrev pub decreases-loop-seen : goal.decreases-loop-seen
decreases-loop-seen l = l.end - l.seen.place
