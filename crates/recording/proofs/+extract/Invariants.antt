-- each call goes down with less fuel
use Rattle.recording.proofs.+extract.Given as goal

abbrev pub decreases-extract : goal.decreases-extract
decreases-extract l = l.fuel
