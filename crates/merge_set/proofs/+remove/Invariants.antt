-- each call goes down with less fuel
use Rattle.merge_set.proofs.+remove.Given as goal

abbrev pub decreases-remove : goal.decreases-remove
decreases-remove l = l.fuel
