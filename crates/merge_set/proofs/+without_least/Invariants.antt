-- each call goes down with less fuel
use Rattle.merge_set.proofs.+without_least.Given as goal

abbrev pub decreases-without_least : goal.decreases-without_least
decreases-without_least l = l.fuel
