-- each call goes down with less fuel
use Rattle.merge_set.proofs.+relink.Given as goal

abbrev pub decreases-relink : goal.decreases-relink
decreases-relink l = l.fuel
