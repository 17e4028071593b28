-- each call goes down with less fuel
use Rattle.merge_set.proofs.+insert.Given as goal

abbrev pub decreases-insert : goal.decreases-insert
decreases-insert l = l.fuel
