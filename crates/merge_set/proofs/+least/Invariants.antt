-- each call goes down with less fuel
use Rattle.merge_set.proofs.+least.Given as goal

abbrev pub decreases-least : goal.decreases-least
decreases-least l = l.fuel
