-- a rotation stands half a turn above the update that it calls
use Rattle.std.proofs.Common.{◌+◌, ◌*◌}
use Rattle.merge_set.proofs.+rotate_left_rotate_right_update.Given as goal

abbrev pub decreases-rotate_left : goal.decreases-rotate_left
decreases-rotate_left l = 2 * l.turns + 1

abbrev pub decreases-rotate_right : goal.decreases-rotate_right
decreases-rotate_right l = 2 * l.turns + 1

abbrev pub decreases-update : goal.decreases-update
decreases-update l = 2 * l.turns
