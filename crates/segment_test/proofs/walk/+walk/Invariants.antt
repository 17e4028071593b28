-- The node's width falls.
use Prim.Native.Nat.{◌-◌}
use Rattle.segment_test.proofs.walk.+walk.Given as goal

abbrev pub decreases-walk : goal.decreases-walk
decreases-walk l = l.at.max - l.at.min
