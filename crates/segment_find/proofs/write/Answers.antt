use Rattle.std.proofs.Common.{rules}
use Rattle.segment_find.proofs.Extending.{writing_none, writing_room, writing_more}
use Rattle.segment_find.proofs.write.Goals as goal

pub loop-k-init : goal.loop-k-init
loop-k-init c = writing_none

pub extend_from_self-requires : goal.extend_from_self-requires
extend_from_self-requires c = writing_room c.loop-k.invariant c.loop-k-test.true c.requires

pub overflow_add-at : goal.overflow_add-at
overflow_add-at c =
    let room = writing_room c.loop-k.invariant c.loop-k-test.true c.requires in
    search rules

pub loop-k-preserved : goal.loop-k-preserved
loop-k-preserved c = writing_more c.loop-k.invariant c.loop-k-test.true c.extend_from_self.ensures
