use Rattle.segment_tree.proofs.Ways.{both_done}
use Rattle.segment_tree.proofs.build.add_both.Goals as goal

pub returns : goal.returns
returns c =
    both_done c.requires c.halves.ensures c.reach-first.ensures c.add_way.ensures c.if-not-add_way.false c.reach-second.ensures c.add_way-2.ensures
