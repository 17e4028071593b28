use Rattle.segment_tree.proofs.WritingWays.{both_wrote}
use Rattle.segment_tree.proofs.close.write_both.Goals as goal

pub returns : goal.returns
returns c =
    both_wrote c.requires c.halves.ensures c.half-first.ensures c.write_way.ensures c.half-second.ensures c.write_way-2.ensures
