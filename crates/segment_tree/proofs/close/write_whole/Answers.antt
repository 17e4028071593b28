use Rattle.segment_tree.proofs.WritingWays.{whole_wrote}
use Rattle.segment_tree.proofs.close.write_whole.Goals as goal

pub returns-then-link-ne0 : goal.returns-then-link-ne0
returns-then-link-ne0 c = whole_wrote c.if-link-ne0.true c.write_entry.ensures
