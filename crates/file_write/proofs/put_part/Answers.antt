-- A part that is as long as it was measured has room.
use Rattle.std.proofs.Common.{refl}
use Rattle.file_write.proofs.Answering.{put_over}
use Rattle.file_write.proofs.put_part.Goals as goal

pub returns-then-out-at-2 : goal.returns-then-out-at-2
returns-then-out-at-2 c = put_over _ _ _ _ _ _ _ _ _ _ c.if-out-at.false refl c.write_part-size.ensures c.if-out-at-2.true
