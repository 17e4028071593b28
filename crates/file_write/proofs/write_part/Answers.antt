-- Part over part they are the kind's part of the file.
use Rattle.file_write.proofs.Answering.{part_none, part-over, part-written}
use Rattle.file_write.proofs.write_part.Goals as goal

pub returns-then-root-eq0 : goal.returns-then-root-eq0
returns-then-root-eq0 c = part_none _ _ _ _ _ _ c.get-root.ensures _ c.if-root-eq0.true

pub returns-in_default : goal.returns-in_default
returns-in_default c = part-over _ _ _ _ _ _ c.get-root.ensures c.if-root-eq0.false _ c.count-count.ensures _ _ c.measure_blocks.ensures c.in_default.is

pub returns : goal.returns
returns c =
    part-written _ _ _ _ _ _ c.get-root.ensures c.if-root-eq0.false _ c.count-count.ensures _ _ c.measure_blocks.ensures _ _ _ _ _ _ _ _ _ _ _ _ _
    c.in-Some.is c.end-end.ensures c.list-listed.ensures c.put-size.ensures c.put_blocks.ensures c.byte-count_at.ensures c.number.ensures
