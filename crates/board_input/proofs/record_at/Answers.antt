use Rattle.std.proofs.Common.{arith}
use Rattle.board_input.proofs.Records.{item_cut, item_record}
use Rattle.board_input.proofs.record_at.Goals as goal

pub returns-then-input-start : goal.returns-then-input-start
returns-then-input-start c =
    item_cut _ _ (omega arith) c.number_at.ensures c.if-number_at-ne-MARKED.false c.number_at-length.ensures (omega arith)

pub returns : goal.returns
returns c =
    item_record _ _ (omega arith) c.number_at.ensures c.if-number_at-ne-MARKED.false
    c.number_at-length.ensures (omega arith) c.number_at-2.ensures c.number_at-3.ensures
