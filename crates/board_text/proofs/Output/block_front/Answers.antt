use Rattle.board_text.proofs.Lines.{front_put}
use Rattle.board_text.proofs.Output.block_front.Goals as goal

pub returns : goal.returns
returns c = front_put _ _ _ _ c.field.ensures c.field-2.ensures c.field-3.ensures c.field-4.ensures c.label.ensures c.put.ensures
