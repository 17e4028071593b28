use Rattle.board_text.proofs.Lines.{wrote_append}
use Rattle.board_text.proofs.Output.refused.Goals as goal

pub returns : goal.returns
returns c = wrote_append c.text.ensures c.last_field.ensures
