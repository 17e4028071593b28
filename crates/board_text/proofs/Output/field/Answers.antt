use Rattle.board_text.proofs.Lines.{field_put}
use Rattle.board_text.proofs.Output.field.Goals as goal

pub returns : goal.returns
returns c = search field_put
