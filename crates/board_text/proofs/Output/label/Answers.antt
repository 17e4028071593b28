use Rattle.board_text.proofs.Lines.{label_put}
use Rattle.board_text.proofs.Output.label.Goals as goal

pub returns : goal.returns
returns c = search label_put
