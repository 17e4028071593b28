use Rattle.board_text.proofs.Lines.{line_put}
use Rattle.board_text.proofs.Output.block_line.Goals as goal

pub returns : goal.returns
returns c = search line_put
