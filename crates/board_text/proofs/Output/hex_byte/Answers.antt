use Rattle.board_text.proofs.Lines.{hex_byte}
use Rattle.board_text.proofs.Output.hex_byte.Goals as goal

pub returns : goal.returns
returns c = search hex_byte
