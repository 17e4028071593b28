use Rattle.std.proofs.Common.{arith}
use Rattle.board_text.proofs.Lines.{hex_none, hex_one}
use Rattle.board_text.proofs.Output.hex.Goals as goal

pub loop-byte-init : goal.loop-byte-init
loop-byte-init c = hex_none _ c.args.bytes.now

pub loop-byte-preserved : goal.loop-byte-preserved
loop-byte-preserved c = hex_one _ _ (omega arith) c.loop-byte.invariant c.hex_byte.ensures
