-- The bytes up to here are put.
use Rattle.std.proofs.Common.{take, []}
use Rattle.history.specs.Printed.{hex_bytes}
use Rattle.board_text.specs.Wrote.{Wrote}
use Rattle.board_text.proofs.Output.hex.Given as goal

abbrev pub invariant-loop-byte : goal.invariant-loop-byte
invariant-loop-byte l = Wrote l.initial.self (hex_bytes (take l.byte-index l.bytes) []) l.self
