use Rattle.std.proofs.Common.{◌+◌, ◌-◌, arith}
use Rattle.board_input.proofs.Numbers.{reached_one}
use Rattle.board_input.proofs.number_at.Goals as goal

pub loop-i-preserved : goal.loop-i-preserved
loop-i-preserved c = reached_one c.loop-i.invariant (omega arith) (omega arith) c.from.ensures (omega (arith, c.from.ensures, c.type_inv.input (c.args.at + (c.loop-i.i - 1))))
