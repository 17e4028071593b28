use mathlib.Core.Path.{refl}
use Rattle.tables.proofs.Zeros.{bits_more, zeros_told}
use Rattle.tables.proofs.part_zero.Goals as goal

pub loop-i-preserved : goal.loop-i-preserved
loop-i-preserved c = bits_more c.loop-i.invariant c.loop-i-test.true refl refl

pub returns : goal.returns
returns c = zeros_told c.loop-i.invariant c.loop-i-test.false
