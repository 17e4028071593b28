use Rattle.std.proofs.Common.{arith}
use Rattle.kind_mask.proofs.Masking.{from_high, from_end}
use Rattle.kind_mask.proofs.mask_of.Goals as goal

pub returns-then-kind-ge-KINDS : goal.returns-then-kind-ge-KINDS
returns-then-kind-ge-KINDS c = from_high c.loop-i.invariant c.loop-i-test.true c.from-kind.ensures c.if-kind-ge-KINDS.true

pub returns : goal.returns
returns c = from_end c.loop-i.invariant (omega (arith, c.loop-i-test.false))
