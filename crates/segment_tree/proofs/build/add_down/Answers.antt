use Rattle.std.proofs.Common.{true, false, arith}
use Rattle.segment_tree.proofs.Ways.{down_one, down_neither}
use Rattle.segment_tree.proofs.build.add_down.Goals as goal

pub loop-link-preserved-then-life-mid : goal.loop-link-preserved-then-life-mid
loop-link-preserved-then-life-mid c =
    down_one c.loop-link.invariant c.loop-link-test.true c.covers.ensures c.if-covers.false c.has_halves.ensures c.if-not-has_halves.false c.halves.ensures false c.if-life-mid.true c.if-mid-life.false c.reach-link.ensures

pub returns-then-life-mid-2 : goal.returns-then-life-mid-2
returns-then-life-mid-2 c =
    down_neither c.loop-link.invariant c.loop-link-test.true c.covers.ensures c.if-covers.false c.has_halves.ensures c.if-not-has_halves.false c.halves.ensures c.if-life-mid.false (omega (arith, c.if-life-mid-2.true))

pub loop-link-preserved : goal.loop-link-preserved
loop-link-preserved c =
    down_one c.loop-link.invariant c.loop-link-test.true c.covers.ensures c.if-covers.false c.has_halves.ensures c.if-not-has_halves.false c.halves.ensures true c.if-life-mid-2.false c.if-life-mid.false c.reach-link-else-life-mid.ensures
