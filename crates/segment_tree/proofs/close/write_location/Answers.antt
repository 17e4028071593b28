use Rattle.std.proofs.Common.{true, false}
use Rattle.segment_tree.proofs.WritingWays.{onto_covered, onto_one, onto_neither}
use Rattle.segment_tree.proofs.close.write_location.Goals as goal

pub returns-then-covers : goal.returns-then-covers
returns-then-covers c = onto_covered c.loop-link.invariant c.loop-link-test.true c.covers.ensures c.if-covers.true c.write_entry.ensures

pub returns-then-mid-life : goal.returns-then-mid-life
returns-then-mid-life c = c.loop-link.invariant.rest _ _ c.write_both.ensures

pub loop-link-preserved-then-life-mid : goal.loop-link-preserved-then-life-mid
loop-link-preserved-then-life-mid c =
    onto_one c.loop-link.invariant c.loop-link-test.true c.covers.ensures c.if-covers.false c.has_halves.ensures c.if-not-has_halves.false c.halves.ensures false c.if-life-mid.true c.if-mid-life.false c.half-link.ensures

pub returns-then-life-mid-2 : goal.returns-then-life-mid-2
returns-then-life-mid-2 c =
    onto_neither c.loop-link.invariant c.loop-link-test.true c.covers.ensures c.if-covers.false c.has_halves.ensures c.if-not-has_halves.false c.halves.ensures c.if-life-mid.false c.if-life-mid-2.true

pub loop-link-preserved : goal.loop-link-preserved
loop-link-preserved c =
    onto_one c.loop-link.invariant c.loop-link-test.true c.covers.ensures c.if-covers.false c.has_halves.ensures c.if-not-has_halves.false c.halves.ensures true c.if-life-mid-2.false c.if-life-mid.false c.half-link-else-life-mid.ensures
