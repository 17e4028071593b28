use Rattle.segment_tree.proofs.Ways.{way_spent, way_on}
use Rattle.segment_tree.proofs.build.add_way.Goals as goal

pub returns-then-next-eq0 : goal.returns-then-next-eq0
returns-then-next-eq0 g c =
    way_spent c.loop-link.invariant c.loop-link-test.true c.covers_rest.ensures c.if-covers_rest.false c.sides.ensures c.reach-next.ensures c.if-next-eq0.true

pub loop-link-preserved : goal.loop-link-preserved
loop-link-preserved g c =
    way_on c.loop-link.invariant c.loop-link-test.true c.covers_rest.ensures c.if-covers_rest.false c.sides.ensures c.reach-next.ensures c.if-next-eq0.false c.meets-both.ensures c.bump_if.ensures.more c.bump_if.ensures.same c.choose-way.ensures c.reach-link.ensures
