use Rattle.segment_tree.proofs.WritingWays.{onto_way_none, onto_way_covered, onto_way_sure, onto_way_other}
use Rattle.segment_tree.proofs.close.write_way.Goals as goal

pub returns-then-covers_rest : goal.returns-then-covers_rest
returns-then-covers_rest g c =
    onto_way_covered c.loop-link.invariant c.covers_rest.ensures c.loop-link-test.true c.if-covers_rest.true c.write_entry.ensures

pub loop-link-preserved-then-meets : goal.loop-link-preserved-then-meets
loop-link-preserved-then-meets g c =
    onto_way_other c.loop-link.invariant c.covers_rest.ensures c.if-covers_rest.false c.sides.ensures c.meets.ensures c.half-next.ensures c.if-meets.true c.write_whole.ensures c.half-link.ensures

pub loop-link-preserved : goal.loop-link-preserved
loop-link-preserved g c =
    onto_way_sure c.loop-link.invariant c.covers_rest.ensures c.if-covers_rest.false c.sides.ensures c.meets.ensures c.half-next.ensures c.if-meets.false

pub returns : goal.returns
returns g c = onto_way_none c.loop-link.invariant c.loop-link-test.false
