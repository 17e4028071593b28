use Rattle.std.proofs.Common.{arith}
use Rattle.segment_tree.proofs.Running.{runs_none, runs_more, sum_more}
use Rattle.segment_tree.proofs.SortingRuns.{order_none, order_more}
use Rattle.segment_tree.proofs.close.close_runs.Goals as goal

pub loop-j-init : goal.loop-j-init
loop-j-init c = record { runs = (runs_none _).0; sum = (runs_none _).1; order = order_none _ _ _ }

pub loop-j-preserved : goal.loop-j-preserved
loop-j-preserved c =
    let turn = c.loop-j in
    let ends = sum_more c.args.nodes.now turn.j turn.at turn.nodes turn.invariant.runs turn.invariant.sum c.give_run-count.ensures.count c.saturating_add-to.ensures in
    record {
      runs = runs_more _ _ _ _ turn.invariant.runs turn.invariant.sum c.give_run-count.ensures.run;
      sum = ends;
      order = order_more c.args.nodes.now c.args.entries.now c.args.n (omega arith) (omega arith) turn.invariant.sum ends turn.invariant.order c.sort_rows.ensures;
    }
