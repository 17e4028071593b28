use Rattle.std.proofs.Common.{◌≡◌}
use Rattle.segment_tree.specs.Count.{entries_to}
use Rattle.segment_tree.specs.Runs.{with_runs, up_to}
use Rattle.segment_tree.proofs.close.assign_runs.Given as goal

abbrev pub invariant-loop-j : goal.invariant-loop-j
invariant-loop-j l = record {
  runs : l.nodes ≡ with_runs l.fn.nodes l.j;
  sum : l.at ≡ up_to (entries_to l.fn.nodes l.j);
}
