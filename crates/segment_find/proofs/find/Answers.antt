use Rattle.std.proofs.Common.{rules, refl}
use Rattle.segment_find.proofs.Finding.{find_deep, find-listed, find_small, find_fitting}
use Rattle.segment_find.proofs.find.Goals as goal

pub search-visited-requires : goal.search-visited-requires
search-visited-requires c = find_deep c.root-root.ensures (search rules)

pub returns-in_err-runs : goal.returns-in_err-runs
returns-in_err-runs c =
    rw c.from_residual.ensures (find_small c.root-root.ensures refl c.search-visited.ensures c.windows.ensures c.in_err-runs.was)

pub write-count-requires : goal.write-count-requires
write-count-requires c = find_fitting c.windows.ensures c.in_ok-runs.was

pub returns : goal.returns
returns c = find-listed c.root-root.ensures refl c.search-visited.ensures c.windows.ensures c.in_ok-runs.was c.write-count.ensures
