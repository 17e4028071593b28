-- Runs of entries: the run of each row begins where that of the row before it ends. Definitions alone.
use Rattle.std.specs.Prelude.{◌≡◌, ◌⊎◌, List, ℕ, zero, suc, ◌+◌, ◌*◌, ◌<◌, min, set}
use Rattle.history.specs.Lent.{row_width}
use Rattle.tables.specs.Columns.{column, node_first}
use Rattle.tables.specs.Sums.{most}
use Rattle.segment_tree.specs.Count.{entries_to}

-- a sum in a table that nobody has tested may pass the largest number, and stays there then
abbrev pub up_to : (n : ℕ) → ℕ
up_to n = min n most

-- each of the rows 1 to n with the start of its run
unfoldable pub with_runs : (nodes : List ℕ) (n : ℕ) → List ℕ
with_runs nodes zero = nodes
with_runs nodes (suc n) = set (with_runs nodes n) (row_width * suc n + node_first) (up_to (entries_to nodes n))

-- two tables that differ in the starts of runs alone
pub record LikeButRuns (nodes nodes' : List ℕ) : Type 0 where
  pub same : (k j : ℕ) → j < row_width → (k ≡ 0) ⊎ (j ≡ node_first → ⊥) → column nodes' k j ≡ column nodes k j

-- the runs of rows 1 to n, and how many entries they have
pub record AssignedRuns (nodes nodes' : List ℕ) (n total : ℕ) : Type 0 where
  pub runs : nodes' ≡ with_runs nodes n
  pub sum : total ≡ up_to (entries_to nodes n)
