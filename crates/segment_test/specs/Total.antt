-- Sums: of numbers up to a bound, and of a tree's widths. Definitions alone: their laws stand in proofs/.
use Rattle.std.specs.Prelude.{ℕ, zero, suc, ◌+◌, ◌-◌, ◌*◌, length, List}
use Rattle.history.specs.Tree.{Tree, hole, node, mid}
use Rattle.tables.specs.Columns.{column, block_column, node_min, node_max, block_created, block_destroyed}
use Rattle.segment_table.specs.Closed.{count_at}

-- f 0 + .. + f (n − 1)
unfoldable pub sum_to : (f : ℕ → ℕ) (n : ℕ) → ℕ
sum_to f zero = 0
sum_to f (suc n) = sum_to f n + f n

-- ── of the tables ──

-- how many entries the k-th row of nodes has, and their widths, added up; its link is k + 1
abbrev pub entries_of_row : (nodes : List ℕ) (k : ℕ) → ℕ
entries_of_row nodes k = count_at nodes (suc k)

abbrev pub width_at : (nodes : List ℕ) (link : ℕ) → ℕ
width_at nodes link = column nodes link node_max - column nodes link node_min

abbrev pub widths_of_row : (nodes : List ℕ) (k : ℕ) → ℕ
widths_of_row nodes k = count_at nodes (suc k) * width_at nodes (suc k)

-- the life of block k
abbrev pub life_in : (blocks : List ℕ) (k : ℕ) → ℕ
life_in blocks k = block_column blocks (suc k) block_destroyed - block_column blocks (suc k) block_created

-- ── of a tree ──

-- the widths of all entries
unfoldable pub all_widths : (lo hi : ℕ) → Tree → ℕ
all_widths lo hi hole = 0
all_widths lo hi (node es l r) = length es * (hi - lo) + (all_widths lo (mid lo hi) l + all_widths (mid lo hi) hi r)
