-- The rows of a block table as the blocks of one kind. Definitions alone: laws stand in proofs/.
use Rattle.std.specs.Prelude.{◌≡◌, List, map, ℕ, suc, ◌-◌, ◌^◌, ◌≤◌, ◌<◌, replicate}
use Rattle.lists.specs.Lists.{count_from}
use Rattle.history.specs.Words.{Block}
use Rattle.tables.specs.Columns.{block_column, block_length}
use Rattle.segment_table.specs.Closed.{first_cell_in}
use Rattle.segment_test.specs.Test.{owner_in}
use Rattle.segment_test.specs.Parts.{own_created, own_destroyed}
use Rattle.segment_clear.specs.Clear.{end_in}

-- Block k as a kind sees it, by cells: one of another kind has no life. Its kind is
-- 0, so that its places are its cells, and its bytes are zeros: rule 24 asks only how many there are.
unfoldable pub row_block : (blocks : List ℕ) (kind k : ℕ) → Block
row_block blocks kind k =
    record {
      kind = 0;
      stretch = record { first = first_cell_in blocks k; bytes = replicate (block_column blocks (suc k) block_length) 0 };
      created = own_created blocks kind k;
      destroyed = own_destroyed blocks kind k;
    }

-- the blocks of the rows 1 to n so
unfoldable pub row_blocks : (blocks : List ℕ) (n kind : ℕ) → List Block
row_blocks blocks n kind = map (row_block blocks kind) (count_from 0 n)

-- block k is one of the first n, and of the kind
pub record Known (blocks : List ℕ) (n kind k : ℕ) : Type 0 where
  pub low : k < n
  pub own : owner_in blocks k ≡ kind

-- the end of no block passes 2^64 − 1
pub record Fits (blocks : List ℕ) (n : ℕ) : Type 0 where
  pub each : (k : ℕ) → k < n → end_in blocks k ≤ 2 ^ 64 - 1
