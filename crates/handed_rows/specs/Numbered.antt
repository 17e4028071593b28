-- Block and piece rows as blocks of history, by their numbers: those of the block table, then those of the piece table. Their bytes are zeros: rule 24
-- asks only how many there are. Definitions alone: laws stand in proofs/Numbered.
use Rattle.std.specs.Prelude.{cond, List, map, ℕ, suc, ◌+◌, ◌-◌, ltb, replicate}
use Rattle.lists.specs.Lists.{count_from}
use Rattle.history.specs.Words.{Block, a_block}
use Rattle.tables.specs.Columns.{column, piece_first, piece_length, piece_written, piece_owner}
use Rattle.block_table.specs.Blocks.{first_cell_at, length_at, created_at, destroyed_at, owner_at}

-- the tables, how many rows they have, and a tick after all others, at which pieces are destroyed
pub record Given : Type 0 where
  pub pieces : List ℕ
  pub blocks : List ℕ
  pub n : ℕ
  pub m : ℕ
  pub gone : ℕ

abbrev pub block_row : (blocks : List ℕ) (link : ℕ) → Block
block_row blocks link =
    a_block (owner_at blocks link) (first_cell_at blocks link) (replicate (length_at blocks link) 0) (created_at blocks link) (destroyed_at blocks link)

abbrev pub piece_row : (pieces : List ℕ) (gone link : ℕ) → Block
piece_row pieces gone link =
    a_block (column pieces link piece_owner) (column pieces link piece_first) (replicate (column pieces link piece_length) 0) (column pieces link piece_written) gone

unfoldable pub numbered : Given → (k : ℕ) → Block
numbered g k = cond (ltb k g.n) (block_row g.blocks (suc k)) (piece_row g.pieces g.gone (suc (k - g.n)))

unfoldable pub all_rows : Given → List Block
all_rows g = map (numbered g) (count_from 0 (g.n + g.m))
