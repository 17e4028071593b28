-- The five tables that every call on an index is lent, at a moment. Definitions alone.
use Rattle.std.specs.Prelude.{List, ℕ, length}
use Rattle.history.specs.Lent.{Lent}
use Rattle.tables.specs.Columns.{block_column}
use Rattle.segment_table.specs.Closed as closed
use Rattle.layout.specs.declared.Tables.{Tables as LentTables}

-- pieces, blocks, nodes and entries are tables of numbers; the store has bytes
pub record Tables : Type 0 where
  pub pieces : List ℕ
  pub blocks : List ℕ
  pub store : List ℕ
  pub nodes : List ℕ
  pub entries : List ℕ

abbrev pub tables : (pieces blocks store nodes entries : List ℕ) → Tables
tables p b s n e = record { pieces = p; blocks = b; store = s; nodes = n; entries = e }

-- what a call reads of the tables that it is lent
abbrev pub held : LentTables → Tables
held t = tables t.pieces.now t.blocks.now t.store.now t.nodes.now t.entries.now

abbrev pub lengths_of : Tables → Lent
lengths_of t =
    record {
      pieces = length t.pieces;
      blocks = length t.blocks;
      store = length t.store;
      nodes = length t.nodes;
      entries = length t.entries;
    }

-- a column of the head: it stands in the block table
abbrev pub head_at : Tables → (c : ℕ) → ℕ
head_at t c = block_column t.blocks 0 c

-- the tables that the trees of a closed index stand in
abbrev pub tree_tables : Tables → closed.Tables
tree_tables t = record { blocks = t.blocks; nodes = t.nodes; entries = t.entries }
