-- What is lent: the lengths of the tables, and how many rows they have (01, "Words", Lent). Head sizes and widths are those of docs/LAYOUT.md.
use Rattle.std.specs.Prelude.{Bool, ◌||◌, ℕ, ◌-◌, ◌/◌, ltb}

-- ── heads and widths, in numbers ──

-- a row of pieces, blocks or nodes, and of the scratch
abbrev pub row_width : ℕ
row_width = 8

-- a row of entries
abbrev pub entry_width : ℕ
entry_width = 2

-- the heads
abbrev pub piece_head : ℕ
piece_head = row_width

-- room for what the requests keep of an index, in front of its last row (`Columns` of crate `tables`)
abbrev pub block_head : ℕ
block_head = 2048

abbrev pub node_head : ℕ
node_head = row_width

abbrev pub entry_head : ℕ
entry_head = 8

-- ── lengths ──

-- the lengths of the four tables, in numbers, and of the store, in bytes
pub record Lent : Type 0 where
  pub pieces : ℕ
  pub blocks : ℕ
  pub store : ℕ
  pub nodes : ℕ
  pub entries : ℕ

-- past its head a table has as many rows as its length holds
abbrev pub piece_rows : Lent → ℕ
piece_rows n = (n.pieces - piece_head) / row_width

abbrev pub block_rows : Lent → ℕ
block_rows n = (n.blocks - block_head) / row_width

abbrev pub node_rows : Lent → ℕ
node_rows n = (n.nodes - node_head) / row_width

abbrev pub entry_rows : Lent → ℕ
entry_rows n = (n.entries - entry_head) / entry_width

-- lengths too short to be well formed: a table that cannot hold its head
unfoldable pub too_short : Lent → Bool
too_short n = ltb n.pieces piece_head || ltb n.blocks block_head || ltb n.nodes node_head || ltb n.entries entry_head

-- the numbers of a scratch that record does with (02, Item 9); a scratch has no head
abbrev pub least_scratch : ℕ
least_scratch = 8
