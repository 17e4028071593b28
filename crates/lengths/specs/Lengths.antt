-- How long a slice must be to hold so many rows. Definitions alone: head sizes and widths are those of `Lent`.
use Rattle.std.specs.Prelude.{◌≡◌, cond, List, [], ◌∷◌, ℕ, ◌+◌, ◌*◌, ◌^◌, ◌≤◌, ◌<◌, ltb, get_or}
use Rattle.history.specs.Lent.{Lent, piece_rows, block_rows, node_rows, entry_rows, least_scratch, row_width, entry_width, piece_head, block_head, node_head, entry_head}

-- pieces, blocks, store, nodes, entries, scratch: the head, and the width of a row; a byte is the store's row
abbrev pub heads : List ℕ
heads = piece_head ∷ block_head ∷ 0 ∷ node_head ∷ entry_head ∷ 0 ∷ []

abbrev pub widths : List ℕ
widths = row_width ∷ row_width ∷ 1 ∷ row_width ∷ entry_width ∷ row_width ∷ []

-- a length as a 64-bit number; 0 where it is none
unfoldable pub whole : ℕ → ℕ
whole n = cond (ltb n (2 ^ 64)) n 0

-- the length of a table's slice with so many rows; 0 where there is no such table, as where it does not fit
unfoldable pub length_for : (table rows : ℕ) → ℕ
length_for table rows = whole (get_or heads table 0 + get_or widths table 0 * rows)

-- ── what it is good for ──

-- A slice that is as long as that, and not empty, has the rows asked for.
pub record RowsHeld (rows : ℕ) (n : Lent) (scratch : ℕ) : Type 0 where
  pub pieces : n.pieces ≡ length_for 0 rows → 0 < n.pieces → piece_rows n ≡ rows
  pub blocks : n.blocks ≡ length_for 1 rows → 0 < n.blocks → block_rows n ≡ rows
  pub store : n.store ≡ length_for 2 rows → 0 < n.store → n.store ≡ rows
  pub nodes : n.nodes ≡ length_for 3 rows → 0 < n.nodes → node_rows n ≡ rows
  pub entries : n.entries ≡ length_for 4 rows → 0 < n.entries → entry_rows n ≡ rows
  -- of the scratch one row is enough
  pub scratch_long : scratch ≡ length_for 5 rows → 0 < scratch → least_scratch ≤ scratch

abbrev pub LengthsHold : Type 0
LengthsHold = (rows : ℕ) (n : Lent) (scratch : ℕ) → RowsHeld rows n scratch
