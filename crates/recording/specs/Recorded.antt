-- The blocks that pieces become when they are destroyed. Definitions alone: their laws stand in proofs/Recorded.antt.
use Rattle.std.specs.Prelude.{List, map, ℕ}
use Rattle.history.specs.Words.{cell_of}
use Rattle.block_table.specs.Blocks.{BlockRow}
use Rattle.block_table.specs.Appended.{appended}
use Rattle.piece_table.specs.Piece.{PieceRow}

abbrev pub block_row_of : (destroyed : ℕ) → PieceRow → BlockRow
block_row_of destroyed p =
    record { first = cell_of p.owner p.first; size = p.size; created = p.written; destroyed = destroyed; offset = p.offset; owner = p.owner }

-- the block table with the blocks of pieces behind those that it has
abbrev pub recorded : (destroyed : ℕ) (ps : List PieceRow) (blocks : List ℕ) → List ℕ
recorded destroyed ps blocks = appended (map (block_row_of destroyed) ps) blocks
