-- The ledger's piece that a row's piece stands for: its bytes are the store's part at its offset. Definitions alone: proofs/Showing.antt has the law
-- that clipping rows is clipping the ledger's pieces.
use Rattle.std.specs.Prelude.{List, ℕ, ◌+◌, ◌≤◌, length, take, drop}
use Rattle.history.specs.Words.{Piece}
use Rattle.piece_table.specs.Piece.{PieceRow}

abbrev pub shown : (store : List ℕ) → PieceRow → Piece
shown store p =
    record {
      kind = p.owner;
      stretch = record { first = p.first; bytes = take p.size (drop p.offset store) };
      written = p.written;
    }

-- the store has all its bytes
pub record Stored (store : List ℕ) (p : PieceRow) : Type 0 where
  pub has : p.offset + p.size ≤ length store
