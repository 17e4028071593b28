-- Which pieces a table stands for: the layout of docs/LAYOUT.md. Callers need only `Rep`; `Linked` names the links too, for the calls between which
-- links are kept. `Links` is the layout alone; that the pieces follow one another is one of document 01's conditions. Definitions alone.
use Rattle.std.specs.Prelude.{◌≡◌, List, map, ℕ, ◌+◌, ◌*◌, ◌≤◌, ◌<◌, ◌^◌, length}
use Rattle.lists.specs.Lists.{Mem, Distinct}
use Rattle.history.specs.Lent.{row_width}
use Rattle.tables.specs.Columns.{column, pieces_root, pieces_count}
use Rattle.merge_set.specs.Tree.{Tree, rows, Balanced}
use Rattle.merge_set.specs.Table.{Shape}
use Rattle.piece_table.specs.Piece.{PieceRow, piece_at, Follow}

-- The links, in the order of the tree below the root, which is balanced. Dense: exactly the links 1 to the count.
pub record Links (t : List ℕ) (links : List ℕ) : Type 0 where
  pub tree : Tree
  pub is : rows tree ≡ links
  pub shape : Shape t (column t 0 pieces_root) tree
  pub balanced : Balanced tree
  pub count : length links ≡ column t 0 pieces_count
  pub within : (link : ℕ) → Mem link links → link ≤ column t 0 pieces_count
  pub once : Distinct links
  pub room : row_width * column t 0 pieces_count + row_width ≤ length t

-- Their pieces follow one another. `few` holds of every slice.
pub record Linked (t : List ℕ) (links : List ℕ) : Type 0 where
  pub dense : Links t links
  pub few : length t < 2 ^ 64
  pub order : Follow 0 (map (piece_at t) links)

pub record Rep (t : List ℕ) (ps : List PieceRow) : Type 0 where
  pub links : List ℕ
  pub linked : Linked t links
  pub pieces : map (piece_at t) links ≡ ps

-- the table stands for the pieces now, and is as long as it was
pub record Becomes (t t' : List ℕ) (ps : List PieceRow) : Type 0 where
  pub rep : Rep t' ps
  pub len : length t' ≡ length t

-- the link's row is in use and holds the piece; as rows are dense, that is all it takes
pub record Holds (t : List ℕ) (link : ℕ) (p : PieceRow) : Type 0 where
  pub some : 0 < link
  pub within : link ≤ column t 0 pieces_count
  pub is : piece_at t link ≡ p
