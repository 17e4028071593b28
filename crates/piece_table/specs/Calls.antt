-- What the functions ensure: `t` is the table at entry, `t'` at exit; `link` is the link of a row. Definitions alone.
use Rattle.std.specs.Prelude.{◌≡◌, Bool, true, cond, ◌&&◌, List, [], ◌∷◌, ◌++◌, map, ℕ, ◌+◌, ◌-◌, ◌*◌, ◌^◌, ◌≤◌, ◌<◌, min, max, length, ltb, Option, Some, None}
use Rattle.std.specs.Bool.{then_some}
use Rattle.lists.specs.Lists.{All}
use Rattle.history.specs.Words.{cell_place}
use Rattle.history.specs.Lent.{row_width}
use Rattle.tables.specs.Columns.{column, piece_first, piece_length, piece_left, piece_depth, piece_owner, pieces_root, pieces_count}
use Rattle.tables.specs.Sums.{plus_up_to}
use Rattle.merge_set.specs.Tree.{Tree, leaf, node, height, rows}
use Rattle.merge_set.specs.Table.{first_at, Valid, Shape}
use Rattle.piece_table.specs.Piece.{PieceRow, row_end, piece_at, part, cell_part, Follow, placed}
use Rattle.piece_table.specs.Rep.{Linked, Rep, Becomes}
use Rattle.piece_table.specs.declared.Found.{Found}
use Rattle.piece_table.specs.declared.Piece.{Piece}

-- ── a piece ──

-- `clip`: the part in [from, to), cells of its kind, if there is any, and its offset is a number of 64 bits; no piece of a well-formed table fails at the latter
pub record Clipped (p : Piece) (from to : ℕ) (out : Option Piece) : Type 0 where
  pub is : out ≡ then_some (ltb (max from p.first) (min to (plus_up_to p.first p.size)) && ltb (p.offset + (max from p.first - p.first)) (2 ^ 64))
      (cell_part (max from p.first) (min to (plus_up_to p.first p.size)) p)

-- ── stores ──

-- `set_head`: the root and the count, and no row
pub record HeadSet (t t' : List ℕ) (root count : ℕ) : Type 0 where
  pub len : length t' ≡ length t
  pub is_root : row_width ≤ length t → column t' 0 pieces_root ≡ root
  pub is_count : row_width ≤ length t → column t' 0 pieces_count ≡ count
  pub rest : (j c : ℕ) → 0 < j → column t' j c ≡ column t j c

-- `write_row`: the row holds the piece; its tree columns and all else are as they were
pub record WroteRow (t t' : List ℕ) (link : ℕ) (p : PieceRow) : Type 0 where
  pub len : length t' ≡ length t
  pub there : Valid t link → piece_at t' link ≡ p
  pub rest : (j c : ℕ) → c < row_width → (j ≡ link → (piece_left ≤ c) × (c ≤ piece_depth)) → column t' j c ≡ column t j c

-- ── seeking ──

-- the place after the piece of a row
abbrev pub end_at : (t : List ℕ) (link : ℕ) → ℕ
end_at t link = first_at t link + column t link piece_length

-- `ends_past`: so many cells of a kind from `first` on end past another place; of one kind they do also where they wrap
pub record EndsPast (owner first size kind cell : ℕ) (answer : Bool) : Type 0 where
  pub is : first + size ≤ 2 ^ 64 → answer ≡ ltb (cell_place kind cell) (cell_place owner first + size)
  pub same : owner ≡ kind → answer ≡ ltb cell (first + size)
  pub other : (owner ≡ kind → ⊥) → answer ≡ ltb kind owner

-- the cells of a row do not wrap
pub record OnLine (t : List ℕ) (link : ℕ) : Type 0 where
  pub fits : column t link piece_first + column t link piece_length ≤ 2 ^ 64

-- `ends_after`
pub record EndsAfter (t : List ℕ) (link kind cell : ℕ) (answer : Bool) : Type 0 where
  pub is : OnLine t link → answer ≡ ltb (cell_place kind cell) (end_at t link)
  pub same : column t link piece_owner ≡ kind → answer ≡ ltb cell (column t link piece_first + column t link piece_length)
  pub other : (column t link piece_owner ≡ kind → ⊥) → answer ≡ ltb kind (column t link piece_owner)

-- the first link of a tree whose end is past a place, `best` if there is none; and of a list
unfoldable pub sought : (end : ℕ → ℕ) (place best : ℕ) → Tree → ℕ
sought end place best leaf = best
sought end place best (node a x b) = cond (ltb place (end x)) (sought end place x a) (sought end place best b)

unfoldable pub first_past : (end : ℕ → ℕ) (place best : ℕ) → List ℕ → ℕ
first_past end place best [] = best
first_past end place best (x ∷ xs) = cond (ltb place (end x)) x (first_past end place best xs)

-- `seek_from`
pub record SoughtFrom (t : List ℕ) (link place best fuel out : ℕ) : Type 0 where
  pub says : (T : Tree) → Shape t link T → height T ≤ fuel → All (OnLine t) (rows T) → out ≡ sought (end_at t) place best T

-- `out` is the first of the links, and its piece ends past the place; or it is none, and there are none
abbrev pub Heads : (t : List ℕ) (place : ℕ) (out : Option ℕ) → List ℕ → Type 0
Heads t place out [] = out ≡ None
Heads t place out (x ∷ xs) = (out ≡ Some x) × (place < end_at t x)

-- the links are those whose pieces end at or before the place, and the rest
pub record Met (t : List ℕ) (place : ℕ) (out : Option ℕ) (links : List ℕ) : Type 0 where
  pub front : List ℕ
  pub back : List ℕ
  pub is : links ≡ front ++ back
  pub left : All (λ (p : PieceRow). row_end p ≤ place) (map (piece_at t) front)
  pub head : Heads t place out back

-- `if_any`: none where the link is 0
pub record IfAny (f : Found) (out : Option Found) : Type 0 where
  pub is : out ≡ then_some (ltb 0 f.link) f

-- the link of what is found
abbrev pub link_of : Option Found → Option ℕ
link_of None = None
link_of (Some f) = Some f.link

-- `seek`: the link of the lowest piece that ends past the place, if there is one
pub record Sought (t : List ℕ) (place : ℕ) (out : Option ℕ) : Type 0 where
  pub says : (links : List ℕ) → Linked t links → Met t place out links

-- `has_cell`: the row is in use, and its piece is of the kind and has the cell
pub record HasCell (t : List ℕ) (link kind cell : ℕ) : Type 0 where
  pub some : 0 < link
  pub within : link ≤ column t 0 pieces_count
  pub own : column t link piece_owner ≡ kind
  pub from : column t link piece_first ≤ cell
  pub below : cell < column t link piece_first + column t link piece_length

-- `has_ended`: yes is said only where the row is in use, and its piece ends at the place or before
pub record HasEnded (t : List ℕ) (link place : ℕ) : Type 0 where
  pub some : 0 < link
  pub within : link ≤ column t 0 pieces_count
  pub to : OnLine t link → end_at t link ≤ place

pub record Ended (t : List ℕ) (link kind cell : ℕ) (answer : Bool) : Type 0 where
  pub yes : answer ≡ true → HasEnded t link (cell_place kind cell)

-- ── pieces ──

-- `remove_piece`: the pieces without the link's, in a table that is dense again
pub record RemovedPiece (t t' : List ℕ) (link : ℕ) : Type 0 where
  pub done : (xs ys : List ℕ) → Linked t (xs ++ link ∷ ys) → Becomes t t' (map (piece_at t) (xs ++ ys))

-- `replace_piece`: where it stands in order, another piece in the place of the link's
pub record ReplacedPiece (t t' : List ℕ) (link : ℕ) (p : PieceRow) : Type 0 where
  pub done : (xs ys : List ℕ) → Linked t (xs ++ link ∷ ys) → Follow 0 (map (piece_at t) xs ++ p ∷ map (piece_at t) ys)
      → Becomes t t' (map (piece_at t) xs ++ p ∷ map (piece_at t) ys)

-- `insert_piece`: where there is space for one more row, the piece in its place
pub record InsertedPiece (t t' : List ℕ) (p : PieceRow) : Type 0 where
  pub done : (ps : List PieceRow) → Rep t ps → row_width * length ps + (row_width + row_width) ≤ length t → Follow 0 (placed p ps) → Becomes t t' (placed p ps)

-- the place of a cell of the link's own kind
abbrev pub own_place : (t : List ℕ) (link cell : ℕ) → ℕ
own_place t link cell = cell_place (column t link piece_owner) cell

-- `trim_back` and `trim_front`: the link's piece is cut to what it has below the cell `end` of its kind, or from `first` on
pub record TrimmedBack (t t' : List ℕ) (link end : ℕ) : Type 0 where
  pub done : (xs ys : List ℕ) → Linked t (xs ++ link ∷ ys) → first_at t link < own_place t link end → own_place t link end ≤ end_at t link
      → Becomes t t' (map (piece_at t) xs ++ part (first_at t link) (own_place t link end) (piece_at t link) ∷ map (piece_at t) ys)

pub record TrimmedFront (t t' : List ℕ) (link first : ℕ) : Type 0 where
  pub done : (xs ys : List ℕ) → Linked t (xs ++ link ∷ ys) → first_at t link ≤ own_place t link first → own_place t link first < end_at t link
      → Becomes t t' (map (piece_at t) xs ++ part (own_place t link first) (end_at t link) (piece_at t link) ∷ map (piece_at t) ys)
