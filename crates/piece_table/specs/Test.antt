-- What makes a piece table well formed: the layout, and document 01's conditions on pieces. Definitions alone: `test_pieces` decides it.
use Rattle.std.specs.Prelude.{◌≡◌, true, List, [], ◌∷◌, map, ℕ, suc, ◌+◌, ◌-◌, ◌*◌, ◌≤◌, max, length, Option, Some, None}
use Rattle.lists.specs.Lists.{All, Mem}
use Rattle.history.specs.Words.{cell_place}
use Rattle.history.specs.Lent.{row_width}
use Rattle.tables.specs.Masks.{opens}
use Rattle.tables.specs.Columns.{column, piece_left, piece_right, piece_depth}
use Rattle.merge_set.specs.Tree.{Tree, height, rows, Balanced}
use Rattle.merge_set.specs.Table.{first_at, deep_at, Shape}
use Rattle.piece_table.specs.Piece.{PieceRow, row_end, piece_at, Filled, Follow}
use Rattle.piece_table.specs.Rep.{Rep}
use Rattle.piece_table.specs.declared.test.Limits.{Limits}
use Rattle.piece_table.specs.declared.test.Walk.{Walk}

-- ── well formed ──

-- A piece inside the store's used part, written at no tick above the last accepted one, and of an opened kind.
pub record Allowed (kinds used last : ℕ) (p : PieceRow) : Type 0 where
  pub inside : p.offset + p.size ≤ used
  pub known : p.written ≤ last
  pub owned : opens kinds p.owner ≡ true

-- The table stands for pieces, and all of them are allowed. `Rep` has the rest: the count inside the table, a tree of links, dense, depths and balance
-- right; pieces not empty, ascending, sharing no cell, no end wrapping.
pub record WellFormed (t : List ℕ) (kinds used last : ℕ) : Type 0 where
  pub pieces : List PieceRow
  pub rep : Rep t pieces
  pub allowed : All (Allowed kinds used last) pieces

-- ── a row ──

-- `row_stands`: the row can be a node of the tree, as far as it and its children's depths say
pub record RowStands (t : List ℕ) (count link fuel : ℕ) : Type 0 where
  pub within : link ≤ count
  pub high : column t link piece_depth ≤ fuel
  pub deep : column t link piece_depth ≡ suc (max (deep_at t (column t link piece_left)) (deep_at t (column t link piece_right)))
  pub left : deep_at t (column t link piece_left) ≤ deep_at t (column t link piece_right) + 1
  pub right : deep_at t (column t link piece_right) ≤ deep_at t (column t link piece_left) + 1

-- `row_fits`: its piece is allowed, and starts at the place `low` or past it
pub record RowFits (t : List ℕ) (link low : ℕ) (limits : Limits) : Type 0 where
  pub from : low ≤ first_at t link
  pub filled : Filled (piece_at t link)
  pub allowed : Allowed limits.kinds limits.used limits.last (piece_at t link)

-- ── the walk ──

-- where the last of the pieces ends
abbrev pub last_end : (low : ℕ) → List PieceRow → ℕ
last_end low [] = low
last_end low (p ∷ ps) = last_end (row_end p) ps

-- at the link stands the tree, whose pieces are allowed and follow one another from `low` on, and are no more than can still be counted
pub record Stands (t : List ℕ) (limits : Limits) (link low seen fuel : ℕ) (T : Tree) : Type 0 where
  pub shape : Shape t link T
  pub balanced : Balanced T
  pub high : height T ≤ fuel
  pub within : (j : ℕ) → Mem j (rows T) → j ≤ limits.count
  pub few : length (rows T) ≤ limits.count - seen
  pub order : Follow low (map (piece_at t) (rows T))
  pub allowed : All (Allowed limits.kinds limits.used limits.last) (map (piece_at t) (rows T))

-- the tree that a walk found, how many pieces it has seen now, and where the last one ends
pub record Found (t : List ℕ) (limits : Limits) (link low seen fuel n end : ℕ) : Type 0 where
  pub tree : Tree
  pub stands : Stands t limits link low seen fuel tree
  pub many : seen + length (rows tree) ≡ n
  pub ends : last_end low (map (piece_at t) (rows tree)) ≡ end

-- `walk_tree`: a tree stands there, or none does; where the table has as many rows as the count says
abbrev pub Outcome : (t : List ℕ) (limits : Limits) (link low seen fuel : ℕ) → Option Walk → Type 0
Outcome t limits link low seen fuel None = (T : Tree) → Stands t limits link low seen fuel T → ⊥
Outcome t limits link low seen fuel (Some w) = Found t limits link low seen fuel w.seen (cell_place w.kind w.end)

pub record Walked (t : List ℕ) (limits : Limits) (link : ℕ) (walk : Walk) (fuel : ℕ) (out : Option Walk) : Type 0 where
  pub is : row_width * limits.count + row_width ≤ length t → Outcome t limits link (cell_place walk.kind walk.end) walk.seen fuel out
