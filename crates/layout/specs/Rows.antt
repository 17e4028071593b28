-- Rows and heads as the lists of their numbers, column by column: what a load writes into tables. Definitions alone.
use Rattle.std.specs.Prelude.{cond, List, [], ◌∷◌, ◌++◌, ℕ, suc, ◌+◌, eqb, length}
use Rattle.history.specs.Words.{Block, size, first_cell}
use Rattle.history.specs.Tree.{Tree, hole, node, mid, node_count, entry_count, entries_in}

-- ── blocks ──

-- the last row of the head
abbrev pub head_numbers : (state end kinds count used last : ℕ) → List ℕ
head_numbers state e kinds count used last = state ∷ e ∷ kinds ∷ count ∷ used ∷ last ∷ 0 ∷ 0 ∷ []

-- the row of a block whose bytes start at an offset; the columns next and spare are 0
unfoldable pub block_numbers : (offset : ℕ) → Block → List ℕ
block_numbers offset b =
    first_cell b ∷ size b.stretch ∷ b.created ∷ b.destroyed ∷ offset ∷ b.kind ∷ 0 ∷ 0 ∷ []

-- the rows of blocks whose bytes stand one after the other
unfoldable pub blocks_numbers : (offset : ℕ) → List Block → List ℕ
blocks_numbers offset [] = []
blocks_numbers offset (b ∷ bs) = block_numbers offset b ++ blocks_numbers (offset + size b.stretch) bs

-- ── nodes ──

-- the root's link in a column of the head
abbrev pub root_in : (kind col : ℕ) → ℕ
root_in kind col = cond (eqb kind col) 1 0

-- the head of a tree's table, whose root stands first
abbrev pub node_head_numbers : (kind count : ℕ) → List ℕ
node_head_numbers kind count = root_in kind 0 ∷ root_in kind 1 ∷ root_in kind 2 ∷ root_in kind 3 ∷ root_in kind 4 ∷ count ∷ 0 ∷ 0 ∷ []

-- the link of the root of a tree that stands behind so many rows
unfoldable pub root_link : (rows : ℕ) → Tree → ℕ
root_link rows hole = 0
root_link rows (node es l r) = suc rows

-- the rows of a tree behind so many rows, whose runs stand behind so many entries: root first, left before right
unfoldable pub node_numbers : (kind lo hi rows runs : ℕ) → Tree → List ℕ
node_numbers kind lo hi rows runs hole = []
node_numbers kind lo hi rows runs (node es l r) =
    (lo ∷ hi ∷ root_link (suc rows) l ∷ root_link (suc rows + node_count l) r ∷ runs ∷ length es ∷ kind ∷ 0 ∷ [])
    ++ (node_numbers kind lo (mid lo hi) (suc rows) (runs + length es) l
    ++ node_numbers kind (mid lo hi) hi (suc rows + node_count l) (runs + length es + entry_count l) r)

-- the node table of a tree that is not empty: its head, and the rows from link 1 on
abbrev pub tree_numbers : (kind end : ℕ) → Tree → List ℕ
tree_numbers kind e tree = node_head_numbers kind (node_count tree) ++ node_numbers kind 0 e 0 0 tree

-- ── entries ──

abbrev pub entry_head_numbers : (count : ℕ) → List ℕ
entry_head_numbers count = count ∷ 0 ∷ 0 ∷ 0 ∷ 0 ∷ 0 ∷ 0 ∷ 0 ∷ []

-- a row for each: the block number and its key
unfoldable pub entry_numbers : (key : ℕ → ℕ) (ks : List ℕ) → List ℕ
entry_numbers key [] = []
entry_numbers key (k ∷ ks) = k ∷ key k ∷ entry_numbers key ks

-- the entry table of a tree: its head, and the runs in the order of its nodes
abbrev pub run_numbers : (key : ℕ → ℕ) → Tree → List ℕ
run_numbers key tree = entry_head_numbers (entry_count tree) ++ entry_numbers key (entries_in tree)
