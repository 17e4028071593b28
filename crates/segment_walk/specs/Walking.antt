-- The way down to a tick, in the tables: the tree at a node, and the half of a node that has the tick. Definitions alone.
use Rattle.std.specs.Prelude.{◌≡◌, true, cond, List, ℕ, ◌≤◌, ◌<◌, ltb}
use Rattle.history.specs.Tree.{Tree, mid, halves}
use Rattle.history.specs.Rules.{sorted}
use Rattle.tables.specs.Columns.{column}
use Rattle.segment_table.specs.Closed.{TreeAt, left_at, right_at, first_cell_in}
use Rattle.segment_walk.specs.declared.walk.Node.{Node}

-- ── the tree at a node ──

-- The tree stands in the tables at the node, and first cells ascend strictly in each of its nodes.
pub record Stands (blocks nodes entries : List ℕ) (kind : ℕ) (n : Node) (tree : Tree) : Type 0 where
  pub stood : TreeAt (record { blocks = blocks; nodes = nodes; entries = entries }) kind n.link n.min n.max tree
  pub ascend : sorted (first_cell_in blocks) tree ≡ true
  pub wide : 0 < n.link → n.min < n.max

-- ── nodes ──

-- there is no node: no row, or an interval without a tick, which no closed index has
pub data Absent (n : Node) : Type 0 where
  no_row_lem : n.link ≡ 0 → Absent n
  no_tick : n.max ≤ n.min → Absent n

-- the root of a kind
abbrev pub root_at : (nodes : List ℕ) (kind end : ℕ) → Node
root_at nodes kind end = record { link = column nodes 0 kind; min = 0; max = end }

-- the tree stands at the root of a kind
abbrev pub Rooted : (blocks nodes entries : List ℕ) (kind end : ℕ) (tree : Tree) → Type 0
Rooted blocks nodes entries kind end tree = Stands blocks nodes entries kind (root_at nodes kind end) tree

-- ── halves ──

abbrev pub no_node : Node
no_node = record { link = 0; min = 0; max = 0 }

abbrev pub left_half : (nodes : List ℕ) → Node → Node
left_half nodes n = record { link = left_at nodes n.link; min = n.min; max = mid n.min n.max }

abbrev pub right_half : (nodes : List ℕ) → Node → Node
right_half nodes n = record { link = right_at nodes n.link; min = mid n.min n.max; max = n.max }

-- the half that find goes down to: left if the tick is below mid; a node of width 1 has none
unfoldable pub half_at : (nodes : List ℕ) (tick : ℕ) → Node → Node
half_at nodes t n = cond (halves n.min n.max) (cond (ltb t (mid n.min n.max)) (left_half nodes n) (right_half nodes n)) no_node
