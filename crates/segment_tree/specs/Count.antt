-- The node table while the tree is built: nodes with the counts of their entries, and what adding a life leaves. Definitions alone.
use Rattle.std.specs.Prelude.{◌≡◌, Bool, true, false, cond, List, ℕ, zero, suc, ◌+◌, ◌-◌, ◌*◌, ◌/◌, ◌^◌, ◌≤◌, ◌<◌, max, length, set, ltb}
use Rattle.history.specs.Lent.{row_width, node_head}
use Rattle.history.specs.Tree.{Tree, hole, node, mid, covers, add_location, node_count, entry_count}
use Rattle.tables.specs.Columns.{column, node_min, node_max, node_left, node_right, node_entries, node_kind, nodes_count}
use Rattle.tables.specs.Sums.{most, plus_up_to}
use Rattle.segment_table.specs.Closed.{nodes_used, left_at, right_at, count_at}
use Rattle.segment_tree.specs.declared.Life.{Life as CodeLife}
use Rattle.segment_tree.specs.declared.Span.{Span}
use Rattle.segment_tree.specs.declared.Place.{Place}

-- ── numbers ──

-- how many rows the table has past its head
abbrev pub rows_in : (nodes : List ℕ) → ℕ
rows_in nodes = (length nodes - node_head) / row_width

-- the most entries that a node of the tree has
unfoldable pub fullest : Tree → ℕ
fullest hole = 0
fullest (node xs l r) = max (length xs) (max (fullest l) (fullest r))

-- ── columns ──

abbrev pub min_at : (nodes : List ℕ) (link : ℕ) → ℕ
min_at nodes link = column nodes link node_min

abbrev pub max_at : (nodes : List ℕ) (link : ℕ) → ℕ
max_at nodes link = column nodes link node_max

abbrev pub kind_at : (nodes : List ℕ) (link : ℕ) → ℕ
kind_at nodes link = column nodes link node_kind

-- how many entries the rows of links 1 to k have
unfoldable pub entries_to : (nodes : List ℕ) (k : ℕ) → ℕ
entries_to nodes zero = 0
entries_to nodes (suc k) = entries_to nodes k + count_at nodes (suc k)

-- and those in use
abbrev pub all_entries : (nodes : List ℕ) → ℕ
all_entries nodes = entries_to nodes (nodes_used nodes)

-- ── a counted tree ──

-- the row of a link is in use and holds the node [lo, hi) of the kind with n entries; a node of width 1 has no halves
pub record CountRow (nodes : List ℕ) (kind link lo hi n : ℕ) : Type 0 where
  pub some : 0 < link
  pub used : link ≤ nodes_used nodes
  pub low : min_at nodes link ≡ lo
  pub high : max_at nodes link ≡ hi
  pub own_kind : kind_at nodes link ≡ kind
  pub wide : lo < hi
  pub narrow : hi ≤ lo + 1 → (left_at nodes link ≡ 0) × (right_at nodes link ≡ 0)
  pub counted : count_at nodes link ≡ n

-- the tree stands at a link, with the counts of its entries
unfoldable pub CountAt : (nodes : List ℕ) (kind link lo hi : ℕ) → Tree → Type 0
CountAt nodes kind link lo hi hole = link ≡ 0
CountAt nodes kind link lo hi (node xs l r) =
    CountRow nodes kind link lo hi (length xs)
    × CountAt nodes kind (left_at nodes link) lo (mid lo hi) l
    × CountAt nodes kind (right_at nodes link) (mid lo hi) hi r

-- rows past those in use are zeros
pub record Clean (nodes : List ℕ) : Type 0 where
  pub zeros : (k j : ℕ) → nodes_used nodes < k → j < row_width → column nodes k j ≡ 0

-- ── where a node hangs ──

-- a life [created, destroyed), the code's own
abbrev pub Life : Type 0
Life = CodeLife

abbrev pub a_life : (created destroyed : ℕ) → Life
a_life created destroyed = record { created = created; destroyed = destroyed }

-- The node [lo, hi) of a kind, whose link stands in a column of its parent's row. That of a root stands in the head, the row of link 0.
pub record Spot : Type 0 where
  pub kind : ℕ
  pub parent : ℕ
  pub col : ℕ
  pub lo : ℕ
  pub hi : ℕ

abbrev pub spot : (kind parent col lo hi : ℕ) → Spot
spot kind parent col lo hi = record { kind = kind; parent = parent; col = col; lo = lo; hi = hi }

-- .. by its place there
abbrev pub spot_in : (kind parent : ℕ) (p : Place) → Spot
spot_in kind parent p = spot kind parent p.col p.span.lo p.span.hi

-- the halves of a node
abbrev pub left_half : Span → Place
left_half s = record { col = node_left; span = record { lo = s.lo; hi = mid s.lo s.hi } }

abbrev pub right_half : Span → Place
right_half s = record { col = node_right; span = record { lo = mid s.lo s.hi; hi = s.hi } }

-- the one on that side
abbrev pub half_on : (right : Bool) → Span → Place
half_on right s = cond right (right_half s) (left_half s)

abbrev pub link_at : (nodes : List ℕ) (s : Spot) → ℕ
link_at nodes s = column nodes s.parent s.col

-- row k is no part of the tree that hangs there: its kind or its interval says so
pub data Outside (nodes : List ℕ) (s : Spot) (k : ℕ) : Type 0 where
  other_kind : (kind_at nodes k ≡ s.kind → ⊥) → Outside nodes s k
  starts_before : min_at nodes k < s.lo → Outside nodes s k
  ends-after : s.hi < max_at nodes k → Outside nodes s k

-- the tree hangs there, and the table can take more
pub record Standing (nodes : List ℕ) (s : Spot) (T : Tree) : Type 0 where
  pub here : CountAt nodes s.kind (link_at nodes s) s.lo s.hi T
  pub wide : s.lo < s.hi
  pub parent_used : s.parent ≤ nodes_used nodes
  pub at_root : s.parent ≡ 0 → s.col < nodes_count
  pub at_half : 0 < s.parent → (node_left ≤ s.col) × (s.col ≤ node_right)
  pub outer : 0 < s.parent → Outside nodes s s.parent
  pub clean : Clean nodes
  pub inside : nodes_used nodes ≤ rows_in nodes

-- ── what adding leaves ──

-- rows outside are as they were, and the head but for its count; the link itself may be set
pub record Kept (nodes nodes' : List ℕ) (s : Spot) : Type 0 where
  pub rows : (k j : ℕ) → 0 < k → k ≤ nodes_used nodes → j < row_width → Outside nodes s k → (k ≡ s.parent → j ≡ s.col → ⊥) → column nodes' k j ≡ column nodes k j
  pub head : (j : ℕ) → j < row_width → (j ≡ nodes_count → ⊥) → (0 ≡ s.parent → j ≡ s.col → ⊥) → column nodes' 0 j ≡ column nodes 0 j

-- where T hung there hangs T' now, with as many more rows and entries
pub record Grown (nodes nodes' : List ℕ) (s : Spot) (T T' : Tree) : Type 0 where
  pub long : length nodes' ≡ length nodes
  pub here : CountAt nodes' s.kind (link_at nodes' s) s.lo s.hi T'
  pub rows : nodes_used nodes' + node_count T ≡ nodes_used nodes + node_count T'
  pub more : nodes_used nodes ≤ nodes_used nodes'
  pub entries : all_entries nodes' + entry_count T ≡ all_entries nodes + entry_count T'
  -- the columns behind the kind are free
  pub free : (k j : ℕ) → node_kind < j → j < row_width → column nodes' k j ≡ column nodes k j
  pub kept : Kept nodes nodes' s
  pub clean : Clean nodes'
  pub inside : nodes_used nodes' ≤ rows_in nodes'

-- either that, or T' has more nodes than there are rows
pub record Outcome (nodes nodes' : List ℕ) (s : Spot) (room : Bool) (T T' : Tree) : Type 0 where
  pub added : room ≡ true → Grown nodes nodes' s T T'
  pub spent : room ≡ false → rows_in nodes + node_count T < nodes_used nodes + node_count T'

-- whatever tree hangs there, and whatever the block: the model's add_location, told by whether there was room
pub record Added (nodes nodes' : List ℕ) (s : Spot) (life : Life) (room : Bool) : Type 0 where
  pub done : (key : ℕ → ℕ) (levels block : ℕ) (T : Tree) → s.hi - s.lo ≤ 2 ^ levels → fullest T < most → Standing nodes s T
      → Outcome nodes nodes' s room T (add_location key levels block life.created life.destroyed s.lo s.hi T)

-- ── lives at a node ──

-- it covers [lo, hi)
pub record Whole (lo hi : ℕ) (life : Life) : Type 0 where
  pub from : life.created ≤ lo
  pub to : hi ≤ life.destroyed

-- It meets the node [lo, hi), and lasts over the node's end; or, the other way, from its beginning on.
pub record Lasts (to_end : Bool) (lo hi : ℕ) (life : Life) : Type 0 where
  pub wide : lo < hi
  pub begins : life.created < hi
  pub ends : lo < life.destroyed
  pub over : cond to_end (hi ≤ life.destroyed) (life.created ≤ lo)

-- whether such a life meets the other half [lo, hi): it begins before its end, or lasts behind its beginning
abbrev pub meets : (to_end : Bool) (life : Life) → Span → Bool
meets to_end life half = cond to_end (ltb life.created half.hi) (ltb half.lo life.destroyed)

-- ── one node ──

-- the table with a new node there
abbrev pub with_node : (nodes : List ℕ) (s : Spot) → List ℕ
with_node nodes s =
    let link = nodes_used nodes + 1 in
    set (set (set (set (set nodes (row_width * 0 + nodes_count) link) (row_width * s.parent + s.col) link) (row_width * link + node_min) s.lo)
    (row_width * link + node_max) s.hi) (row_width * link + node_kind) s.kind

-- the link of the node there, made if there was none and a row was left; none without a parent
pub data Reached (nodes nodes' : List ℕ) (s : Spot) (link : ℕ) : Type 0 where
  was_there : (link ≡ 0 → ⊥) → link ≡ link_at nodes s → nodes' ≡ nodes → Reached nodes nodes' s link
  new_row : link_at nodes s ≡ 0 → nodes_used nodes < rows_in nodes → link ≡ nodes_used nodes + 1 → nodes' ≡ with_node nodes s → Reached nodes nodes' s link
  no_parent : (node_head ≤ length nodes → s.col < row_width → rows_in nodes < s.parent) → link ≡ 0 → nodes' ≡ nodes → Reached nodes nodes' s link
  no_row_lem : link_at nodes s ≡ 0 → rows_in nodes ≤ nodes_used nodes → link ≡ 0 → nodes' ≡ nodes → Reached nodes nodes' s link

-- one entry more in the node of a link, if it is one of the table's
pub record Bumped (nodes nodes' : List ℕ) (link : ℕ) : Type 0 where
  pub is : 0 < link → link ≤ rows_in nodes → nodes' ≡ set nodes (row_width * link + node_entries) (plus_up_to (count_at nodes link) 1)

-- ── at a node that is reached ──

-- whatever led to the node [lo, hi) of a link, which was reached last
pub record AddedAt (nodes nodes' : List ℕ) (kind link lo hi : ℕ) (life : Life) (room : Bool) : Type 0 where
  pub from : (before : List ℕ) (parent col : ℕ) → Reached before nodes (spot kind parent col lo hi) link → Added before nodes' (spot kind parent col lo hi) life room

-- there is a node, and the life begins in its left half, ends in its right one, and does not cover it
pub record Splits (link lo hi : ℕ) (life : Life) : Type 0 where
  pub some : link ≡ 0 → ⊥
  pub uncovered : covers life.created life.destroyed lo hi ≡ false
  pub wide : lo + 1 < hi
  pub begins : life.created < mid lo hi
  pub ends : mid lo hi < life.destroyed
