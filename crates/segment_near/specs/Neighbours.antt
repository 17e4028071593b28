-- The live block next to a place: the first that starts at it or after it, the last that starts before it. Definitions alone.
use Rattle.std.specs.Prelude.{◌≡◌, Option, Some, None, List, ◌++◌, ℕ, ◌≤◌, ◌<◌}
use Rattle.lists.specs.Lists.{All, Mem}
use Rattle.history.specs.Tree.{Tree}
use Rattle.history.specs.Find.{path}
use Rattle.segment_table.specs.Closed.{first_cell_in}
use Rattle.segment_walk.specs.declared.walk.Node.{Node}
use Rattle.segment_walk.specs.declared.rows.Rows.{Rows}
use Rattle.segment_near.specs.declared.Side.{Side}
use Rattle.segment_near.specs.declared.Side.TheVariants.{From, Before}
use Rattle.segment_near.specs.declared.Neighbour.{Neighbour}
use Rattle.segment_walk.specs.Walking.{Stands, Rooted}
use Rattle.segment_walk.specs.Rowing.{RunOf}

-- ── over lists ──

-- block j lies on that side of the place: it starts at the place or after it, or it starts before it
abbrev pub Beside : Side → (key : ℕ → ℕ) (place j : ℕ) → Type 0
Beside From key place j = place ≤ key j
Beside Before key place j = key j < place

-- of two blocks on that side, k is as near as j
abbrev pub AsNear : Side → (key : ℕ → ℕ) (k j : ℕ) → Type 0
AsNear From key k j = key k ≤ key j
AsNear Before key k j = key j ≤ key k

-- block k, which starts at `first`, is the nearest of the list on that side of the place
pub record Nearest (side : Side) (key : ℕ → ℕ) (place : ℕ) (list : List ℕ) (k first : ℕ) : Type 0 where
  pub listed : Mem k list
  pub starts : first ≡ key k
  pub beside : Beside side key place k
  pub nearest : All (λ j. Beside side key place j → AsNear side key k j) list

-- the answer is the nearest one; none exactly when none of the list lies on that side
pub record Neighbours (side : Side) (key : ℕ → ℕ) (place : ℕ) (list : List ℕ) (r : Option Neighbour) : Type 0 where
  pub block : (n : Neighbour) → r ≡ Some n → Nearest side key place list n.number n.first
  pub nothing : r ≡ None → All (λ j. Beside side key place j → ⊥) list

-- ── in the tables ──

-- of the rows of a node
pub record OwnNeighbour (entries : List ℕ) (rows : Rows) (side : Side) (place : ℕ) (r : Option Neighbour) : Type 0 where
  pub of_run : (blocks xs : List ℕ) → RunOf blocks entries rows xs → Neighbours side (first_cell_in blocks) place xs r

-- of two lists, of which a and b are the neighbours
pub record Nearer (side : Side) (a b r : Option Neighbour) : Type 0 where
  pub of_both : (key : ℕ → ℕ) (place : ℕ) (xs ys : List ℕ) → Neighbours side key place xs a → Neighbours side key place ys b → Neighbours side key place (xs ++ ys) r

-- of a list, of which `best` is the neighbour, and behind it the way down to the tick from a node
pub record NearestBelow (nodes entries : List ℕ) (n : Node) (tick : ℕ) (side : Side) (place : ℕ) (best r : Option Neighbour) : Type 0 where
  pub of_way : (blocks : List ℕ) (kind : ℕ) (tree : Tree) (list : List ℕ) → Stands blocks nodes entries kind n tree
      → Neighbours side (first_cell_in blocks) place list best → Neighbours side (first_cell_in blocks) place (list ++ path tick n.min n.max tree) r

-- of the blocks of a kind that are live at the tick
pub record NearestLive (nodes entries : List ℕ) (kind end tick : ℕ) (side : Side) (place : ℕ) (r : Option Neighbour) : Type 0 where
  pub of_tree : (blocks : List ℕ) (tree : Tree) → Rooted blocks nodes entries kind end tree
      → Neighbours side (first_cell_in blocks) place (path tick 0 end tree) r
