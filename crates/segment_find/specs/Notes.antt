-- What find notes on its way: first the links of the nodes met, then in their place the rows of these nodes that are listed. Definitions alone.
use Rattle.std.specs.Prelude.{◌≡◌, Option, Some, None, List, [], ◌∷◌, ◌++◌, ℕ, zero, suc, ◌+◌, ◌-◌, ◌*◌, ◌≤◌, ◌<◌, length, get_or, set}
use Rattle.std.proofs.lemmas.List.Edits.{sets}
use Rattle.history.specs.Tree.{Tree}
use Rattle.history.specs.Find.{path, visited, window}
use Rattle.segment_table.specs.Closed.{first_cell_in}
use Rattle.segment_walk.specs.declared.rows.Rows.{Rows}
use Rattle.segment_walk.specs.Walking.{Stands}
use Rattle.segment_walk.specs.Rowing.{table_rows, rows_at, blocks_in, RunOf}

-- ── places ──

-- more nodes than these are on no way down
abbrev pub most : ℕ
most = 66

-- how wide a node is at most for whose way down so many places suffice
unfoldable pub reach : (places : ℕ) → ℕ
reach zero = 0
reach (suc zero) = 1
reach (suc (suc n)) = 2 * reach (suc n)

-- the places from `depth` on suffice for the way down from a node [min, max)
pub record Deep (min max depth : ℕ) : Type 0 where
  pub inside : depth ≤ most
  pub narrow : max - min ≤ reach (most - depth)

-- ── notes ──

-- the rows of a place that has none
abbrev pub no_rows : Rows
no_rows = record { from = 0; to = 0 }

-- the rows at a place
abbrev pub rows_in : (notes : List Rows) (place : ℕ) → Rows
rows_in notes place = get_or notes place no_rows

-- ── the way down ──

-- the links of the nodes on a way down, and the blocks in their runs, one behind the other
pub data OnWay (blocks nodes entries : List ℕ) : (links listed : List ℕ) → Type 0 where
  way_end : OnWay blocks nodes entries [] []
  way_on : {link : ℕ} {links xs listed : List ℕ} → RunOf blocks entries (rows_at nodes entries link) xs → OnWay blocks nodes entries links listed
      → OnWay blocks nodes entries (link ∷ links) (xs ++ listed)

-- links noted from a place on, where later the first rows stand: the ends are left as they are
unfoldable pub links_noted : (notes : List Rows) (depth : ℕ) (links : List ℕ) → List Rows
links_noted notes depth [] = notes
links_noted notes depth (k ∷ ks) = links_noted (set notes depth (record { from = k; to = (rows_in notes depth).to })) (suc depth) ks

-- `search` from a node writes the links of a way to the notes. In a tree it is the way to the tick.
pub record Searched (nodes : List ℕ) (link min max tick : ℕ) (notes : List Rows) (depth : ℕ) (notes' : List Rows) (r : ℕ) : Type 0 where
  pub way : List ℕ
  pub written : notes' ≡ links_noted notes depth way
  pub count : r ≡ depth + length way
  pub room : r ≤ most
  pub leads : (blocks entries : List ℕ) (kind : ℕ) (tree : Tree) → Stands blocks nodes entries kind (record { link = link; min = min; max = max }) tree
      → OnWay blocks nodes entries way (path tick min max tree) × (length way ≡ visited tick min max tree)

-- ── rows noted ──

-- the block numbers in the rows at the first places
unfoldable pub noted : (entries : List ℕ) (notes : List Rows) (count : ℕ) → List ℕ
noted entries notes zero = []
noted entries notes (suc n) = noted entries notes n ++ blocks_in entries (rows_in notes n)

-- rows stand in the entry table
pub record InTable (entries : List ℕ) (rows : Rows) : Type 0 where
  pub order : rows.from ≤ rows.to
  pub room : rows.to ≤ table_rows entries

-- the rows at the first places stand in the entry table, and so many places hold their block numbers
pub record Fitting (entries : List ℕ) (notes : List Rows) (count places : ℕ) : Type 0 where
  pub few : count ≤ most
  pub rows : (i : ℕ) → i < count → InTable entries (rows_in notes i)
  pub fits : length (noted entries notes count) ≤ places

-- the notes have their places, and no more links than these
pub record Places (notes : List Rows) (depth : ℕ) : Type 0 where
  pub few : depth ≤ most
  pub all : length notes ≡ most

-- the notes have these links at their first places
pub record Links (notes : List Rows) (depth : ℕ) (way : List ℕ) : Type 0 where
  pub many : length way ≡ depth
  pub same : (i : ℕ) → i < depth → (rows_in notes i).from ≡ get_or way i 0

-- `windows` notes the rows in [start, stop) of the first `depth` nodes noted, if so many places hold their block numbers
pub record Windowed (nodes entries : List ℕ) (notes : List Rows) (depth start stop places : ℕ) (notes' : List Rows) (r : Option ℕ) : Type 0 where
  pub fitting : (count : ℕ) → r ≡ Some count → Fitting entries notes' count places
  pub whole : (blocks way listed : List ℕ) → Links notes depth way → OnWay blocks nodes entries way listed
      → (count : ℕ) → r ≡ Some count → noted entries notes' count ≡ window (first_cell_in blocks) start stop listed
  pub over : (blocks way listed : List ℕ) → Links notes depth way → OnWay blocks nodes entries way listed
      → r ≡ None → places < length (window (first_cell_in blocks) start stop listed)

-- ── rows written ──

-- the rows stand in the entry table, and the answer has room for them from place `at` on
pub record Room (entries : List ℕ) (rows : Rows) (answer : List ℕ) (at : ℕ) : Type 0 where
  pub stand : InTable entries rows
  pub fits : at + (rows.to - rows.from) ≤ length answer

-- `write` puts the block numbers of the rows noted into the answer
pub record Written (entries : List ℕ) (notes : List Rows) (count : ℕ) (answer answer' : List ℕ) (r : ℕ) : Type 0 where
  pub many : r ≡ length (noted entries notes count)
  pub left : answer' ≡ sets answer 0 (noted entries notes count)
