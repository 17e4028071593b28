-- What is put of entries, of a node and of a tree. Definitions alone.
use Rattle.std.specs.Prelude.{◌≡◌, true, ℕ, ◌+◌, ◌≤◌, length}
use mathlib.Core.List.{List, map, flat_map, ◌++◌}
use Rattle.lists.specs.Lists.{All, has}
use Rattle.lists.specs.Puts.{Put}
use Rattle.history.specs.Tree.{Tree, mid, entries_in}
use Rattle.history.specs.File.{bytes_of, node_bytes, nodes_of, map_tree, place_in}
use Rattle.segment_table.specs.Closed.{TreeAt, run, first_at, count_at}
use Rattle.file_put.specs.Parts.{row_bytes}
use Rattle.file_nodes.specs.Numbering.{Numbering}

-- entries under their new numbers
abbrev pub entry_bytes : (ks entries : List ℕ) → List ℕ
entry_bytes ks es = flat_map (bytes_of 8) (map (place_in ks) es)

pub record PutEntries (entries : List ℕ) (first count listed : ℕ) (out : List ℕ) (at : ℕ) (out' : List ℕ) (next : ℕ) : Type 0 where
  pub put : (ks : List ℕ) → Numbering out at listed ks → first + count ≤ length entries → All (λ k. has k ks ≡ true) (run entries first count)
      → Put out at (entry_bytes ks (run entries first count)) out' next

-- the node [min, max) of a link, without its halves
pub record PutNode (nodes entries : List ℕ) (link min max listed : ℕ) (out : List ℕ) (at : ℕ) (out' : List ℕ) (next : ℕ) : Type 0 where
  pub put : (ks : List ℕ) → Numbering out at listed ks → first_at nodes link + count_at nodes link ≤ length entries
      → All (λ k. has k ks ≡ true) (run entries (first_at nodes link) (count_at nodes link))
      → Put out at (row_bytes 1 min max (mid min max) (count_at nodes link) ++ entry_bytes ks (run entries (first_at nodes link) (count_at nodes link))) out' next

-- the tree that stands at a link: root first, left before right
pub record PutTree (nodes entries : List ℕ) (link min max listed : ℕ) (out : List ℕ) (at : ℕ) (out' : List ℕ) (next : ℕ) : Type 0 where
  pub put : (ks blocks : List ℕ) (kind : ℕ) (tree : Tree) → Numbering out at listed ks
      → TreeAt (record { blocks = blocks; nodes = nodes; entries = entries }) kind link min max tree → All (λ k. has k ks ≡ true) (entries_in tree)
      → Put out at (node_bytes (nodes_of min max (map_tree (place_in ks) tree))) out' next
