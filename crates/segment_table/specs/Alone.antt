-- What the node and entry tables of a finished index hold besides its trees: nothing. Definitions alone.
use Rattle.std.specs.Prelude.{◌≡◌, List, ℕ, suc, ◌+◌, ◌*◌, ◌≤◌, ◌<◌, get_or}
use Rattle.history.specs.Lent.{row_width, entry_width, entry_head}
use Rattle.history.specs.Tree.{Tree, nodes_in, entries_all}
use Rattle.tables.specs.Columns.{column, node_kind, nodes_count, entries_count}

-- The free columns of rows (behind the kind) and of heads (behind the count) are 0, and so is all past the rows. With the trees (`Closed`) this is every
-- number of the two tables, but for which row a node has.
pub record TreeAlone (nodes entries : List ℕ) (trees : List Tree) : Type 0 where
  pub node_free : (link c : ℕ) → node_kind < c → c < row_width → column nodes link c ≡ 0
  pub node_head_lem : (c : ℕ) → nodes_count < c → c < row_width → column nodes 0 c ≡ 0
  pub nodes_rest : (i : ℕ) → row_width * suc (nodes_in trees) ≤ i → get_or nodes i 0 ≡ 0
  pub entry_head_lem : (i : ℕ) → entries_count < i → i < entry_head → get_or entries i 0 ≡ 0
  pub entries_rest : (i : ℕ) → entry_head + entry_width * entries_all trees ≤ i → get_or entries i 0 ≡ 0
