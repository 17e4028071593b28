-- Laws of what is decided, for callers: the counts in rows, and rule 23 where all else is known. Assumes nothing.
use mathlib.Core.Path.{◌≡◌}
use mathlib.Core.Bool.{Bool, true, false}
use mathlib.Core.List.{List}
use Prim.Native.Nat.{ℕ, ◌+◌, ◌-◌, ◌*◌, ◌/◌, ◌≤◌, ◌<◌}
use native.Mathlib.Omega.{arith}
use lib.ListN.{length}
use Rattle.lists.specs.Tests.{Decides}
use Rattle.history.specs.Lent.{row_width, entry_width, block_head, node_head, entry_head}
use Rattle.history.specs.Words.{Block, only_kind}
use Rattle.history.specs.Rules.{is_hole, rule23}
use Rattle.history.specs.Sound.{none_of}
use Rattle.history.specs.Tree.{Tree, tree_at, nodes_in, entries_all}
use Rattle.tables.specs.Columns.{column, nodes_count}
use Rattle.segment_table.specs.Closed.{Tables, entries_used, Closed}
use Rattle.segment_table.proofs.Closed.{trees_one}
use Rattle.segment_test.specs.Test.{ClosedTrees}
use Rattle.segment_test.proofs.Testing.{at_halved}

-- ── counts ──

module _ (t : Tables) (e : ℕ) (bs : List Block) (index : ClosedTrees t e bs) where
  -- the nodes and the entries are within the rows of their tables
  pub nodes_fit : nodes_in index.trees ≤ (length t.nodes - node_head) / row_width
  nodes_fit = omega (arith, index.closed.all_rows_lem, index.closed.room)

  pub entries_fit : entries_all index.trees ≤ (length t.entries - entry_head) / entry_width
  entries_fit = omega (arith, index.closed.all_entries_lem, index.entry_room)

-- ── rule 23 ──

-- where the layout and the roots are known, as of tables that were just filled, the test decides rule 23
pub tested_rule_23 : (t : Tables) (e : ℕ) (bs : List Block) (trees : List Tree) {r : Bool}
    → block_head + row_width * length bs ≤ length t.blocks → entry_head + entry_width * entries_used t.entries ≤ length t.entries → Closed t e trees
    → ((kind : ℕ) → kind < nodes_count → is_hole (tree_at trees kind) ≡ none_of kind bs) → Decides r (ClosedTrees t e bs)
    → Decides r ((kind : ℕ) → kind < nodes_count → rule23 e (only_kind kind bs) (tree_at trees kind) ≡ true)
tested_rule_23 t e bs trees {r} block_room entry_room closed rooted test = record { yes = keeps; not = breaks }
  where
    index : ((kind : ℕ) → kind < nodes_count → rule23 e (only_kind kind bs) (tree_at trees kind) ≡ true) → ClosedTrees t e bs
    index h = record {
      trees = trees;
      block_room = block_room;
      entry_room = entry_room;
      closed = closed;
      each = λ kind low. record {
        rooted = rooted kind low;
        rule_21 = at_halved t kind (column t.nodes 0 kind) 0 e (tree_at trees kind) (closed.stands kind low);
        rule_23 = h kind low;
      };
    }

    keeps : r ≡ true → (kind : ℕ) → kind < nodes_count → rule23 e (only_kind kind bs) (tree_at trees kind) ≡ true
    keeps q kind low =
        let found = test.yes q in
        let same : found.trees ≡ trees = trees_one t e found.trees trees found.closed closed in
        rw same at (found.each kind low).rule_23

    breaks : r ≡ false → ((kind : ℕ) → kind < nodes_count → rule23 e (only_kind kind bs) (tree_at trees kind) ≡ true) → ⊥
    breaks q h = test.not q (index h)
