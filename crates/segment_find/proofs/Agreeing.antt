-- For callers: what find's contract says of a closed index whose blocks are known, by the keys of the model. Assumes nothing.
use mathlib.Core.Path.{◌≡◌}
use Rattle.std.specs.Prelude.{Option}
use mathlib.Core.Bool.{true}
use mathlib.Core.List.{List}
use Prim.Native.Nat.{ℕ, ◌<◌}
use Rattle.lists.specs.Lists.{All}
use Rattle.history.specs.Words as words
use Rattle.history.specs.Tree.{Tree, key_in, entries_in}
use Rattle.history.specs.Find.{visited, find}
use Rattle.history.specs.Rules.{sorted}
use Rattle.history.proofs.FileAlike.{path_all}
use Rattle.tables.specs.Columns.{column}
use Rattle.segment_table.specs.Closed.{Tables, TreeAt, first_cell_in}
use Rattle.segment_walk.proofs.Agreeing.{tree_rooted, window_agree}
use Rattle.segment_find.specs.declared.Found.{Found}
use Rattle.segment_find.specs.Listing.{Fills, Finds}

-- ── a closed index whose blocks are known ──

module _ (t : Tables) (kind e : ℕ) (bs : List words.Block) (tree : Tree) (stood : TreeAt t kind (column t.nodes 0 kind) 0 e tree) (some : 0 < e)
    (order : sorted (key_in bs) tree ≡ true) (keys : All (λ k. key_in bs k ≡ first_cell_in t.blocks k) (entries_in tree)) where
  -- find lists and visits what the model of find does
  pub find_model : (tick start stop : ℕ) {answer answer' : List ℕ} {r : Option Found} → Finds t.nodes t.entries kind e tick start stop answer answer' r
      → Fills (find e bs tree tick start stop) (visited tick 0 e tree) answer answer' r
  unfolding find
  find_model tick start stop f =
      rw (window_agree (key_in bs) (first_cell_in t.blocks) start stop (path_all tick 0 e tree keys)) (f.lists t.blocks tree (tree_rooted t kind e bs tree stood some order keys))
