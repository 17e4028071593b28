-- For callers: what the contract of `starting` says of a closed index whose blocks are known, by the keys of the model. Assumes nothing.
use Rattle.std.specs.Prelude.{Option}
use mathlib.Core.Path.{◌≡◌, ◌∙◌, ap}
use mathlib.Core.Bool.{true}
use mathlib.Core.List.{List, [], ◌∷◌}
use Prim.Native.Nat.{ℕ, ◌<◌}
use Rattle.lists.specs.Lists.{All}
use Rattle.history.specs.Words as words
use Rattle.history.specs.Tree.{Tree, key_in, entries_in}
use Rattle.history.specs.Find.{path, window}
use Rattle.history.specs.Rules.{sorted}
use Rattle.history.proofs.FileAlike.{path_all}
use Rattle.history.proofs.FindOrder.{window_at_lem}
use Rattle.tables.specs.Columns.{column}
use Rattle.segment_table.specs.Closed.{Tables, TreeAt, first_cell_in}
use Rattle.segment_walk.proofs.Agreeing.{tree_rooted, window_agree}
use Rattle.segment_touch.specs.Sorting.{sort_by}
use Rattle.segment_touch.specs.Placing.{Placed, Starts}
use Rattle.segment_touch.proofs.Sorting.{sort_agree}

-- ── two keys that agree on the blocks ──

started_agree : (key key' : ℕ → ℕ) (start stop : ℕ) (ks : List ℕ) → All (λ k. key k ≡ key' k) ks
    → sort_by key (window key start stop ks) ≡ sort_by key' (window key' start stop ks)
started_agree key key' start stop ks same =
    sort_agree key key' (window_at_lem key start stop (ks ∷ []) 0 same) ∙ ap (λ (l : List ℕ). sort_by key' l) (window_agree key key' start stop same)

-- ── a closed index whose blocks are known ──

module _ (t : Tables) (kind e : ℕ) (bs : List words.Block) (tree : Tree) (stood : TreeAt t kind (column t.nodes 0 kind) 0 e tree) (some : 0 < e)
    (order : sorted (key_in bs) tree ≡ true) (keys : All (λ k. key_in bs k ≡ first_cell_in t.blocks k) (entries_in tree)) where
  -- the list is that of the model's way down, by first cell
  pub starting_model : (tick start stop : ℕ) {answer : List ℕ} {at : ℕ} {answer' : List ℕ} {r : Option ℕ}
      → Starts t.nodes t.entries kind e tick start stop answer at answer' r
      → Placed (sort_by (key_in bs) (window (key_in bs) start stop (path tick 0 e tree))) answer at answer' r
  starting_model tick start stop s =
      rw (started_agree (key_in bs) (first_cell_in t.blocks) start stop (path tick 0 e tree) (path_all tick 0 e tree keys))
      (s.lists t.blocks tree (tree_rooted t kind e bs tree stood some order keys))
