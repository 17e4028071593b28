-- For callers: a closed index whose blocks are known stands at its root, by the keys of the model. Assumes nothing.
use mathlib.Core.Path.{◌≡◌, refl}
use mathlib.Core.Bool.{true}
use mathlib.Core.List.{List, ◌++◌}
use Prim.Native.Nat.{ℕ, ◌<◌}
use native.Mathlib.Omega.{arith}
use Rattle.lists.specs.Lists.{All, all_nil, all_cons}
use Rattle.lists.proofs.Lists.{all_left, all_right, all_at, pairs_at, pairs_of_at}
use Rattle.lists.proofs.Numbers.{decided}
use Rattle.history.specs.Words as words
use Rattle.history.specs.Tree.{Tree, hole, node, key_in, entries_in}
use Rattle.history.specs.Find.{window}
use Rattle.history.specs.Rules.{ascends, sorted}
use Rattle.history.proofs.RulesLaws.{ascends_decides, sorted_node, sorted_here, sorted_left, sorted_right}
use Rattle.tables.specs.Columns.{column}
use Rattle.segment_table.specs.Closed.{Tables, TreeAt, first_cell_in}
use Rattle.segment_walk.specs.Walking.{Rooted}

-- ── two keys that agree on the entries ──

module _ (key key' : ℕ → ℕ) where
  ascends_agree : (xs : List ℕ) → All (λ k. key k ≡ key' k) xs → ascends key xs ≡ true → ascends key' xs ≡ true
  ascends_agree xs same up =
      decided (ascends key' xs) (ascends_decides key' xs)
      (pairs_of_at 0 xs (λ i j h k. omega (arith, pairs_at 0 ((ascends_decides key xs).yes up) i j h k, all_at 0 same i (omega arith), all_at 0 same j k)))

  pub sorted_agree : (T : Tree) → All (λ k. key k ≡ key' k) (entries_in T) → sorted key T ≡ true → sorted key' T ≡ true
  unfolding sorted entries_in
  sorted_agree hole same up = refl
  sorted_agree (node es l r) same up =
      let below = all_right es (entries_in l ++ entries_in r) same in
      sorted_node key' es l r (ascends_agree es (all_left es (entries_in l ++ entries_in r) same) (sorted_here key es l r up))
      (sorted_agree l (all_left (entries_in l) (entries_in r) below) (sorted_left key es l r up))
      (sorted_agree r (all_right (entries_in l) (entries_in r) below) (sorted_right key es l r up))

  pub window_agree : (s e : ℕ) {xs : List ℕ} → All (λ k. key k ≡ key' k) xs → window key s e xs ≡ window key' s e xs
  unfolding window
  window_agree s e all_nil = refl
  window_agree s e (all_cons p ps) = rw (p, window_agree s e ps)

-- ── a closed index whose blocks are known ──

pub tree_rooted : (t : Tables) (kind e : ℕ) (bs : List words.Block) (tree : Tree) → TreeAt t kind (column t.nodes 0 kind) 0 e tree → 0 < e → sorted (key_in bs) tree ≡ true
    → All (λ k. key_in bs k ≡ first_cell_in t.blocks k) (entries_in tree) → Rooted t.blocks t.nodes t.entries kind e tree
tree_rooted t kind e bs tree stood some order keys =
    record { stood = stood; ascend = sorted_agree (key_in bs) (first_cell_in t.blocks) tree keys order; wide = λ _. some }
