-- The rows that the trees stand in are all rows in use, each once: their links are distinct, as kind, min and max name a row's only place, and there are as
-- many as the count says. So a sum over the nodes of the trees is a sum over the rows. Assumes nothing.
use mathlib.Core.Path.{◌≡◌, refl, sym, ◌∙◌}
use mathlib.Core.Logic.{inl, inr, ⊎_elim}
use mathlib.Core.List.{List, [], ◌∷◌, ◌++◌, map}
use Prim.Native.Nat.{ℕ, suc, ◌+◌, ◌-◌, ◌*◌, ◌≤◌, ◌<◌}
use native.Mathlib.Omega.{arith}
use lib.ListN.{length, length-append}
use Rattle.lists.specs.Lists.{All, all_nil, all_cons, Distinct, sum_of}
use Rattle.lists.proofs.Numbers.{le_or_lt}
use Rattle.lists.proofs.Lists.{all_append, all_map, all_mem, mem_split, sum-append, distinct_append}
use Rattle.lists.proofs.Maps.{map-append}
use Rattle.history.specs.Tree.{Tree, hole, node, mid, tree_at, node_count, entry_count, nodes_in, entries_all}
use Rattle.tables.specs.Columns.{column, node_min, node_max, node_kind, nodes_count}
use Rattle.segment_table.specs.Closed.{Tables, nodes_used, left_at, right_at, first_at, count_at, NodeRow, TreeAt}
use Rattle.segment_test.specs.Total.{sum_to, entries_of_row, width_at, widths_of_row, all_widths}
use Rattle.segment_test.proofs.Sums.{mem_none, sum_all}
use Rattle.segment_table.proofs.Closed.{run_length}

-- ── the links of a tree ──

-- root first, left before right
unfoldable pub links_of : (nodes : List ℕ) (link : ℕ) → Tree → List ℕ
links_of nodes link hole = []
links_of nodes link (node xs l r) = link ∷ (links_of nodes (left_at nodes link) l ++ links_of nodes (right_at nodes link) r)

pub links_length : (nodes : List ℕ) (link : ℕ) (T : Tree) → length (links_of nodes link T) ≡ node_count T
unfolding links_of node_count
links_length nodes link hole = refl
links_length nodes link (node xs l r) =
    omega (
      arith,
      length-append (links_of nodes (left_at nodes link) l) (links_of nodes (right_at nodes link) r),
      links_length nodes (left_at nodes link) l,
      links_length nodes (right_at nodes link) r,
    )

-- the row of link k holds an interval inside [lo, hi)
record Within (nodes : List ℕ) (lo hi k : ℕ) : Type 0 where
  from : lo ≤ column nodes k node_min
  some : column nodes k node_min < column nodes k node_max
  below : column nodes k node_max ≤ hi

module _ (t : Tables) (kind : ℕ) where
  pub links_used : (link lo hi : ℕ) (T : Tree) → TreeAt t kind link lo hi T → All (λ k. (0 < k) × (k ≤ nodes_used t.nodes)) (links_of t.nodes link T)
  unfolding TreeAt links_of
  links_used link lo hi hole s = all_nil
  links_used link lo hi (node xs l r) s =
      all_cons (s.0.some, s.0.used) (all_append (links_used (left_at t.nodes link) lo (mid lo hi) l s.1) (links_used (right_at t.nodes link) (mid lo hi) hi r s.2))

  -- a half at no link has no rows
  links_none : (link lo hi : ℕ) (T : Tree) → link ≡ 0 → TreeAt t kind link lo hi T → links_of t.nodes link T ≡ []
  unfolding TreeAt links_of
  links_none link lo hi hole z s = refl
  links_none link lo hi (node xs l r) z s = absurd (omega (arith, s.0.some))

  links_within : (link lo hi : ℕ) (T : Tree) → lo < hi → TreeAt t kind link lo hi T → All (Within t.nodes lo hi) (links_of t.nodes link T)
  unfolding TreeAt links_of
  links_within link lo hi hole w s = all_nil
  links_within link lo hi (node xs l r) w s =
      let own : Within t.nodes lo hi link = record { from = omega (arith, s.0.low); some = omega (arith, s.0.low, s.0.high); below = omega (arith, s.0.high) } in
      let halves : All (Within t.nodes lo hi) (links_of t.nodes (left_at t.nodes link) l ++ links_of t.nodes (right_at t.nodes link) r) =
      elim (le_or_lt hi (lo + 1)) [
        | inl z ↦
            let none = s.0.narrow z in
            rw (links_none (left_at t.nodes link) lo (mid lo hi) l none.0 s.1, links_none (right_at t.nodes link) (mid lo hi) hi r none.1 s.2) all_nil
        | inr z ↦
            all_append
            (all_map (λ k h. record { from = h.from; some = h.some; below = omega (arith, h.below) }) (links_within (left_at t.nodes link) lo (mid lo hi) l (omega arith) s.1))
            (all_map (λ k h. record { from = omega (arith, h.from); some = h.some; below = h.below }) (links_within (right_at t.nodes link) (mid lo hi) hi r (omega arith) s.2))
      ] in
      all_cons own halves

  -- no row stands twice in a tree
  pub links_distinct : (link lo hi : ℕ) (T : Tree) → TreeAt t kind link lo hi T → Distinct (links_of t.nodes link T)
  unfolding TreeAt links_of
  links_distinct link lo hi hole s = tt
  links_distinct link lo hi (node xs l r) s =
      elim (le_or_lt hi (lo + 1)) [
        | inl z ↦
            let none = s.0.narrow z in
            rw (links_none (left_at t.nodes link) lo (mid lo hi) l none.0 s.1, links_none (right_at t.nodes link) (mid lo hi) hi r none.1 s.2) (mem_none link [] refl, tt)
        | inr z ↦
            let left = links_within (left_at t.nodes link) lo (mid lo hi) l (omega arith) s.1 in
            let right = links_within (right_at t.nodes link) (mid lo hi) hi r (omega arith) s.2 in (
              (λ m. ⊎_elim (λ a. omega (arith, (all_mem left a).below, s.0.high)) (λ a. omega (arith, (all_mem right a).from, s.0.low)) (mem_split (links_of t.nodes (left_at t.nodes link) l) (links_of t.nodes (right_at t.nodes link) r) m)),
              distinct_append (links_of t.nodes (left_at t.nodes link) l) (links_of t.nodes (right_at t.nodes link) r)
                  (links_distinct (left_at t.nodes link) lo (mid lo hi) l s.1) (links_distinct (right_at t.nodes link) (mid lo hi) hi r s.2)
                  (λ k a b. omega (arith, (all_mem left a).below, (all_mem left a).some, (all_mem right b).from)),
            )
      ]

  -- ── sums over the nodes are sums over the rows ──

  -- a measure of trees that adds a number for each node
  links_sum : (f : ℕ → ℕ) (F : (lo hi : ℕ) → Tree → ℕ) → ((lo hi : ℕ) → F lo hi hole ≡ 0)
      → ((link lo hi : ℕ) (xs : List ℕ) (l r : Tree) → NodeRow t kind link lo hi xs → F lo hi (node xs l r) ≡ f link + (F lo (mid lo hi) l + F (mid lo hi) hi r))
      → (link lo hi : ℕ) (T : Tree) → TreeAt t kind link lo hi T → F lo hi T ≡ sum_of (map f (links_of t.nodes link T))
  unfolding TreeAt links_of sum_of
  links_sum f F none some link lo hi hole s = none lo hi
  links_sum f F none some link lo hi (node xs l r) s =
      let left : List ℕ = links_of t.nodes (left_at t.nodes link) l in
      let right : List ℕ = links_of t.nodes (right_at t.nodes link) r in
      rw (map-append f left right, sum-append (map f left) (map f right))
      (omega (
        arith,
        some link lo hi xs l r s.0,
        links_sum f F none some (left_at t.nodes link) lo (mid lo hi) l s.1,
        links_sum f F none some (right_at t.nodes link) (mid lo hi) hi r s.2,
      ))

  own_entries : (link lo hi : ℕ) (xs : List ℕ) → NodeRow t kind link lo hi xs → length xs ≡ count_at t.nodes link
  own_entries link lo hi xs row = rw (← row.listed) (run_length t.entries (first_at t.nodes link) (count_at t.nodes link))

  -- they are of the kind
  links_kind : (link lo hi : ℕ) (T : Tree) → TreeAt t kind link lo hi T → All (λ k. column t.nodes k node_kind ≡ kind) (links_of t.nodes link T)
  unfolding TreeAt links_of
  links_kind link lo hi hole s = all_nil
  links_kind link lo hi (node xs l r) s =
      all_cons s.0.own_kind (all_append (links_kind (left_at t.nodes link) lo (mid lo hi) l s.1) (links_kind (right_at t.nodes link) (mid lo hi) hi r s.2))

-- ── the trees of all kinds ──

-- the links of the trees of the kinds from one on
unfoldable links_from : (nodes : List ℕ) (kind : ℕ) → List Tree → List ℕ
links_from nodes kind [] = []
links_from nodes kind (T ∷ trees) = links_of nodes (column nodes 0 kind) T ++ links_from nodes (suc kind) trees

module _ (t : Tables) (e : ℕ) where
  -- they stand at their roots
  record From (kind : ℕ) (trees : List Tree) : Type 0 where
    each : (j : ℕ) → j < length trees → TreeAt t (kind + j) (column t.nodes 0 (kind + j)) 0 e (tree_at trees j)

  from_first : (kind : ℕ) (T : Tree) (trees : List Tree) → From kind (T ∷ trees) → TreeAt t kind (column t.nodes 0 kind) 0 e T
  from_first kind T trees f = let z : kind + 0 ≡ kind = omega arith in rw z at (f.each 0 (omega arith))

  from_rest : (kind : ℕ) (T : Tree) (trees : List Tree) → From kind (T ∷ trees) → From (suc kind) trees
  from_rest kind T trees f = record { each = λ j h. let z : suc kind + j ≡ kind + suc j = omega arith in rw z (f.each (suc j) (omega arith)) }

  from_used : (kind : ℕ) (trees : List Tree) → From kind trees → All (λ k. (0 < k) × (k ≤ nodes_used t.nodes)) (links_from t.nodes kind trees)
  unfolding links_from
  from_used kind [] f = all_nil
  from_used kind (T ∷ trees) f =
      all_append (links_used t kind (column t.nodes 0 kind) 0 e T (from_first kind T trees f)) (from_used (suc kind) trees (from_rest kind T trees f))

  from_kinds : (kind : ℕ) (trees : List Tree) → From kind trees → All (λ k. kind ≤ column t.nodes k node_kind) (links_from t.nodes kind trees)
  unfolding links_from
  from_kinds kind [] f = all_nil
  from_kinds kind (T ∷ trees) f =
      all_append (all_map (λ k h. omega arith) (links_kind t kind (column t.nodes 0 kind) 0 e T (from_first kind T trees f)))
      (all_map (λ k h. omega arith) (from_kinds (suc kind) trees (from_rest kind T trees f)))

  -- no row stands in two trees: its kind says in which
  from_distinct : (kind : ℕ) (trees : List Tree) → From kind trees → Distinct (links_from t.nodes kind trees)
  unfolding links_from
  from_distinct kind [] f = tt
  from_distinct kind (T ∷ trees) f =
      let here : TreeAt t kind (column t.nodes 0 kind) 0 e T = from_first kind T trees f in
      let rest : From (suc kind) trees = from_rest kind T trees f in
      distinct_append (links_of t.nodes (column t.nodes 0 kind) T) (links_from t.nodes (suc kind) trees) (links_distinct t kind (column t.nodes 0 kind) 0 e T here)
      (from_distinct (suc kind) trees rest)
      (λ k a b. omega (arith, all_mem (links_kind t kind (column t.nodes 0 kind) 0 e T here) a, all_mem (from_kinds (suc kind) trees rest) b))

  from_length : (kind : ℕ) (trees : List Tree) → length (links_from t.nodes kind trees) ≡ nodes_in trees
  unfolding links_from sum_of
  from_length kind [] = refl
  from_length kind (T ∷ trees) =
      omega (
        arith,
        length-append (links_of t.nodes (column t.nodes 0 kind) T) (links_from t.nodes (suc kind) trees),
        links_length t.nodes (column t.nodes 0 kind) T,
        from_length (suc kind) trees,
      )

  -- a measure of trees that adds a number for each node
  from_sum : (f : ℕ → ℕ) (F : Tree → ℕ) → ((kind : ℕ) (T : Tree) → TreeAt t kind (column t.nodes 0 kind) 0 e T → F T ≡ sum_of (map f (links_of t.nodes (column t.nodes 0 kind) T)))
      → (kind : ℕ) (trees : List Tree) → From kind trees → sum_of (map F trees) ≡ sum_of (map f (links_from t.nodes kind trees))
  unfolding links_from sum_of
  from_sum f F own kind [] s = refl
  from_sum f F own kind (T ∷ trees) s =
      let here : List ℕ = links_of t.nodes (column t.nodes 0 kind) T in
      let rest : List ℕ = links_from t.nodes (suc kind) trees in
      rw (map-append f here rest, sum-append (map f here) (map f rest))
      (omega (arith, own kind T (from_first kind T trees s), from_sum f F own (suc kind) trees (from_rest kind T trees s)))

  module _ (trees : List Tree) (five : length trees ≡ nodes_count) (stands : (kind : ℕ) → kind < nodes_count → TreeAt t kind (column t.nodes 0 kind) 0 e (tree_at trees kind))
      (all_rows_lem : nodes_used t.nodes ≡ nodes_in trees) where
    all_from : From 0 trees
    all_from = record { each = λ j h. let z : 0 + j ≡ j = omega arith in rw z (stands j (omega (arith, five))) }

    sum_rows : (f : ℕ → ℕ) → sum_of (map f (links_from t.nodes 0 trees)) ≡ sum_to (λ k. f (suc k)) (nodes_used t.nodes)
    sum_rows f =
        sum_all suc (λ j k e. omega arith) f (nodes_used t.nodes) (links_from t.nodes 0 trees)
        (all_map (λ k h. (k - 1, omega (arith, h), omega (arith, h))) (from_used 0 trees all_from)) (from_distinct 0 trees all_from) (from_length 0 trees ∙ sym all_rows_lem)

    -- the entries of all rows are those of the trees
    pub rows_entries : sum_to (entries_of_row t.nodes) (nodes_used t.nodes) ≡ entries_all trees
    unfolding entry_count
    rows_entries =
        sym (from_sum (count_at t.nodes) entry_count
        (λ kind T s. links_sum t kind (count_at t.nodes) (λ lo hi. entry_count) (λ lo hi. refl) (λ k lo hi xs l r row. omega (arith, own_entries t kind k lo hi xs row)) (column t.nodes 0 kind) 0 e T s)
        0 trees all_from ∙ sum_rows (count_at t.nodes))

    -- and so are their widths
    pub rows-widths : sum_to (widths_of_row t.nodes) (nodes_used t.nodes) ≡ sum_of (map (all_widths 0 e) trees)
    unfolding all_widths
    rows-widths =
        sym (from_sum (λ k. count_at t.nodes k * width_at t.nodes k) (all_widths 0 e)
        (λ kind T s. links_sum t kind (λ k. count_at t.nodes k * width_at t.nodes k) all_widths (λ lo hi. refl) (own kind) (column t.nodes 0 kind) 0 e T s)
        0 trees all_from ∙ sum_rows (λ k. count_at t.nodes k * width_at t.nodes k))
      where
        own : (kind k lo hi : ℕ) (xs : List ℕ) (l r : Tree) → NodeRow t kind k lo hi xs
            → length xs * (hi - lo) + (all_widths lo (mid lo hi) l + all_widths (mid lo hi) hi r)
            ≡ count_at t.nodes k * width_at t.nodes k + (all_widths lo (mid lo hi) l + all_widths (mid lo hi) hi r)
        own kind k lo hi xs l r row = rw (own_entries t kind k lo hi xs row, row.low, row.high) refl
