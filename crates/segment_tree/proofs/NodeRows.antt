-- Rows of the node table: reads after a write, trees whose rows stay, and the sum of counts. Assumes nothing.
use mathlib.Core.Path.{◌≡◌, refl, sym, ◌∙◌}
use mathlib.Core.Logic.{inl, inr}
use mathlib.Core.List.{List}
use Prim.Native.Nat.{ℕ, zero, suc, ◌+◌, ◌*◌, ◌≤◌, ◌<◌}
use native.Mathlib.Omega.{arith}
use lib.ListN.{length, set}
use lib.Seq.{get_or-set_same, get_or-set_other}
use Rattle.lists.proofs.Numbers.{eq_or_ne}
use Rattle.history.specs.Lent.{row_width}
use Rattle.history.specs.Tree.{Tree, hole, node, mid}
use Rattle.tables.specs.Columns.{column, node_min, node_max, node_left, node_right, node_first, node_entries, node_kind, nodes_count}
use Rattle.segment_table.specs.Closed.{nodes_used, left_at, right_at, count_at}
use Rattle.segment_tree.specs.Count.{rows_in, min_at, max_at, kind_at, entries_to, CountRow, CountAt}
use Rattle.segment_tree.specs.Runs.{LikeButRuns}

-- ── reads after a write ──

module _ (t : List ℕ) (k j v : ℕ) (small : j < row_width) where
  pub column_same : row_width * k + j < length t → column (set t (row_width * k + j) v) k j ≡ v
  column_same h = get_or-set_same t (row_width * k + j) v 0 h

  pub column_other : (k' j' : ℕ) → j' < row_width → (k' ≡ k → j' ≡ j → ⊥) → column (set t (row_width * k + j) v) k' j' ≡ column t k' j'
  column_other k' j' h apart = get_or-set_other t (row_width * k + j) (row_width * k' + j') v 0 (λ e. apart (omega arith) (omega arith))

-- a row in use lies in the table
pub row_inside : (t : List ℕ) (k j : ℕ) → 0 < k → k ≤ rows_in t → j < row_width → row_width * k + j < length t
row_inside t k j a b h = omega arith

-- ── rows that stay ──

module _ (t t' : List ℕ) (kind : ℕ) (grown : nodes_used t ≤ nodes_used t') (stays : ℕ → Type 0)
    (same : (k j : ℕ) → 0 < k → k ≤ nodes_used t → j < row_width → stays k → column t' k j ≡ column t k j) where
  pub row_stays : (link lo hi n : ℕ) → stays link → CountRow t kind link lo hi n → CountRow t' kind link lo hi n
  row_stays link lo hi n q r =
      let at : (j : ℕ) → j < row_width → column t' link j ≡ column t link j = λ j h. same link j r.some r.used h q in
      record {
        some = r.some;
        used = omega (arith, r.used);
        low = at node_min (omega arith) ∙ r.low;
        high = at node_max (omega arith) ∙ r.high;
        own_kind = at node_kind (omega arith) ∙ r.own_kind;
        wide = r.wide;
        narrow = λ w. (at node_left (omega arith) ∙ (r.narrow w).0, at node_right (omega arith) ∙ (r.narrow w).1);
        counted = at node_entries (omega arith) ∙ r.counted;
      }

  -- a tree all of whose rows stay stands still: they are those of its kind that lie in its interval
  pub tree_stays : (link lo hi : ℕ) (T : Tree) → ((k : ℕ) → kind_at t k ≡ kind → lo ≤ min_at t k → min_at t k < max_at t k → max_at t k ≤ hi → stays k)
      → CountAt t kind link lo hi T → CountAt t' kind link lo hi T
  unfolding CountAt
  tree_stays link lo hi hole inside g = g
  tree_stays link lo hi (node xs l r) inside g =
      let row : CountRow t kind link lo hi (length xs) = g.0 in
      let wide : lo < hi = row.wide in
      let mine : stays link = inside link row.own_kind (omega (arith, row.low)) (omega (arith, row.low, row.high)) (omega (arith, row.high)) in
      let lefts : left_at t' link ≡ left_at t link = same link node_left row.some row.used (omega arith) mine in
      let rights : right_at t' link ≡ right_at t link = same link node_right row.some row.used (omega arith) mine in (
        row_stays link lo hi (length xs) mine row,
        rw lefts (tree_stays (left_at t link) lo (mid lo hi) l (λ k z a b c. inside k z a b (omega arith)) g.1),
        rw rights (tree_stays (right_at t link) (mid lo hi) hi r (λ k z a b c. inside k z (omega arith) b c) g.2),
      )

-- no tree stands at link 0 but the hole, and that anywhere
pub hole_stays : (t t' : List ℕ) (kind link lo hi : ℕ) (T : Tree) → link ≡ 0 → CountAt t kind link lo hi T → CountAt t' kind link lo hi T
unfolding CountAt
hole_stays t t' kind link lo hi hole z g = g
hole_stays t t' kind link lo hi (node xs l r) z g = absurd (omega (arith, g.0.some))

-- a tree with its counts does not look at the starts of runs
pub count_like : (t t' : List ℕ) → LikeButRuns t t' → (kind link lo hi : ℕ) (T : Tree) → CountAt t kind link lo hi T → CountAt t' kind link lo hi T
unfolding CountAt
count_like t t' like kind link lo hi hole g = g
count_like t t' like kind link lo hi (node xs l r) g =
    let row : CountRow t kind link lo hi (length xs) = g.0 in
    let at : (k j : ℕ) → j < row_width → (j ≡ node_first → ⊥) → column t' k j ≡ column t k j = λ k j h e. like.same k j h (inr e) in
    let lefts : left_at t' link ≡ left_at t link = at link node_left (omega arith) (omega arith) in
    let rights : right_at t' link ≡ right_at t link = at link node_right (omega arith) (omega arith) in (
      record {
        some = row.some;
        used = let u : nodes_used t' ≡ nodes_used t = like.same 0 nodes_count (omega arith) (inl refl) in omega (arith, row.used);
        low = at link node_min (omega arith) (omega arith) ∙ row.low;
        high = at link node_max (omega arith) (omega arith) ∙ row.high;
        own_kind = at link node_kind (omega arith) (omega arith) ∙ row.own_kind;
        wide = row.wide;
        narrow = λ w. (lefts ∙ (row.narrow w).0, rights ∙ (row.narrow w).1);
        counted = at link node_entries (omega arith) (omega arith) ∙ row.counted;
      },
      rw lefts (count_like t t' like kind (left_at t link) lo (mid lo hi) l g.1),
      rw rights (count_like t t' like kind (right_at t link) (mid lo hi) hi r g.2),
    )

-- ── the sum of counts ──

pub entries_most : (t : List ℕ) (k n : ℕ) → k ≤ n → entries_to t k ≤ entries_to t n
unfolding entries_to
entries_most t k zero h = let e : k ≡ 0 = omega arith in rw e (omega arith)
entries_most t k (suc n) h =
    elim (eq_or_ne k (suc n)) [
      | inl e ↦ rw e (omega arith)
      | inr e ↦ omega (arith, entries_most t k n (omega arith))
    ]

pub entries_same : (t t' : List ℕ) (n : ℕ) → ((k : ℕ) → 0 < k → k ≤ n → count_at t' k ≡ count_at t k) → entries_to t' n ≡ entries_to t n
unfolding entries_to
entries_same t t' zero h = refl
entries_same t t' (suc n) h = omega (arith, entries_same t t' n (λ k a b. h k a (omega arith)), h (suc n) (omega arith) (omega arith))

pub entries_more : (t : List ℕ) (n : ℕ) → entries_to t (n + 1) ≡ entries_to t n + count_at t (n + 1)
unfolding entries_to
entries_more t n = let e : n + 1 ≡ suc n = omega arith in rw e

-- one more in one row is one more
pub entries_one : (t t' : List ℕ) (link n : ℕ) → 0 < link → link ≤ n → count_at t' link ≡ count_at t link + 1
    → ((k : ℕ) → (k ≡ link → ⊥) → count_at t' k ≡ count_at t k) → entries_to t' n ≡ entries_to t n + 1
unfolding entries_to
entries_one t t' link zero some within one others = absurd (omega arith)
entries_one t t' link (suc n) some within one others =
    elim (eq_or_ne link (suc n)) [
      | inl e ↦
          let before : entries_to t' n ≡ entries_to t n = entries_same t t' n (λ k a b. others k (omega arith)) in
          let mine : count_at t' (suc n) ≡ count_at t (suc n) + 1 = rw e at one in
          omega arith
      | inr e ↦ omega (arith, entries_one t t' link n some (omega arith) one others, others (suc n) (λ q. e (sym q)))
    ]
