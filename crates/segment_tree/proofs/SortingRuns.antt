-- Steps of `close::close_runs`, and what sorting the runs makes of the tree that they hold. Assumes nothing.
use mathlib.Core.Path.{◌≡◌, refl, ap, sym, ◌∙◌}
use mathlib.Core.Logic.{inl, inr}
use mathlib.Core.List.{List, [], ◌∷◌, map}
use Prim.Native.Nat.{ℕ, zero, suc, ◌+◌, ◌-◌, ◌*◌, ◌^◌, ◌≤◌, ◌<◌}
use native.Mathlib.Omega.{arith}
use lib.ListN.{length}
use Rattle.lists.specs.Lists.{All, all_cons, Pairs}
use Rattle.lists.proofs.Numbers.{eq_or_ne}
use Rattle.lists.proofs.Lists.{all_map}
use Rattle.history.specs.Lent.{entry_width, entry_head}
use Rattle.history.specs.Tree.{Tree, hole, node, mid}
use Rattle.tables.specs.Columns.{entry_column, entry_block, entry_key}
use Rattle.segment_table.specs.Closed.{nodes_used, left_at, right_at, count_at, first_cell_in, block_in, run, Keyed}
use Rattle.entry_sort.specs.Rows.{Row, a_row, sort_rows}
use Rattle.entry_sort.specs.Sorts.{entry_rows, SortedRows, SortsRows}
use Rattle.segment_tree.specs.Count.{entries_to, CountAt}
use Rattle.segment_tree.specs.Runs.{up_to}
use Rattle.segment_tree.specs.Fill.{start_at, FillRow, FillAt, RunsSorted}
use Rattle.segment_tree.proofs.NodeRows.{entries_most}
use Rattle.segment_tree.proofs.Writing.{run_ends}
use Rattle.segment_tree.proofs.Sorted.{sorted_by, sorted-length, sorted_all, sorted-rows, row_of, sort_tree, Rising, a_node}

-- ── rows that stay ──

rows_same : (es es' : List ℕ) (row n : ℕ) → ((i c : ℕ) → row ≤ i → i < row + n → c < entry_width → entry_column es' i c ≡ entry_column es i c) → entry_rows es' row n ≡ entry_rows es row n
unfolding entry_rows
rows_same es es' row zero h = refl
rows_same es es' row (suc n) h =
    rw (h row entry_block (omega arith) (omega arith) (omega arith), h row entry_key (omega arith) (omega arith) (omega arith))
    (ap (λ (rows : List Row). a_row (block_in es row) (entry_column es row entry_key) ∷ rows) (rows_same es es' (suc row) n (λ i c a z s. h i c (omega arith) (omega arith) s)))

-- ── the loop ──

-- the runs of the first j rows are sorted, where the table holds those of all
pub record OrderTo (s es es' : List ℕ) (n j : ℕ) : Type 0 where
  pub so_far : entry_head + entry_width * entries_to s n ≤ length es → RunsSorted s es es' j

module _ (s es : List ℕ) (n : ℕ) where
  pub order_none : OrderTo s es es n 0
  order_none = record { so_far = λ _. record { long = refl; sorted = λ k a h. absurd (omega arith); rest = λ i o. refl } }

  one_more : (es₁ es₂ : List ℕ) (j : ℕ) → RunsSorted s es es₁ j → SortedRows es₁ es₂ (entries_to s j) (entries_to s (suc j)) → RunsSorted s es es₂ (suc j)
  one_more es₁ es₂ j o r = record {
    long = r.long ∙ o.long;
    sorted = λ k a h. elim (eq_or_ne k (suc j)) [ inl e ↦ rw e last | inr e ↦ before k a (omega arith) ];
    rest = λ i out. elim out [
      | inl h ↦ r.rest i (inl (omega arith)) ∙ o.rest i (inl h)
      | inr h ↦ r.rest i (inr h) ∙ o.rest i (inr (omega (arith, grows)))
    ];
  }
    where
      grows : entries_to s j ≤ entries_to s (suc j)
      grows = entries_most s j (suc j) (omega arith)

      before : (k : ℕ) → 0 < k → k ≤ j → entry_rows es₂ (start_at s k) (count_at s k) ≡ sort_rows (entry_rows es (start_at s k) (count_at s k))
      before k a h =
          rows_same es₁ es₂ (start_at s k) (count_at s k)
          (λ i c x y z. r.rest (entry_head + (entry_width * i + c)) (inl (omega (arith, run_ends s k a, entries_most s k j h))))
          ∙ o.sorted k a h

      last : entry_rows es₂ (start_at s (suc j)) (count_at s (suc j)) ≡ sort_rows (entry_rows es (start_at s (suc j)) (count_at s (suc j)))
      last =
          let begin : start_at s (suc j) ≡ entries_to s j = (let z : suc j - 1 ≡ j = omega arith in ap (entries_to s) z) in
          let many : count_at s (suc j) ≡ entries_to s (suc j) - entries_to s j = omega (arith, run_ends s (suc j) (omega arith), begin) in
          rw (begin, many) (
          r.sorted
          ∙ ap sort_rows (rows_same es es₁ (entries_to s j) (entries_to s (suc j) - entries_to s j)
          (λ i c x y z. o.rest (entry_head + (entry_width * i + c)) (inr (omega arith))))
          )

  pub order_more : {es₁ es₂ : List ℕ} {j at to : ℕ} → length es < 2 ^ 64 → j < n → at ≡ up_to (entries_to s j) → to ≡ up_to (entries_to s (j + 1)) → OrderTo s es es₁ n j
      → SortsRows es₁ es₂ at to → OrderTo s es es₂ n (j + 1)
  order_more {es₁} {es₂} {j} {at} {to} lent h begins ends o r = record {
    so_far = λ space.
        let e : j + 1 ≡ suc j = omega arith in
        let below : entries_to s j ≤ entries_to s (suc j) = entries_most s j (suc j) (omega arith) in
        let above : entries_to s (suc j) ≤ entries_to s n = entries_most s (suc j) n (omega arith) in
        let first : at ≡ entries_to s j = begins ∙ omega arith in
        let last : to ≡ entries_to s (suc j) = ends ∙ ap (λ (k : ℕ). up_to (entries_to s k)) e ∙ omega arith in
        let was : RunsSorted s es es₁ j = o.so_far space in
        rw e (one_more es₁ es₂ j was ((rw (first, last) at r).inside below (omega (arith, was.long))));
  }

-- another table with the same counts has the same runs
pub runs_like_sorted : (s t es es' : List ℕ) (n : ℕ) → ((k : ℕ) → entries_to t k ≡ entries_to s k) → ((k : ℕ) → count_at t k ≡ count_at s k) → RunsSorted t es es' n → RunsSorted s es es' n
runs_like_sorted s t es es' n sums counts o = record {
  long = o.long;
  sorted = λ k a h. rw (sums (k - 1), counts k) at (o.sorted k a h);
  rest = λ i out. o.rest i (rw (sums n) out);
}

-- ── the rows of a run ──

module _ (blocks : List ℕ) (key : ℕ → ℕ) (es : List ℕ) where
  abbrev Agrees : ℕ → Type 0
  Agrees x = first_cell_in blocks x ≡ key x

  keyed_rows : (row n : ℕ) → Keyed blocks es row n → All Agrees (run es row n) → entry_rows es row n ≡ map (row_of key) (run es row n)
  unfolding entry_rows run
  keyed_rows row zero k h = refl
  keyed_rows row (suc n) k (all_cons h hs) =
      let z : row + 0 ≡ row = omega arith in
      let first : entry_column es row entry_key ≡ first_cell_in blocks (block_in es row) = rw z at (k.key 0 (omega arith)) in
      let others : Keyed blocks es (suc row) n = record { key = λ j l. let e : suc row + j ≡ row + suc j = omega arith in rw e (k.key (suc j) (omega arith)) } in
      rw (first ∙ h) (ap (λ (rows : List Row). row_of key (block_in es row) ∷ rows) (keyed_rows (suc row) n others hs))

  -- the other way round
  rows_run : (row n : ℕ) (ys : List ℕ) → entry_rows es row n ≡ map (row_of key) ys → run es row n ≡ ys
  unfolding entry_rows run
  rows_run row zero [] e = refl
  rows_run row zero (y ∷ ys) e = absurd (omega (arith, ap length e))
  rows_run row (suc n) [] e = absurd (omega (arith, ap length e))
  rows_run row (suc n) (y ∷ ys) e =
      let first : a_row (block_in es row) (entry_column es row entry_key) ≡ row_of key y = cc in
      let others : entry_rows es (suc row) n ≡ map (row_of key) ys = cc in
      rw (ap (λ (r : Row). r.block) first) (ap (λ (l : List ℕ). y ∷ l) (rows_run (suc row) n ys others))

  rows_keyed : (row n : ℕ) (ys : List ℕ) → entry_rows es row n ≡ map (row_of key) ys → All Agrees ys → (j : ℕ) → j < n
      → entry_column es (row + j) entry_key ≡ first_cell_in blocks (block_in es (row + j))
  unfolding entry_rows
  rows_keyed row zero ys e h j l = absurd (omega arith)
  rows_keyed row (suc n) [] e h j l = absurd (omega (arith, ap length e))
  rows_keyed row (suc n) (y ∷ ys) e (all_cons h hs) zero l =
      let z : row + 0 ≡ row = omega arith in
      let first : a_row (block_in es row) (entry_column es row entry_key) ≡ row_of key y = cc in
      rw z (ap (λ (r : Row). r.key) first ∙ sym h ∙ ap (first_cell_in blocks) (sym (ap (λ (r : Row). r.block) first)))
  rows_keyed row (suc n) (y ∷ ys) e (all_cons h hs) (suc j) l =
      let z : row + suc j ≡ suc row + j = omega arith in
      let others : entry_rows es (suc row) n ≡ map (row_of key) ys = cc in
      rw z (rows_keyed (suc row) n ys others hs j (omega arith))

-- ── the tree ──

module _ (blocks s t es es' : List ℕ) (kind : ℕ) (key : ℕ → ℕ) (n : ℕ) (agree : (x : ℕ) → x < n → first_cell_in blocks x ≡ key x) (o : RunsSorted s es es' (nodes_used s)) where
  row_sorted : (link lo hi : ℕ) (xs : List ℕ) → count_at s link ≡ length xs → All (λ x. x < n) xs → Pairs (λ x y. x < y) xs
      → FillRow blocks s t es kind link lo hi xs → FillRow blocks s t es' kind link lo hi (sorted_by key xs)
  row_sorted link lo hi xs many below rise f =
      let ys : List ℕ = sorted_by key xs in
      let long : length ys ≡ length xs = sorted-length key xs in
      let agrees : All (λ x. first_cell_in blocks x ≡ key x) xs = all_map (λ x h. agree x h) below in
      let was : entry_rows es (start_at s link) (length xs) ≡ map (row_of key) xs =
      keyed_rows blocks key es (start_at s link) (length xs) f.keyed (rw f.listed agrees) ∙ ap (map (row_of key)) f.listed in
      let is : entry_rows es' (start_at s link) (length xs) ≡ map (row_of key) ys =
      (rw many at (o.sorted link f.row.some f.row.used)) ∙ ap sort_rows was ∙ sorted-rows key rise in
      record {
        row = f.row;
        fits = omega (arith, f.fits, long);
        next = f.next ∙ omega (arith, long);
        listed = rw long (rows_run blocks key es' (start_at s link) (length xs) ys is);
        keyed = record { key = λ j h. rows_keyed blocks key es' (start_at s link) (length xs) ys is (sorted_all key agrees) j (omega (arith, long)) };
      }

  pub fill_sorted : (link lo hi : ℕ) (T : Tree) → CountAt s kind link lo hi (sort_tree key T) → Rising n T → FillAt blocks s t es kind link lo hi T
      → FillAt blocks s t es' kind link lo hi (sort_tree key T)
  unfolding CountAt FillAt sort_tree
  fill_sorted link lo hi hole g r f = f
  fill_sorted link lo hi (node xs l r) g (a_node rise below left right) f = (
    row_sorted link lo hi xs (g.0.counted ∙ sorted-length key xs) below rise f.0,
    fill_sorted (left_at s link) lo (mid lo hi) l g.1 left f.1,
    fill_sorted (right_at s link) (mid lo hi) hi r g.2 right f.2,
  )
