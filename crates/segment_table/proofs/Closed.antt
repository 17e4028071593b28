-- Laws of the closed layout: runs of entries by rows, and one tree for each table. Assumes nothing.
use mathlib.Core.Path.{◌≡◌, refl, sym, ◌∙◌, ap}
use mathlib.Core.Logic.{⊎_elim}
use mathlib.Core.List.{List, ◌∷◌, ◌++◌}
use Prim.Native.Nat.{ℕ, zero, suc, ◌+◌, ◌-◌, ◌≤◌, ◌<◌}
use native.Mathlib.Omega.{arith}
use lib.ListN.{length, get_or}
use lib.Seq.{ext_get_or}
use Rattle.lists.specs.Lists.{All, all_nil, all_cons, Mem, here, there}
use Rattle.lists.proofs.Numbers.{eq_or_ne}
use Rattle.history.specs.Tree.{Tree, hole, node, mid, tree_at}
use Rattle.tables.specs.Columns.{column}
use Rattle.segment_table.specs.Closed.{Tables, TreeAt, Closed, run, block_in, left_at, right_at}

-- ── runs of entries ──

module _ (entries : List ℕ) where
  pub run_length : (row n : ℕ) → length (run entries row n) ≡ n
  unfolding run
  run_length row zero = refl
  run_length row (suc n) = ap suc (run_length (suc row) n)

  -- rows behind rows
  pub run-append : (row n m : ℕ) → run entries row (n + m) ≡ run entries row n ++ run entries (row + n) m
  unfolding run
  run-append row zero m =
      let a : 0 + m ≡ m = omega arith in
      let b : row + 0 ≡ row = omega arith in
      rw (a, b)
  run-append row (suc n) m =
      let a : suc n + m ≡ suc (n + m) = omega arith in
      let b : row + suc n ≡ suc row + n = omega arith in
      rw (a, b) (ap (λ (l : List ℕ). block_in entries row ∷ l) (run-append (suc row) n m))

  -- the rows [row, to), cut at a row between
  pub run_split : (row cut to : ℕ) → row ≤ cut → cut ≤ to → run entries row (to - row) ≡ run entries row (cut - row) ++ run entries cut (to - cut)
  run_split row cut to h k =
      let a : to - row ≡ (cut - row) + (to - cut) = omega arith in
      let b : row + (cut - row) ≡ cut = omega arith in
      rw a (rw b at (run-append row (cut - row) (to - cut)))

  -- what holds of the block of each row holds of all blocks, and each block is there
  pub run_all : {P : ℕ → Type 0} (row n : ℕ) → ((i : ℕ) → row ≤ i → i < row + n → P (block_in entries i)) → All P (run entries row n)
  unfolding run
  run_all row zero f = all_nil
  run_all row (suc n) f = all_cons (f row (omega arith) (omega arith)) (run_all (suc row) n (λ i h k. f i (omega arith) (omega arith)))

  pub run_mem : (row n i : ℕ) → row ≤ i → i < row + n → Mem (block_in entries i) (run entries row n)
  unfolding run
  run_mem row zero i h k = absurd (omega arith)
  run_mem row (suc n) i h k =
      ⊎_elim (λ (e : row ≡ i). here (ap (block_in entries) (sym e))) (λ (ne : row ≡ i → ⊥). there (run_mem (suc row) n i (omega arith) (omega arith)))
      (eq_or_ne row i)

  pub run_at : (row n j : ℕ) → j < n → get_or (run entries row n) j 0 ≡ block_in entries (row + j)
  unfolding run
  run_at row zero j h = absurd (omega arith)
  run_at row (suc n) zero h = let z : row + 0 ≡ row = omega arith in rw z
  run_at row (suc n) (suc j) h = let z : row + suc j ≡ suc row + j = omega arith in rw z (run_at (suc row) n j (omega arith))

-- ── one tree for each table ──

-- what stands at a link is told by the tables
pub tree_one : (t : Tables) (kind link lo hi : ℕ) (T T' : Tree) → TreeAt t kind link lo hi T → TreeAt t kind link lo hi T' → T ≡ T'
unfolding TreeAt
tree_one t kind link lo hi hole hole h k = refl
tree_one t kind link lo hi hole (node xs l r) h k = absurd (omega (arith, h, k.0.some))
tree_one t kind link lo hi (node xs l r) hole h k = absurd (omega (arith, k, h.0.some))
tree_one t kind link lo hi (node xs l r) (node ys l' r') h k =
    let a : xs ≡ ys = sym h.0.listed ∙ k.0.listed in
    let b : l ≡ l' = tree_one t kind (left_at t.nodes link) lo (mid lo hi) l l' h.1 k.1 in
    let c : r ≡ r' = tree_one t kind (right_at t.nodes link) (mid lo hi) hi r r' h.2 k.2 in
    rw (a, b, c)

-- .. and so are all trees
pub trees_one : (t : Tables) (e : ℕ) (xs ys : List Tree) → Closed t e xs → Closed t e ys → xs ≡ ys
trees_one t e xs ys h k = ext_get_or hole xs ys (h.five ∙ sym k.five)
    (λ kind low. tree_one t kind (column t.nodes 0 kind) 0 e (tree_at xs kind) (tree_at ys kind) (h.stands kind (omega (arith, h.five)))
    (k.stands kind (omega (arith, h.five))))
