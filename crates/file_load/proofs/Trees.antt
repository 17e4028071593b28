-- Node and entry tables that hold the numbers of a tree hold the tree. Assumes nothing.
use mathlib.Core.Path.{◌≡◌, refl, sym, ◌∙◌, ap}
use mathlib.Core.Logic.{inl, inr}
use mathlib.Core.Bool.{true, false, cond, true≢false}
use mathlib.Core.List.{List, [], ◌∷◌, ◌++◌}
use Prim.Native.Nat.{ℕ, zero, suc, ◌+◌, ◌*◌, ◌-◌, ◌≤◌, ◌<◌}
use native.Mathlib.Omega.{arith}
use lib.ListN.{length, get_or, get_or-append}
use lib.Seq.{get_or-append-add}
use lib.Dec.{eqb}
use borrow.Author.Tests.{eq-eqb, ne_eqb}
use Rattle.lists.proofs.Numbers.{lt_or_le, eq_or_ne}
use Rattle.lists.proofs.Lists.{count_from_length}
use Rattle.lists.proofs.Maps.{length_of_map}
use Rattle.history.specs.Lent.{row_width, entry_width, entry_head}
use Rattle.history.specs.Words.{all_kinds}
use Rattle.history.specs.Tree.{Tree, hole, node, mid, tree_at, node_count, entry_count, entries_in}
use Rattle.history.specs.File.{trees_with}
use Rattle.history.specs.Rules.{is_hole, halved}
use Rattle.history.proofs.TreeCounts.{entry_count_in}
use Rattle.tables.specs.Columns.{column, entry_column, node_first, node_entries, nodes_count, entry_block, entry_key}
use Rattle.segment_table.specs.Closed.{Tables, nodes_used, entries_used, first_at, count_at, block_in, first_cell_in, TreeAt, Consecutive, Closed}
use Rattle.layout.proofs.TreeRows.{link_to, node_rows, node_rows-length, Runs, node_rows_runs, runs_first, runs_next, RowsAt, EntriesAt, rows_tree}
use Rattle.layout.specs.Rows.{entry_numbers, root_link, node_numbers, root_in, node_head_numbers, entry_head_numbers}
use Rattle.file_fill.proofs.FillingTrees.{node_numbers_length, entry_numbers_length}
use Rattle.history.proofs.OneTree.{trees_own, trees_other, sum_with}
use Rattle.file_load.proofs.Holding.{HoldsAt, holds_left, holds_right, holds_moved}

-- ── rows ──

-- a spare number behind a row reads as no number there
spare : (r : List ℕ) (c : ℕ) → get_or (r ++ (0 ∷ [])) c 0 ≡ get_or r c 0
spare [] zero = refl
spare [] (suc c) = refl
spare (x ∷ r) zero = refl
spare (x ∷ r) (suc c) = spare r c

link_same : (rows : ℕ) (T : Tree) → root_link rows T ≡ link_to (suc rows) T
unfolding root_link link_to
link_same rows hole = refl
link_same rows (node es l r) = refl

module _ (nodes : List ℕ) (link : ℕ) where
  -- a row and those behind it
  rows_cons : (r : List ℕ) (rs : List (List ℕ)) → ((c : ℕ) → c < row_width → column nodes link c ≡ get_or r c 0) → RowsAt nodes (suc link) rs → RowsAt nodes link (r ∷ rs)
  rows_cons r rs own more = record { says = says }
    where
      says : (j c : ℕ) → j < suc (length rs) → c < row_width → column nodes (link + j) c ≡ get_or (get_or (r ∷ rs) j []) c 0
      says zero c p q = let z : link + 0 ≡ link = omega arith in rw z (own c q)
      says (suc j) c p q = let z : link + suc j ≡ suc link + j = omega arith in rw z (more.says j c (omega arith) q)

  -- rows one behind the other
  rows_both : (xs ys : List (List ℕ)) → RowsAt nodes link xs → RowsAt nodes (link + length xs) ys → RowsAt nodes link (xs ++ ys)
  rows_both xs ys a b = record {
    says = λ j c p q. elim (lt_or_le j (length xs)) [
      | inl h ↦ a.says j c h q ∙ ap (λ (r : List ℕ). get_or r c 0) (sym (get_or-append xs ys [] j h))
      | inr h ↦
          let i = j - length xs in
          let z : j ≡ length xs + i = omega arith in
          let w : link + j ≡ link + length xs + i = omega arith in
          rw w (b.says i c (behind xs ys j p h) q)
          ∙ ap (λ (r : List ℕ). get_or r c 0) (sym (get_or-append-add xs ys i []))
          ∙ ap (λ (k : ℕ). get_or (get_or (xs ++ ys) k []) c 0) (sym z)
    ];
  }
    where
      behind : (xs ys : List (List ℕ)) (j : ℕ) → j < length (xs ++ ys) → length xs ≤ j → j - length xs < length ys
      behind [] ys j p h = let z : j - 0 ≡ j = omega arith in rw z p
      behind (x ∷ xs) ys zero p h = absurd (omega arith)
      behind (x ∷ xs) ys (suc j) p h = let z : suc j - suc (length xs) ≡ j - length xs = omega arith in rw z (behind xs ys j (omega arith) (omega arith))

module _ (nodes : List ℕ) (kind : ℕ) where
  -- the numbers of a tree are its rows
  numbers_rows : (lo hi rows runs : ℕ) (T : Tree) → HoldsAt nodes (row_width * suc rows) (node_numbers kind lo hi rows runs T)
      → RowsAt nodes (suc rows) (node_rows kind lo hi (suc rows) runs T)
  unfolding node_numbers node_rows
  numbers_rows lo hi rows runs hole h = record { says = λ j c p q. absurd (omega arith) }
  numbers_rows lo hi rows runs (node es l r) h =
      let whole : List ℕ = lo ∷ hi ∷ root_link (suc rows) l ∷ root_link (suc rows + node_count l) r ∷ runs ∷ length es ∷ kind ∷ 0 ∷ [] in
      let a = node_numbers kind lo (mid lo hi) (suc rows) (runs + length es) l in
      let b = node_numbers kind (mid lo hi) hi (suc rows + node_count l) (runs + length es + entry_count l) r in
      let ra = node_rows kind lo (mid lo hi) (suc (suc rows)) (runs + length es) l in
      let own = holds_left whole (a ++ b) h in
      let rest : HoldsAt nodes (row_width * suc (suc rows)) (a ++ b) = holds_moved (omega arith) (holds_right whole (a ++ b) h) in
      let long : length a ≡ row_width * node_count l = node_numbers_length kind lo (mid lo hi) (suc rows) (runs + length es) l in
      let many : length ra ≡ node_count l = node_rows-length kind lo (mid lo hi) (suc (suc rows)) (runs + length es) l in
      let lefts : RowsAt nodes (suc (suc rows)) ra = numbers_rows lo (mid lo hi) (suc rows) (runs + length es) l (holds_left a b rest) in
      let rights = numbers_rows (mid lo hi) hi (suc rows + node_count l) (runs + length es + entry_count l) r (holds_moved (omega arith) (holds_right a b rest)) in
      let one : suc (suc rows + node_count l) ≡ suc (suc rows) + node_count l = omega arith in
      rows_cons nodes (suc rows) _ _
      (λ c p.
      own.says c p
      ∙ spare (lo ∷ hi ∷ root_link (suc rows) l ∷ root_link (suc rows + node_count l) r ∷ runs ∷ length es ∷ kind ∷ []) c
      ∙ rw (link_same (suc rows) l, link_same (suc rows + node_count l) r, one) refl)
      (rows_both nodes (suc (suc rows)) ra _ lefts (rw many (rw one at rights)))

-- ── entries ──

module _ (key : ℕ → ℕ) where
  entry_number : (ks : List ℕ) (j : ℕ) → j < length ks → get_or (entry_numbers key ks) (2 * j) 0 ≡ get_or ks j 0
  unfolding entry_numbers
  entry_number [] j h = absurd (omega arith)
  entry_number (k ∷ ks) zero h = refl
  entry_number (k ∷ ks) (suc j) h =
      let z : 2 * suc j ≡ suc (suc (2 * j)) = omega arith in
      rw z (entry_number ks j (omega arith))

  entry_key_lem : (ks : List ℕ) (j : ℕ) → j < length ks → get_or (entry_numbers key ks) (2 * j + 1) 0 ≡ key (get_or ks j 0)
  unfolding entry_numbers
  entry_key_lem [] j h = absurd (omega arith)
  entry_key_lem (k ∷ ks) zero h = refl
  entry_key_lem (k ∷ ks) (suc j) h =
      let z : 2 * suc j + 1 ≡ suc (suc (2 * j + 1)) = omega arith in
      rw z (entry_key_lem ks j (omega arith))

  module _ (entries ks : List ℕ) (h : HoldsAt entries entry_head (entry_numbers key ks)) where
    block_at : (j : ℕ) → j < length ks → block_in entries j ≡ get_or ks j 0
    block_at j p =
        let z : entry_head + (entry_width * j + entry_block) ≡ entry_head + 2 * j = omega arith in
        rw z (h.says (2 * j) (omega (arith, entry_numbers_length key ks)) ∙ entry_number ks j p)

    key_at_lem : (j : ℕ) → j < length ks → entry_column entries j entry_key ≡ key (block_in entries j)
    key_at_lem j p =
        let z : entry_head + (entry_width * j + entry_key) ≡ entry_head + (2 * j + 1) = omega arith in
        rw z (h.says (2 * j + 1) (omega (arith, entry_numbers_length key ks)) ∙ entry_key_lem ks j p ∙ ap key (sym (block_at j p)))

    entries_there : EntriesAt entries 0 ks
    entries_there = record { says = λ j p. let z : 0 + j ≡ j = omega arith in rw z (block_at j p) }

-- ── the head ──

head_root : (kind n k : ℕ) → k < nodes_count → get_or (node_head_numbers kind n) k 0 ≡ root_in kind k
head_root kind n zero h = refl
head_root kind n (suc zero) h = refl
head_root kind n (suc (suc zero)) h = refl
head_root kind n (suc (suc (suc zero))) h = refl
head_root kind n (suc (suc (suc (suc zero)))) h = refl
head_root kind n (suc (suc (suc (suc (suc k))))) h = absurd (omega arith)

root_link_lem : (T : Tree) → is_hole T ≡ false → link_to 1 T ≡ 1
unfolding link_to
root_link_lem hole h = absurd (true≢false h)
root_link_lem (node es l r) h = refl

-- no link is no tree
hole_at : (t : Tables) (kind link lo hi : ℕ) → link ≡ 0 → TreeAt t kind link lo hi hole
unfolding TreeAt
hole_at t kind link lo hi z = z

-- ── the whole ──

module _ (t : Tables) (kind e : ℕ) (T : Tree) (key : ℕ → ℕ) (known : kind ≤ 4) (rooted : is_hole T ≡ false) (halves : halved 0 e T ≡ true)
    (keys : (k : ℕ) → key k ≡ first_cell_in t.blocks k)
    (nodes_are : HoldsAt t.nodes 0 (node_head_numbers kind (node_count T) ++ node_numbers kind 0 e 0 0 T))
    (entries_are : HoldsAt t.entries 0 (entry_head_numbers (entry_count T) ++ entry_numbers key (entries_in T)))
    (node_room : row_width * node_count T + row_width ≤ length t.nodes) (entry_room : entry_head + entry_width * entry_count T ≤ length t.entries) where
  head_at : (c : ℕ) → c < row_width → column t.nodes 0 c ≡ get_or (node_head_numbers kind (node_count T)) c 0
  head_at c h =
      let z : row_width * 0 + c ≡ 0 + c = omega arith in
      rw z ((holds_left (node_head_numbers kind (node_count T)) (node_numbers kind 0 e 0 0 T) nodes_are).says c h)

  used : nodes_used t.nodes ≡ node_count T
  used = head_at nodes_count (omega arith)

  root : column t.nodes 0 kind ≡ link_to 1 T
  root = head_at kind (omega arith) ∙ head_root kind (node_count T) kind (omega arith) ∙ rw (eq-eqb kind kind refl) (sym (root_link_lem T rooted))

  rows : RowsAt t.nodes 1 (node_rows kind 0 e 1 0 T)
  rows = numbers_rows t.nodes kind 0 e 0 0 T (holds_right (node_head_numbers kind (node_count T)) (node_numbers kind 0 e 0 0 T) nodes_are)

  entries : HoldsAt t.entries entry_head (entry_numbers key (entries_in T))
  entries = holds_right (entry_head_numbers (entry_count T)) (entry_numbers key (entries_in T)) entries_are

  many : length (entries_in T) ≡ entry_count T
  many = sym (entry_count_in T)

  row_at_lem : (k c : ℕ) → k < node_count T → c < row_width → column t.nodes (suc k) c ≡ get_or (get_or (node_rows kind 0 e 1 0 T) k []) c 0
  row_at_lem k c p q = let z : 1 + k ≡ suc k = omega arith in rw z at (rows.says k c (omega (arith, node_rows-length kind 0 e 1 0 T)) q)

  consecutive : Consecutive t.nodes
  consecutive = record { begins = begins; follows = follows }
    where
      rs : List (List ℕ)
      rs = node_rows kind 0 e 1 0 T

      all : length rs ≡ node_count T
      all = node_rows-length kind 0 e 1 0 T

      runs : Runs 0 rs
      runs = node_rows_runs kind 0 e 1 0 T

      begins : 0 < nodes_used t.nodes → first_at t.nodes 1 ≡ 0
      begins p = row_at_lem 0 node_first (omega (arith, used)) (omega arith) ∙ runs_first 0 rs runs (omega (arith, used, all))

      follows : (link : ℕ) → 0 < link → link < nodes_used t.nodes → first_at t.nodes (suc link) ≡ first_at t.nodes link + count_at t.nodes link
      follows zero p q = absurd (omega arith)
      follows (suc k) p q =
          let fits : suc (suc k) ≤ node_count T = omega (arith, used) in
          let a = row_at_lem (suc k) node_first fits (omega arith) in
          let b = row_at_lem k node_first (omega arith) (omega arith) in
          let c = row_at_lem k node_entries (omega arith) (omega arith) in
          omega (arith, a, b, c, runs_next 0 rs runs k (omega (arith, all)))

  pub entries_used_lem : entries_used t.entries ≡ entry_count T
  entries_used_lem = (holds_left (entry_head_numbers (entry_count T)) (entry_numbers key (entries_in T)) entries_are).says 0 (omega arith)

  -- the tree stands at the kind's root, and no other kind has one
  pub tree_closed : Closed t e (trees_with kind T)
  unfolding node_count entry_count
  tree_closed = record {
    five = length_of_map (λ k. cond (eqb kind k) T hole) all_kinds ∙ count_from_length 0 5;
    stands = λ k p. elim (eq_or_ne kind k) [ inl q ↦ rw (← q) own | inr n ↦ other k p n ];
    all_rows_lem = used ∙ sym (sum_with node_count refl kind T known);
    room = omega (arith, used);
    all_entries_lem = entries_used_lem ∙ sym (sum_with entry_count refl kind T known);
    consecutive = consecutive;
  }
    where
      own : TreeAt t kind (column t.nodes 0 kind) 0 e (tree_at (trees_with kind T) kind)
      own =
          rw (trees_own kind T known, root)
          (rows_tree t kind (entry_count T)
          (λ row p. key_at_lem key t.entries (entries_in T) entries row (omega (arith, many)) ∙ keys (block_in t.entries row))
          entry_room T 0 e 1 0 (omega arith) (omega (arith, used)) (omega arith) halves rows (entries_there key t.entries (entries_in T) entries))

      other : (k : ℕ) → k < nodes_count → (kind ≡ k → ⊥) → TreeAt t k (column t.nodes 0 k) 0 e (tree_at (trees_with kind T) k)
      other k p n =
          rw (trees_other kind T k (omega arith) n)
          (hole_at t k (column t.nodes 0 k) 0 e (head_at k (omega arith) ∙ head_root kind (node_count T) k p ∙ rw (ne_eqb kind k n) refl))
