-- Node and entry tables for the trees of all kinds. Assumes nothing.
use mathlib.Core.Path.{◌≡◌, ap, sym, ◌∙◌}
use mathlib.Core.Bool.{Bool, true, false, cond}
use mathlib.Core.List.{List, [], ◌∷◌, ◌++◌}
use Prim.Native.Nat.{ℕ, zero, suc, ◌+◌, ◌-◌, ◌*◌, ◌/◌, ◌%◌, ◌^◌, ◌≤◌, ◌<◌}
use native.Mathlib.Omega.{arith}
use lib.Dec.{ltb, eqb}
use lib.ListN.{length, get_or, get_or-append}
use lib.Seq.{get_or_at}
use borrow.Author.Tests.{le-ltb}
use Rattle.lists.specs.Lists.{All, all_nil, all_cons}
use Rattle.lists.proofs.Lists.{all_append}
use Rattle.history.specs.Lent.{row_width, entry_width, entry_head}
use Rattle.history.specs.Tree.{Tree, tree_at, nodes_in, entries_all}
use Rattle.history.specs.Rules.{halved}
use Rattle.tables.specs.Columns.{column, entry_column, node_first, node_entries, nodes_count, entry_block, entry_key, entries_count}
use Rattle.segment_table.specs.Closed.{Tables, nodes_used, first_at, count_at, entries_used, block_in, first_cell_in, Consecutive, Closed}
use Rattle.layout.specs.Law.{Word}
use Rattle.layout.proofs.ExistsTable.{list_by, list_by_length, list_by_at, list_by_all, table_by, table_by_length, table_by_at, all_get, word_at, table_by_words}
use Rattle.layout.proofs.TreeRows.{trees_rows, trees_entries, roots_from, roots_length, trees_rows-length, trees_entries_length, trees_rows_runs, Runs, RowsAt, EntriesAt, runs_first, runs_next, rows_trees, trees_rows_words, roots_words}

-- ── the node table ──

-- the head has the root of each kind, and the count
unfoldable pub node_head_row : List Tree → List ℕ
node_head_row Ts = roots_from 1 Ts ++ (nodes_in Ts ∷ [])

-- the head, then the rows of the trees
unfoldable pub node_row_at : (end : ℕ) → List Tree → (link : ℕ) → List ℕ
node_row_at e Ts zero = node_head_row Ts
node_row_at e Ts (suc k) = get_or (trees_rows 0 e 1 0 Ts) k []

-- as long as it is lent
unfoldable pub node_table : (many end : ℕ) → List Tree → List ℕ
node_table many e Ts = table_by 0 many (node_row_at e Ts)

pub node_table_length : (many end : ℕ) (Ts : List Tree) → length (node_table many end Ts) ≡ many
unfolding node_table
node_table_length many e Ts = table_by_length 0 many (node_row_at e Ts)

module _ (many end : ℕ) (Ts : List Tree) (five : length Ts ≡ nodes_count) (room : row_width * nodes_in Ts + row_width ≤ many) where
  node_column : (link c : ℕ) → link ≤ nodes_in Ts → c < row_width → column (node_table many end Ts) link c ≡ get_or (node_row_at end Ts link) c 0
  unfolding node_table
  node_column link c h k = let z : 0 + c ≡ c = omega arith in rw z at (table_by_at 0 many (node_row_at end Ts) link c k (omega arith))

  node_root : (k : ℕ) → k < nodes_count → column (node_table many end Ts) 0 k ≡ get_or (roots_from 1 Ts) k 0
  unfolding node_row_at node_head_row
  node_root k h = node_column 0 k (omega arith) (omega arith) ∙ get_or-append (roots_from 1 Ts) (nodes_in Ts ∷ []) 0 k (omega (arith, roots_length 1 Ts))

  node_used : nodes_used (node_table many end Ts) ≡ nodes_in Ts
  unfolding node_row_at node_head_row
  node_used = node_column 0 nodes_count (omega arith) (omega arith) ∙ get_or_at (roots_from 1 Ts) (nodes_in Ts) [] 0 nodes_count (roots_length 1 Ts ∙ five)

  node_rows_at : RowsAt (node_table many end Ts) 1 (trees_rows 0 end 1 0 Ts)
  unfolding node_row_at
  node_rows_at =
      record {
        says = λ j c p q. let z : 1 + j ≡ suc j = omega arith in rw z (node_column (suc j) c (omega (arith, trees_rows-length 0 end 1 0 Ts)) q);
      }

  node_consecutive : Consecutive (node_table many end Ts)
  unfolding node_row_at
  node_consecutive = record { begins = begins; follows = follows }
    where
      rows : List (List ℕ)
      rows = trees_rows 0 end 1 0 Ts

      all : length rows ≡ nodes_in Ts
      all = trees_rows-length 0 end 1 0 Ts

      runs : Runs 0 rows
      runs = trees_rows_runs 0 end 1 0 Ts

      begins : 0 < nodes_used (node_table many end Ts) → first_at (node_table many end Ts) 1 ≡ 0
      begins p = node_column 1 node_first (omega (arith, node_used)) (omega arith) ∙ runs_first 0 rows runs (omega (arith, node_used, all))

      follows : (link : ℕ) → 0 < link → link < nodes_used (node_table many end Ts)
          → first_at (node_table many end Ts) (suc link) ≡ first_at (node_table many end Ts) link + count_at (node_table many end Ts) link
      follows zero p q = absurd (omega arith)
      follows (suc k) p q =
          let fits : suc (suc k) ≤ nodes_in Ts = omega (arith, node_used) in
          let a = node_column (suc (suc k)) node_first fits (omega arith) in
          let b = node_column (suc k) node_first (omega arith) (omega arith) in
          let c = node_column (suc k) node_entries (omega arith) (omega arith) in
          omega (arith, a, b, c, runs_next 0 rows runs k (omega (arith, all)))

-- ── the entry table ──

-- a row has a block number and the key of the block
unfoldable pub entry_row : (key : ℕ → ℕ) (ks : List ℕ) (row : ℕ) → List ℕ
entry_row key ks row = get_or ks row 0 ∷ key (get_or ks row 0) ∷ []

-- the head has the count
unfoldable pub entry_at : (key : ℕ → ℕ) (ks : List ℕ) (i : ℕ) → ℕ
entry_at key ks i =
    cond (ltb i entry_head) (cond (eqb i entries_count) (length ks) 0) (get_or (entry_row key ks ((i - entry_head) / entry_width)) ((i - entry_head) % entry_width) 0)

-- as long as it is lent
unfoldable pub entry_table : (many : ℕ) (key : ℕ → ℕ) (ks : List ℕ) → List ℕ
entry_table many key ks = list_by many (entry_at key ks)

pub entry_table_length : (many : ℕ) (key : ℕ → ℕ) (ks : List ℕ) → length (entry_table many key ks) ≡ many
unfolding entry_table
entry_table_length many key ks = list_by_length many (entry_at key ks)

module _ (many : ℕ) (key : ℕ → ℕ) (ks : List ℕ) (room : entry_head + entry_width * length ks ≤ many) where
  entry_used : entries_used (entry_table many key ks) ≡ length ks
  unfolding entry_table entry_at
  entry_used = list_by_at many (entry_at key ks) entries_count (omega arith)

  entry_column_lem : (row c : ℕ) → row < length ks → c < entry_width → entry_column (entry_table many key ks) row c ≡ get_or (entry_row key ks row) c 0
  unfolding entry_table entry_at
  entry_column_lem row c h k =
      let i = entry_head + (entry_width * row + c) in
      let a : (i - entry_head) / entry_width ≡ row = omega arith in
      let b : (i - entry_head) % entry_width ≡ c = omega arith in
      list_by_at many (entry_at key ks) i (omega arith) ∙ rw (le-ltb i entry_head (omega arith), a, b)

  entry_block_lem : (row : ℕ) → row < length ks → block_in (entry_table many key ks) row ≡ get_or ks row 0
  unfolding entry_row
  entry_block_lem row h = entry_column_lem row entry_block h (omega arith)

  entry_key_lem : (row : ℕ) → row < length ks → entry_column (entry_table many key ks) row entry_key ≡ key (block_in (entry_table many key ks) row)
  unfolding entry_row
  entry_key_lem row h = entry_column_lem row entry_key h (omega arith) ∙ ap key (sym (entry_block_lem row h))

  entries_at : EntriesAt (entry_table many key ks) 0 ks
  entries_at = record { says = λ j p. let z : 0 + j ≡ j = omega arith in rw z (entry_block_lem j p) }

-- ── the whole ──

-- trees that have no child of a node of width 1 stand in tables that are long enough, whatever the blocks
pub trees_closed : (blocks : List ℕ) (nodes_length entries_length end : ℕ) (Ts : List Tree) → length Ts ≡ nodes_count
    → ((kind : ℕ) → kind < nodes_count → halved 0 end (tree_at Ts kind) ≡ true)
    → row_width * nodes_in Ts + row_width ≤ nodes_length → entry_head + entry_width * entries_all Ts ≤ entries_length
    → Closed (record { blocks = blocks; nodes = node_table nodes_length end Ts; entries = entry_table entries_length (first_cell_in blocks) (trees_entries Ts) }) end Ts
trees_closed blocks nodes_length entries_length end Ts five h nodes_fit entries_fit =
    record {
      five = five;
      stands = λ kind low.
          let z : 0 + kind ≡ kind = omega arith in
          rw (node_root nodes_length end Ts five nodes_fit kind low)
          (rw z at
          (rows_trees t end (entries_all Ts) (λ row p. entry_key_lem entries_length (first_cell_in blocks) (trees_entries Ts) room row (omega (arith, total)))
          (omega (arith, long)) Ts 0 1 0 (omega arith) (omega (arith, used)) (omega arith) (λ j p. h j (omega arith)) (node_rows_at nodes_length end Ts five nodes_fit)
          (entries_at entries_length (first_cell_in blocks) (trees_entries Ts) room) kind (omega arith)));
      all_rows_lem = used;
      room = omega (arith, used, node_table_length nodes_length end Ts);
      all_entries_lem = entry_used entries_length (first_cell_in blocks) (trees_entries Ts) room ∙ total;
      consecutive = node_consecutive nodes_length end Ts five nodes_fit;
    }
  where
    t : Tables
    t = record { blocks = blocks; nodes = node_table nodes_length end Ts; entries = entry_table entries_length (first_cell_in blocks) (trees_entries Ts) }

    total : length (trees_entries Ts) ≡ entries_all Ts
    total = trees_entries_length Ts

    room : entry_head + entry_width * length (trees_entries Ts) ≤ entries_length
    room = omega (arith, total)

    long : length (entry_table entries_length (first_cell_in blocks) (trees_entries Ts)) ≡ entries_length
    long = entry_table_length entries_length (first_cell_in blocks) (trees_entries Ts)

    used : nodes_used (node_table nodes_length end Ts) ≡ nodes_in Ts
    used = node_used nodes_length end Ts five nodes_fit

-- ── their numbers ──

-- all numbers of the two tables are words
pub node_table_words : (many end : ℕ) (Ts : List Tree) → length Ts ≡ nodes_count → end < 2 ^ 64 → nodes_in Ts + 1 < 2 ^ 64 → entries_all Ts < 2 ^ 64
    → All Word (node_table many end Ts)
unfolding node_table node_row_at node_head_row
node_table_words many end Ts five e n x = table_by_words 0 many (node_row_at end Ts) words
  where
    words : (link : ℕ) → All Word (node_row_at end Ts link)
    words zero = all_append (roots_words 1 Ts (omega arith)) (all_cons {x = nodes_in Ts} (omega arith) all_nil)
    words (suc j) = all_get [] all_nil (trees_rows_words 0 end 1 0 Ts (omega arith) e (omega arith) (omega arith)) j

pub entry_table_words : (many : ℕ) (key : ℕ → ℕ) (ks : List ℕ) → length ks < 2 ^ 64 → All Word ks → ((k : ℕ) → key k < 2 ^ 64) → All Word (entry_table many key ks)
unfolding entry_table entry_at entry_row
entry_table_words many key ks few a b = list_by_all many (entry_at key ks) (λ i h. words i)
  where
    row : (j : ℕ) → All Word (entry_row key ks j)
    row j = all_cons (word_at a j) (all_cons (b (get_or ks j 0)) all_nil)

    head : (c : Bool) → cond c (length ks) 0 < 2 ^ 64
    head true = few
    head false = omega arith

    choose : (c : Bool) (m n : ℕ) → m < 2 ^ 64 → n < 2 ^ 64 → cond c m n < 2 ^ 64
    choose true m n p q = p
    choose false m n p q = q

    words : (i : ℕ) → entry_at key ks i < 2 ^ 64
    words i =
        choose (ltb i entry_head) (cond (eqb i entries_count) (length ks) 0) (get_or (entry_row key ks ((i - entry_head) / entry_width)) ((i - entry_head) % entry_width) 0)
        (head (eqb i entries_count)) (word_at (row ((i - entry_head) / entry_width)) ((i - entry_head) % entry_width))
