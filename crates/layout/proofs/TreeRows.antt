-- The rows of the trees of all kinds, one behind the other: nodes in the order root, left, right, and their runs of entries in that order; where these rows
-- stand in tables, the trees do. Assumes nothing.
use mathlib.Core.Path.{◌≡◌, refl, ap, sym, ◌∙◌}
use mathlib.Core.Bool.{true, ◌||◌, ◌&&◌}
use mathlib.Core.List.{List, [], ◌∷◌, ◌++◌}
use Prim.Native.Nat.{ℕ, zero, suc, ◌+◌, ◌*◌, ◌^◌, ◌≤◌, ◌<◌}
use native.Mathlib.Omega.{arith}
use lib.ListN.{length, get_or, length-append, get_or-append}
use lib.Seq.{get_or-append-add, ext_get_or}
use borrow.Author.Tests.{le-ltb}
use Rattle.lists.specs.Lists.{All, all_nil, all_cons, sum_of}
use Rattle.lists.proofs.Lists.{all_append}
use Rattle.lists.proofs.Numbers.{and_left, and_right}
use Rattle.history.specs.Lent.{row_width, entry_width, entry_head}
use Rattle.history.specs.Tree.{Tree, hole, node, mid, halves, tree_at, node_count, entry_count, nodes_in, entries_all, entries_in}
use Rattle.history.specs.Rules.{is_hole, halved}
use Rattle.history.proofs.TreeCounts.{entry_count_in}
use Rattle.tables.specs.Columns.{column, entry_column, node_min, node_max, node_left, node_right, node_first, node_entries, node_kind, entry_key}
use Rattle.segment_table.specs.Closed.{Tables, nodes_used, left_at, right_at, first_at, count_at, block_in, first_cell_in, run, TreeAt}
use Rattle.segment_table.proofs.Closed.{run_length, run_at}
use Rattle.layout.specs.Law.{Word}

-- ── rows of nodes ──

-- the link of a tree whose root, if it has one, stands at a link
unfoldable pub link_to : (link : ℕ) → Tree → ℕ
link_to link hole = 0
link_to link (node xs l r) = link

-- the rows from a link on, with runs from an entry row on
unfoldable pub node_rows : (kind lo hi link first : ℕ) → Tree → List (List ℕ)
node_rows kind lo hi link first hole = []
node_rows kind lo hi link first (node xs l r) =
    (lo ∷ hi ∷ link_to (suc link) l ∷ link_to (suc link + node_count l) r ∷ first ∷ length xs ∷ kind ∷ [])
    ∷ (node_rows kind lo (mid lo hi) (suc link) (first + length xs) l
    ++ node_rows kind (mid lo hi) hi (suc link + node_count l) (first + length xs + entry_count l) r)

-- a row for each node
pub node_rows-length : (kind lo hi link first : ℕ) (T : Tree) → length (node_rows kind lo hi link first T) ≡ node_count T
unfolding node_rows node_count
node_rows-length kind lo hi link first hole = refl
node_rows-length kind lo hi link first (node xs l r) =
    let a = node_rows kind lo (mid lo hi) (suc link) (first + length xs) l in
    let b = node_rows kind (mid lo hi) hi (suc link + node_count l) (first + length xs + entry_count l) r in
    let p : length a ≡ node_count l = node_rows-length kind lo (mid lo hi) (suc link) (first + length xs) l in
    let q : length b ≡ node_count r = node_rows-length kind (mid lo hi) hi (suc link + node_count l) (first + length xs + entry_count l) r in
    omega (arith, length-append a b)

-- ── runs one behind the other ──

-- the first row's run starts at `first`, each next where the one before ends
unfoldable pub Runs : (first : ℕ) (rows : List (List ℕ)) → Type 0
Runs first [] = Unit {0}
Runs first (r ∷ rs) = (get_or r node_first 0 ≡ first) × Runs (first + get_or r node_entries 0) rs

-- the entry row behind all runs
unfoldable pub behind : (first : ℕ) (rows : List (List ℕ)) → ℕ
behind first [] = first
behind first (r ∷ rs) = behind (first + get_or r node_entries 0) rs

behind-append : (first : ℕ) (xs ys : List (List ℕ)) → behind first (xs ++ ys) ≡ behind (behind first xs) ys
unfolding behind
behind-append first [] ys = refl
behind-append first (x ∷ xs) ys = behind-append (first + get_or x node_entries 0) xs ys

runs_append : (first : ℕ) (xs ys : List (List ℕ)) → Runs first xs → Runs (behind first xs) ys → Runs first (xs ++ ys)
unfolding Runs behind
runs_append first [] ys h k = k
runs_append first (x ∷ xs) ys h k = (h.0, runs_append (first + get_or x node_entries 0) xs ys h.1 k)

-- the runs of a tree take as many rows as it has entries
node_rows-behind : (kind lo hi link first : ℕ) (T : Tree) → behind first (node_rows kind lo hi link first T) ≡ first + entry_count T
unfolding node_rows behind entry_count
node_rows-behind kind lo hi link first hole = omega arith
node_rows-behind kind lo hi link first (node xs l r) =
    let a = node_rows kind lo (mid lo hi) (suc link) (first + length xs) l in
    let b = node_rows kind (mid lo hi) hi (suc link + node_count l) (first + length xs + entry_count l) r in
    let p : behind (first + length xs) a ≡ first + length xs + entry_count l = node_rows-behind kind lo (mid lo hi) (suc link) (first + length xs) l in
    let q = node_rows-behind kind (mid lo hi) hi (suc link + node_count l) (first + length xs + entry_count l) r in
    let z : first + length xs + entry_count l + entry_count r ≡ first + (length xs + (entry_count l + entry_count r)) = omega arith in
    behind-append (first + length xs) a b ∙ ap (λ (f : ℕ). behind f b) p ∙ q ∙ z

-- they are one behind the other
pub node_rows_runs : (kind lo hi link first : ℕ) (T : Tree) → Runs first (node_rows kind lo hi link first T)
unfolding node_rows Runs
node_rows_runs kind lo hi link first hole = tt
node_rows_runs kind lo hi link first (node xs l r) =
    let a = node_rows kind lo (mid lo hi) (suc link) (first + length xs) l in
    let b = node_rows kind (mid lo hi) hi (suc link + node_count l) (first + length xs + entry_count l) r in
    let p : behind (first + length xs) a ≡ first + length xs + entry_count l = node_rows-behind kind lo (mid lo hi) (suc link) (first + length xs) l in (
      refl,
      runs_append (first + length xs) a b (node_rows_runs kind lo (mid lo hi) (suc link) (first + length xs) l)
          (rw p (node_rows_runs kind (mid lo hi) hi (suc link + node_count l) (first + length xs + entry_count l) r)),
    )

pub runs_first : (first : ℕ) (rows : List (List ℕ)) → Runs first rows → 0 < length rows → get_or (get_or rows 0 []) node_first 0 ≡ first
unfolding Runs
runs_first first [] h k = absurd (omega arith)
runs_first first (r ∷ rs) h k = h.0

-- from row to row
pub runs_next : (first : ℕ) (rows : List (List ℕ)) → Runs first rows → (k : ℕ) → suc k < length rows
    → get_or (get_or rows (suc k) []) node_first 0 ≡ get_or (get_or rows k []) node_first 0 + get_or (get_or rows k []) node_entries 0
unfolding Runs
runs_next first [] h k p = absurd (omega arith)
runs_next first (r ∷ rs) h zero p = runs_first (first + get_or r node_entries 0) rs h.1 (omega arith) ∙ ap (λ (f : ℕ). f + get_or r node_entries 0) (sym h.0)
runs_next first (r ∷ rs) h (suc k) p = runs_next (first + get_or r node_entries 0) rs h.1 k (omega arith)

-- ── rows in a table ──

-- the rows stand in the node table from a link on
pub record RowsAt (nodes : List ℕ) (link : ℕ) (rows : List (List ℕ)) : Type 0 where
  pub says : (j c : ℕ) → j < length rows → c < row_width → column nodes (link + j) c ≡ get_or (get_or rows j []) c 0

-- the block numbers stand in the entry table from a row on
pub record EntriesAt (entries : List ℕ) (row : ℕ) (ks : List ℕ) : Type 0 where
  pub says : (j : ℕ) → j < length ks → block_in entries (row + j) ≡ get_or ks j 0

-- the first row, the rows behind it, and the parts of rows one behind the other
module _ (nodes : List ℕ) (link : ℕ) where
  rows_head : (r : List ℕ) (rs : List (List ℕ)) → RowsAt nodes link (r ∷ rs) → (c : ℕ) → c < row_width → column nodes link c ≡ get_or r c 0
  rows_head r rs h c p = let z : link + 0 ≡ link = omega arith in rw z at (h.says 0 c (omega arith) p)

  rows_tail : (r : List ℕ) (rs : List (List ℕ)) → RowsAt nodes link (r ∷ rs) → RowsAt nodes (suc link) rs
  rows_tail r rs h = record { says = λ j c p q. let z : suc link + j ≡ link + suc j = omega arith in rw z (h.says (suc j) c (omega arith) q) }

  rows_left : (xs ys : List (List ℕ)) → RowsAt nodes link (xs ++ ys) → RowsAt nodes link xs
  rows_left xs ys h =
      record {
        says = λ j c p q. h.says j c (omega (arith, length-append xs ys)) q ∙ ap (λ (r : List ℕ). get_or r c 0) (get_or-append xs ys [] j p);
      }

  rows_right : (xs ys : List (List ℕ)) → RowsAt nodes link (xs ++ ys) → RowsAt nodes (link + length xs) ys
  rows_right xs ys h =
      record {
        says = λ j c p q.
            let z : link + length xs + j ≡ link + (length xs + j) = omega arith in
            rw z (h.says (length xs + j) c (omega (arith, length-append xs ys)) q ∙ ap (λ (r : List ℕ). get_or r c 0) (get_or-append-add xs ys j []));
      }

-- the same of entries, and they are a run
module _ (entries : List ℕ) (row : ℕ) where
  entries_left : (xs ys : List ℕ) → EntriesAt entries row (xs ++ ys) → EntriesAt entries row xs
  entries_left xs ys h = record { says = λ j p. h.says j (omega (arith, length-append xs ys)) ∙ get_or-append xs ys 0 j p }

  entries_right : (xs ys : List ℕ) → EntriesAt entries row (xs ++ ys) → EntriesAt entries (row + length xs) ys
  entries_right xs ys h =
      record {
        says = λ j p.
            let z : row + length xs + j ≡ row + (length xs + j) = omega arith in
            rw z (h.says (length xs + j) (omega (arith, length-append xs ys)) ∙ get_or-append-add xs ys j 0);
      }

  entries_run : (xs : List ℕ) → EntriesAt entries row xs → run entries row (length xs) ≡ xs
  entries_run xs h =
      ext_get_or 0 (run entries row (length xs)) xs (run_length entries row (length xs))
      (λ j p. let q : j < length xs = omega (arith, run_length entries row (length xs)) in run_at entries row (length xs) j q ∙ h.says j q)

-- ── the tree in the tables ──

-- no node, no link
link_hole : (link : ℕ) (T : Tree) → is_hole T ≡ true → link_to link T ≡ 0
unfolding link_to
link_hole link hole h = refl
link_hole link (node xs l r) h = let z : ◌≡◌ {A = ℕ} 0 1 = cc in absurd (omega arith)

-- a node of width 1 has no halves
narrow_holes : (lo hi : ℕ) (l r : Tree) → (halves lo hi || (is_hole l && is_hole r)) ≡ true → hi ≤ lo + 1 → (is_hole l && is_hole r) ≡ true
narrow_holes lo hi l r h n = rw (le-ltb (lo + 1) hi n) at h

module _ (t : Tables) (kind many : ℕ)
    (keyed : (row : ℕ) → row < many → entry_column t.entries row entry_key ≡ first_cell_in t.blocks (block_in t.entries row))
    (room : entry_head + entry_width * many ≤ length t.entries) where
  -- a tree stands where its rows and entries are
  pub rows_tree : (T : Tree) (lo hi link first : ℕ) → 0 < link → link + node_count T ≤ suc (nodes_used t.nodes) → first + entry_count T ≤ many
      → halved lo hi T ≡ true → RowsAt t.nodes link (node_rows kind lo hi link first T) → EntriesAt t.entries first (entries_in T) → TreeAt t kind (link_to link T) lo hi T
  unfolding TreeAt node_rows link_to node_count entry_count entries_in halved
  rows_tree hole lo hi link first some used fits h rs es = refl
  rows_tree (node xs l r) lo hi link first some used fits h rs es =
      let whole : List ℕ = lo ∷ hi ∷ link_to (suc link) l ∷ link_to (suc link + node_count l) r ∷ first ∷ length xs ∷ kind ∷ [] in
      let a = node_rows kind lo (mid lo hi) (suc link) (first + length xs) l in
      let b = node_rows kind (mid lo hi) hi (suc link + node_count l) (first + length xs + entry_count l) r in
      let own : (c : ℕ) → c < row_width → column t.nodes link c ≡ get_or whole c 0 = rows_head t.nodes link whole (a ++ b) rs in
      let below = rows_tail t.nodes link whole (a ++ b) rs in
      let here_first : first_at t.nodes link ≡ first = own node_first (omega arith) in
      let here_count : count_at t.nodes link ≡ length xs = own node_entries (omega arith) in
      let here_left : left_at t.nodes link ≡ link_to (suc link) l = own node_left (omega arith) in
      let here_right : right_at t.nodes link ≡ link_to (suc link + node_count l) r = own node_right (omega arith) in
      let long : length a ≡ node_count l = node_rows-length kind lo (mid lo hi) (suc link) (first + length xs) l in
      let many_left : length (entries_in l) ≡ entry_count l = sym (entry_count_in l) in
      let wide = and_left (halves lo hi || (is_hole l && is_hole r)) (halved lo (mid lo hi) l && halved (mid lo hi) hi r) h in
      let deep = and_right (halves lo hi || (is_hole l && is_hole r)) (halved lo (mid lo hi) l && halved (mid lo hi) hi r) h in
      let later = entries_right t.entries first xs (entries_in l ++ entries_in r) es in
      let rs_right : RowsAt t.nodes (suc link + node_count l) b = rw long at (rows_right t.nodes (suc link) a b below) in
      let es_right : EntriesAt t.entries (first + length xs + entry_count l) (entries_in r) =
      rw many_left at (entries_right t.entries (first + length xs) (entries_in l) (entries_in r) later) in (
        record {
          some = some;
          used = omega arith;
          low = own node_min (omega arith);
          high = own node_max (omega arith);
          own_kind = own node_kind (omega arith);
          narrow = λ n.
              let both = narrow_holes lo hi l r wide n in (
                here_left ∙ link_hole (suc link) l (and_left (is_hole l) (is_hole r) both),
                here_right ∙ link_hole (suc link + node_count l) r (and_right (is_hole l) (is_hole r) both),
              );
          inside = omega arith;
          listed = rw (here_first, here_count) (entries_run t.entries first xs (entries_left t.entries first xs (entries_in l ++ entries_in r) es));
          keyed = rw (here_first, here_count) (record { key = λ j p. keyed (first + j) (omega arith) });
        },
        rw here_left
            (rows_tree l lo (mid lo hi) (suc link) (first + length xs) (omega arith) (omega arith) (omega arith)
            (and_left (halved lo (mid lo hi) l) (halved (mid lo hi) hi r) deep) (rows_left t.nodes (suc link) a b below) (entries_left t.entries (first + length xs) (entries_in l) (entries_in r) later)),
        rw here_right
            (rows_tree r (mid lo hi) hi (suc link + node_count l) (first + length xs + entry_count l) (omega arith) (omega arith) (omega arith)
            (and_right (halved lo (mid lo hi) l) (halved (mid lo hi) hi r) deep) rs_right es_right),
      )

-- ── trees one behind the other ──

-- the rows of the trees of kinds from one on
unfoldable pub trees_rows : (kind end link first : ℕ) → List Tree → List (List ℕ)
trees_rows kind e link first [] = []
trees_rows kind e link first (T ∷ Ts) = node_rows kind 0 e link first T ++ trees_rows (suc kind) e (link + node_count T) (first + entry_count T) Ts

-- their entries
unfoldable pub trees_entries : List Tree → List ℕ
trees_entries [] = []
trees_entries (T ∷ Ts) = entries_in T ++ trees_entries Ts

-- the links of their roots
unfoldable pub roots_from : (link : ℕ) → List Tree → List ℕ
roots_from link [] = []
roots_from link (T ∷ Ts) = link_to link T ∷ roots_from (link + node_count T) Ts

-- how many they are
pub roots_length : (link : ℕ) (Ts : List Tree) → length (roots_from link Ts) ≡ length Ts
unfolding roots_from
roots_length link [] = refl
roots_length link (T ∷ Ts) = ap suc (roots_length (link + node_count T) Ts)

pub trees_rows-length : (kind end link first : ℕ) (Ts : List Tree) → length (trees_rows kind end link first Ts) ≡ nodes_in Ts
unfolding trees_rows sum_of
trees_rows-length kind end link first [] = refl
trees_rows-length kind end link first (T ∷ Ts) =
    let rest = trees_rows (suc kind) end (link + node_count T) (first + entry_count T) Ts in
    let p = node_rows-length kind 0 end link first T in
    let q = trees_rows-length (suc kind) end (link + node_count T) (first + entry_count T) Ts in
    omega (arith, length-append (node_rows kind 0 end link first T) rest)

pub trees_entries_length : (Ts : List Tree) → length (trees_entries Ts) ≡ entries_all Ts
unfolding trees_entries sum_of
trees_entries_length [] = refl
trees_entries_length (T ∷ Ts) = omega (arith, length-append (entries_in T) (trees_entries Ts), entry_count_in T, trees_entries_length Ts)

-- what holds of the entries of each holds of all
pub trees_entries_all : {P : ℕ → Type 0} (Ts : List Tree) → ((j : ℕ) → j < length Ts → All P (entries_in (tree_at Ts j))) → All P (trees_entries Ts)
unfolding trees_entries
trees_entries_all [] f = all_nil
trees_entries_all (T ∷ Ts) f = all_append (f 0 (omega arith)) (trees_entries_all Ts (λ j h. f (suc j) (omega arith)))

-- their runs are one behind the other
pub trees_rows_runs : (kind end link first : ℕ) (Ts : List Tree) → Runs first (trees_rows kind end link first Ts)
unfolding trees_rows Runs
trees_rows_runs kind end link first [] = tt
trees_rows_runs kind end link first (T ∷ Ts) =
    runs_append first (node_rows kind 0 end link first T) (trees_rows (suc kind) end (link + node_count T) (first + entry_count T) Ts)
    (node_rows_runs kind 0 end link first T)
    (rw (node_rows-behind kind 0 end link first T) (trees_rows_runs (suc kind) end (link + node_count T) (first + entry_count T) Ts))

module _ (t : Tables) (end many : ℕ)
    (keyed : (row : ℕ) → row < many → entry_column t.entries row entry_key ≡ first_cell_in t.blocks (block_in t.entries row))
    (room : entry_head + entry_width * many ≤ length t.entries) where
  -- each stands where its rows and entries are
  pub rows_trees : (Ts : List Tree) (kind link first : ℕ) → 0 < link → link + nodes_in Ts ≤ suc (nodes_used t.nodes) → first + entries_all Ts ≤ many
      → ((j : ℕ) → j < length Ts → halved 0 end (tree_at Ts j) ≡ true) → RowsAt t.nodes link (trees_rows kind end link first Ts)
      → EntriesAt t.entries first (trees_entries Ts) → (j : ℕ) → j < length Ts → TreeAt t (kind + j) (get_or (roots_from link Ts) j 0) 0 end (tree_at Ts j)
  unfolding trees_rows trees_entries roots_from sum_of
  rows_trees [] kind link first some fits few h rs es j p = absurd (omega arith)
  rows_trees (T ∷ Ts) kind link first some fits few h rs es zero p =
      let z : kind + 0 ≡ kind = omega arith in
      rw z
      (rows_tree t kind many keyed room T 0 end link first some (omega arith) (omega arith) (h 0 (omega arith))
      (rows_left t.nodes link (node_rows kind 0 end link first T) (trees_rows (suc kind) end (link + node_count T) (first + entry_count T) Ts) rs)
      (entries_left t.entries first (entries_in T) (trees_entries Ts) es))
  rows_trees (T ∷ Ts) kind link first some fits few h rs es (suc j) p =
      let z : kind + suc j ≡ suc kind + j = omega arith in
      let own = node_rows kind 0 end link first T in
      let rest = trees_rows (suc kind) end (link + node_count T) (first + entry_count T) Ts in
      let long : length own ≡ node_count T = node_rows-length kind 0 end link first T in
      let total : length (entries_in T) ≡ entry_count T = sym (entry_count_in T) in
      rw z
      (rows_trees Ts (suc kind) (link + node_count T) (first + entry_count T) (omega arith) (omega arith) (omega arith) (λ i q. h (suc i) (omega arith))
      (rw long at (rows_right t.nodes link own rest rs)) (rw total at (entries_right t.entries first (entries_in T) (trees_entries Ts) es)) j (omega arith))

-- ── their numbers ──

link_word : (link : ℕ) (T : Tree) → link < 2 ^ 64 → link_to link T < 2 ^ 64
unfolding link_to
link_word link hole h = omega arith
link_word link (node xs l r) h = h

-- the numbers of the rows are words: links are up to the count of nodes, runs up to that of entries
node_rows_words : (kind lo hi link first : ℕ) (T : Tree) → kind < 2 ^ 64 → lo < 2 ^ 64 → hi < 2 ^ 64 → link + node_count T < 2 ^ 64 → first + entry_count T < 2 ^ 64
    → All (All Word) (node_rows kind lo hi link first T)
unfolding node_rows node_count entry_count
node_rows_words kind lo hi link first hole k p q n e = all_nil
node_rows_words kind lo hi link first (node xs l r) k p q n e =
    let m : mid lo hi < 2 ^ 64 = omega arith in
    let f : first < 2 ^ 64 = omega arith in
    let c : length xs < 2 ^ 64 = omega arith in
    all_cons
    (all_cons p
    (all_cons q
    (all_cons (link_word (suc link) l (omega arith))
    (all_cons (link_word (suc link + node_count l) r (omega arith)) (all_cons f (all_cons c (all_cons k all_nil)))))))
    (all_append (node_rows_words kind lo (mid lo hi) (suc link) (first + length xs) l k p m (omega arith) (omega arith))
    (node_rows_words kind (mid lo hi) hi (suc link + node_count l) (first + length xs + entry_count l) r k m q (omega arith) (omega arith)))

-- so are the numbers of all rows, and the links of the roots
pub trees_rows_words : (kind end link first : ℕ) (Ts : List Tree) → kind + length Ts < 2 ^ 64 → end < 2 ^ 64 → link + nodes_in Ts < 2 ^ 64 → first + entries_all Ts < 2 ^ 64
    → All (All Word) (trees_rows kind end link first Ts)
unfolding trees_rows sum_of
trees_rows_words kind end link first [] k e n x = all_nil
trees_rows_words kind end link first (T ∷ Ts) k e n x =
    all_append (node_rows_words kind 0 end link first T (omega arith) (omega arith) e (omega arith) (omega arith))
    (trees_rows_words (suc kind) end (link + node_count T) (first + entry_count T) Ts (omega arith) e (omega arith) (omega arith))

pub roots_words : (link : ℕ) (Ts : List Tree) → link + nodes_in Ts < 2 ^ 64 → All Word (roots_from link Ts)
unfolding roots_from sum_of
roots_words link [] n = all_nil
roots_words link (T ∷ Ts) n = all_cons (link_word link T (omega arith)) (roots_words (link + node_count T) Ts (omega arith))
