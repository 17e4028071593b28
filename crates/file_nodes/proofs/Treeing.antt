-- The tree's bytes: the turns of `put_entries`, and the returns of `put_node` and `put`. Assumes nothing.
use mathlib.Core.Path.{◌≡◌, sym, ◌∙◌, ap}
use mathlib.Core.Bool.{true}
use mathlib.Core.List.{List, [], ◌∷◌, ◌++◌, map, flat_map, flatten, append_assoc, append-nil}
use Prim.Native.Nat.{ℕ, ◌+◌, ◌*◌, ◌-◌, ◌/◌, ◌≤◌, ◌<◌}
use native.Mathlib.Omega.{arith}
use lib.ListN.{length}
use Rattle.lists.proofs.Parts.{part-sets}
use Rattle.lists.proofs.Stores.{sets-past}
use Rattle.lists.specs.Lists.{All, has}
use Rattle.lists.proofs.Lists.{all_mem}
use Rattle.lists.proofs.Maps.{length_of_map, map-append}
use Rattle.history.specs.Tree.{Tree, hole, node, mid, entries_in}
use Rattle.history.specs.File.{bytes_of, node_bytes, nodes_of, map_tree, place_in}
use Rattle.history.proofs.FileRenumbered.{entries_here, entries_left, entries_right}
use Rattle.segment_table.specs.Closed.{Tables, NodeRow, TreeAt, run, block_in, left_at, right_at, first_at, count_at}
use Rattle.segment_table.proofs.Closed.{run_length, run-append, run_mem}
use Rattle.lists.specs.Puts.{Put}
use Rattle.file_nodes.specs.Numbering.{Numbering, NewNumber}
use Rattle.file_put.specs.Parts.{row_bytes}
use Rattle.file_nodes.specs.Nodes.{entry_bytes, PutEntries, PutNode, PutTree}
use Rattle.lists.proofs.Puts.{put_none, put_append, put_same, put_length, put_onward}
use Rattle.file_put.proofs.Laying.{flat_map_append, flat_map_one}

-- what is put behind the list leaves it as it is
pub numbering_kept : {out out' : List ℕ} {at next listed : ℕ} {xs ks : List ℕ} → Put out at xs out' next → Numbering out at listed ks → Numbering out' next listed ks
numbering_kept {out} {out'} {at} {next} {listed} {xs} {ks} p n =
    record {
      ascend = n.ascend;
      stay = n.stay;
      many = n.many;
      before = λ s. omega (arith, n.before s, put_onward p);
      inside = λ s. omega (arith, n.inside s, put_length p);
      stands = λ s j h.
          let front : 9 + 8 * j + 8 ≤ at = omega (arith, n.before s) in
          rw (p.stands, part-sets 8 (9 + 8 * j) out at xs front) (n.stands s j h);
    }

-- ── a run of entries ──

-- the first i entries of a run
pub record EntriesTo (entries : List ℕ) (first count listed : ℕ) (out : List ℕ) (at i : ℕ) (o : List ℕ) (next : ℕ) : Type 0 where
  pub put : (ks : List ℕ) → Numbering out at listed ks → All (λ k. has k ks ≡ true) (run entries first count) → Put out at (entry_bytes ks (run entries first i)) o next

pub entries_long : (entries : List ℕ) (first count listed : ℕ) (out : List ℕ) (at : ℕ) → length entries < count → PutEntries entries first count listed out at out at
entries_long entries first count listed out at h = record { put = λ ks n g. absurd (omega arith) }

pub entries_past : (entries : List ℕ) (first count listed : ℕ) (out : List ℕ) (at : ℕ) → count ≤ length entries → length entries - count < first
    → PutEntries entries first count listed out at out at
entries_past entries first count listed out at g h = record { put = λ ks n g. absurd (omega arith) }

pub entries_start : (entries : List ℕ) (first count listed : ℕ) (out : List ℕ) (at : ℕ) → EntriesTo entries first count listed out at 0 out at
unfolding run flat_map
entries_start entries first count listed out at = record { put = λ ks n h. put_none out at }

entries_one : (ks entries : List ℕ) (first i : ℕ)
    → entry_bytes ks (run entries first (i + 1)) ≡ entry_bytes ks (run entries first i) ++ bytes_of 8 (place_in ks (block_in entries (first + i)))
unfolding run
entries_one ks entries first i =
    ap (entry_bytes ks) (run-append entries first i 1)
    ∙ ap (flat_map (bytes_of 8)) (map-append (place_in ks) (run entries first i) (block_in entries (first + i) ∷ []))
    ∙ flat_map_append (bytes_of 8) (map (place_in ks) (run entries first i)) (place_in ks (block_in entries (first + i)) ∷ [])
    ∙ ap (λ (r : List ℕ). entry_bytes ks (run entries first i) ++ r) (flat_map_one (bytes_of 8) (place_in ks (block_in entries (first + i))))

pub entries_more : (entries : List ℕ) (first count listed : ℕ) (out : List ℕ) (at i : ℕ) (o o' : List ℕ) (next next' k new : ℕ)
    → EntriesTo entries first count listed out at i o next → i < count → k ≡ block_in entries (first + i) → NewNumber o listed k new
    → Put o next (bytes_of 8 new) o' next' → EntriesTo entries first count listed out at (i + 1) o' next'
entries_more entries first count listed out at i o o' next next' k new a less e number b =
    record {
      put = λ ks n all.
          let before : Put out at (entry_bytes ks (run entries first i)) o next = a.put ks n all in
          let there : has k ks ≡ true = rw e (all_mem all (run_mem entries first count (first + i) (omega arith) (omega arith))) in
          let same : new ≡ place_in ks (block_in entries (first + i)) = number.new next ks (numbering_kept before n) there ∙ ap (place_in ks) e in
          put_same (sym (entries_one ks entries first i)) (put_append before (rw same at b));
    }

pub entries_all_lem : (entries : List ℕ) (first count listed : ℕ) (out : List ℕ) (at i : ℕ) (o : List ℕ) (next : ℕ)
    → EntriesTo entries first count listed out at i o next → i ≤ count → count ≤ i → PutEntries entries first count listed out at o next
entries_all_lem entries first count listed out at i o next a h g =
    let e : i ≡ count = omega arith in
    record { put = λ ks n room all. rw e at (a.put ks n all) }

pub ruleset entering = (entries_long, entries_past, entries_start, entries_more, entries_all_lem, arith)

-- ── a node ──

pub node_put : (nodes entries : List ℕ) (link min max listed : ℕ) (out o o' : List ℕ) (at next next' first count : ℕ) → min ≤ max → first ≡ first_at nodes link
    → count ≡ count_at nodes link → Put out at (row_bytes 1 min max (min + (max - min) / 2) count) o next
    → PutEntries entries first count listed o next o' next' → PutNode nodes entries link min max listed out at o' next'
node_put nodes entries link min max listed out o o' at next next' first count h e f row rest =
    let middle : min + (max - min) / 2 ≡ mid min max = omega arith in
    record {
      put = λ ks n room all.
          let row' : Put out at (row_bytes 1 min max (mid min max) (count_at nodes link)) o next = rw (middle, f) at row in
          let rest' : PutEntries entries (first_at nodes link) (count_at nodes link) listed o next o' next' = rw (e, f) at rest in
          put_append row' (rest'.put ks (numbering_kept row n) room all);
    }

-- ── a tree ──

-- a node: its row, its entries, its halves
node_parts : (f : ℕ → ℕ) (lo hi : ℕ) (xs : List ℕ) (l r : Tree)
    → node_bytes (nodes_of lo hi (map_tree f (node xs l r)))
    ≡ (row_bytes 1 lo hi (mid lo hi) (length xs) ++ flat_map (bytes_of 8) (map f xs))
    ++ (node_bytes (nodes_of lo (mid lo hi) (map_tree f l)) ++ node_bytes (nodes_of (mid lo hi) hi (map_tree f r)))
unfolding node_bytes nodes_of map_tree flatten
node_parts f lo hi xs l r = rw (length_of_map f xs) (simp (append_assoc, append-nil))

-- into a full slice nothing is put
pub tree_full : (nodes entries : List ℕ) (link min max listed : ℕ) (out : List ℕ) (at : ℕ) → length out ≤ at → PutTree nodes entries link min max listed out at out at
tree_full nodes entries link min max listed out at h = record { put = λ ks blocks kind tree n t all. put_full out at (node_bytes (nodes_of min max (map_tree (place_in ks) tree))) h }
  where
    put_full : (out : List ℕ) (at : ℕ) (xs : List ℕ) → length out ≤ at → Put out at xs out at
    put_full out at xs h = record { stands = sym (sets-past xs out at h); ends = omega arith }

pub tree_none : (nodes entries : List ℕ) (link min max listed : ℕ) (out o : List ℕ) (at next : ℕ) → link ≡ 0 → Put out at (bytes_of 1 0) o next
    → PutTree nodes entries link min max listed out at o next
unfolding TreeAt node_bytes nodes_of map_tree
tree_none nodes entries link min max listed out o at next e p = record { put = λ ks blocks kind tree n t all. go blocks kind tree ks t }
  where
    go : (blocks : List ℕ) (kind : ℕ) (tree : Tree) (ks : List ℕ) → TreeAt (record { blocks = blocks; nodes = nodes; entries = entries }) kind link min max tree
        → Put out at (node_bytes (nodes_of min max (map_tree (place_in ks) tree))) o next
    go blocks kind hole ks t = p
    go blocks kind (node xs l r) ks t = absurd (omega (arith, t.0.some))

-- at a link other than 0 stands a node
module _ (nodes entries : List ℕ) (link min max listed : ℕ) (out o : List ℕ) (at next : ℕ) (some : link ≡ 0 → ⊥)
    (own : PutNode nodes entries link min max listed out at o next) where
  abbrev lent : (blocks : List ℕ) → Tables
  lent blocks = record { blocks = blocks; nodes = nodes; entries = entries }

  own_put : (ks blocks : List ℕ) (kind : ℕ) (xs : List ℕ) (l r : Tree) → Numbering out at listed ks
      → NodeRow (record { blocks = blocks; nodes = nodes; entries = entries }) kind link min max xs → All (λ k. has k ks ≡ true) (entries_in (node xs l r))
      → Put out at (row_bytes 1 min max (mid min max) (length xs) ++ flat_map (bytes_of 8) (map (place_in ks) xs)) o next
  own_put ks blocks kind xs l r n row all =
      let many : count_at nodes link ≡ length xs = sym (run_length entries (first_at nodes link) (count_at nodes link)) ∙ ap length row.listed in
      let mine : All (λ k. has k ks ≡ true) (run entries (first_at nodes link) (count_at nodes link)) = rw row.listed (entries_here xs l r all) in
      rw (row.listed, many) at (own.put ks n (omega (arith, row.inside)) mine)

  -- what is put of a tree, if it is so of a node
  of_node : (o' : List ℕ) (next' : ℕ)
      → ((ks blocks : List ℕ) (kind : ℕ) (xs : List ℕ) (l r : Tree) → Numbering out at listed ks
      → TreeAt (record { blocks = blocks; nodes = nodes; entries = entries }) kind link min max (node xs l r) → All (λ k. has k ks ≡ true) (entries_in (node xs l r))
      → Put o next (node_bytes (nodes_of min (mid min max) (map_tree (place_in ks) l)) ++ node_bytes (nodes_of (mid min max) max (map_tree (place_in ks) r))) o' next')
      → PutTree nodes entries link min max listed out at o' next'
  unfolding TreeAt
  of_node o' next' halves = record { put = λ ks blocks kind tree n t all. go blocks kind tree ks n t all }
    where
      go : (blocks : List ℕ) (kind : ℕ) (tree : Tree) (ks : List ℕ) → Numbering out at listed ks
          → TreeAt (record { blocks = blocks; nodes = nodes; entries = entries }) kind link min max tree → All (λ k. has k ks ≡ true) (entries_in tree)
          → Put out at (node_bytes (nodes_of min max (map_tree (place_in ks) tree))) o' next'
      go blocks kind hole ks n t all = absurd (some t)
      go blocks kind (node xs l r) ks n t all =
          put_same (sym (node_parts (place_in ks) min max xs l r)) (put_append (own_put ks blocks kind xs l r n t.0 all) (halves ks blocks kind xs l r n t all))

  pub tree_narrow : (o' : List ℕ) (next' : ℕ) → max - min ≤ 1 → Put o next (bytes_of 1 0 ++ bytes_of 1 0) o' next' → PutTree nodes entries link min max listed out at o' next'
  unfolding TreeAt node_bytes nodes_of map_tree
  tree_narrow o' next' thin none = of_node o' next' λ ks blocks kind xs l r n t all. go ks blocks kind l r (t.0.narrow (omega arith)) t.1 t.2
    where
      go : (ks blocks : List ℕ) (kind : ℕ) (l r : Tree) → (left_at nodes link ≡ 0) × (right_at nodes link ≡ 0)
          → TreeAt (record { blocks = blocks; nodes = nodes; entries = entries }) kind (left_at nodes link) min (mid min max) l
          → TreeAt (record { blocks = blocks; nodes = nodes; entries = entries }) kind (right_at nodes link) (mid min max) max r
          → Put o next (node_bytes (nodes_of min (mid min max) (map_tree (place_in ks) l)) ++ node_bytes (nodes_of (mid min max) max (map_tree (place_in ks) r))) o' next'
      go ks blocks kind hole hole z a b = none
      go ks blocks kind (node xs l r) s z a b = absurd (omega (arith, a.0.some))
      go ks blocks kind hole (node xs l r) z a b = absurd (omega (arith, b.0.some))

  pub tree_halves : (o₁ o₂ : List ℕ) (p₁ p₂ left right middle : ℕ) → min ≤ max → middle ≡ min + (max - min) / 2 → left ≡ left_at nodes link → right ≡ right_at nodes link
      → PutTree nodes entries left min middle listed o next o₁ p₁ → PutTree nodes entries right middle max listed o₁ p₁ o₂ p₂
      → PutTree nodes entries link min max listed out at o₂ p₂
  unfolding TreeAt
  tree_halves o₁ o₂ p₁ p₂ left right middle h w e f first second =
      let m : middle ≡ mid min max = omega arith in
      let first' : PutTree nodes entries (left_at nodes link) min (mid min max) listed o next o₁ p₁ = rw (e, m) at first in
      let second' : PutTree nodes entries (right_at nodes link) (mid min max) max listed o₁ p₁ o₂ p₂ = rw (f, m) at second in
      of_node o₂ p₂ λ ks blocks kind xs l r n t all.
      let behind = numbering_kept (own_put ks blocks kind xs l r n t.0 all) n in
      let a = first'.put ks blocks kind l behind t.1 (entries_left xs l r all) in
      put_append a (second'.put ks blocks kind r (numbering_kept a behind) t.2 (entries_right xs l r all))

pub ruleset noding = (node_put, tree_full, tree_none, tree_narrow, tree_halves, arith)
