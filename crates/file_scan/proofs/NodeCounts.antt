-- Nodes counted one after the other, with the subtrees that are still to come: one step for each turn of `nodes::pass` and for each of its returns.
-- Assumes nothing.
use mathlib.Core.Path.{◌≡◌, refl, sym, ◌∙◌, ap, ap₂}
use mathlib.Core.List.{List, [], ◌∷◌, map}
use Prim.Native.Nat.{ℕ, suc, ◌+◌, ◌*◌, ◌-◌, ◌≤◌, ◌<◌}
use native.Mathlib.Omega.{arith}
use lib.ListN.{length}
use Rattle.lists.specs.Lists.{sum_of}
use Rattle.lists.proofs.Numbers.{suc_of}
use Rattle.history.specs.Tree.{node_count, entry_count}
use Rattle.history.specs.File.{Nodes, absent, present, Read, got, fault, onward, ◌>>=◌, give, many, read_root, tree_from}
use Rattle.file_scan.specs.declared.nodes.Nodes.{Nodes as Trees}
use Rattle.std.specs.Prelude.{Ok, Err}
use Rattle.refusals.specs.declared.Refusal.{Refusal}
use Rattle.fields.specs.Fields.{Moves}
use Rattle.fields.specs.declared.Reader.{Reader}
use Rattle.fields.proofs.Moving.{same_bytes}
use Rattle.file_scan.specs.declared.rows.NodeRow.{NodeRow}
use Rattle.file_scan.specs.declared.rows.NodeRow.TheVariants as node
use Rattle.file_scan.specs.Rows.{row_head, answer_of, head_absent, head_present, read_head, read_node}
use Rattle.file_scan.specs.Counts.{nodes_from}
use Rattle.file_scan.proofs.RowReads.{head_passes}
use Rattle.file_scan.proofs.RowSays.{row_present, row_absent, row_fault}
use Rattle.file_scan.proofs.Forest.{root_parts}

-- ── a forest ──

abbrev nodes_in : List Nodes → ℕ
nodes_in ts = sum_of (map (λ t. node_count (tree_from t)) ts)

abbrev entries_in : List Nodes → ℕ
entries_in ts = sum_of (map (λ t. entry_count (tree_from t)) ts)

abbrev passed : (nodes entries next : ℕ) → Read Trees
passed nodes entries next = got (record { nodes = nodes; entries = entries }) next

-- so many nodes and entries were counted before these trees
unfoldable pub forest_from : (nodes entries : ℕ) → Read (List Nodes) → Read Trees
forest_from nodes entries (got ts next) = passed (nodes + nodes_in ts) (entries + entries_in ts) next
forest_from nodes entries (fault i) = fault i

passed_same : {n n' e e' : ℕ} (next : ℕ) → n ≡ n' → e ≡ e' → passed n e next ≡ passed n' e' next
passed_same next p q = ap₂ (λ (x y : ℕ). passed x y next) p q

-- a tree is a forest of one
forest_one : (file : List ℕ) (at : ℕ) → forest_from 0 0 (many read_root 1 file at) ≡ nodes_from (read_root file at)
unfolding many ◌>>=◌ onward give forest_from nodes_from sum_of
forest_one file at = one (read_root file at)
  where
    one : (o : Read Nodes) → forest_from 0 0 (onward o (λ t p. got (t ∷ []) p)) ≡ nodes_from o
    one (got t p) = passed_same p (omega arith) (omega arith)
    one (fault i) = refl

module _ (nodes entries : ℕ) where
  -- an absent child in front
  cons_absent : (o : Read (List Nodes)) → forest_from nodes entries (onward o (λ ts p. got (absent ∷ ts) p)) ≡ forest_from nodes entries o
  unfolding onward forest_from sum_of tree_from node_count entry_count
  cons_absent (got ts p) = passed_same p (omega arith) (omega arith)
  cons_absent (fault i) = refl

  -- a node in front, or its two subtrees with the node counted: the trees behind it are read, then the right subtree, then the left one
  module _ (a b c : ℕ) (es : List ℕ) where
    cons_trees : (l r : Nodes) (o : Read (List Nodes))
        → forest_from nodes entries (onward o (λ ts p. got (present a b c es l r ∷ ts) p))
        ≡ forest_from (nodes + 1) (entries + length es) (onward (onward o (λ ts p. got (r ∷ ts) p)) (λ ts p. got (l ∷ ts) p))
    unfolding onward forest_from sum_of tree_from node_count entry_count
    cons_trees l r (got ts p) = passed_same p (omega arith) (omega arith)
    cons_trees l r (fault i) = refl

    cons_right : (l : Nodes) (o : Read Nodes) (forest : ℕ → Read (List Nodes))
        → forest_from nodes entries (onward (onward o (λ r q. got (present a b c es l r) q)) (λ t p. onward (forest p) (λ ts q. got (t ∷ ts) q)))
        ≡ forest_from (nodes + 1) (entries + length es)
        (onward (onward o (λ r p. onward (forest p) (λ ts q. got (r ∷ ts) q))) (λ ts p. got (l ∷ ts) p))
    unfolding onward forest_from
    cons_right l (got r q) forest = cons_trees l r (forest q)
    cons_right l (fault i) forest = refl

    cons_left : (o : Read Nodes) (tree : ℕ → Read Nodes) (forest : ℕ → Read (List Nodes))
        → forest_from nodes entries
        (onward (onward o (λ l p. onward (tree p) (λ r q. got (present a b c es l r) q))) (λ t p. onward (forest p) (λ ts q. got (t ∷ ts) q)))
        ≡ forest_from (nodes + 1) (entries + length es)
        (onward o (λ l p. onward (onward (tree p) (λ r q. onward (forest q) (λ ts s. got (r ∷ ts) s))) (λ ts q. got (l ∷ ts) q)))
    unfolding onward forest_from
    cons_left (got l p) tree forest = cons_right l (tree p) forest
    cons_left (fault i) tree forest = refl

-- what the first row of a forest leaves
module _ (file : List ℕ) (at nodes entries awaited : ℕ) where
  forest_absent : {n : ℕ} → read_head file at ≡ got head_absent n
      → forest_from nodes entries (many read_root (suc awaited) file at) ≡ forest_from nodes entries (many read_root awaited file n)
  unfolding many ◌>>=◌ onward give
  forest_absent {n} e = rw (root_parts file at, e) (cons_absent nodes entries (many read_root awaited file n))

  forest_present : {a b c n : ℕ} {es : List ℕ} → read_head file at ≡ got (head_present a b c es) n
      → forest_from nodes entries (many read_root (suc awaited) file at) ≡ forest_from (nodes + 1) (entries + length es) (many read_root (suc (suc awaited)) file n)
  unfolding many ◌>>=◌ onward give
  forest_present {a} {b} {c} {n} {es} e =
      rw (root_parts file at, e) (cons_left nodes entries a b c es (read_root file n) (read_root file) (many read_root awaited file))

  forest_fault : {i : ℕ} → read_head file at ≡ fault i → forest_from nodes entries (many read_root (suc awaited) file at) ≡ fault i
  unfolding many ◌>>=◌ onward give forest_from
  forest_fault e = rw (root_parts file at, e) refl

-- ── the loop ──

-- the trees that are awaited, with what is counted so far, say the same as the whole tree; each node and each entry has bytes of its own
pub record Awaits (start : Reader) (awaited nodes entries : ℕ) (reader : Reader) : Type 0 where
  pub same_file : reader.file ≡ start.file
  pub same : forest_from nodes entries (many read_root awaited reader.file.now reader.at) ≡ nodes_from (read_root start.file.now start.at)
  pub bound : row_head * nodes + 8 * entries ≤ reader.at
  pub few : awaited ≤ nodes + 1

-- the root is awaited, and nothing is counted yet
pub pass_start : (start : Reader) → Awaits start 1 0 0 start
pass_start start = record { same_file = refl; same = forest_one start.file.now start.at; bound = omega arith; few = omega arith }

module _ {start : Reader} {awaited nodes entries : ℕ} {reader : Reader} (s : Awaits start awaited nodes entries reader) where
  module _ {a b c d q : ℕ} {after : Reader} (m : Moves read_node (answer_of (λ (row : NodeRow). row) (Ok (node.Present a b c d q))) reader after) where
    -- what is counted with this node, and the position behind it
    pub present_room : (row_head * (nodes + 1) + 8 * (entries + d) ≤ after.at) × (reader.at < after.at) × (after.at ≤ length after.file.now) × (length after.file.now ≡ length reader.file.now)
    present_room =
        row_present reader.at (read_head reader.file.now reader.at) m.is λ es g z w.
        let p = head_passes reader.file.now reader.at g in
        (omega (arith, s.bound, p.place), omega (arith, p.place), rw (same_bytes m) p.inside, ap length (same_bytes m))

    -- one node more, and its two subtrees are awaited
    pub pass_present : 0 < awaited → Awaits start (awaited + 1) (nodes + 1) (entries + d) after
    pass_present h =
        row_present reader.at (read_head reader.file.now reader.at) m.is λ es g z w.
        let k : suc (suc (awaited - 1)) ≡ awaited + 1 = omega arith in
        let turn = rw (k, ← (suc_of awaited (λ w. omega arith)), z) at (forest_present reader.file.now reader.at nodes entries (awaited - 1) g) in
        record {
          same_file = m.same_file ∙ s.same_file;
          same = ap (λ (file : List ℕ). forest_from (nodes + 1) (entries + d) (many read_root (awaited + 1) file after.at)) (same_bytes m) ∙ sym turn ∙ s.same;
          bound = present_room.0;
          few = omega (arith, s.few);
        }

  module _ {after : Reader} (m : Moves read_node (answer_of (λ (row : NodeRow). row) (Ok node.Absent)) reader after) where
    -- the position behind an absent child
    pub absent_room : (reader.at < after.at) × (after.at ≤ length after.file.now) × (length after.file.now ≡ length reader.file.now)
    absent_room =
        let p = head_passes reader.file.now reader.at (row_absent reader.at (read_head reader.file.now reader.at) m.is) in
        (omega (arith, p.place), rw (same_bytes m) p.inside, ap length (same_bytes m))

    pub pass_absent : 0 < awaited → Awaits start (awaited - 1) nodes entries after
    pass_absent h =
        let g = row_absent reader.at (read_head reader.file.now reader.at) m.is in
        let turn = rw (← (suc_of awaited (λ w. omega arith))) at (forest_absent reader.file.now reader.at nodes entries (awaited - 1) g) in
        record {
          same_file = m.same_file ∙ s.same_file;
          same = ap (λ (file : List ℕ). forest_from nodes entries (many read_root (awaited - 1) file after.at)) (same_bytes m) ∙ sym turn ∙ s.same;
          bound = omega (arith, s.bound, absent_room.0);
          few = omega (arith, s.few);
        }

  pub pass_fault : {after : Reader} (i : Refusal) → Moves read_node (answer_of (λ (row : NodeRow). row) (Err i)) reader after → 0 < awaited
      → Moves (λ file at. nodes_from (read_root file at)) (answer_of (λ (n : Trees). n) (Err i)) start after
  pass_fault i m h =
      record {
        same_file = m.same_file ∙ s.same_file;
        is =
            sym
            (rw (← (suc_of awaited (λ w. omega arith))) at
            (forest_fault reader.file.now reader.at nodes entries (awaited - 1) (row_fault reader.at (read_head reader.file.now reader.at) m.is)))
            ∙ s.same;
      }

  pub pass_done : awaited ≤ 0
      → Moves (λ file at. nodes_from (read_root file at)) (answer_of (λ (n : Trees). n) (Ok (record { nodes = nodes; entries = entries }))) start reader
  unfolding many give forest_from sum_of
  pass_done h =
      let z : awaited ≡ 0 = omega arith in
      let n : nodes + 0 ≡ nodes = omega arith in
      let m : entries + 0 ≡ entries = omega arith in
      record { same_file = s.same_file; is = rw (z, n, m) at s.same }
