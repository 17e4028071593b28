-- The tables of a closed index and the ledger's file: the blocks of a kind that have a life are those with an entry in its tree, and each kind's part of the file
-- is made of the parts that are put. Assumes nothing.
use mathlib.Core.Path.{◌≡◌, refl, ◌∙◌, ap}
use mathlib.Core.Logic.{inl, inr}
use mathlib.Core.Bool.{Bool, true, false, cond, ◌&&◌, false≢true}
use mathlib.Core.Option.{Option, none, some}
use mathlib.Core.List.{List, [], ◌∷◌, ◌++◌, map, flat_map, flatten, append_assoc, append-nil}
use Prim.Native.Nat.{ℕ, zero, suc, ◌+◌, ◌*◌, ◌≤◌, ◌<◌}
use native.Mathlib.Numerals.{add-one}
use native.Mathlib.Omega.{arith}
use lib.Dec.{ltb}
use lib.ListN.{length, get_or, length-append}
use borrow.Author.Tests.{le-ltb}
use Rattle.lists.specs.Lists.{All, has, count_from, sum_of}
use Rattle.lists.proofs.Numbers.{eq_or_ne}
use Rattle.lists.proofs.Lists.{all_map}
use Rattle.lists.proofs.Maps.{length_of_map, map_all}
use Rattle.lists.proofs.Counting.{count_from_append}
use Rattle.history.specs.Words.{Block, of_kind, own_life, only_kind, those_with}
use Rattle.history.specs.Tree.{Tree, hole, node, mid, tree_at, no_block, block_at, node_count, entry_count, nodes_in, entries_all, entries_in}
use Rattle.history.specs.Rules.{is_hole}
use Rattle.history.specs.Ledger.{Ledger, finished, is_some}
use Rattle.history.specs.Reads.{trees_or_none}
use Rattle.history.specs.Sound.{Sound, SoundTrees, SoundClosed}
use Rattle.history.specs.File.{bytes_of, block_bytes, node_bytes, file_bytes, written, written_blocks, place_in, map_tree, nodes_of, contents, file_of, file_part, file_by}
use Rattle.history.proofs.RulesLaws.{rule23_decides, numbered_decides}
use Rattle.history.proofs.TreeEntries.{entry_life}
use Rattle.history.proofs.FileNumbers.{bytes_of-length}
use Rattle.history.proofs.FileRenumbered.{map_tree-node_count, map_tree-entry_count}
use Rattle.history.proofs.FileKept.{entries_written}
use Rattle.history.proofs.FileLoad.{file_some, file_none}
use Rattle.history.proofs.ByKind.{only_length, only_at}
use Rattle.tables.specs.Columns.{column, block_column, head_end, nodes_count}
use Rattle.block_table.specs.Blocks.{length_at, offset_at, block_of_row, Stored}
use Rattle.block_table.proofs.Blocks.{blocks_at, bytes_length}
use Rattle.segment_table.specs.Closed.{Tables, nodes_used, entries_used, TreeAt, Closed}
use Rattle.layout.specs.Tables.{tables}
use Rattle.layout.specs.Encodes.{Encodes, TreesIn}
use Rattle.layout.proofs.Pieces.{used_fits}
use Rattle.file_put.specs.Living.{lives, living, living_blocks}
use Rattle.file_write.specs.Sizes.{blocks_size, block_count, part_size, file_size}
use Rattle.file_put.proofs.Laying.{flat_map_append, flat_map_map, flat_map_one, block_parts, stored_fewer}
use Rattle.file_nodes.proofs.Listing.{living-below, numbers_length}
use Rattle.file_write.proofs.Planning.{size_rootless, size_rooted}

-- ── which blocks are written ──

those_with-append : (es xs ys : List ℕ) → those_with es (xs ++ ys) ≡ those_with es xs ++ those_with es ys
unfolding those_with
those_with-append es [] ys = refl
those_with-append es (x ∷ xs) ys = rw (those_with-append es xs ys) (go (has x es))
  where
    go : (t : Bool) → cond t (x ∷ (those_with es xs ++ those_with es ys)) (those_with es xs ++ those_with es ys) ≡ cond t (x ∷ those_with es xs) (those_with es xs) ++ those_with es ys
    go true = refl
    go false = refl

-- those with an entry, if they are the ones of the kind that have a life
living_entered : (es blocks : List ℕ) (kind n : ℕ) → ((k : ℕ) → k < n → has k es ≡ lives blocks kind k) → those_with es (count_from 0 n) ≡ living blocks kind n
unfolding living those_with count_from
living_entered es blocks kind zero f = refl
living_entered es blocks kind (suc n) f =
    let more = rw (add-one n) at (count_from_append 0 n 1) in
    let start : 0 + n ≡ n = omega arith in
    ap (those_with es) (rw start at more) ∙ those_with-append es (count_from 0 n) (n ∷ [])
    ∙ rw (living_entered es blocks kind n (λ k h. f k (omega arith)), f n (omega arith)) refl

-- a block has a life for a kind if it is of the kind and has one
lives_own : (kind : ℕ) (b : Block) → ltb (own_life kind b).created (own_life kind b).destroyed ≡ (of_kind kind b && ltb b.created b.destroyed)
unfolding own_life
lives_own kind b = go (of_kind kind b)
  where
    dead : Block
    dead = record { kind = b.kind; stretch = b.stretch; created = 0; destroyed = 0 }

    go : (u : Bool) → ltb (cond u b dead).created (cond u b dead).destroyed ≡ (u && ltb b.created b.destroyed)
    go true = refl
    go false = le-ltb 0 0 (omega arith)

-- ── sizes ──

block_size : (store blocks : List ℕ) (link : ℕ) → offset_at blocks link + length_at blocks link ≤ length store
    → length (block_bytes (block_of_row store blocks link)) ≡ 33 + length_at blocks link
block_size store blocks link h =
    ap length (block_parts store blocks link h) ∙ simp (length-append, bytes_of-length) (omega (arith, bytes_length store blocks link h))

blocks_size_lem : (store blocks : List ℕ) (kind n : ℕ) → Stored (length store) blocks n
    → length (flat_map (λ k. block_bytes (block_of_row store blocks (suc k))) (living blocks kind n)) ≡ blocks_size blocks kind n
unfolding living blocks_size flat_map
blocks_size_lem store blocks kind zero s = refl
blocks_size_lem store blocks kind (suc n) s = go (lives blocks kind n) (blocks_size_lem store blocks kind n (stored_fewer n (omega arith) s))
  where
    f : ℕ → List ℕ
    f k = block_bytes (block_of_row store blocks (suc k))

    go : (t : Bool) → length (flat_map f (living blocks kind n)) ≡ blocks_size blocks kind n
        → length (flat_map f (living blocks kind n ++ cond t (n ∷ []) [])) ≡ blocks_size blocks kind n + cond t (33 + length_at blocks (suc n)) 0
    go true q =
        let one : length (f n) ≡ 33 + length_at blocks (suc n) = block_size store blocks (suc n) (s.inside (suc n) (omega arith) (omega arith)) in
        rw (flat_map_append f (living blocks kind n) (n ∷ []), flat_map_one f n, length-append (flat_map f (living blocks kind n)) (f n)) (omega arith)
    go false q = rw (append-nil (living blocks kind n)) (omega arith)

-- a row for each node, a number for each entry, and one absent child more than nodes
nodes_size : (lo hi : ℕ) (t : Tree) → length (node_bytes (nodes_of lo hi t)) ≡ 34 * node_count t + (8 * entry_count t + 1)
unfolding node_bytes nodes_of node_count entry_count flatten
nodes_size lo hi hole = bytes_of-length 1 0
nodes_size lo hi (node es l r) =
    simp (length-append, bytes_of-length) (omega (arith, numbers_length es, nodes_size lo (mid lo hi) l, nodes_size (mid lo hi) hi r))

-- ── a kind's part ──

-- a kind has a root exactly if it has a tree
root_none : (t : Tables) (kind root lo hi : ℕ) (T : Tree) → root ≡ 0 → TreeAt t kind root lo hi T → T ≡ hole
unfolding TreeAt
root_none t kind root lo hi hole z s = refl
root_none t kind root lo hi (node xs l r) z s = absurd (omega (arith, s.0.some))

root-some : (t : Tables) (kind root lo hi : ℕ) (T : Tree) → (root ≡ 0 → ⊥) → TreeAt t kind root lo hi T → is_hole T ≡ false
unfolding TreeAt
root-some t kind root lo hi hole n s = absurd (n s)
root-some t kind root lo hi (node xs l r) n s = refl

-- What the tables say of a kind's part of the ledger's file.
pub record Agrees (blocks store nodes entries : List ℕ) (l : Ledger) (kind : ℕ) (tree : Tree) : Type 0 where
  pub stands : TreeAt (record { blocks = blocks; nodes = nodes; entries = entries }) kind (column nodes 0 kind) 0 (block_column blocks 0 head_end) tree
  pub known : All (λ k. has k (living blocks kind (block_count blocks)) ≡ true) (entries_in tree)
  pub stored : Stored (length store) blocks (block_count blocks)
  pub blocks_long : length (flat_map block_bytes (living_blocks store blocks kind (block_count blocks))) ≡ blocks_size blocks kind (block_count blocks)
  pub nodes_long : length (node_bytes (nodes_of 0 (block_column blocks 0 head_end) (map_tree (place_in (living blocks kind (block_count blocks))) tree)))
      ≡ 34 * node_count tree + (8 * entry_count tree + 1)
  pub empty : column nodes 0 kind ≡ 0 → (file_part l kind ≡ []) × (tree ≡ hole)
  pub parts : (column nodes 0 kind ≡ 0 → ⊥)
      → file_part l kind
      ≡ (bytes_of 1 kind ++ bytes_of 8 (length (living blocks kind (block_count blocks))))
      ++ (flat_map block_bytes (living_blocks store blocks kind (block_count blocks))
      ++ node_bytes (nodes_of 0 (block_column blocks 0 head_end) (map_tree (place_in (living blocks kind (block_count blocks))) tree)))

-- and of all parts
pub record AllAgree (blocks store nodes entries : List ℕ) (l : Ledger) : Type 0 where
  pub trees : List Tree
  pub five : length trees ≡ nodes_count
  pub each : (kind : ℕ) → kind ≤ 4 → Agrees blocks store nodes entries l kind (tree_at trees kind)
  pub all_rows_lem : nodes_used nodes ≡ nodes_in trees
  pub all_entries_lem : entries_used entries ≡ entries_all trees

module _ (pieces blocks store nodes entries : List ℕ) (l : Ledger) (e : Encodes (tables pieces blocks store nodes entries) l) (s : Sound l) where
  abbrev bs : List Block
  bs = l.now.blocks

  row_block : (k : ℕ) → k < block_count blocks → block_at l.now.blocks k ≡ block_of_row store blocks (suc k)
  row_block k h = ap (λ (bs : List Block). get_or bs k no_block) e.blocks ∙ blocks_at store blocks (block_count blocks) k no_block h

  module _ (trees : List Tree) (is : l.trees ≡ some trees) (closed : Closed (record { blocks = blocks; nodes = nodes; entries = entries }) l.opening.end trees)
      (sound : SoundClosed l trees) (kind : ℕ) (low : kind ≤ 4) where
    abbrev tree : Tree
    tree = tree_at trees kind

    -- block k has an entry if its row is of the kind and has a life
    entered : (k : ℕ) → k < block_count blocks → has k (entries_in tree) ≡ lives blocks kind k
    unfolding block_of_row
    entered k h =
        entry_life l.opening.end (only_kind kind bs) tree (omega (arith, s.board.some_tick)) (sound.each kind low).rule_21 (sound.each kind low).rule_23 k
        (omega (arith, e.count, only_length kind bs))
        ∙ ap (λ (b : Block). ltb b.created b.destroyed) (only_at kind bs k)
        ∙ lives_own kind (block_at bs k)
        ∙ ap (λ (b : Block). of_kind kind b && ltb b.created b.destroyed) (row_block k h)

    those : written l.now.blocks tree ≡ living blocks kind (block_count blocks)
    those = rw (← e.count) (living_entered (entries_in tree) blocks kind (block_count blocks) entered)

    themselves : written_blocks l.now.blocks tree ≡ living_blocks store blocks kind (block_count blocks)
    themselves = rw those (map_all (block_at bs) (λ k. block_of_row store blocks (suc k)) (all_map row_block (living-below blocks kind (block_count blocks))))

    many_blocks : length (written_blocks l.now.blocks tree) ≡ length (living blocks kind (block_count blocks))
    many_blocks = length_of_map (block_at bs) (written bs tree) ∙ ap length those

    stood : TreeAt (record { blocks = blocks; nodes = nodes; entries = entries }) kind (column nodes 0 kind) 0 l.opening.end tree
    stood = closed.stands kind (omega arith)

    -- the ledger's part is that of this tree
    part_is : file_part l kind ≡ file_of kind l.opening.end l.now.blocks tree
    part_is = ap (λ (x : Option (List Tree)). file_of kind l.opening.end bs (tree_at (trees_or_none x) kind)) is

    file_parts : (column nodes 0 kind ≡ 0 → ⊥)
        → file_of kind l.opening.end l.now.blocks tree
        ≡ (bytes_of 1 kind ++ bytes_of 8 (length (living blocks kind (block_count blocks))))
        ++ (flat_map block_bytes (living_blocks store blocks kind (block_count blocks))
        ++ node_bytes (nodes_of 0 (block_column blocks 0 head_end) (map_tree (place_in (living blocks kind (block_count blocks))) tree)))
    unfolding file_bytes contents flatten
    file_parts n =
        file_some kind l.opening.end bs tree (root-some _ kind (column nodes 0 kind) 0 l.opening.end tree n stood)
        ∙ rw (many_blocks, themselves, those, e.end) (simp (append_assoc, append-nil))

    agrees_tree : Agrees blocks store nodes entries l kind tree
    agrees_tree =
        let inside : Stored (length store) blocks (block_count blocks) =
        record { inside = λ link a b. omega (arith, e.blocks_stored.inside link a b, used_fits (tables pieces blocks store nodes entries) l e) } in
        let ks = living blocks kind (block_count blocks) in
        let rule = (rule23_decides l.opening.end (only_kind kind bs) tree).yes (sound.each kind low).rule_23 in
        record {
          stands = rw e.end stood;
          known = rw (← those) (entries_written bs tree ((numbered_decides (length bs) tree).yes (rw (only_length kind bs) at rule.numbers)));
          stored = inside;
          blocks_long = ap length (flat_map_map block_bytes (λ k. block_of_row store blocks (suc k)) ks) ∙ blocks_size_lem store blocks kind (block_count blocks) inside;
          nodes_long =
              nodes_size 0 (block_column blocks 0 head_end) (map_tree (place_in ks) tree)
              ∙ rw (map_tree-node_count (place_in ks) tree, map_tree-entry_count (place_in ks) tree) refl;
          empty = λ z.
              let none : tree ≡ hole = root_none _ kind (column nodes 0 kind) 0 l.opening.end tree z stood in
              (part_is ∙ file_none kind l.opening.end bs tree (ap is_hole none), none);
          parts = λ n. part_is ∙ file_parts n;
        }

  pub all_agree : finished l ≡ true → AllAgree blocks store nodes entries l
  all_agree done = go l.trees refl done e.trees s.closed
    where
      go : (x : Option (List Tree)) → l.trees ≡ x → is_some x ≡ true → TreesIn (tables pieces blocks store nodes entries) l x → SoundTrees l x → AllAgree blocks store nodes entries l
      go none q d a b = absurd (false≢true d)
      go (some trees) q d a b = record { trees = trees; five = a.five; each = agrees_tree trees q a b; all_rows_lem = a.all_rows_lem; all_entries_lem = a.all_entries_lem }

-- ── how long it is ──

module _ (blocks store nodes entries : List ℕ) (l : Ledger) where
  pub part_long : (kind : ℕ) (tree : Tree) → Agrees blocks store nodes entries l kind tree → length (file_part l kind) ≡ part_size blocks nodes kind + (34 * node_count tree + 8 * entry_count tree)
  unfolding node_count entry_count
  part_long kind tree a =
      elim (eq_or_ne (column nodes 0 kind) 0) [
        | inl z ↦
            let e = a.empty z in
            ap length e.0 ∙ omega (arith, size_rootless blocks nodes kind z, ap node_count e.1, ap entry_count e.1)
        | inr n ↦ ap length (a.parts n) ∙ simp (length-append, bytes_of-length) (omega (arith, a.blocks_long, a.nodes_long, size_rooted blocks nodes kind n))
      ]

  -- the parts of the trees of the kinds from one on
  parts_long : (kind : ℕ) (trees : List Tree) → ((j : ℕ) → j < length trees → Agrees blocks store nodes entries l (kind + j) (tree_at trees j))
      → length (flat_map (file_part l) (count_from kind (length trees)))
      ≡ sum_of (map (part_size blocks nodes) (count_from kind (length trees))) + (34 * nodes_in trees + 8 * entries_all trees)
  unfolding count_from sum_of flat_map
  parts_long kind [] each = omega arith
  parts_long kind (T ∷ trees) each =
      let z : kind + 0 ≡ kind = omega arith in
      let own : Agrees blocks store nodes entries l kind T = rw z at (each 0 (omega arith)) in
      let rest = parts_long (suc kind) trees (λ j h. let s : suc kind + j ≡ kind + suc j = omega arith in rw s (each (suc j) (omega arith))) in
      length-append (file_part l kind) (flat_map (file_part l) (count_from (suc kind) (length trees))) ∙ omega (arith, part_long kind T own, rest)

  pub file_long : AllAgree blocks store nodes entries l → length (file_by l) ≡ file_size blocks nodes entries
  file_long a =
      let all = parts_long 0 a.trees (λ j h. let z : 0 + j ≡ j = omega arith in rw z (a.each j (omega (arith, a.five)))) in
      (rw a.five at all) ∙ omega (arith, a.all_rows_lem, a.all_entries_lem)
