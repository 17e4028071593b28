-- The file of a closed index (01, "spacetime_index.rs"): its bytes as a function, its reader field after field, and the loader with its refusals
-- 17 to 24. Definitions alone: their laws stand in proofs/.
use Rattle.std.specs.Prelude.{Bool, true, cond, ◌&&◌, ℕ, zero, suc, ◌+◌, ◌*◌, ◌^◌, ◌/◌, ◌%◌, length, take, drop, leb, ltb, eqb}
use mathlib.Core.List.{List, [], ◌∷◌, map, flat_map, flatten}
use Rattle.std.proofs.Math.Option.{some}
use Rattle.lists.specs.Lists.{count_from, sum_of}
use Rattle.history.specs.Words.{Block, a_block, all_kinds, size, first_cell}
unfoldable pub use Rattle.history.specs.Words.{those_with}
use Rattle.history.specs.Lent.{Lent, block_rows, node_rows, entry_rows}
use Rattle.history.specs.Tree.{Tree, hole, node, mid, block_at, node_count, entry_count, entries_in}
use Rattle.history.specs.Rules.{every, halved, filled, lived, rule23, apart}
use Rattle.history.specs.Ledger.{Ledger, empty, with_blocks, with_store, with_now, with_trees, opening_for}
use Rattle.history.specs.Reads.{tree_in}
use Rattle.history.specs.Refusals.{Answer, first_of, write_refusals}

infixl 20 ◌>>=◌ ◌>>◌
infix 25 refuse◌unless◌
-- ── what a file says ──

-- the nodes with min, max and mid as they stand in the file: an absent child, or a node
pub data Nodes : Type 0 where
  absent : Nodes
  present : (min max middle : ℕ) (entries : List ℕ) (left right : Nodes) → Nodes

-- File: kind, 1 byte; block count; blocks; then the nodes.
pub record File : Type 0 where
  pub kind : ℕ
  pub blocks : List Block
  pub nodes : Nodes

-- ── numbers ──

-- a number in so many bytes, little-endian
unfoldable pub bytes_of : (width number : ℕ) → List ℕ
bytes_of zero n = []
bytes_of (suc width) n = n % 256 ∷ bytes_of width (n / 256)

-- the number that bytes stand for
unfoldable pub number_of : List ℕ → ℕ
number_of [] = 0
number_of (b ∷ bs) = b + 256 * number_of bs

-- ── writing ──

-- A block is kind byte, first cell, length, created, destroyed, bytes.
unfoldable pub block_bytes : Block → List ℕ
block_bytes b =
    flatten
    (bytes_of 1 b.kind ∷ bytes_of 8 (first_cell b) ∷ bytes_of 8 (size b.stretch)
    ∷ bytes_of 8 b.created ∷ bytes_of 8 b.destroyed ∷ b.stretch.bytes ∷ [])

-- A node is byte 1, min, max, mid, entry count, block numbers; an absent child is byte 0. Root first, left before right.
unfoldable pub node_bytes : Nodes → List ℕ
node_bytes absent = bytes_of 1 0
node_bytes (present min max middle es l r) =
    flatten
    (bytes_of 1 1 ∷ bytes_of 8 min ∷ bytes_of 8 max ∷ bytes_of 8 middle
    ∷ bytes_of 8 (length es) ∷ flat_map (bytes_of 8) es ∷ node_bytes l ∷ node_bytes r ∷ [])

-- the kind, the block count, the blocks, the nodes
unfoldable pub file_bytes : File → List ℕ
file_bytes f =
    flatten (bytes_of 1 f.kind ∷ bytes_of 8 (length f.blocks) ∷ flat_map block_bytes f.blocks ∷ node_bytes f.nodes ∷ [])

-- Only blocks with an entry are written, in recorded order: their numbers ..
abbrev pub written : List Block → Tree → List ℕ
written bs tree = those_with (entries_in tree) (count_from 0 (length bs))

-- .. and they themselves
abbrev pub written_blocks : List Block → Tree → List Block
written_blocks bs tree = map (block_at bs) (written bs tree)

-- a number's place in a list
unfoldable pub place_in : List ℕ → (k : ℕ) → ℕ
place_in [] k = 0
place_in (x ∷ xs) k =
    let later = suc (place_in xs k) in
    cond (eqb k x) 0 later

-- the tree with other block numbers
unfoldable pub map_tree : (ℕ → ℕ) → Tree → Tree
map_tree f hole = hole
map_tree f (node es l r) = node (map f es) (map_tree f l) (map_tree f r)

-- They are numbered so from 0: a block's new number is its place among those written.
abbrev pub new_number : List Block → Tree → (k : ℕ) → ℕ
new_number bs tree = place_in (written bs tree)

-- the tree with the new numbers
abbrev pub renumbered : List Block → Tree → Tree
renumbered bs tree = map_tree (new_number bs tree) tree

-- a tree's nodes with their intervals, passed down from [lo, hi)
unfoldable pub nodes_of : (lo hi : ℕ) → Tree → Nodes
nodes_of lo hi hole = absent
nodes_of lo hi (node es l r) = present lo hi (mid lo hi) es (nodes_of lo (mid lo hi) l) (nodes_of (mid lo hi) hi r)

-- what the file of one kind's tree says
unfoldable pub contents : (kind end : ℕ) → List Block → Tree → File
contents kind e bs tree = record { kind = kind; blocks = written_blocks bs tree; nodes = nodes_of 0 e (renumbered bs tree) }

-- A kind without blocks has no tree, and writes no bytes.
unfoldable pub file_of : (kind end : ℕ) → List Block → Tree → List ℕ
file_of kind e bs hole = []
file_of kind e bs (node es l r) = file_bytes (contents kind e bs (node es l r))

-- the part of a kind in the file of a ledger
abbrev pub file_part : Ledger → (kind : ℕ) → List ℕ
file_part l kind = file_of kind l.opening.end l.now.blocks (tree_in l kind)

-- the file of a ledger: trees are written one after the other by kind code, each numbering its own blocks
abbrev pub file_by : Ledger → List ℕ
file_by l = flat_map (file_part l) all_kinds

-- where a kind's part begins in it
abbrev pub part_at : Ledger → (kind : ℕ) → ℕ
part_at l kind = length (flat_map (file_part l) (count_from 0 kind))

-- what write answers: the file's bytes, which go into a slice of so many
abbrev pub write_answer : Ledger → (out : ℕ) → Answer (List ℕ)
write_answer l out = first_of (write_refusals l out (length (file_by l))) (file_by l)

-- ── reading ──

-- a value with the next position, or the number of the first fault
pub data Read (A : Type 0) : Type 0 where
  got : (value : A) (next : ℕ) → Read A
  fault : (number : ℕ) → Read A

-- The loader reads fields one after the other from the file's bytes, from a position on.
abbrev pub Reader : Type 0 → Type 0
Reader A = (file : List ℕ) (at : ℕ) → Read A

-- a fault ends the reading
unfoldable pub onward : {A B : Type 0} → Read A → (A → ℕ → Read B) → Read B
onward (got x next) k = k x next
onward (fault n) k = fault n

-- one reader, then that which its value leads to
unfoldable pub ◌>>=◌ : {A B : Type 0} → Reader A → (A → Reader B) → Reader B
◌>>=◌ r k file at = onward (r file at) (λ x next. k x file next)

-- one reader, then another
abbrev pub ◌>>◌ : {A B : Type 0} → Reader A → Reader B → Reader B
r >> s = r >>= (λ _. s)

-- a value, without reading
unfoldable pub give : {A : Type 0} → A → Reader A
give x file at = got x at

-- the refusal, unless the test holds
unfoldable pub refuse◌unless◌ : (number : ℕ) → Bool → Reader (Unit {0})
(refuse n unless t) file at = cond t (got tt at) (fault n)

-- 17: bytes end inside a field
unfoldable pub field : (width : ℕ) → Reader (List ℕ)
field width file at =
    let bytes = got (take width (drop at file)) (at + width) in
    cond (leb (at + width) (length file)) bytes (fault 17)

-- Every number is 8 bytes, little-endian; a kind or presence is 1 byte.
unfoldable pub number : (width : ℕ) → Reader ℕ
number width = do
  bytes ← field width
  give (number_of bytes)

-- so many, one after the other
unfoldable pub many : {A : Type 0} → Reader A → (count : ℕ) → Reader (List A)
many r zero = give []
many r (suc n) = do
  x ← r
  xs ← many r n
  give (x ∷ xs)

-- 18: a block's kind unlike the file's
unfoldable pub read_block : (kind : ℕ) → Reader Block
read_block kind = do
  own ← number 1
  refuse 18 unless (eqb own kind)
  first ← number 8
  cells ← number 8
  created ← number 8
  destroyed ← number 8
  bytes ← field cells
  give (a_block own first bytes created destroyed)

-- a node, whose children are read by `child`. 19: a presence byte other than 0 or 1.
abbrev pub read_node : (child : Reader Nodes) → Reader Nodes
read_node child = do
  presence ← number 1
  refuse 19 unless (leb presence 1)
  let node = do
    min ← number 8
    max ← number 8
    middle ← number 8
    count ← number 8
    entries ← many (number 8) count
    left ← child
    right ← child
    give (present min max middle entries left right)
  cond (eqb presence 0) (give absent) node

-- Each node takes a byte: with as much fuel as bytes are left, none is left when it is spent.
unfoldable pub read_nodes : (fuel : ℕ) → Reader Nodes
read_nodes zero = λ file at. fault 17
read_nodes (suc fuel) = read_node (λ file at. read_nodes fuel file at)

-- no more nodes than the file has bytes
unfoldable pub read_root : Reader Nodes
read_root file at = read_nodes (length file) file at

-- 18: a kind byte above 4
unfoldable pub read_file : Reader File
read_file = do
  kind ← number 1
  refuse 18 unless (leb kind 4)
  count ← number 8
  blocks ← many (read_block kind) count
  nodes ← read_root
  give (record { kind = kind; blocks = blocks; nodes = nodes })

-- ── loading ──

-- the tree without what the file says of intervals
unfoldable pub tree_from : Nodes → Tree
tree_from absent = hole
tree_from (present min max middle es l r) = node es (tree_from l) (tree_from r)

-- E is the root's max: without a root it is out of range
abbrev pub end_of : Nodes → ℕ
end_of absent = 0
end_of (present min max middle es l r) = max

-- every node is the half that it should be, from [lo, hi) on, with its mid
unfoldable pub placed_in : (lo hi : ℕ) → Nodes → Bool
placed_in lo hi absent = true
placed_in lo hi (present min max middle es l r) =
    (eqb min lo && (eqb max hi && eqb middle (mid lo hi))) && (placed_in lo (mid lo hi) l && placed_in (mid lo hi) hi r)

-- unless 20: blocks, nodes, entries or bytes exceed a table
unfoldable pub rule20 : Lent → File → Bool
rule20 n f =
    leb (length f.blocks) (block_rows n)
    && (leb (node_count (tree_from f.nodes)) (node_rows n)
    && (leb (entry_count (tree_from f.nodes)) (entry_rows n) && leb (sum_of (map (λ b. size b.stretch) f.blocks)) n.store))

-- unless 21: no root, root min not 0, E out of range, a wrong mid, a child that isn't the half, a child of a node of width 1
unfoldable pub rule21 : Nodes → Bool
rule21 t = (ltb 0 (end_of t) && leb (end_of t) (2 ^ 63)) && (placed_in 0 (end_of t) t && halved 0 (end_of t) (tree_from t))

-- unless 22: no block, or one with length 0, an end above 2^64 − 1, created ≥ destroyed, or destroyed > E
unfoldable pub rule22 : (end : ℕ) → List Block → Bool
rule22 e bs = ltb 0 (length bs) && every (λ b. filled b && lived e b) bs

-- a loaded index
pub record Loaded : Type 0 where
  pub end : ℕ
  pub kind : ℕ
  pub blocks : List Block
  pub tree : Tree

-- what the file says, as an index
abbrev pub loaded_from : File → Loaded
loaded_from f = record { end = end_of f.nodes; kind = f.kind; blocks = f.blocks; tree = tree_from f.nodes }

-- a tree of one kind, among the others' holes
abbrev pub trees_with : (kind : ℕ) → Tree → List Tree
trees_with kind tree = map (λ k. cond (eqb kind k) tree hole) all_kinds

-- the ledger of a loaded index, opened for its kind alone: no pieces, the last accepted tick 0, the blocks' bytes one after the other
abbrev pub loaded_ledger : Lent → Loaded → Ledger
loaded_ledger n x =
    let fresh = empty (opening_for x.end (x.kind ∷ []) n) in
    let bytes = flat_map (λ b. b.stretch.bytes) x.blocks in
    with_trees (some (trees_with x.kind x.tree)) (with_now (with_blocks x.blocks (with_store bytes fresh.now)) fresh)

-- what loading the file of a kind's tree gives: the blocks with an entry, under their new numbers
abbrev pub reloaded : (kind end : ℕ) → List Block → Tree → Loaded
reloaded kind e bs tree = record { end = e; kind = kind; blocks = written_blocks bs tree; tree = renumbered bs tree }

-- the ledger that loading a kind's part of the file of a closed one gives
abbrev pub saved_ledger : Lent → Ledger → (kind : ℕ) → Ledger
saved_ledger n l kind = loaded_ledger n (reloaded kind l.opening.end l.now.blocks (tree_in l kind))

-- Loading takes one tree: it starts at a position and gives the next one; it is refused in checking order.
unfoldable pub load : Lent → Reader Loaded
load n = do
  f ← read_file
  let x = loaded_from f
  refuse 20 unless (rule20 n f)
  refuse 21 unless (rule21 f.nodes)
  refuse 22 unless (rule22 x.end x.blocks)
  refuse 23 unless (rule23 x.end x.blocks x.tree)
  refuse 24 unless (apart x.blocks)
  give x
