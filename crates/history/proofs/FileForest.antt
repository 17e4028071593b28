-- The nodes as a loop meets them: so many subtrees still to come, and the first byte of the next decides. A present node leaves two more to come.
-- Assumes nothing.
use mathlib.Core.Path.{◌≡◌, refl, ◌∙◌}
use mathlib.Core.List.{List, [], ◌∷◌}
use Prim.Native.Nat.{ℕ, ◌<◌, ◌≤◌, ◌+◌, suc, ◌*◌}
use native.Mathlib.Omega.{arith}
use lib.ListN.{length, get_or}
use Rattle.history.specs.File.{got, ◌>>=◌, onward, give, refuse◌unless◌, number, many, read_root, Nodes, absent, Read, fault, Reader, read_node, present}
use Rattle.history.proofs.FileNumbers.{Bytes}
use Rattle.history.proofs.FileReads.{byte_read}
use Rattle.history.proofs.FileFields.{numbers_read, four_read, four_cut, number_at, numbers_at}
use Rattle.history.proofs.FileFuel.{read_root_node}

-- ── a node, whatever its children are read by ──

-- a present node's head: the presence byte, min, max, mid and the entry count
abbrev pub node_head_bytes : ℕ
node_head_bytes = 33

-- where the first child stands
abbrev pub child_at : (file : List ℕ) (at : ℕ) → ℕ
child_at file at = at + node_head_bytes + 8 * number_at file (at + 25)

-- the node with its children
abbrev pub node_at : (file : List ℕ) (at : ℕ) (left right : Nodes) → Nodes
node_at file at = present (number_at file (at + 1)) (number_at file (at + 9)) (number_at file (at + 17)) (numbers_at 8 file (at + node_head_bytes) (number_at file (at + 25)))

module _ (child : Reader Nodes) (file : List ℕ) (at : ℕ) (inside : at < length file) where
  -- byte 0
  pub node_absent : get_or file at 0 ≡ 0 → read_node child file at ≡ got absent (at + 1)
  unfolding ◌>>=◌ onward refuse◌unless◌ give
  node_absent e = rw (byte_read file at inside, e) refl

  module _ (e : get_or file at 0 ≡ 1) where
    -- behind the presence byte: the four numbers, the entries, the children
    abbrev behind : ℕ → ℕ → ℕ → ℕ → Reader Nodes
    behind low high middle n = many (number 8) n >>= (λ es. child >>= (λ l. child >>= (λ r. give (present low high middle es l r))))

    -- cut in the head
    pub node_short : length file < at + node_head_bytes → read_node child file at ≡ fault 17
    unfolding ◌>>=◌ onward refuse◌unless◌
    node_short h =
        rw (byte_read file at inside, e)
        (four_cut behind file (at + 1) (at + 9) (at + 17) (at + 25) (at + 33) (omega arith) (omega arith) (omega arith) (omega arith) h)

    -- whole: the two children follow
    pub node_whole : child_at file at ≤ length file
        → read_node child file at ≡ onward (child file (child_at file at)) (λ l m. onward (child file m) (λ r n. got (node_at file at l r) n))
    unfolding ◌>>=◌ onward refuse◌unless◌ give
    node_whole h =
        rw (byte_read file at inside, e)
        (four_read behind file (at + 1) (at + 9) (at + 17) (at + 25) (at + 33) (omega arith) (omega arith) (omega arith) (omega arith) (omega arith)
        ∙ rw (numbers_read 8 file (number_at file (at + 25)) (at + 33) h) refl)

-- ── subtrees still to come ──

-- a present node, of the first two of the subtrees read behind its head
abbrev pub node_over : (file : List ℕ) (at : ℕ) → List Nodes → List Nodes
node_over file at [] = []
node_over file at (l ∷ []) = []
node_over file at (l ∷ r ∷ ts) = node_at file at l r ∷ ts

module _ (file : List ℕ) (bytes : Bytes file) (p at : ℕ) where
  module _ (inside : at < length file) where
    -- byte 0: one fewer to come
    pub forest_absent : get_or file at 0 ≡ 0 → many read_root (suc p) file at ≡ onward (many read_root p file (at + 1)) (λ ts n. got (absent ∷ ts) n)
    unfolding many ◌>>=◌ onward give
    forest_absent e = rw (read_root_node file bytes at, node_absent read_root file at inside e) refl

    module _ (e : get_or file at 0 ≡ 1) where
      -- one that is whole leaves two more to come
      pub forest_present : child_at file at ≤ length file
          → many read_root (suc p) file at ≡ onward (many read_root (suc (suc p)) file (child_at file at)) (λ ts n. got (node_over file at ts) n)
      unfolding many ◌>>=◌ onward give
      forest_present h =
          rw (read_root_node file bytes at, node_whole read_root file at inside e h) (left (read_root file (child_at file at)))
        where
          rest : (r : Nodes) (l : Nodes) (o : Read (List Nodes))
              → onward o (λ ts n. got (node_at file at l r ∷ ts) n)
              ≡ onward (onward (onward o (λ ts n. got (r ∷ ts) n)) (λ ts n. got (l ∷ ts) n)) (λ ts n. got (node_over file at ts) n)
          rest r l (got ts n) = refl
          rest r l (fault i) = refl

          right : (l : Nodes) (o : Read Nodes)
              → onward (onward o (λ r n. got (node_at file at l r) n)) (λ t n. onward (many read_root p file n) (λ ts m. got (t ∷ ts) m))
              ≡ onward (onward (onward o (λ r n. onward (many read_root p file n) (λ ts m. got (r ∷ ts) m))) (λ ts n. got (l ∷ ts) n)) (λ ts n. got (node_over file at ts) n)
          right l (got r n) = rest r l (many read_root p file n)
          right l (fault i) = refl

          left : (o : Read Nodes)
              → onward (onward o (λ l m. onward (read_root file m) (λ r n. got (node_at file at l r) n))) (λ t n. onward (many read_root p file n) (λ ts m. got (t ∷ ts) m))
              ≡ onward (onward o (λ l m. onward (onward (read_root file m) (λ r n. onward (many read_root p file n) (λ ts k. got (r ∷ ts) k))) (λ ts n. got (l ∷ ts) n))) (λ ts n. got (node_over file at ts) n)
          left (got l m) = right l (read_root file m)
          left (fault i) = refl
