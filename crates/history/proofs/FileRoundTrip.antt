-- A file that is written and read is the file, and the bytes of a file that was read are those read: block, nodes, file. Assumes nothing.
use mathlib.Core.Path.{◌≡◌, refl, ◌∙◌, ap, subst}
use mathlib.Core.Bool.{true}
use mathlib.Core.List.{List, [], flatten, ◌++◌, append-nil}
use Prim.Native.Nat.{ℕ, ◌<◌, ◌≤◌, ◌^◌, ◌+◌, ◌-◌, zero, suc}
use native.Mathlib.Omega.{arith}
use lib.ListN.{length, length-append}
use lib.Dec.{eqb, leb}
use borrow.Author.Tests.{eqb-true, eq-eqb, le-leb, leb-true, eqb-false}
use Rattle.lists.specs.Lists.{All}
use Rattle.lists.proofs.Lists.{all_map}
use Rattle.history.specs.Words.{Block, line_of, cell_place, first_cell, size}
use Rattle.history.specs.File.{file_bytes, block_bytes, node_bytes, bytes_of, number, read_block, read_nodes, read_root, read_file, Nodes, absent, present, File}
use Rattle.history.proofs.FileNumbers.{bytes_of-length, Bytes}
use Rattle.history.proofs.FileReads.{stands_fits, reads_give, reads_bind, reads_check, reads_field, reads_number, reads_many, Reads}
use Rattle.history.proofs.FileYields.{fault_got, yields_give, yields_check, yields_cond, yields_bind, gives_field, gives_many, gives_number, Gives}

-- ── every number fits its field ──

-- a block of the file's kind
pub record BlockFits (kind : ℕ) (b : Block) : Type 0 where
  pub own : b.kind ≡ kind
  pub line : line_of b.kind ≤ b.stretch.first
  pub first : first_cell b < 2 ^ 64
  pub cells : size b.stretch < 2 ^ 64
  pub born : b.created < 2 ^ 64
  pub died : b.destroyed < 2 ^ 64

-- intervals, counts and block numbers
pub data NodesFit : Nodes → Type 0 where
  absent_fits : NodesFit absent
  present_fits : {min max middle : ℕ} {es : List ℕ} {l r : Nodes} → min < 2 ^ 64 → max < 2 ^ 64 → middle < 2 ^ 64
      → length es < 2 ^ 64 → All (λ k. k < 2 ^ 64) es → NodesFit l → NodesFit r → NodesFit (present min max middle es l r)

-- a known kind, and all of them
pub record FileFits (f : File) : Type 0 where
  pub kindly : f.kind ≤ 4
  pub count : length f.blocks < 2 ^ 64
  pub blocks : All (BlockFits f.kind) f.blocks
  pub nodes : NodesFit f.nodes

-- ── written and read ──

-- a block
pub reads_block : (kind : ℕ) → kind ≤ 4 → (b : Block) → BlockFits kind b → Reads (read_block kind) (block_bytes b) b
unfolding read_block block_bytes flatten
reads_block kind h b f =
    subst (λ (x : Block). Reads (read_block kind) (block_bytes b) x)
    (ap (λ (place : ℕ). record { kind = b.kind; stretch = record { first = place; bytes = b.stretch.bytes }; created = b.created; destroyed = b.destroyed }) same)
    (reads_bind _ (reads_number 1 b.kind (rw f.own (omega arith)))
    (reads_check 18 _ (eq-eqb _ _ f.own)
    (reads_bind _ (reads_number 8 _ f.first)
    (reads_bind _ (reads_number 8 _ f.cells)
    (reads_bind _ (reads_number 8 _ f.born)
    (reads_bind _ (reads_number 8 _ f.died) (reads_bind _ (reads_field _ b.stretch.bytes refl) (reads_give _))))))))
  where
    same : cell_place b.kind (first_cell b) ≡ b.stretch.first
    same = omega (arith, f.line)

-- the two children have fewer bytes than their parent
nodes_shorter : (min max middle : ℕ) (es : List ℕ) (l r : Nodes) → length (node_bytes l) + length (node_bytes r) < length (node_bytes (present min max middle es l r))
unfolding node_bytes flatten
nodes_shorter min max middle es l r = simp length-append (omega (arith, bytes_of-length 1 1))

nodes_some : (t : Nodes) → 0 < length (node_bytes t)
unfolding node_bytes
nodes_some absent = omega (arith, bytes_of-length 1 0)
nodes_some (present min max middle es l r) = omega (arith, nodes_shorter min max middle es l r)

-- the nodes, with fuel for their bytes
pub reads_nodes : (fuel : ℕ) (t : Nodes) → length (node_bytes t) ≤ fuel → NodesFit t → Reads (read_nodes fuel) (node_bytes t) t
unfolding read_nodes node_bytes flatten bytes_of
reads_nodes zero t h f = absurd (omega (arith, nodes_some t))
reads_nodes (suc n) t h absent_fits = reads_bind _ (reads_number 1 0 (omega arith)) (reads_check 19 true refl (reads_give absent))
reads_nodes (suc n) t h (present_fits {min} {max} {middle} {es} {l} {r} a b c d e f g) =
    let short : length (node_bytes l) + length (node_bytes r) < suc n = omega (arith, nodes_shorter min max middle es l r) in
    let left : Reads (read_nodes n) (node_bytes l) l = reads_nodes n l (omega arith) f in
    let right : Reads (read_nodes n) (node_bytes r) r = reads_nodes n r (omega arith) g in
    reads_bind _ (reads_number 1 1 (omega arith))
    (reads_check 19 true refl
    (reads_bind _ (reads_number 8 min a)
    (reads_bind _ (reads_number 8 max b)
    (reads_bind _ (reads_number 8 middle c)
    (reads_bind _ (reads_number 8 (length es) d)
    (reads_bind _ (reads_many (number 8) (bytes_of 8) (all_map (λ k p. reads_number 8 k p) e))
    (reads_bind _ left (reads_bind _ right (reads_give (present min max middle es l r))))))))))

-- with a file for fuel
pub reads_root : (t : Nodes) → NodesFit t → Reads read_root (node_bytes t) t
unfolding read_root
reads_root t f =
    record {
      gives = λ file at s.
          let room : length (node_bytes t) ≤ length file = omega (arith, stands_fits s) in
          (reads_nodes (length file) t room f).gives file at s;
    }

-- a file
pub reads_file : (f : File) → FileFits f → Reads read_file (file_bytes f) f
unfolding read_file file_bytes flatten
reads_file f h =
    let kind : f.kind < 256 = omega (arith, h.kindly) in
    reads_bind _ (reads_number 1 f.kind kind)
    (reads_check 18 _ (le-leb f.kind 4 h.kindly)
    (reads_bind _ (reads_number 8 (length f.blocks) h.count)
    (reads_bind _ (reads_many (read_block f.kind) block_bytes (all_map (λ b p. reads_block f.kind h.kindly b p) h.blocks))
    (reads_bind _ (reads_root f.nodes h.nodes) (reads_give f)))))

-- ── read and written ──

module _ (file : List ℕ) (bytes : Bytes file) where
  -- a block
  pub gives_block : (kind : ℕ) → Gives file (read_block kind) block_bytes (BlockFits kind)
  unfolding read_block block_bytes flatten
  gives_block kind =
      yields_bind file _ (gives_number file bytes 1) λ own _.
      yields_check file 18 (eqb own kind) λ same.
      yields_bind file _ (gives_number file bytes 8) λ first a.
      yields_bind file _ (gives_number file bytes 8) λ cells b.
      yields_bind file _ (gives_number file bytes 8) λ born c.
      yields_bind file _ (gives_number file bytes 8) λ died d.
      yields_bind file _ (gives_field file cells) λ bs e.
      let cell : cell_place own first - line_of own ≡ first = omega arith in
      yields_give file _ (record { own = eqb-true own kind same; line = omega arith; first = rw cell a; cells = rw e b; born = c; died = d }, rw (e, cell) refl)

  -- the nodes
  pub gives_nodes : (fuel : ℕ) → Gives file (read_nodes fuel) node_bytes NodesFit
  unfolding read_nodes node_bytes flatten
  gives_nodes zero = record { yields = λ at x n h e. absurd (fault_got e) }
  gives_nodes (suc fuel) =
      yields_bind file _ (gives_number file bytes 1) λ presence _.
      yields_check file 19 (leb presence 1) λ known.
      yields_cond file (eqb presence 0)
      (λ none. yields_give file absent (absent_fits, ap (λ (k : ℕ). bytes_of 1 k ++ []) (eqb-true presence 0 none) ∙ append-nil (bytes_of 1 0)))
      λ some.
      let one : presence ≡ 1 = omega (arith, leb-true presence 1 known, eqb-false presence 0 some) in
      yields_bind file _ (gives_number file bytes 8) λ min a.
      yields_bind file _ (gives_number file bytes 8) λ max b.
      yields_bind file _ (gives_number file bytes 8) λ middle c.
      yields_bind file _ (gives_number file bytes 8) λ count d.
      yields_bind file _ (gives_many file (number 8) (gives_number file bytes 8) count) λ es e.
      yields_bind file _ (gives_nodes fuel) λ l f.
      yields_bind file _ (gives_nodes fuel) λ r g.
      yields_give file _ (present_fits a b c (rw e.0 d) e.1 f g, rw (one, e.0) refl)

  -- the root
  pub gives_root : Gives file read_root node_bytes NodesFit
  unfolding read_root
  gives_root = record { yields = λ at x n h e. (gives_nodes (length file)).yields at x n h e }

  -- a file
  pub gives_file : Gives file read_file file_bytes FileFits
  unfolding read_file file_bytes flatten
  gives_file =
      yields_bind file _ (gives_number file bytes 1) λ kind _.
      yields_check file 18 (leb kind 4) λ known.
      yields_bind file _ (gives_number file bytes 8) λ count a.
      yields_bind file _ (gives_many file (read_block kind) (gives_block kind) count) λ bs b.
      yields_bind file _ gives_root λ t c.
      yields_give file _ (record { kindly = leb-true kind 4 known; count = rw b.0 a; blocks = b.1; nodes = c }, rw b.0 refl)
