-- The parts of a file that was read, each where it stands: what the loader knows after the first pass. Assumes nothing.
use mathlib.Core.Path.{◌≡◌, refl}
use mathlib.Core.List.{List}
use Prim.Native.Nat.{ℕ, ◌+◌, ◌≤◌}
use native.Mathlib.Omega.{arith}
use lib.ListN.{length}
use borrow.Author.Tests.{leb-true}
use Rattle.history.specs.Tree.{node_count, entry_count}
use Rattle.history.specs.File.{File, Read, got, fault, ◌>>=◌, give, number, many, read_block, read_root, read_file, tree_from}
use Rattle.history.proofs.FileYields.{got_value, got_next}
use Rattle.history.specs.Refusals.{accepted, refused}
use Rattle.file_scan.specs.Counts.{Scanned, bytes_in, nodes_at, scan_of}
use Rattle.fields.proofs.Reading.{number_passes}
use Rattle.file_scan.proofs.Readers.{onward_got, refuse_got}
use Rattle.file_scan.proofs.Scanning.{blocks_end, counts_of}

-- ── the parts ──

-- kind, block count, blocks and nodes, one behind the other
pub record Parts (file : List ℕ) (at : ℕ) (f : File) (next : ℕ) : Type 0 where
  pub kind : number 1 file at ≡ got f.kind (at + 1)
  pub low : f.kind ≤ 4
  pub count : number 8 file (at + 1) ≡ got (length f.blocks) (at + 9)
  pub blocks : many (read_block f.kind) (length f.blocks) file (at + 9) ≡ got f.blocks (nodes_at at f.blocks)
  pub nodes : read_root file (nodes_at at f.blocks) ≡ got f.nodes next

pub file_parts : (file : List ℕ) (at : ℕ) {f : File} {next : ℕ} → read_file file at ≡ got f next → Parts file at f next
unfolding read_file ◌>>=◌ give
file_parts file at {f} {next} e =
    onward_got _ _ e λ kind p e₁ r₁.
    refuse_got 18 _ _ _ _ r₁ λ t r₂.
    onward_got _ _ r₂ λ count q e₂ r₃.
    onward_got _ _ r₃ λ bs s e₃ r₄.
    onward_got _ _ r₄ λ ns u e₄ r₅.
    let s₁ = number_passes file at 1 e₁ in
    let s₂ = number_passes file p 8 e₂ in
    let (end, all) = blocks_end kind file q count e₃ in
    let p₁ : p ≡ at + 1 = omega arith in
    let q₉ : q ≡ at + 9 = omega arith in
    let n : s ≡ nodes_at at bs = omega arith in
    rw (← (got_value r₅), ← (got_next r₅))
    (record {
      kind = rw p₁ at e₁;
      low = leb-true kind 4 t;
      count = rw (p₁, q₉, ← all) at e₂;
      blocks = rw (q₉, ← all, n) at e₃;
      nodes = rw n at e₄;
    })

-- ── what the counts say of the file ──

pub record Counted (at : ℕ) (f : File) (kind blocks bytes nodes entries first start : ℕ) : Type 0 where
  pub same_kind : kind ≡ f.kind
  pub same_blocks : blocks ≡ length f.blocks
  pub same_bytes : bytes ≡ bytes_in f.blocks
  pub same_nodes : nodes ≡ node_count (tree_from f.nodes)
  pub same_entries : entries ≡ entry_count (tree_from f.nodes)
  pub same_first : first ≡ at + 9
  pub same_start : start ≡ nodes_at at f.blocks

-- counts come of a file that was read, and a fault of a fault
pub scan_counts : (at : ℕ) {c : Scanned} {G : Type 0} (o : Read File) → accepted c ≡ scan_of at o
    → ((f : File) → o ≡ got f c.next → Counted at f c.kind c.blocks c.bytes c.nodes c.entries c.blocks_at c.nodes_at → G) → G
unfolding scan_of
scan_counts at {c} (got f n) e g =
    let same : c ≡ counts_of f.kind (length f.blocks) (bytes_in f.blocks) (node_count (tree_from f.nodes)) (entry_count (tree_from f.nodes)) (at + 9) (nodes_at at f.blocks) n = cc in
    g f (rw same refl)
    (rw same (record { same_kind = refl; same_blocks = refl; same_bytes = refl; same_nodes = refl; same_entries = refl; same_first = refl; same_start = refl }))
scan_counts at (fault i) e g = absurd (cc)

pub scan_fault : (at : ℕ) {i : ℕ} (o : Read File) → refused i ≡ scan_of at o → o ≡ fault i
unfolding scan_of
scan_fault at (got f n) e = absurd (cc)
scan_fault at (fault j) e = cc
