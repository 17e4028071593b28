-- What the first pass counts of what the file's reader in `history` gives. Definitions alone.
use Rattle.std.specs.Prelude.{List, map, ℕ, ◌+◌, ◌*◌, length}
use Rattle.lists.specs.Lists.{sum_of}
use Rattle.history.specs.Words.{Block, size}
use Rattle.history.specs.Refusals.{Answer, accepted, refused}
use Rattle.history.specs.Tree.{node_count, entry_count}
use Rattle.history.specs.File.{Read, got, fault, File, Nodes, tree_from}
use Rattle.tables.specs.Kinds.{code_of}
use Rattle.file_scan.specs.declared.nodes.Nodes.{Nodes as Trees}
use Rattle.file_scan.specs.declared.Counts.{Counts}
use Rattle.file_scan.specs.Rows.{row_head}

-- the bytes that blocks hold
abbrev pub bytes_in : List Block → ℕ
bytes_in bs = sum_of (map (λ b. size b.stretch) bs)

-- so many bytes were counted before these blocks
unfoldable pub blocks_from : (bytes : ℕ) → Read (List Block) → Read ℕ
blocks_from bytes (got bs next) = got (bytes + bytes_in bs) next
blocks_from bytes (fault n) = fault n

unfoldable pub nodes_from : Read Nodes → Read Trees
nodes_from (got t next) = got (record { nodes = node_count (tree_from t); entries = entry_count (tree_from t) }) next
nodes_from (fault n) = fault n

-- the nodes begin behind kind, block count and blocks
abbrev pub nodes_at : (at : ℕ) → List Block → ℕ
nodes_at at bs = at + (1 + 8) + (row_head * length bs + bytes_in bs)

-- what is counted of a file
pub record Scanned : Type 0 where
  pub kind : ℕ
  pub blocks : ℕ
  pub bytes : ℕ
  pub nodes : ℕ
  pub entries : ℕ
  pub blocks_at : ℕ
  pub nodes_at : ℕ
  pub next : ℕ

-- the counts with the kind's code
abbrev pub scanned : Counts → Scanned
scanned c =
    record {
      kind = code_of c.kind;
      blocks = c.blocks;
      bytes = c.bytes;
      nodes = c.nodes;
      entries = c.entries;
      blocks_at = c.blocks_at;
      nodes_at = c.nodes_at;
      next = c.next;
    }

unfoldable pub scan_of : (at : ℕ) → Read File → Answer Scanned
scan_of at (got f next) =
    accepted
    (record {
      kind = f.kind;
      blocks = length f.blocks;
      bytes = bytes_in f.blocks;
      nodes = node_count (tree_from f.nodes);
      entries = entry_count (tree_from f.nodes);
      blocks_at = at + (1 + 8);
      nodes_at = nodes_at at f.blocks;
      next = next;
    })
scan_of at (fault n) = refused n
