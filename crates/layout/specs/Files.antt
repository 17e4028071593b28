-- What write and load do, as relations between the tables at entry and at exit and the answer: their public contracts. Definitions alone.
use Rattle.std.specs.Prelude.{◌≡◌, cond, ℕ, max, ltb, length, replicate}
use mathlib.Core.List.{List, [], ◌∷◌, ◌++◌, flat_map}
use Rattle.std.proofs.lemmas.List.Edits.{sets}
use Rattle.history.specs.Lent.{piece_head}
use Rattle.history.specs.Tree.{key_in}
use Rattle.history.specs.Refusals.{Answer, accepted, refused}
use Rattle.history.specs.File.{Read, got, fault, Loaded, load, loaded_ledger, write_answer}
use Rattle.tables.specs.Columns.{block_base}
use Rattle.kind_mask.specs.Masks.{mask_of}
use Rattle.layout.specs.Tables.{Tables, tables, lengths_of}
use Rattle.layout.specs.Encodes.{Encodes, closed_state}
use Rattle.layout.specs.Reads.{HandedInto, ReadBy}
use Rattle.layout.specs.Relations.{zeros}
use Rattle.layout.specs.Rows.{head_numbers, blocks_numbers, tree_numbers, run_numbers}

-- ── write ──

-- how many bytes, and the file in the lent slice
pub record WrittenBy (t : Tables) (out out' : List ℕ) (answer : Answer ℕ) : Type 0 where
  pub read : ReadBy t (λ l. write_answer l (length out)) (HandedInto length (λ file. file) out out' answer)

-- ── load ──

abbrev pub zeroed_tables : Tables → Tables
zeroed_tables t = tables (zeros t.pieces) (zeros t.blocks) (zeros t.store) (zeros t.nodes) (zeros t.entries)

-- after 21 to 24 all lent tables and the store hold zeros; before, nothing lent has changed
unfoldable pub after_fault : (number : ℕ) → Tables → Tables
after_fault n t = cond (ltb 20 n) (zeroed_tables t) t

-- A piece table shorter than its head is taken as in open: the other tables stand for the index as they would beside a head of zeros.
abbrev pub headed : Tables → Tables
headed t = tables (replicate (max piece_head (length t.pieces)) 0) t.blocks t.store t.nodes t.entries

-- the blocks' bytes, one after the other
abbrev pub loaded_bytes : Loaded → List ℕ
loaded_bytes x = flat_map (λ b. b.stretch.bytes) x.blocks

-- the head of its block table: zeros in the front, then the last row
unfoldable pub loaded_head : (end kind count used : ℕ) → List ℕ
loaded_head e kind count used = replicate block_base 0 ++ head_numbers closed_state e (mask_of (kind ∷ [])) count used 0

-- and behind it the rows of the blocks in file order
unfoldable pub loaded_rows : Loaded → List ℕ
loaded_rows x = loaded_head x.end x.kind (length x.blocks) (length (loaded_bytes x)) ++ blocks_numbers 0 x.blocks

-- Every number of what is lent: each table has the file's numbers from its start on, and is as it was past them; the pieces are zeros. So the tables
-- stand for the file's index.
pub record LoadedTables (x : Loaded) (t t' : Tables) : Type 0 where
  pub pieces : t'.pieces ≡ zeros t.pieces
  pub blocks : t'.blocks ≡ sets t.blocks 0 (loaded_rows x)
  pub store : t'.store ≡ sets t.store 0 (loaded_bytes x)
  pub nodes : t'.nodes ≡ sets t.nodes 0 (tree_numbers x.kind x.end x.tree)
  pub entries : t'.entries ≡ sets t.entries 0 (run_numbers (key_in x.blocks) x.tree)
  pub lengths : lengths_of t' ≡ lengths_of t
  pub stands : Encodes (headed t') (loaded_ledger (lengths_of (headed t')) x)

-- the next position, or the number
unfoldable pub position_of : Read Loaded → Answer ℕ
position_of (got x next) = accepted next
position_of (fault n) = refused n

abbrev pub LoadLeaves : Read Loaded → (t t' : Tables) → Type 0
LoadLeaves (got x next) t t' = LoadedTables x t t'
LoadLeaves (fault n) t t' = t' ≡ after_fault n t

pub record LoadedBy (file : List ℕ) (at : ℕ) (t t' : Tables) (answer : Answer ℕ) : Type 0 where
  pub answered : answer ≡ position_of (load (lengths_of t) file at)
  pub left : LoadLeaves (load (lengths_of t) file at) t t'
