-- What is shown from the front of a long window on. Definitions alone.
use Rattle.std.specs.Prelude.{◌≡◌, List, ℕ, ◌+◌, ◌-◌, ◌≤◌, ◌<◌, min, length, get_or, replicate}
use Rattle.std.proofs.lemmas.List.Edits.{sets}
use Rattle.history.specs.Words.{Block, cell_place}
use Rattle.history.specs.Ledger.{Ledger}
use Rattle.history.specs.Reads.{seen}
use Rattle.live_blocks.specs.Live.{ClosedAt, Passed}

-- ── cells ──

-- a cell's byte and its mark are what the blocks show of it
pub record CellShown (bs : List Block) (kind tick c byte held : ℕ) : Type 0 where
  pub byte_is : get_or (seen tick (cell_place kind c) bs) 0 0 ≡ byte
  pub held_is : min 1 (length (seen tick (cell_place kind c) bs)) ≡ held

-- so are those of the cells from a place on up to another, in slices that begin with cell `start`
pub record ShownIn (bs : List Block) (kind tick start from past : ℕ) (bytes held : List ℕ) : Type 0 where
  pub cell : (i : ℕ) → from ≤ start + i → start + i < past → CellShown bs kind tick (start + i) (get_or bytes i 0) (get_or held i 0)

-- ── what the functions give ──

-- zeros stand for those cells
pub record Freed (start from past : ℕ) (bytes bytes' held held' : List ℕ) : Type 0 where
  pub in_bytes : bytes' ≡ sets bytes (from - start) (replicate (past - from) 0)
  pub in_held : held' ≡ sets held (from - start) (replicate (past - from) 0)

-- the cells of a closed index from the start up to r
pub record Front (blocks store nodes entries : List ℕ) (kind tick start stop r : ℕ) (bytes held : List ℕ) : Type 0 where
  pub onward : start ≤ r
  pub inside : r ≤ stop
  pub shown : (l : Ledger) → ClosedAt blocks store nodes entries kind tick l → ShownIn l.now.blocks kind tick start start r bytes held

-- and in the window no block that starts before r reaches over it
pub record Reached (blocks store nodes entries : List ℕ) (kind tick start stop r : ℕ) (bytes held : List ℕ) : Type 0 where
  pub front : Front blocks store nodes entries kind tick start stop r bytes held
  pub passed : (l : Ledger) → ClosedAt blocks store nodes entries kind tick l → r < stop → Passed l.now.blocks kind tick r

-- the cells from a place on that no block before it reaches over, up to r; what stands before the place stays
pub record RunShown (blocks store nodes entries : List ℕ) (kind tick start place stop r : ℕ) (bytes bytes' held held' : List ℕ) : Type 0 where
  pub onward : place ≤ r
  pub inside : r ≤ stop
  pub kept : (i : ℕ) → start + i < place → (get_or bytes' i 0 ≡ get_or bytes i 0) × (get_or held' i 0 ≡ get_or held i 0)
  pub shown : (l : Ledger) → ClosedAt blocks store nodes entries kind tick l → Passed l.now.blocks kind tick place
      → ShownIn l.now.blocks kind tick start place r bytes' held'
  pub passed : (l : Ledger) → ClosedAt blocks store nodes entries kind tick l → Passed l.now.blocks kind tick place → r < stop → Passed l.now.blocks kind tick r
