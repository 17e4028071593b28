-- What touching, next and last hand out of a closed index, for the ledger that its tables stand for. Definitions alone.
use Rattle.std.specs.Prelude.{◌≡◌, Option, Some, None, true, List, ℕ, suc, ◌<◌, length}
use Rattle.history.specs.Words.{Block, end_cell, live_of}
use Rattle.history.specs.Tree.{block_at, key_in}
use Rattle.history.specs.Ledger.{Ledger}
use Rattle.history.specs.Refusals.{Answer, touching_answer, next_answer, last_answer}
use Rattle.tables.specs.Columns.{block_column, head_count}
use Rattle.tables.specs.Sums.{plus_up_to}
use Rattle.block_table.specs.Blocks.{first_cell_at, length_at}
use Rattle.segment_near.specs.declared.Side.{Side}
use Rattle.segment_near.specs.declared.Side.TheVariants.{From, Before}
use Rattle.segment_near.specs.declared.Neighbour.{Neighbour}
use Rattle.layout.specs.Tables.{tables}
use Rattle.layout.specs.Reads.{HandedOut, HandedInto, ClosedBy}
use Rattle.layout.specs.Relations.{Near, near_of}
use Rattle.live_blocks.specs.Live.{ClosedAt, Passed}

-- ── where blocks end ──

-- the end of block `number`, as its row has it
pub record EndOf (blocks : List ℕ) (number r : ℕ) : Type 0 where
  pub ended : number < block_column blocks 0 head_count → r ≡ plus_up_to (first_cell_at blocks (suc number)) (length_at blocks (suc number))

-- block k is of the kind, live at t, starts before the cell and reaches over it
pub record Reaches (bs : List Block) (kind t cell k : ℕ) : Type 0 where
  pub lives : live_of kind t (block_at bs k) ≡ true
  pub before : key_in bs k < cell
  pub beyond : cell < end_cell (block_at bs k)

-- the one that does, of a closed index; where there is none the cell is passed
pub record OverAt (blocks nodes entries : List ℕ) (kind tick place : ℕ) (r : Option Neighbour) : Type 0 where
  pub block : (n : Neighbour) → r ≡ Some n → (store : List ℕ) (l : Ledger) → ClosedAt blocks store nodes entries kind tick l
      → Reaches l.now.blocks kind tick place n.number
  pub nothing : r ≡ None → (store : List ℕ) (l : Ledger) → ClosedAt blocks store nodes entries kind tick l → Passed l.now.blocks kind tick place

-- ── the reads ──

-- `touching_closed`: how many the ledger lists, and their numbers in the lent slice
pub record TouchingClosed (blocks nodes entries : List ℕ) (kind tick start stop : ℕ) (out out' : List ℕ) (answer : Answer ℕ) : Type 0 where
  pub touched : (pieces store : List ℕ)
      → ClosedBy (tables pieces blocks store nodes entries) (λ l. touching_answer l kind tick start stop (length out)) (HandedInto length (λ ks. ks) out out' answer)

-- next and last: the ledger's neighbour
pub record NextClosed (blocks nodes entries : List ℕ) (kind tick cell : ℕ) (answer : Answer Near) : Type 0 where
  pub given : (pieces store : List ℕ) → ClosedBy (tables pieces blocks store nodes entries) (λ l. next_answer l kind tick cell) (HandedOut near_of answer)

pub record LastClosed (blocks nodes entries : List ℕ) (kind tick cell : ℕ) (answer : Answer Near) : Type 0 where
  pub given : (pieces store : List ℕ) → ClosedBy (tables pieces blocks store nodes entries) (λ l. last_answer l kind tick cell) (HandedOut near_of answer)

-- `near_closed`: next from the cell, last before it
abbrev pub NearClosed : Side → (blocks nodes entries : List ℕ) (kind tick cell : ℕ) (answer : Answer Near) → Type 0
NearClosed From blocks nodes entries kind tick cell answer = NextClosed blocks nodes entries kind tick cell answer
NearClosed Before blocks nodes entries kind tick cell answer = LastClosed blocks nodes entries kind tick cell answer
