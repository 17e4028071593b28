-- A closed index at a tick, and its live blocks in front of a cell. Definitions alone.
use Rattle.std.specs.Prelude.{◌≡◌, true, List, ℕ, ◌≤◌, ◌<◌}
use Rattle.history.specs.Words.{Block, end_cell, live_of}
use Rattle.history.specs.Tree.{block_at, key_in}
use Rattle.history.specs.Ledger.{Ledger, finished, opens_kind}
use Rattle.history.specs.Sound.{Sound}
use Rattle.layout.specs.Tables.{tables}
use Rattle.layout.specs.Encodes.{Encodes}

-- The tables of a closed index, whatever pieces are lent with them, a kind that was opened, and a tick of it.
pub record ClosedAt (blocks store nodes entries : List ℕ) (kind tick : ℕ) (l : Ledger) : Type 0 where
  pub pieces : List ℕ
  pub encodes : Encodes (tables pieces blocks store nodes entries) l
  pub sound : Sound l
  pub done : finished l ≡ true
  pub opened : opens_kind l kind ≡ true
  pub before_end : tick < l.opening.end

-- no block of the kind that is live at t and starts before the cell reaches it
pub record Passed (bs : List Block) (kind t cell : ℕ) : Type 0 where
  pub passed : (k : ℕ) → live_of kind t (block_at bs k) ≡ true → key_in bs k < cell → end_cell (block_at bs k) ≤ cell
