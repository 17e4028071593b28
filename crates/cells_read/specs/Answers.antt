-- What read cells hands out of a closed index. Definitions alone.
use Rattle.std.specs.Prelude.{◌≡◌, List, ℕ, length}
use Rattle.history.specs.Reads.{Cells}
use Rattle.history.specs.Refusals.{Answer, cells_answer}
use Rattle.layout.specs.Tables.{tables}
use Rattle.layout.specs.Reads.{values_of, filled_by, ClosedBy}

-- the answer is without values: the cells are in the two slices
pub record CellsHanded (bytes bytes' held held' : List ℕ) (answer : Answer Unit) (x : Answer Cells) : Type 0 where
  pub answered : answer ≡ values_of (λ _. tt) x
  pub in_bytes : bytes' ≡ filled_by (λ c. c.bytes) x bytes
  pub in_held : held' ≡ filled_by (λ c. c.held) x held

-- `read_closed`: the ledger's cells, whatever pieces are lent with the index
pub record ReadClosed (blocks store nodes entries : List ℕ) (kind tick start stop : ℕ) (bytes bytes' held held' : List ℕ) (answer : Answer Unit) : Type 0 where
  pub read : (pieces : List ℕ)
      → ClosedBy (tables pieces blocks store nodes entries) (λ l. cells_answer l kind tick start stop (length bytes) (length held)) (CellsHanded bytes bytes' held held' answer)
