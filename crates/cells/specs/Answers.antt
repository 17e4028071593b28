-- What read cells does: its contract. Definitions alone.
use Rattle.std.specs.Prelude.{List, ℕ, length}
use Rattle.history.specs.Refusals.{Answer, cells_answer}
use Rattle.layout.specs.Tables.{Tables}
use Rattle.layout.specs.Reads.{ReadBy}
use Rattle.cells_read.specs.Answers.{CellsHanded}

pub record CellsReadBy (t : Tables) (kind tick start stop : ℕ) (bytes bytes' held held' : List ℕ) (answer : Answer Unit) : Type 0 where
  pub read : ReadBy t (λ l. cells_answer l kind tick start stop (length bytes) (length held)) (CellsHanded bytes bytes' held held' answer)
