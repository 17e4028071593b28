-- What the reads of a closed index hand out, for the ledger that its tables stand for. Definitions alone.
use Rattle.std.specs.Prelude.{List, ℕ, length}
use Rattle.history.specs.Refusals.{Answer, find_answer, block_answer}
use Rattle.layout.specs.Tables.{tables}
use Rattle.layout.specs.Reads.{HandedInto, ClosedBy}
use Rattle.layout.specs.Relations.{Counts, counts_of, Fields, BlockHanded}

-- `block_closed`: the ledger's block, whatever else is lent with the blocks
pub record BlockClosed (blocks : List ℕ) (k : ℕ) (answer : Answer Fields) : Type 0 where
  pub given : (pieces store nodes entries : List ℕ)
      → ClosedBy (tables pieces blocks store nodes entries) (λ l. block_answer l k) (BlockHanded (tables pieces blocks store nodes entries) k answer)

-- `find_closed`: the ledger's counts, and its numbers in the lent slice
pub record FindClosed (blocks nodes entries : List ℕ) (kind tick start stop : ℕ) (out out' : List ℕ) (answer : Answer Counts) : Type 0 where
  pub found : (pieces store : List ℕ)
      → ClosedBy (tables pieces blocks store nodes entries) (λ l. find_answer l kind tick start stop (length out)) (HandedInto counts_of (λ f. f.numbers) out out' answer)
