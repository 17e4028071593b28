-- What the clock of tested tables ensures. Definitions alone.
use Rattle.std.specs.Prelude.{List, ℕ}
use Rattle.history.specs.Ledger.{Ledger}
use Rattle.history.specs.Refusals.{accepted, clock_answer}
use Rattle.layout.specs.Tables.{tables}
use Rattle.layout.specs.Encodes.{Encodes}
use Rattle.layout.specs.Reads.{HandedOut}

-- `clock_formed`: what layout's `ClockGivenBy` says of tables that stand for a ledger
pub record ClockTold (blocks : List ℕ) (cell label : ℕ) : Type 0 where
  pub given : (pieces store nodes entries : List ℕ) (l : Ledger) → Encodes (tables pieces blocks store nodes entries) l
      → HandedOut (λ (n : ℕ). n) (accepted label) (clock_answer l cell)
