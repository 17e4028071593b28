-- What the read of tested tables ensures, and what its value means. Definitions alone.
use Rattle.std.specs.Prelude.{List, ℕ}
use Rattle.history.specs.Ledger.{Ledger}
use Rattle.history.specs.Refusals.{accepted}
use Rattle.layout.specs.Tables.{tables}
use Rattle.layout.specs.Encodes.{Encodes}
use Rattle.layout.specs.Reads.{HandedOut}
use Rattle.index_test.specs.States.{state_number}
use Rattle.info.specs.Info.{Summary, info_answer}
use Rattle.info.specs.declared.Summary.{Summary as Given}

-- the state by its number, the rest as it is
abbrev pub summary_given : Given → Summary
summary_given s =
    record {
      state = state_number s.state;
      end_tick = s.end_tick;
      last_tick = s.last_tick;
      kinds = s.kinds;
      pieces = s.pieces;
      blocks = s.blocks;
      store = s.store;
      nodes = s.nodes;
      entries = s.entries;
    }

-- `info_formed`: what `InfoGivenBy` says of tables that stand for a ledger
pub record InfoTold (pieces blocks nodes entries : List ℕ) (summary : Given) : Type 0 where
  pub given : (store : List ℕ) (l : Ledger) → Encodes (tables pieces blocks store nodes entries) l
      → HandedOut (λ (s : Summary). s) (accepted (summary_given summary)) (info_answer l)
