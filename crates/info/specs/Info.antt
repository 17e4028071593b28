-- What info tells of an index: numbers of its ledger, by equality. Definitions alone.
use Rattle.std.specs.Prelude.{[], ◌∷◌, ℕ, length}
use Rattle.history.specs.Lent.{too_short}
use Rattle.history.specs.Tree.{nodes_in, entries_all}
use Rattle.history.specs.Ledger.{Ledger}
use Rattle.history.specs.Reads.{trees_or_none}
use Rattle.history.specs.Refusals.{Answer, ◌if◌, first_of}
use Rattle.kind_mask.specs.Masks.{mask_of}
use Rattle.layout.specs.Tables.{Tables}
use Rattle.layout.specs.Encodes.{state_of}
use Rattle.layout.specs.Reads.{HandedOut, ReadBy}

pub record Summary : Type 0 where
  -- 1 open, 2 closed
  pub state : ℕ
  pub end_tick : ℕ
  -- the last accepted tick, 0 before any
  pub last_tick : ℕ
  -- bit k for kind k
  pub kinds : ℕ
  -- how many pieces and blocks there are, and how many bytes of the store are in use
  pub pieces : ℕ
  pub blocks : ℕ
  pub store : ℕ
  -- how many nodes and entries the trees of all kinds have together; none of an open index
  pub nodes : ℕ
  pub entries : ℕ

-- what stands in an index
abbrev pub summary_of : Ledger → Summary
summary_of l =
    record {
      state = state_of l.trees;
      end_tick = l.opening.end;
      last_tick = l.now.last;
      kinds = mask_of l.opening.kinds;
      pieces = length l.now.pieces;
      blocks = length l.now.blocks;
      store = length l.now.store;
      nodes = nodes_in (trees_or_none l.trees);
      entries = entries_all (trees_or_none l.trees);
    }

-- of an open or a closed index
abbrev pub info_answer : Ledger → Answer Summary
info_answer l = first_of (2 if too_short l.opening.lent ∷ []) (summary_of l)

-- the public contract
pub record InfoGivenBy (t : Tables) (answer : Answer Summary) : Type 0 where
  pub read : ReadBy t info_answer (HandedOut (λ summary. summary) answer)
