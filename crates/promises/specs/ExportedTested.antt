-- The calls after one test, for Rust and C: each contract is, wherever the state is true of the tables, that of the public call of its name. Statements alone: the
-- proof stands in proofs/Citing.
use Rattle.std.specs.Prelude.{length}
use borrow.Fn.Read.{r_top, r_last}
use borrow.Fn.World.{w₀}
use Rattle.index_record.specs.Calls.{operation}
use Rattle.servercape.specs.Numbers.{changes, counts, near, summary}
use Rattle.servercape_tested.specs.States.{StateTold, RecordedAs, FoundAs, BlockAs, TouchedAs, NextAs, LastAs, CellsAs, WrittenAs, ClockAs, InfoAs, OccupationAs}
use Rattle.servercape_tested.specs.contracts.servercape_state as state-contract
use Rattle.servercape_tested.specs.contracts.servercape_record_tested as record-contract
use Rattle.servercape_tested.specs.contracts.servercape_block_tested as block-contract
use Rattle.servercape_tested.specs.contracts.servercape_find_tested as find-contract
use Rattle.servercape_tested.specs.contracts.servercape_touching_tested as touching-contract
use Rattle.servercape_tested.specs.contracts.servercape_next_tested as next-contract
use Rattle.servercape_tested.specs.contracts.servercape_last_tested as last-contract
use Rattle.servercape_tested.specs.contracts.servercape_read_cells_tested as cells-contract
use Rattle.servercape_tested.specs.contracts.servercape_occupation_tested as occupation-contract
use Rattle.servercape_tested.specs.contracts.servercape_write_tested as write-contract
use Rattle.servercape_tested.specs.contracts.servercape_clock_tested as clock-contract
use Rattle.servercape_tested.specs.contracts.servercape_info_tested as info-contract
use Rattle.promises.specs.Relations.{Says, held}
use Rattle.promises.specs.Exported.{handed_out, reported}

-- what stands behind the state and three slices, or four
abbrev behind3 : {S A B C X : Type 0} → S × (A × (B × (C × X))) → X
behind3 a = a.1.1.1.1

abbrev behind4 : {S A B C D X : Type 0} → S × (A × (B × (C × (D × X)))) → X
behind4 a = a.1.1.1.1.1

-- arguments as in `Contracts`: of all calls but the first the state, then the tables that it is lent
pub record ExportedTested : Type 0 where
  pub state : Says state-contract.ended (state-contract.clauses w₀.𝓛 w₀.𝓜.mem w₀.𝓡.returns) (λ κs a g. r_top) (λ κs a g x e. r_last _)
      (λ κs a x e. StateTold (held a) x)
  pub record_op : Says record-contract.ended (record-contract.clauses w₀.𝓛 w₀.𝓜.mem w₀.𝓡.returns) (λ κs a g. r_top) (λ κs a g x e. r_last _)
      (λ κs a x e. RecordedAs a.0 a.1.0.now a.1.1.0.now a.1.1.1.0.now e.1.0.now e.1.1.0.now e.1.1.1.0.now (length a.1.1.1.1.0.now)
      (operation (behind4 a).0 (behind4 a).1.0 (behind4 a).1.1.0 (behind4 a).1.1.1.0.now) x
      (changes (behind4 a).1.1.1.1.0.now (behind4 a).1.1.1.1.1.0.now) (changes (behind4 e).1.1.1.1.0.now (behind4 e).1.1.1.1.1.0.now))
  pub block : Says block-contract.ended (block-contract.clauses w₀.𝓛 w₀.𝓜.mem w₀.𝓡.returns) (λ κs a g. r_top) (λ κs a g x e. r_last _)
      (λ κs a x e. BlockAs a.0 a.1.0.now a.1.1.0.now a.1.1.1.0 x (handed_out a.1.1.1.1) (handed_out e.1.1.1.1))
  pub find : Says find-contract.ended (find-contract.clauses w₀.𝓛 w₀.𝓜.mem w₀.𝓡.returns) (λ κs a g. r_top) (λ κs a g x e. r_last _)
      (λ κs a x e. FoundAs a.0 a.1.0.now a.1.1.0.now a.1.1.1.0.now (behind3 a).0 (behind3 a).1.0 (behind3 a).1.1.0 (behind3 a).1.1.1.0
      (behind3 a).1.1.1.1.0.now (behind3 e).1.1.1.1.0.now x
      (counts (behind3 a).1.1.1.1.1.0.now (behind3 a).1.1.1.1.1.1.0.now) (counts (behind3 e).1.1.1.1.1.0.now (behind3 e).1.1.1.1.1.1.0.now))
  pub touching : Says touching-contract.ended (touching-contract.clauses w₀.𝓛 w₀.𝓜.mem w₀.𝓡.returns) (λ κs a g. r_top) (λ κs a g x e. r_last _)
      (λ κs a x e. TouchedAs a.0 a.1.0.now a.1.1.0.now a.1.1.1.0.now (behind3 a).0 (behind3 a).1.0 (behind3 a).1.1.0 (behind3 a).1.1.1.0
      (behind3 a).1.1.1.1.0.now (behind3 e).1.1.1.1.0.now x
      (behind3 a).1.1.1.1.1.0.now (behind3 e).1.1.1.1.1.0.now)
  pub next : Says next-contract.ended (next-contract.clauses w₀.𝓛 w₀.𝓜.mem w₀.𝓡.returns) (λ κs a g. r_top) (λ κs a g x e. r_last _)
      (λ κs a x e. NextAs a.0 a.1.0.now a.1.1.0.now a.1.1.1.0.now (behind3 a).0 (behind3 a).1.0 (behind3 a).1.1.0 x
      (near (behind3 a).1.1.1.0.now (behind3 a).1.1.1.1.0.now) (near (behind3 e).1.1.1.0.now (behind3 e).1.1.1.1.0.now))
  pub last : Says last-contract.ended (last-contract.clauses w₀.𝓛 w₀.𝓜.mem w₀.𝓡.returns) (λ κs a g. r_top) (λ κs a g x e. r_last _)
      (λ κs a x e. LastAs a.0 a.1.0.now a.1.1.0.now a.1.1.1.0.now (behind3 a).0 (behind3 a).1.0 (behind3 a).1.1.0 x
      (near (behind3 a).1.1.1.0.now (behind3 a).1.1.1.1.0.now) (near (behind3 e).1.1.1.0.now (behind3 e).1.1.1.1.0.now))
  pub read_cells : Says cells-contract.ended (cells-contract.clauses w₀.𝓛 w₀.𝓜.mem w₀.𝓡.returns) (λ κs a g. r_top) (λ κs a g x e. r_last _)
      (λ κs a x e. CellsAs a.0 a.1.0.now a.1.1.0.now a.1.1.1.0.now a.1.1.1.1.0.now (behind4 a).0 (behind4 a).1.0 (behind4 a).1.1.0 (behind4 a).1.1.1.0
      (behind4 a).1.1.1.1.0.now (behind4 e).1.1.1.1.0.now (behind4 a).1.1.1.1.1.0.now (behind4 e).1.1.1.1.1.0.now x)
  pub occupation : Says occupation-contract.ended (occupation-contract.clauses w₀.𝓛 w₀.𝓜.mem w₀.𝓡.returns) (λ κs a g. r_top) (λ κs a g x e. r_last _)
      (λ κs a x e. OccupationAs a.0 a.1.0.now a.1.1.0.now a.1.1.1.0.now a.1.1.1.1.0.now (behind4 a).0 (behind4 a).1.0 (behind4 a).1.1.0.now x
      (reported (behind4 a).1.1.1) (reported (behind4 e).1.1.1))
  pub write : Says write-contract.ended (write-contract.clauses w₀.𝓛 w₀.𝓜.mem w₀.𝓡.returns) (λ κs a g. r_top) (λ κs a g x e. r_last _)
      (λ κs a x e. WrittenAs a.0 a.1.0.now a.1.1.0.now a.1.1.1.0.now a.1.1.1.1.0.now (behind4 a).0.now (behind4 e).0.now x
      (behind4 a).1.0.now (behind4 e).1.0.now)
  pub clock : Says clock-contract.ended (clock-contract.clauses w₀.𝓛 w₀.𝓜.mem w₀.𝓡.returns) (λ κs a g. r_top) (λ κs a g x e. r_last _)
      (λ κs a x e. ClockAs a.0 a.1.0.now a.1.1.0 x a.1.1.1.0.now e.1.1.1.0.now)
  pub info : Says info-contract.ended (info-contract.clauses w₀.𝓛 w₀.𝓜.mem w₀.𝓡.returns) (λ κs a g. r_top) (λ κs a g x e. r_last _)
      (λ κs a x e. InfoAs a.0 a.1.0.now a.1.1.0.now a.1.1.1.0.now a.1.1.1.1.0.now x (summary (behind4 a).0.now) (summary (behind4 e).0.now))
