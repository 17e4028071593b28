-- What a call is refused for by the state of its tables, before anything else; and the number of a state. Definitions alone.
use Rattle.std.specs.Prelude.{Result, Ok, Err, ℕ, cond, eqb}
use Rattle.refusals.specs.declared.Refusal.{Refusal}
use Rattle.refusals.specs.declared.Refusal.TheVariants.{Malformed, Finished, NotFinished}
use Rattle.index_test.specs.declared.State.{State}
use Rattle.index_test.specs.declared.State.TheVariants.{Bad, Open, Closed}

-- of an open or a closed index
abbrev pub when_formed : State → Result Unit Refusal
when_formed Bad = Err Malformed
when_formed Open = Ok tt
when_formed Closed = Ok tt

-- of an open index alone
abbrev pub when_open : State → Result Unit Refusal
when_open Bad = Err Malformed
when_open Closed = Err Finished
when_open Open = Ok tt

-- of a closed index alone
abbrev pub when_closed : State → Result Unit Refusal
when_closed Bad = Err Malformed
when_closed Open = Err NotFinished
when_closed Closed = Ok tt

-- ── its number ──

abbrev pub state_number : State → ℕ
state_number Bad = 0
state_number Open = 1
state_number Closed = 2

-- 1 open, 2 closed; any other number stands for tables that are not well formed
unfoldable pub state_numbered : ℕ → State
state_numbered n = cond (eqb n 1) Open (cond (eqb n 2) Closed Bad)
