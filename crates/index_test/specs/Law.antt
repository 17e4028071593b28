-- The test behind refusal 2 decides exactly. A statement alone: its proof stands in proofs/Deciding.
use Rattle.std.specs.Prelude.{◌≡◌, Bool, true, false}
use Rattle.history.specs.Ledger.{Ledger, finished}
use Rattle.history.specs.Sound.{Sound}
use Rattle.layout.specs.Tables.{Tables}
use Rattle.layout.specs.Encodes.{Encodes}
use Rattle.layout.specs.Formed.{WellFormed}
use Rattle.index_test.specs.Board.{Outcome}
use Rattle.index_test.specs.declared.State.{State}
use Rattle.index_test.specs.declared.State.TheVariants.{Bad, Open, Closed}

-- well-formed tables of an index that is closed, or is not
pub record FormedAs (t : Tables) (closed : Bool) : Type 0 where
  pub ledger : Ledger
  pub encodes : Encodes t ledger
  pub sound : Sound ledger
  pub is : finished ledger ≡ closed

pub record Exact (s : State) (t : Tables) : Type 0 where
  -- The test says open exactly of well-formed tables of an open index,
  pub open_then : s ≡ Open → FormedAs t false
  pub open_if : FormedAs t false → s ≡ Open
  -- closed exactly of those of a closed one,
  pub closed_then : s ≡ Closed → FormedAs t true
  pub closed_if : FormedAs t true → s ≡ Closed
  -- and bad exactly of tables that are not well formed.
  pub bad_then : s ≡ Bad → WellFormed t → ⊥
  pub bad_if : (WellFormed t → ⊥) → s ≡ Bad

-- whatever the test says by its contract
abbrev pub TestDecides : Type 0
TestDecides = (s : State) (t : Tables) → Outcome s t → Exact s t
