-- What installing into tested tables ensures. Definitions alone.
use Rattle.std.specs.Prelude.{◌≡◌, false, List, ℕ, Result}
use Rattle.history.specs.Ledger.{Ledger, finished}
use Rattle.history.specs.Results.{done}
use Rattle.history.specs.Refusals.{install_answer, days_answer}
use Rattle.history.specs.Sound.{Sound}
use Rattle.layout.specs.Tables.{tables}
use Rattle.layout.specs.Encodes.{Encodes}
use Rattle.layout.specs.Relations.{InstallLeaves, DaysLeave}
use Rattle.refusals.specs.declared.Refusal.{Refusal}
use Rattle.refusals.specs.Numbers.{answer_by}

-- `install_open`: of an open index, what layout's `InstalledBy` says of well-formed tables
pub record InstalledOpen (blocks blocks' numbers : List ℕ) (r : Result Unit Refusal) : Type 0 where
  pub formed : (pieces store nodes entries : List ℕ) (l : Ledger) → Encodes (tables pieces blocks store nodes entries) l → finished l ≡ false
      → (answer_by (λ _. done) r ≡ install_answer l numbers)
      × InstallLeaves (install_answer l numbers) l numbers (tables pieces blocks store nodes entries) (tables pieces blocks' store nodes entries)

-- `install_days_formed`: of an open or a closed index, what layout's `DaysInstalledBy` says of well-formed tables
pub record DaysInstalled (blocks blocks' numbers : List ℕ) (r : Result Unit Refusal) : Type 0 where
  pub formed : (pieces store nodes entries : List ℕ) (l : Ledger) → Encodes (tables pieces blocks store nodes entries) l
      → (answer_by (λ _. done) r ≡ days_answer l numbers)
      × DaysLeave (days_answer l numbers) l numbers (tables pieces blocks store nodes entries) (tables pieces blocks' store nodes entries)
