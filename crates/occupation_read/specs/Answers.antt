-- What the occupation report answers: of the tables of a closed index, which the inner call does not test, and of any tables.
use Rattle.std.specs.Prelude.{◌≡◌, List, ℕ}
use Rattle.history.specs.Occupation.{Report, occupation_answer}
use Rattle.history.specs.Refusals.{Answer}
use Rattle.layout.specs.Tables.{Tables, tables}
use Rattle.layout.specs.Reads.{ReadBy, ClosedBy}

-- of a closed index: the ledger's answer, whatever pieces are lent with it
pub record ReportClosed (blocks store nodes entries : List ℕ) (kind tick : ℕ) (windows : List ℕ) (answer : Answer Report) : Type 0 where
  pub read : (pieces : List ℕ) → ClosedBy (tables pieces blocks store nodes entries) (λ l. occupation_answer l kind tick windows) (λ x. answer ≡ x)

-- of any tables: the answer of the ledger that they stand for, and 2 where they stand for none
pub record OccupationReportedBy (t : Tables) (kind tick : ℕ) (windows : List ℕ) (answer : Answer Report) : Type 0 where
  pub read : ReadBy t (λ l. occupation_answer l kind tick windows) (λ x. answer ≡ x)
