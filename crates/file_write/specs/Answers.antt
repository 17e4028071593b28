-- What write ensures over a closed index. Definitions alone.
use Rattle.std.specs.Prelude.{◌≡◌, true, List, ℕ, ◌+◌, ◌≤◌, length}
use Rattle.std.proofs.lemmas.List.Edits.{sets}
use Rattle.history.specs.Ledger.{Ledger, finished}
use Rattle.history.specs.Refusals.{Answer}
use Rattle.history.specs.File.{file_part, file_by, write_answer}
use Rattle.history.specs.Sound.{Sound}
use Rattle.layout.specs.Tables.{tables}
use Rattle.layout.specs.Encodes.{Encodes}
use Rattle.layout.specs.Reads.{HandedInto, ClosedBy}

-- a kind's part of the file of a closed index, whatever pieces are lent with it, from the front of a slice on that holds it
pub record PartWritten (blocks store nodes entries : List ℕ) (kind : ℕ) (out out' : List ℕ) (size : ℕ) : Type 0 where
  pub part : (pieces : List ℕ) (l : Ledger) → Encodes (tables pieces blocks store nodes entries) l → Sound l → finished l ≡ true → kind ≤ 4
      → length (file_part l kind) ≤ length out → (out' ≡ sets out 0 (file_part l kind)) × (size ≡ length (file_part l kind))

-- and from a place on
pub record PartPut (blocks store nodes entries : List ℕ) (kind : ℕ) (out : List ℕ) (at : ℕ) (out' : List ℕ) (next : ℕ) : Type 0 where
  pub part : (pieces : List ℕ) (l : Ledger) → Encodes (tables pieces blocks store nodes entries) l → Sound l → finished l ≡ true → kind ≤ 4
      → at + length (file_part l kind) ≤ length out → (out' ≡ sets out at (file_part l kind)) × (next ≡ at + length (file_part l kind))

-- the parts of all kinds in a slice that holds them
pub record AllWritten (blocks store nodes entries out out' : List ℕ) : Type 0 where
  pub file : (pieces : List ℕ) (l : Ledger) → Encodes (tables pieces blocks store nodes entries) l → Sound l → finished l ≡ true
      → length (file_by l) ≤ length out → out' ≡ sets out 0 (file_by l)

-- `write_closed`: the ledger's answer, and the file in the slice; the rest of it is as it was
pub record WrittenClosed (blocks store nodes entries out out' : List ℕ) (answer : Answer ℕ) : Type 0 where
  pub written : (pieces : List ℕ)
      → ClosedBy (tables pieces blocks store nodes entries) (λ l. write_answer l (length out)) (HandedInto length (λ file. file) out out' answer)
