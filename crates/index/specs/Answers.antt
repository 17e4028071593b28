-- What `block_bytes` gives. Definitions alone.
use Rattle.std.specs.Prelude.{◌≡◌, List, [], ℕ}
use Rattle.history.specs.Words.{Block}
use Rattle.history.specs.Refusals.{Answer, accepted, refused, block_answer}
use Rattle.layout.specs.Tables.{Tables}
use Rattle.layout.specs.Reads.{ReadBy}

-- the bytes of the block that an answer gives, none where it refuses
abbrev pub bytes_of : Answer Block → List ℕ
bytes_of (accepted b) = b.stretch.bytes
bytes_of (refused n) = []

-- `block_bytes`: the bytes of the ledger's block; none where block by number refuses
pub record BytesGivenBy (t : Tables) (k : ℕ) (bytes : List ℕ) : Type 0 where
  pub read : ReadBy t (λ l. block_answer l k) (λ x. bytes ≡ bytes_of x)
