-- What the read of a field gives, and where it leaves its reader, in the words of the file's reader in `history`. Definitions alone.
use Rattle.std.specs.Prelude.{◌≡◌, Option, Some, None, ℕ}
use Rattle.history.specs.File.{Read, got, fault}
use Rattle.history.specs.File.{Reader as Reading}
use Rattle.fields.specs.declared.Reader.{Reader}

-- what a value means, with the position behind it; 17 where the bytes end inside the field
abbrev pub read_of : {A B : Type 0} → (B → A) → Option B → (at : ℕ) → Read A
read_of of (Some value) at = got (of value) at
read_of of None at = fault 17

-- The answer is what stands at the reader's position, and the reader has moved behind it.
pub record Moves {A : Type 0} (reading : Reading A) (answer : (at : ℕ) → Read A) (before after : Reader) : Type 0 where
  pub same_file : after.file ≡ before.file
  pub is : answer after.at ≡ reading before.file.now before.at
