-- Which bytes of an input stand in a buffer. What a reader has left is known of some, as of one over memory; of others nothing is said. Definitions alone.
use Rattle.std.specs.Prelude.{Option, List, ℕ, ◌≤◌, ◌<◌, length, take}
use Rattle.std.specs.Io.KnownBytes.{Consumes, IsAtEnd}

-- the input had n bytes that it has no more, and they stand at the buffer's start, in their order
abbrev pub TakenInto : (before after : Option (List ℕ)) (buffer : List ℕ) (n : ℕ) → Type 0
TakenInto before after buffer n = Consumes before after (take n buffer)

-- n bytes fill the buffer, or the input has no more
abbrev pub FullOrEnded : (after : Option (List ℕ)) (buffer : List ℕ) (n : ℕ) → Type 0
FullOrEnded after buffer n = n < length buffer → IsAtEnd after

-- so many bytes were taken, and stand at the buffer's start
pub record SomeTaken (before after : Option (List ℕ)) (buffer : List ℕ) : Type 0 where
  pub many : ℕ
  pub inside : many ≤ length buffer
  pub taken : TakenInto before after buffer many
