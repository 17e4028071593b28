-- Bytes put into a lent slice one part after the other. Definitions alone: laws stand in proofs/Puts.
use Rattle.std.specs.Prelude.{◌≡◌, List, ℕ, ◌+◌, min, max, length}
use Rattle.std.proofs.lemmas.List.Edits.{sets}

-- the place behind so many bytes, in a slice of length `room`; the slice's end where they are cut
abbrev pub behind : (room at many : ℕ) → ℕ
behind room at many = max at (min (at + many) room)

-- Bytes put into a slice at a place, as far as there is room: they stand there, all else is as it was, and the next place is behind them, or at the
-- slice's end where they are cut. From a place past the end nothing is put, and the place stays.
pub record Put (out : List ℕ) (at : ℕ) (bytes : List ℕ) (out' : List ℕ) (next : ℕ) : Type 0 where
  pub stands : out' ≡ sets out at bytes
  pub ends : next ≡ behind (length out) at (length bytes)
