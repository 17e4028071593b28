-- What the functions of `line` put into a lent buffer. Definitions alone: their laws stand in proofs/.
use Rattle.std.specs.Prelude.{◌≡◌, List, [], ◌∷◌, ◌++◌, ℕ, ◌+◌, ◌*◌, ◌≤◌, length, take}
use Rattle.lists.specs.Puts.{Put}
use Rattle.history.specs.Words.{Block, first_cell}
use Rattle.history.specs.Reads.{clock_label}
use Rattle.history.specs.Printed.{space, newline, decimal, four_digits, hex_bytes, block_line}

-- ── a block's line in parts ──

-- up to the hexadecimal
unfoldable pub block_front : (first cells created destroyed : ℕ) → List ℕ
block_front first cells created destroyed =
    decimal first (space ∷ decimal cells (space ∷ decimal created (space ∷ decimal destroyed (space ∷ four_digits (clock_label [] first) (space ∷ [])))))

unfoldable pub block_line_of : (first created destroyed : ℕ) (bytes : List ℕ) → List ℕ
block_line_of first created destroyed bytes = block_front first (length bytes) created destroyed ++ (hex_bytes bytes [] ++ (newline ∷ []))

-- no front is longer: four numbers, the label, and a space behind each
abbrev pub front_most : ℕ
front_most = 89

-- What is put where there is room stands there, up to the next position; the parts appended are the line; the bytes may be given part after part; and
-- no text is longer than this.
pub record LawOfLines : Type 0 where
  pub shown : (out : List ℕ) (at : ℕ) (text after : List ℕ) (next : ℕ) → Put out at text after next → at + length text ≤ length out
      → take next after ≡ take at out ++ text
  pub in_parts : (b : Block) → block_line b ≡ block_line_of (first_cell b) b.created b.destroyed b.stretch.bytes
  pub of_bytes : (xs ys : List ℕ) → hex_bytes (xs ++ ys) [] ≡ hex_bytes xs [] ++ hex_bytes ys []
  pub front_length : (first cells created destroyed : ℕ) → length (block_front first cells created destroyed) ≤ front_most
  pub bytes_length : (bytes : List ℕ) → length (hex_bytes bytes []) ≡ 2 * length bytes
  pub number-length : (n : ℕ) (text : List ℕ) → length (decimal n text) ≤ 20 + length text
