-- Parts of bytes. Definitions alone: their laws stand in proofs/Parts.antt.
use Rattle.std.specs.Prelude.{cond, List, [], ℕ, ◌+◌, leb, length, take, drop}

-- so many bytes from an offset on, none where there are not so many
unfoldable pub part_of : (bytes : List ℕ) (offset n : ℕ) → List ℕ
part_of bytes offset n = cond (leb (offset + n) (length bytes)) (take n (drop offset bytes)) []
