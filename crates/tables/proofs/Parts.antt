-- The returns of `part`, and a part that the bytes have. Assumes nothing.
use mathlib.Core.Path.{◌≡◌}
use mathlib.Core.List.{List, []}
use Prim.Native.Nat.{ℕ, ◌+◌, ◌≤◌, ◌<◌}
use lib.ListN.{length, take, drop}
use borrow.Author.Tests.{le-leb, lt-leb}
use Rattle.tables.specs.Parts.{part_of}

-- no place behind the end
pub part_none : (bytes : List ℕ) (offset n : ℕ) → length bytes < offset + n → [] ≡ part_of bytes offset n
unfolding part_of
part_none bytes offset n h = rw (lt-leb (offset + n) (length bytes) h)

-- a part that the bytes have
pub part-whole : (bytes : List ℕ) (offset n : ℕ) → offset + n ≤ length bytes → part_of bytes offset n ≡ take n (drop offset bytes)
unfolding part_of
part-whole bytes offset n h = rw (le-leb (offset + n) (length bytes) h)
