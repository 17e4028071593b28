-- The words of document 01: stretches of cells, operations, pieces and blocks, and the part of one that lies in a range.
-- All ranges are half-open: [from, to) has `from` and not `to`. Definitions alone: their laws stand in proofs/.
use Rattle.std.specs.Prelude.{◌≡◌, Bool, false, cond, ◌&&◌, not, ℕ, suc, ◌+◌, ◌-◌, ◌*◌, ◌^◌, ◌≤◌, ◌<◌, min, max, leb, ltb, eqb, length, get_or, take, drop}
use Rattle.std.proofs.Math.Option
use Rattle.std.proofs.Math.Option.{Option, none, some}
use mathlib.Core.List.{List, [], ◌∷◌, map, filter_map}
use Rattle.lists.specs.Lists.{has, count_from}

-- the number n is in [from, to)
abbrev pub within : (from to n : ℕ) → Bool
within from to n = leb from n && ltb n to

-- ── kinds (01, "Words"; 02, item 3) ──

-- 0 Constant, 1 Memory, 2 Register, 3 Unique, 4 Other
abbrev pub all_kinds : List ℕ
all_kinds = count_from 0 5

-- those of the numbers ks that stand in the list ns
unfoldable pub those_with : (ns : List ℕ) → (ks : List ℕ) → List ℕ
those_with ns [] = []
those_with ns (k ∷ ks) =
    let rest = those_with ns ks in
    cond (has k ns) (k ∷ rest) rest

-- A set of kinds is the ascending list of them: two lists that name the same kinds give the same set.
abbrev pub set_of : List ℕ → List ℕ
set_of given = those_with given all_kinds

-- ── places ──

-- Two cells are equal only when kind and number are both equal. So all cells lie on one number line, 2^64 places for each kind, by kind code and then
-- by cell: here the places of a kind begin, ..
unfoldable pub line_of : (kind : ℕ) → ℕ
line_of kind = kind * 2 ^ 64

-- .. this is the place of its cell, ..
abbrev pub cell_place : (kind cell : ℕ) → ℕ
cell_place kind cell = line_of kind + cell

-- .. and this the cell of its place.
abbrev pub cell_of : (kind place : ℕ) → ℕ
cell_of kind place = place - line_of kind

-- ── stretches ──

-- Cells that follow one another, and a byte for each of them. `first` is a place on that line, by which stretches are ordered.
pub record Stretch : Type 0 where
  pub first : ℕ
  pub bytes : List ℕ

-- how many cells it has
abbrev pub size : Stretch → ℕ
size s = length s.bytes

-- the place after its last one
abbrev pub ends : Stretch → ℕ
ends s = s.first + length s.bytes

-- ── operations, pieces, blocks (01, "Words") ──

-- Operation: kind, tick, first cell, bytes.
pub record Operation : Type 0 where
  pub kind : ℕ
  pub tick : ℕ
  pub first : ℕ
  pub bytes : List ℕ

-- the stretch that an operation writes, from the place of its first cell on
unfoldable pub stretch_of : Operation → Stretch
stretch_of o = record { first = cell_place o.kind o.first; bytes = o.bytes }

-- the cells that it writes, as numbers of its kind
abbrev pub cells_of : Operation → Stretch
cells_of o = record { first = o.first; bytes = o.bytes }

-- Piece: a stretch known now, with its kind and written tick.
pub record Piece : Type 0 where
  pub kind : ℕ
  pub stretch : Stretch
  pub written : ℕ

-- Block: kind, first cell, length, created, destroyed, bytes.
pub record Block : Type 0 where
  pub kind : ℕ
  pub stretch : Stretch
  pub created : ℕ
  pub destroyed : ℕ

-- a block written out, by the cell that it starts at; every other place that makes one from its parts says it by this
abbrev pub a_block : (kind cell : ℕ) (bytes : List ℕ) (created destroyed : ℕ) → Block
a_block kind cell bytes created destroyed =
    record { kind = kind; stretch = record { first = cell_place kind cell; bytes = bytes }; created = created; destroyed = destroyed }

-- a block's first cell, a number of its kind, and the cell after its last one
abbrev pub first_cell : Block → ℕ
first_cell b = cell_of b.kind b.stretch.first

abbrev pub end_cell : Block → ℕ
end_cell b = first_cell b + size b.stretch

-- the block is of the kind
abbrev pub of_kind : (kind : ℕ) → Block → Bool
of_kind kind b = eqb b.kind kind

-- a block's life, in ticks
abbrev pub life : Block → ℕ
life b = b.destroyed - b.created

-- It is live at tick t when created ≤ t < destroyed.
abbrev pub live : (t : ℕ) → Block → Bool
live t b = within b.created b.destroyed t

abbrev pub live_of : (kind t : ℕ) → Block → Bool
live_of kind t b = of_kind kind b && live t b

-- the piece that an operation becomes, and the block that a piece becomes when it is destroyed
abbrev pub piece_of : Operation → Piece
piece_of o = record { kind = o.kind; stretch = stretch_of o; written = o.tick }

abbrev pub block_of : (destroyed : ℕ) → Piece → Block
block_of destroyed p = record { kind = p.kind; stretch = p.stretch; created = p.written; destroyed = destroyed }

-- ── the blocks as one kind sees them ──

-- the block as a kind sees it: one of another kind has no life
unfoldable pub own_life : (kind : ℕ) → Block → Block
own_life kind b = cond (of_kind kind b) b (record { kind = b.kind; stretch = b.stretch; created = 0; destroyed = 0 })

-- the blocks so, under the numbers that they have
unfoldable pub only_kind : (kind : ℕ) → List Block → List Block
only_kind kind bs = map (own_life kind) bs

-- ── cells ──

-- the place is one of the stretch's
pub record HasCell (s : Stretch) (place : ℕ) : Type 0 where
  pub from : s.first ≤ place
  pub below : place < ends s

-- A call covers, and a block holds, a cell for each of its bytes, from its first cell on (01, "mod.rs").
pub record Covers (kind cell : ℕ) (o : Operation) : Type 0 where
  pub same_kind : o.kind ≡ kind
  pub has : HasCell (cells_of o) cell

-- at tick t the block is live and holds the place
pub record Holds (t place : ℕ) (b : Block) : Type 0 where
  pub born : b.created ≤ t
  pub alive : t < b.destroyed
  pub has : HasCell b.stretch place

-- at tick t the block is live and holds the kind's cell
pub record HoldsCell (kind t cell : ℕ) (b : Block) : Type 0 where
  pub same_kind : b.kind ≡ kind
  pub born : b.created ≤ t
  pub alive : t < b.destroyed
  pub from : first_cell b ≤ cell
  pub below : cell < end_cell b

-- the byte that a stretch has for a place, if it has the place
unfoldable pub byte_at : (place : ℕ) → Stretch → Option ℕ
byte_at c s = cond (within s.first (ends s) c) (some (get_or s.bytes (c - s.first) 0)) none

-- the byte is another than the one that a stretch has there
abbrev pub is_other : (byte : ℕ) → Option ℕ → Bool
is_other b none = false
is_other b (some x) = not (eqb b x)

-- the first of the places from c on, with these bytes, that a stretch has with another byte, if there is one
unfoldable pub differs_from : Stretch → (place : ℕ) (bytes : List ℕ) → Option ℕ
differs_from s c [] = none
differs_from s c (b ∷ bs) =
    let later = differs_from s (suc c) bs in
    cond (is_other b (byte_at c s)) (some c) later

-- The comparison of an operation with one piece: the first place in common that differs, or that none does (02, Item 2).
abbrev pub first_difference : (operation piece : Stretch) → Option ℕ
first_difference o p = differs_from p o.first o.bytes

-- the bytes that the pieces have for a place: at most one, as pieces share no cell
unfoldable pub held_at : (place : ℕ) → List Piece → List ℕ
held_at c ps = filter_map (λ p. byte_at c p.stretch) ps

-- ── clipping ──

-- the part of a stretch that lies in [from, to), if there is any
unfoldable pub clip : (from to : ℕ) → Stretch → Option Stretch
clip from to s =
    let a = max from s.first in
    let b = min to (ends s) in
    cond (ltb a b) (some (record { first = a; bytes = take (b - a) (drop (a - s.first) s.bytes) })) none

-- the part of a piece that lies in [from, to): it keeps its kind and its written tick
unfoldable pub clip_piece : (from to : ℕ) → Piece → Option Piece
clip_piece from to p = Option.map (λ s. record { kind = p.kind; stretch = s; written = p.written }) (clip from to p.stretch)

-- what of the pieces lies below a place, in a range, and from a place on
unfoldable pub below : (place : ℕ) → List Piece → List Piece
below f ps = filter_map (clip_piece 0 f) ps

unfoldable pub inside : (from to : ℕ) → List Piece → List Piece
inside f e ps = filter_map (clip_piece f e) ps

unfoldable pub above : (place : ℕ) → List Piece → List Piece
above e ps = filter_map (λ p. clip_piece e (ends p.stretch) p) ps
