-- The ledger of demand 3: what it is fed at opening, what it keeps, and what an accepted call leaves (01, "mod.rs"). Which calls are accepted is
-- said in Refusals.
use Rattle.std.specs.Prelude.{Bool, true, false, cond, List, [], ◌∷◌, ◌++◌, map, ℕ, suc}
use Rattle.std.proofs.Math.Option.{Option, none, some}
use Rattle.lists.specs.Lists.{has}
use Rattle.history.specs.Words.{Operation, Piece, Block, set_of, ends, stretch_of, below, inside, above, piece_of, block_of, held_at}
use Rattle.history.specs.Lent.{Lent}
use Rattle.history.specs.Tree.{Tree, trees_of}
use Rattle.history.specs.Days.{Day, days_of}
use Rattle.history.specs.Hours.{Calendar, calendar_of}

-- ── what is fed and kept ──

-- The end tick E, the kinds, and the lent lengths. Opening is fed any list of kinds and keeps the set of them.
pub record Opening : Type 0 where
  pub end : ℕ
  pub kinds : List ℕ
  pub lent : Lent

-- an opening, and no more than this: the record is written out here alone
abbrev pub opening_for : (end : ℕ) (kinds : List ℕ) → Lent → Opening
opening_for e kinds n = record { end = e; kinds = kinds; lent = n }

-- A board at a moment: pieces ascending, blocks in recorded order, the last accepted tick, and the bytes of all accepted updates one after the other,
-- whose number is the store use.
pub record Moment : Type 0 where
  pub pieces : List Piece
  pub blocks : List Block
  pub last : ℕ
  pub store : List ℕ

-- An index: how it was opened, the board as it stands, once it is finished or loaded a tree for each kind, by kind code, and the calendar and the list of
-- days that were installed last; no list is an empty one. This is also what a set of lent tables stands for.
pub record Ledger : Type 0 where
  pub opening : Opening
  pub now : Moment
  pub trees : Option (List Tree)
  pub calendar : Option Calendar
  pub days : List Day

abbrev pub is_some : {A : Type 0} → Option A → Bool
is_some none = false
is_some (some a) = true

-- whether it is finished or loaded
abbrev pub finished : Ledger → Bool
finished l = is_some l.trees

-- ── one field replaced ──

-- The two records are written out here and in `empty` alone: what a call does not name stays, and so will a field that comes.
abbrev pub with_pieces : List Piece → Moment → Moment
with_pieces ps m = record { pieces = ps; blocks = m.blocks; last = m.last; store = m.store }

abbrev pub with_blocks : List Block → Moment → Moment
with_blocks bs m = record { pieces = m.pieces; blocks = bs; last = m.last; store = m.store }

abbrev pub with_last : (tick : ℕ) → Moment → Moment
with_last t m = record { pieces = m.pieces; blocks = m.blocks; last = t; store = m.store }

abbrev pub with_store : (bytes : List ℕ) → Moment → Moment
with_store bytes m = record { pieces = m.pieces; blocks = m.blocks; last = m.last; store = bytes }

abbrev pub with_now : Moment → Ledger → Ledger
with_now m l = record { opening = l.opening; now = m; trees = l.trees; calendar = l.calendar; days = l.days }

abbrev pub with_trees : Option (List Tree) → Ledger → Ledger
with_trees ts l = record { opening = l.opening; now = l.now; trees = ts; calendar = l.calendar; days = l.days }

abbrev pub with_calendar : Option Calendar → Ledger → Ledger
with_calendar c l = record { opening = l.opening; now = l.now; trees = l.trees; calendar = c; days = l.days }

abbrev pub with_days : List Day → Ledger → Ledger
with_days days l = record { opening = l.opening; now = l.now; trees = l.trees; calendar = l.calendar; days = days }

-- ── open ──

-- an index that keeps nothing yet: no pieces and no blocks, the last accepted tick and the store use 0, no calendar, no listed day
abbrev pub empty : Opening → Ledger
empty a = record { opening = a; now = record { pieces = []; blocks = []; last = 0; store = [] }; trees = none; calendar = none; days = [] }

-- what opening leaves
unfoldable pub opened : Opening → Ledger
opened a = empty (opening_for a.end (set_of a.kinds) a.lent)

-- whether it was opened for a kind
abbrev pub opens_kind : Ledger → (kind : ℕ) → Bool
opens_kind l kind = has kind l.opening.kinds

-- ── record ──

-- The first place from c on that is unknown or has another byte, if there is one.
unfoldable pub first_change : List Piece → (place : ℕ) (bytes : List ℕ) → Option ℕ
first_change ps c [] = none
first_change ps c (b ∷ bs) =
    let later = first_change ps (suc c) bs in
    cond (has b (held_at c ps)) later (some c)

-- the first place that an operation changes
unfoldable pub changed : Moment → Operation → Option ℕ
changed m o = first_change m.pieces (stretch_of o).first (stretch_of o).bytes

abbrev pub is_none : {A : Type 0} → Option A → Bool
is_none none = true
is_none (some a) = false

-- If every one of its cells is held by a piece with the same byte, it is a read; otherwise it is an update.
abbrev pub is_read : Moment → Operation → Bool
is_read m o = is_none (changed m o)

-- a read: nothing changes but the last accepted tick
unfoldable pub read_by : Moment → Operation → Moment
read_by m o = with_last o.tick m

-- An update: for each overlapped piece, ascending, the cells inside the operation become a block, destroyed at its tick; what is left of the operation
-- stays a piece, what is right of it another, both with the old tick; the operation becomes a piece; its bytes enter the store once.
unfoldable pub update_by : Moment → Operation → Moment
update_by m o =
    let f = (stretch_of o).first in
    let e = ends (stretch_of o) in
    let pieces = below f m.pieces ++ (piece_of o ∷ above e m.pieces) in
    let blocks = m.blocks ++ map (block_of o.tick) (inside f e m.pieces) in
    with_pieces pieces (with_blocks blocks (with_store (m.store ++ o.bytes) (with_last o.tick m)))

unfoldable pub record_by : Ledger → Operation → Ledger
record_by l o = with_now (cond (is_read l.now o) (read_by l.now o) (update_by l.now o)) l

-- ── finish ──

-- the blocks, and the pieces, ascending, as blocks destroyed at E: by kind code, then by cell, as their places ascend
unfoldable pub settled : (end : ℕ) → Moment → List Block
settled e m = m.blocks ++ map (block_of e) m.pieces

-- Finish turns the pieces into blocks, and adds the blocks to the trees of their kinds in recorded order.
unfoldable pub finish_by : Ledger → Ledger
finish_by l =
    let all = settled l.opening.end l.now in
    with_trees (some (trees_of l.opening.end all)) (with_now (with_pieces [] (with_blocks all l.now)) l)

-- ── install ──

-- the calendar of these numbers in place of the one before (02, Item 5)
unfoldable pub install_by : Ledger → (numbers : List ℕ) → Ledger
install_by l numbers = with_calendar (some (calendar_of numbers)) l

-- the days of these numbers in place of the list before (02, Item 6)
unfoldable pub install_days_by : Ledger → (numbers : List ℕ) → Ledger
install_days_by l numbers = with_days (days_of numbers) l
