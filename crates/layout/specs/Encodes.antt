-- Tables stand for a ledger: the layout of docs/LAYOUT.md and none of document 01's conditions, which are `Sound`. Definitions alone.
use Rattle.std.specs.Prelude.{◌≡◌, false, List, map, ℕ, ◌+◌, ◌^◌, ◌≤◌, ◌<◌, length, take}
use Rattle.std.proofs.Math.Option.{Option, none, some}
use Rattle.lists.specs.Lists.{All}
use Rattle.history.specs.Words.{Piece}
use Rattle.history.specs.Lent.{too_short}
use Rattle.history.specs.Tree as segment
use Rattle.history.specs.Ledger.{Ledger}
use Rattle.tables.specs.Masks.{kinds_in}
use Rattle.tables.specs.Columns.{head_state, head_end, head_kinds, head_count, head_used, head_last}
use Rattle.block_table.specs.Blocks.{blocks_of, Stored}
use Rattle.piece_table.specs.Piece.{piece_at}
use Rattle.piece_table.specs.Rep.{Links}
use Rattle.piece_table.specs.Shown.{shown}
use Rattle.ordering.specs.Order.{Unordered}
use Rattle.segment_table.specs.Closed.{Closed}
use Rattle.day_table.specs.DayLists.{DaysIn}
use Rattle.calendar_table.specs.Calendars.{CalendarIn}
use Rattle.layout.specs.Tables.{Tables, lengths_of, head_at, tree_tables}

-- ── state ──

-- 1 open, 2 closed
abbrev pub open_state : ℕ
open_state = 1

abbrev pub closed_state : ℕ
closed_state = 2

abbrev pub state_of : Option (List segment.Tree) → ℕ
state_of none = open_state
state_of (some trees) = closed_state

-- an open index has no order; a closed one has its trees in the node and entry tables
abbrev pub TreesIn : Tables → Ledger → Option (List segment.Tree) → Type 0
TreesIn t l none = Unordered t.blocks (length l.now.blocks)
TreesIn t l (some trees) = Closed (tree_tables t) l.opening.end trees

-- ── pieces ──

-- The pieces are the rows of the links, in order; their bytes are inside the first so many of the store.
pub record PiecesIn (table store : List ℕ) (used : ℕ) (pieces : List Piece) : Type 0 where
  pub links : List ℕ
  pub linked : Links table links
  pub shows : pieces ≡ map (λ link. shown store (piece_at table link)) links
  pub stored : All (λ link. (piece_at table link).offset + (piece_at table link).size ≤ used) links

-- ── the whole ──

pub record Encodes (t : Tables) (l : Ledger) : Type 0 where
  pub lengths : l.opening.lent ≡ lengths_of t
  pub heads : too_short (lengths_of t) ≡ false
  pub state : head_at t head_state ≡ state_of l.trees
  pub end : head_at t head_end ≡ l.opening.end
  -- the set of kinds is a mask of five bits
  pub mask : head_at t head_kinds < 2 ^ 5
  pub kinds : l.opening.kinds ≡ kinds_in (head_at t head_kinds)
  pub last : head_at t head_last ≡ l.now.last
  -- the store's used part
  pub used : head_at t head_used ≡ length l.now.store
  pub store : l.now.store ≡ take (head_at t head_used) t.store
  -- the blocks are the rows 1 to the count, in recorded order; their bytes are inside the used part
  pub count : head_at t head_count ≡ length l.now.blocks
  pub blocks : l.now.blocks ≡ blocks_of t.store t.blocks (head_at t head_count)
  pub blocks_stored : Stored (head_at t head_used) t.blocks (head_at t head_count)
  pub pieces : PiecesIn t.pieces t.store (head_at t head_used) l.now.pieces
  pub trees : TreesIn t l l.trees
  -- the calendar, or that there is none, in the front of the head
  pub calendar : CalendarIn t.blocks l.calendar
  -- and behind it the list of days
  pub days : DaysIn t.blocks l.days
