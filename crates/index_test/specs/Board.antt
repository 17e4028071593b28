-- What any index has, open or closed, said of its tables: heads, numbers, calendar, list of days, rows, pieces. Definitions alone; with its order or its trees it is `WellFormed`.
use Rattle.std.specs.Prelude.{◌≡◌, Bool, false, ◌+◌, ◌≤◌, ◌<◌, length}
use Rattle.lists.specs.Tests.{Decides}
use Rattle.history.specs.Lent.{too_short, block_rows}
use Rattle.history.specs.Refusals.{max_end_tick}
use Rattle.history.specs.Rules.{Apart}
use Rattle.tables.specs.Columns.{column, pieces_count, head_state, head_end, head_kinds, head_count, head_used, head_last}
use Rattle.block_table.specs.Blocks.{blocks_of}
use Rattle.block_table.specs.Rows.{Bounds, RowsSound}
use Rattle.piece_table.specs.Test as piece
use Rattle.ordering.specs.Order.{Unordered}
use Rattle.day_table.specs.DayLists.{DaysFormed}
use Rattle.calendar_table.specs.Calendars.{CalendarFormed}
use Rattle.segment_test.specs.Test.{ClosedTrees}
use Rattle.layout.specs.Tables.{Tables, lengths_of, head_at, tree_tables}
use Rattle.layout.specs.Encodes.{open_state, closed_state}
use Rattle.layout.specs.Formed.{WellFormed}
use Rattle.index_test.specs.declared.State.{State}
use Rattle.index_test.specs.declared.State.TheVariants.{Bad, Open, Closed}

-- ── the board ──

-- an E and a set of kinds that opening takes, as a mask from 1 to 31; the last accepted tick below E; counts inside the tables
pub record Numbers (t : Tables) : Type 0 where
  pub some_tick : 1 ≤ head_at t head_end
  pub end_most : head_at t head_end ≤ max_end_tick
  pub some_kind : 0 < head_at t head_kinds
  pub kinds_most : head_at t head_kinds ≤ 31
  pub last_below_end : head_at t head_last < head_at t head_end
  pub used_fits : head_at t head_used ≤ length t.store
  pub rows_fit : head_at t head_count + column t.pieces 0 pieces_count ≤ block_rows (lengths_of t)

abbrev pub bounds_of : Tables → Bounds
bounds_of t = record { kinds = head_at t head_kinds; end = head_at t head_end; used = head_at t head_used }

-- the heads, as far as they can be judged without rows
pub record HeadFormed (t : Tables) : Type 0 where
  pub heads : too_short (lengths_of t) ≡ false
  pub numbers : Numbers t
  pub calendar : CalendarFormed t.blocks
  pub days : DaysFormed t.blocks

pub record BoardFormed (t : Tables) : Type 0 where
  pub heads : too_short (lengths_of t) ≡ false
  pub numbers : Numbers t
  pub calendar : CalendarFormed t.blocks
  pub days : DaysFormed t.blocks
  pub rows : RowsSound t.blocks (bounds_of t) 0 (head_at t head_count)
  pub pieces : piece.WellFormed t.pieces (head_at t head_kinds) (head_at t head_used) (head_at t head_last)

-- ── open and closed ──

pub record OpenFormed (t : Tables) : Type 0 where
  pub board : BoardFormed t
  pub state : head_at t head_state ≡ open_state
  pub unordered : Unordered t.blocks (head_at t head_count)

-- what a closed index has besides its board
pub record ClosedPart (t : Tables) : Type 0 where
  pub no_pieces : column t.pieces 0 pieces_count ≡ 0
  pub apart : Apart (blocks_of t.store t.blocks (head_at t head_count))
  pub trees : ClosedTrees (tree_tables t) (head_at t head_end) (blocks_of t.store t.blocks (head_at t head_count))

-- of tables that pass as a board the test decides it
pub record TestedClosed (t : Tables) (r : Bool) : Type 0 where
  pub decides : BoardFormed t → Decides r (ClosedPart t)

pub record ClosedFormed (t : Tables) : Type 0 where
  pub board : BoardFormed t
  pub state : head_at t head_state ≡ closed_state
  pub part : ClosedPart t

-- ── the test ──

-- what the test says of tables whose lengths fit 64 bits
abbrev pub Outcome : State → Tables → Type 0
Outcome Bad t = WellFormed t → ⊥
Outcome Open t = OpenFormed t
Outcome Closed t = ClosedFormed t
