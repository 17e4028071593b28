-- The columns of the lent tables, as docs/LAYOUT.md sets them down. A link is a row's number plus one, and 0 is no row. Definitions alone.
use Rattle.std.specs.Prelude.{List, ℕ, ◌+◌, ◌-◌, ◌*◌, get_or}
use Rattle.history.specs.Lent.{row_width, entry_width, block_head, entry_head}

-- ── places ──

-- Column c of the row of a link, in a table whose head is the row of link 0 (pieces, nodes). Past the table's end it reads as 0.
abbrev pub column : (table : List ℕ) (link c : ℕ) → ℕ
column table link c = get_or table (row_width * link + c) 0

-- in the block table the last row of the head is the row of link 0; what stands in front of it is named below
abbrev pub block_base : ℕ
block_base = block_head - row_width

abbrev pub block_column : (blocks : List ℕ) (link c : ℕ) → ℕ
block_column blocks link c = column blocks link (block_base + c)

-- column c of an entry row; entry rows are numbered from 0
abbrev pub entry_column : (entries : List ℕ) (row c : ℕ) → ℕ
entry_column entries row c = get_or entries (entry_head + (entry_width * row + c)) 0

-- ── pieces: the row, then the head ──

abbrev pub piece_first : ℕ
piece_first = 0

abbrev pub piece_length : ℕ
piece_length = 1

abbrev pub piece_written : ℕ
piece_written = 2

abbrev pub piece_offset : ℕ
piece_offset = 3

abbrev pub piece_left : ℕ
piece_left = 4

abbrev pub piece_right : ℕ
piece_right = 5

abbrev pub piece_depth : ℕ
piece_depth = 6

-- the kind of the piece
abbrev pub piece_owner : ℕ
piece_owner = 7

abbrev pub pieces_root : ℕ
pieces_root = 0

abbrev pub pieces_count : ℕ
pieces_count = 1

-- ── blocks: the row, then the head ──

abbrev pub block_first : ℕ
block_first = 0

abbrev pub block_length : ℕ
block_length = 1

abbrev pub block_created : ℕ
block_created = 2

abbrev pub block_destroyed : ℕ
block_destroyed = 3

abbrev pub block_offset : ℕ
block_offset = 4

-- the kind of the block
abbrev pub block_owner : ℕ
block_owner = 5

-- finish's to work with while it decides rule 24, in rows and in the head: 0 in an open index; in a closed one nothing reads it
abbrev pub block_next : ℕ
block_next = 6

-- not used; 0 in a new row
abbrev pub block_spare : ℕ
block_spare = 7

-- 0 none, 1 open, 2 closed
abbrev pub head_state : ℕ
head_state = 0

abbrev pub head_end : ℕ
head_end = 1

-- the set of kinds, as a mask
abbrev pub head_kinds : ℕ
head_kinds = 2

abbrev pub head_count : ℕ
head_count = 3

abbrev pub head_used : ℕ
head_used = 4

abbrev pub head_last : ℕ
head_last = 5

-- ── the front of the block table's head: places, each behind the one before it ──

-- All but the calendar and the list of days are free until the requests that fill them: zeros from open or load on, and no call reads them.

-- a planner's floor, and how many pieces he holds
abbrev pub front_floors : ℕ
front_floors = 0

abbrev pub front_counts : ℕ
front_counts = front_floors + 16

-- the calendar: whether installed; seven days of 17; how many days of its own, and 64 of 18
abbrev pub front_calendar : ℕ
front_calendar = front_counts + 16

-- the list of days: how many, and 64 of 2
abbrev pub front_days : ℕ
front_days = front_calendar + (1 + 7 * 17 + 1 + 64 * 18)

-- how many marks there are
abbrev pub front_mark_count : ℕ
front_mark_count = front_days + (1 + 64 * 2)

-- how many calls were accepted
abbrev pub front_calls : ℕ
front_calls = front_mark_count + 1

-- 32 marks of 16: twelve bytes of the name, number, block count, store use, last tick
abbrev pub front_marks : ℕ
front_marks = front_calls + 1

-- what stands behind is free
abbrev pub front_rest : ℕ
front_rest = front_marks + 32 * 16

-- ── nodes: the row, then the head ──

abbrev pub node_min : ℕ
node_min = 0

abbrev pub node_max : ℕ
node_max = 1

abbrev pub node_left : ℕ
node_left = 2

abbrev pub node_right : ℕ
node_right = 3

-- the first row of its run of entries, and how many there are
abbrev pub node_first : ℕ
node_first = 4

abbrev pub node_entries : ℕ
node_entries = 5

abbrev pub node_kind : ℕ
node_kind = 6

-- the root of kind k stands in column k of the head; the count behind the five
abbrev pub nodes_count : ℕ
nodes_count = 5

-- ── entries: the row, then the head ──

abbrev pub entry_block : ℕ
entry_block = 0

-- the first cell of the entry's block: a binary search stays in this table
abbrev pub entry_key : ℕ
entry_key = 1

-- in the head, as it stands at index 0
abbrev pub entries_count : ℕ
entries_count = 0
