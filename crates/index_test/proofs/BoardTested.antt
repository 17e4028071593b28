-- The returns of the tests of a board: a part fails, or all hold. Assumes nothing.
use mathlib.Core.Path.{◌≡◌}
use mathlib.Core.Bool.{Bool, true, false, not}
use Prim.Native.Nat.{ℕ, ◌+◌, ◌≤◌, ◌<◌}
use native.Mathlib.Omega.{arith}
use lib.ListN.{length}
use borrow.Author.Tests.{not-true, not-false}
use Rattle.lists.specs.Tests.{Decides}
use Rattle.lists.proofs.Numbers.{confirm, refute, decides_iff}
use Rattle.history.specs.Lent.{Lent, too_short, block_rows, piece_head, block_head, node_head, entry_head}
use Rattle.history.specs.Refusals.{max_end_tick}
use Rattle.tables.specs.Columns.{column, pieces_count, head_end, head_kinds, head_count, head_used, head_last}
use Rattle.block_table.specs.Rows.{RowsSound}
use Rattle.piece_table.specs.Test as piece
use Rattle.day_table.specs.DayLists.{DaysFormed}
use Rattle.calendar_table.specs.Calendars.{CalendarFormed}
use Rattle.layout.specs.Tables.{Tables, lengths_of, head_at}
use Rattle.layout.proofs.Lengths.{heads_fit, fit_heads}
use Rattle.index_test.specs.Board.{Numbers, HeadFormed, BoardFormed}

-- ── lengths ──

pub short_pieces : (n : Lent) → n.pieces < piece_head → Decides false (too_short n ≡ false)
short_pieces n h = refute (λ e. omega (arith, (heads_fit n e).pieces))

pub short_blocks : (n : Lent) → n.blocks < block_head → Decides false (too_short n ≡ false)
short_blocks n h = refute (λ e. omega (arith, (heads_fit n e).blocks))

pub short_nodes : (n : Lent) → n.nodes < node_head → Decides false (too_short n ≡ false)
short_nodes n h = refute (λ e. omega (arith, (heads_fit n e).nodes))

pub short_entries : (n : Lent) → n.entries < entry_head → Decides false (too_short n ≡ false)
short_entries n h = refute (λ e. omega (arith, (heads_fit n e).entries))

pub long_enough : (n : Lent) → piece_head ≤ n.pieces → block_head ≤ n.blocks → node_head ≤ n.nodes → entry_head ≤ n.entries → Decides true (too_short n ≡ false)
long_enough n p b d e = confirm (fit_heads n (record { pieces = p; blocks = b; nodes = d; entries = e }))

pub ruleset fitting = (short_pieces, short_blocks, short_nodes, short_entries, long_enough, arith)

-- ── numbers ──

module _ (t : Tables) (end used kinds last : ℕ) (a : end ≡ head_at t head_end) (b : used ≡ head_at t head_used) (c : kinds ≡ head_at t head_kinds)
    (d : last ≡ head_at t head_last) where
  pub numbers_rest : (r : Bool) (count pieces : ℕ) → count ≡ head_at t head_count → pieces ≡ column t.pieces 0 pieces_count
      → (end ≡ 0 → ⊥) → end ≤ max_end_tick → (kinds ≡ 0 → ⊥) → kinds ≤ 31 → last < end → used ≤ length t.store
      → Decides r (count + pieces ≤ block_rows (lengths_of t)) → Decides r (Numbers t)
  numbers_rest r count pieces p q some most any few before fits k =
      decides_iff r
      (λ h. record {
        some_tick = omega arith;
        end_most = omega arith;
        some_kind = omega arith;
        kinds_most = omega arith;
        last_below_end = omega arith;
        used_fits = omega arith;
        rows_fit = rw (← p, ← q) h;
      })
      (λ s. rw (p, q) s.rows_fit) k

pub end_none : (t : Tables) (end : ℕ) → end ≡ head_at t head_end → end ≡ 0 → Decides false (Numbers t)
end_none t end a e = refute (λ s. omega (arith, s.some_tick))

pub end_high : (t : Tables) (end : ℕ) → end ≡ head_at t head_end → max_end_tick < end → Decides false (Numbers t)
end_high t end a h = refute (λ s. omega (arith, s.end_most))

pub kinds_none : (t : Tables) (kinds : ℕ) → kinds ≡ head_at t head_kinds → kinds ≡ 0 → Decides false (Numbers t)
kinds_none t kinds a e = refute (λ s. omega (arith, s.some_kind))

pub kinds_high : (t : Tables) (kinds : ℕ) → kinds ≡ head_at t head_kinds → 31 < kinds → Decides false (Numbers t)
kinds_high t kinds a h = refute (λ s. omega (arith, s.kinds_most))

pub last_late : (t : Tables) (end last : ℕ) → end ≡ head_at t head_end → last ≡ head_at t head_last → end ≤ last → Decides false (Numbers t)
last_late t end last a b h = refute (λ s. omega (arith, s.last_below_end))

pub used_past : (t : Tables) (used : ℕ) → used ≡ head_at t head_used → length t.store < used → Decides false (Numbers t)
used_past t used a h = refute (λ s. omega (arith, s.used_fits))

pub ruleset numbering = (numbers_rest, end_none, end_high, kinds_none, kinds_high, last_late, used_past, arith)

-- ── the heads ──

pub head_heads : (t : Tables) (r : Bool) → not r ≡ true → Decides r (too_short (lengths_of t) ≡ false) → Decides false (HeadFormed t)
head_heads t r e d = refute (λ s. d.not (not-true r e) s.heads)

pub head_numbers_lem : (t : Tables) (r : Bool) → not r ≡ true → Decides r (Numbers t) → Decides false (HeadFormed t)
head_numbers_lem t r e d = refute (λ s. d.not (not-true r e) s.numbers)

pub head_calendar : (t : Tables) (r : Bool) → not r ≡ true → Decides r (CalendarFormed t.blocks) → Decides false (HeadFormed t)
head_calendar t r e d = refute (λ s. d.not (not-true r e) s.calendar)

pub head_rest : (t : Tables) (h m c k : Bool) → not h ≡ false → not m ≡ false → not c ≡ false → Decides h (too_short (lengths_of t) ≡ false) → Decides m (Numbers t)
    → Decides c (CalendarFormed t.blocks) → Decides k (DaysFormed t.blocks) → Decides k (HeadFormed t)
head_rest t h m c k eh em ec dh dm dc dk =
    decides_iff k (λ d. record { heads = dh.yes (not-false h eh); numbers = dm.yes (not-false m em); calendar = dc.yes (not-false c ec); days = d })
    (λ s. s.days) dk

pub ruleset heading = (head_heads, head_numbers_lem, head_calendar, head_rest)

-- ── the board ──

pub board_head : (t : Tables) (r : Bool) → not r ≡ true → Decides r (HeadFormed t) → Decides false (BoardFormed t)
board_head t r e d = refute (λ s. d.not (not-true r e) (record { heads = s.heads; numbers = s.numbers; calendar = s.calendar; days = s.days }))

module _ (t : Tables) (kinds end used last count : ℕ) (a : kinds ≡ head_at t head_kinds) (b : end ≡ head_at t head_end) (c : used ≡ head_at t head_used)
    (d : last ≡ head_at t head_last) (n : count ≡ head_at t head_count) where
  pub board_rows : (r : Bool) → not r ≡ true → Decides r (RowsSound t.blocks (record { kinds = kinds; end = end; used = used }) 0 count) → Decides false (BoardFormed t)
  board_rows r e k = refute (λ s. k.not (not-true r e) (rw (a, b, c, n) s.rows))

  pub board_rest : (h r p : Bool) → not h ≡ false → not r ≡ false → Decides h (HeadFormed t)
      → Decides r (RowsSound t.blocks (record { kinds = kinds; end = end; used = used }) 0 count) → Decides p (piece.WellFormed t.pieces kinds used last)
      → Decides p (BoardFormed t)
  board_rest h r p eh er dh dr dp =
      let head = dh.yes (not-false h eh) in
      decides_iff p
      (λ w. record {
        heads = head.heads;
        numbers = head.numbers;
        calendar = head.calendar;
        days = head.days;
        rows = rw (← a, ← b, ← c, ← n) (dr.yes (not-false r er));
        pieces = rw (← a, ← c, ← d) w;
      })
      (λ s. rw (a, c, d) s.pieces) dp

pub ruleset boarding = (board_head, board_rows, board_rest)
