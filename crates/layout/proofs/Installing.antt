-- The tables of an index of which the front of the head alone has changed, and those that the two install calls leave. Assumes nothing.
use mathlib.Core.Path.{◌≡◌, refl, sym, subst, ◌∙◌}
use mathlib.Core.Logic.{inl, inr}
use mathlib.Core.Bool.{false, true≢false}
use mathlib.Core.Option.{Option, none, some}
use mathlib.Core.List.{List}
use Prim.Native.Nat.{ℕ, suc, ◌+◌, ◌*◌, ◌≤◌}
use native.Mathlib.Omega.{arith}
use lib.ListN.{length, get_or}
use Rattle.history.specs.Lent.{row_width}
use Rattle.history.specs.Days.{Day, most_days, days_of}
use Rattle.history.specs.Hours.{Calendar, calendar_of}
use Rattle.history.specs.Tree as segment
use Rattle.history.specs.Ledger.{Ledger, with_calendar, with_days, is_some, finished, install_by, install_days_by}
use Rattle.tables.specs.Columns.{column, block_base, block_first, head_state, head_end, head_kinds, head_count, head_used, head_last, block_next}
use Rattle.block_table.specs.Blocks.{SameRows}
use Rattle.block_table.proofs.Blocks.{blocks_kept}
use Rattle.block_table.proofs.Keeping.{stored_kept}
use Rattle.ordering.specs.Order.{Unordered}
use Rattle.ordering.proofs.Keeping.{unordered_kept}
use Rattle.segment_table.specs.Closed as closed
use Rattle.day_table.specs.DayLists.{DaysIn, days_installed_in}
use Rattle.day_table.proofs.DayLists.{days_kept, days_installed_in_lem, days_installed_other, days_installed_length}
use Rattle.calendar_table.specs.Calendars.{CalendarIn, installed_in}
use Rattle.calendar_table.proofs.Calendars.{calendar_kept, installed_in_lem, installed_other, installed_length}
use Rattle.layout.specs.Tables.{Tables, tables, lengths_of, head_at, tree_tables}
use Rattle.layout.specs.Encodes.{Encodes, TreesIn}
use Rattle.layout.specs.Formed.{Blank}
use Rattle.layout.specs.Relations.{installed_tables, days_tables}
use Rattle.layout.proofs.Lengths.{lent_same, heads_fit}

-- ── an open ledger ──

pub still_none : (trees : Option (List segment.Tree)) → is_some trees ≡ false → trees ≡ none
still_none none e = refl
still_none (some trees) e = absurd (true≢false e)

-- its tables have no order
pub open_unordered : (t : Tables) (l : Ledger) → Encodes t l → finished l ≡ false → Unordered t.blocks (length l.now.blocks)
open_unordered t l e still = subst (λ (x : Option (List segment.Tree)). TreesIn t l x) (still_none l.trees still) e.trees

-- ── another front ──

-- a tree stands in tables whose blocks have the same first cells
module _ (t : closed.Tables) (blocks' : List ℕ) (same : (k : ℕ) → closed.first_cell_in blocks' k ≡ closed.first_cell_in t.blocks k) where
  abbrev other : closed.Tables
  other = record { blocks = blocks'; nodes = t.nodes; entries = t.entries }

  row_same : {kind link lo hi : ℕ} {xs : List ℕ} → closed.NodeRow t kind link lo hi xs → closed.NodeRow other kind link lo hi xs
  row_same h = record {
    some = h.some;
    used = h.used;
    low = h.low;
    high = h.high;
    own_kind = h.own_kind;
    narrow = h.narrow;
    inside = h.inside;
    listed = h.listed;
    keyed = record { key = λ j l. h.keyed.key j l ∙ sym (same _) };
  }

  tree_same : (kind link lo hi : ℕ) (T : segment.Tree) → closed.TreeAt t kind link lo hi T → closed.TreeAt other kind link lo hi T
  unfolding closed.TreeAt
  tree_same kind link lo hi segment.hole h = h
  tree_same kind link lo hi (segment.node es l r) h =
      (row_same h.0, tree_same kind (closed.left_at t.nodes link) lo (segment.mid lo hi) l h.1, tree_same kind (closed.right_at t.nodes link) (segment.mid lo hi) hi r h.2)

  closed_same : {e : ℕ} {trees : List segment.Tree} → closed.Closed t e trees → closed.Closed other e trees
  closed_same {e} {trees} h = record {
    five = h.five;
    stands = λ kind low. tree_same kind (column t.nodes 0 kind) 0 e (segment.tree_at trees kind) (h.stands kind low);
    all_rows_lem = h.all_rows_lem;
    room = h.room;
    all_entries_lem = h.all_entries_lem;
    consecutive = h.consecutive;
  }

-- an open or a closed index of which the front of the head alone has changed
module _ (t : Tables) (l : Ledger) (e : Encodes t l) (blocks' : List ℕ) (long : length blocks' ≡ length t.blocks)
    (same : (i : ℕ) → block_base ≤ i → get_or blocks' i 0 ≡ get_or t.blocks i 0) where
  abbrev t' : Tables
  t' = tables t.pieces blocks' t.store t.nodes t.entries

  head_same : (c : ℕ) → head_at t' c ≡ head_at t c
  head_same c = same (row_width * 0 + (block_base + c)) (omega arith)

  same_rows : (n : ℕ) → SameRows t.blocks blocks' n
  same_rows n = record { same = λ i lo hi. same i (omega arith) }

  lens : lengths_of t ≡ lengths_of t'
  lens = lent_same (lengths_of t) (lengths_of t') refl (sym long) refl refl refl

  pub front_encodes : (x : Option Calendar) (days : List Day) → CalendarIn blocks' x → DaysIn blocks' days → Encodes t' (with_days days (with_calendar x l))
  front_encodes x days calendar-in days-in = record {
    lengths = e.lengths ∙ lens;
    heads = rw (← lens) e.heads;
    state = head_same head_state ∙ e.state;
    end = head_same head_end ∙ e.end;
    mask = rw (head_same head_kinds) e.mask;
    kinds = rw (head_same head_kinds) e.kinds;
    last = head_same head_last ∙ e.last;
    used = head_same head_used ∙ e.used;
    store = rw (head_same head_used) e.store;
    count = head_same head_count ∙ e.count;
    blocks = rw (head_same head_count) (e.blocks ∙ sym (blocks_kept t.store (same_rows (head_at t head_count))));
    blocks_stored = rw (head_same head_count, head_same head_used) (stored_kept (same_rows (head_at t head_count)) e.blocks_stored);
    pieces = rw (head_same head_used) e.pieces;
    trees = front_trees l.trees e.trees;
    calendar = calendar-in;
    days = days-in;
  }
    where
      front_trees : (y : Option (List segment.Tree)) → TreesIn t l y → TreesIn t' (with_days days (with_calendar x l)) y
      front_trees none h = unordered_kept (same_rows (length l.now.blocks)) (head_same block_next) h
      front_trees (some trees) h = closed_same (tree_tables t) blocks' (λ k. same (row_width * suc k + (block_base + block_first)) (omega arith)) h

-- ── what install leaves ──

-- a calendar, and the list of days as it was
pub installed_encodes : (t : Tables) (l : Ledger) (numbers : List ℕ) → Encodes t l → Encodes (installed_tables numbers t) (install_by l numbers)
unfolding install_by
installed_encodes t l numbers e =
    let h = heads_fit (lengths_of t) e.heads in
    let long = installed_length t.blocks numbers in
    front_encodes t l e (installed_in t.blocks numbers) long (λ i far. installed_other t.blocks numbers i (inr (omega arith)))
    (some (calendar_of numbers)) l.days (installed_in_lem t.blocks numbers (omega (arith, h.blocks)))
    (days_kept t.blocks (installed_in t.blocks numbers) l.days (omega (arith, h.blocks)) (omega (arith, h.blocks))
    (λ i low high. installed_other t.blocks numbers i (inr low)) e.days)

-- a list of days, and the calendar as it was
pub days_installed_encodes : (t : Tables) (l : Ledger) (numbers : List ℕ) → Encodes t l → length (days_of numbers) ≤ most_days
    → Encodes (days_tables numbers t) (install_days_by l numbers)
unfolding install_days_by
days_installed_encodes t l numbers e few =
    let h = heads_fit (lengths_of t) e.heads in
    front_encodes t l e (days_installed_in t.blocks numbers) (days_installed_length t.blocks numbers)
    (λ i far. days_installed_other t.blocks numbers i (inr (omega arith))) l.calendar (days_of numbers)
    (calendar_kept t.blocks (days_installed_in t.blocks numbers) l.calendar (λ i low high. days_installed_other t.blocks numbers i (inl high)) e.calendar)
    (days_installed_in_lem t.blocks numbers (omega (arith, h.blocks)) few)

-- nodes and entries stay zeros, and an open index stays open
pub installed_blank : (t : Tables) (numbers : List ℕ) → Blank t → Blank (installed_tables numbers t)
installed_blank t numbers b = record { nodes = b.nodes; entries = b.entries }

pub install_open : (l : Ledger) (numbers : List ℕ) → finished (install_by l numbers) ≡ finished l
unfolding install_by
install_open l numbers = refl

pub days_blank : (t : Tables) (numbers : List ℕ) → Blank t → Blank (days_tables numbers t)
days_blank t numbers b = record { nodes = b.nodes; entries = b.entries }

pub days_open : (l : Ledger) (numbers : List ℕ) → finished (install_days_by l numbers) ≡ finished l
unfolding install_days_by
days_open l numbers = refl
