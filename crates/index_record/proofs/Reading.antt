-- The tables after a read: the last tick is set, and they stand for the ledger's next state. Assumes nothing.
use mathlib.Core.Path.{◌≡◌, refl, sym, subst, ◌∙◌}
use mathlib.Core.Bool.{true, false}
use mathlib.Core.Option.{Option}
use mathlib.Core.List.{List}
use Prim.Native.Nat.{ℕ, ◌+◌, ◌*◌, ◌≤◌}
use native.Mathlib.Omega.{arith}
use lib.ListN.{length, get_or, set, length-set}
use lib.Seq.{get_or-set_same, get_or-set_other}
use Rattle.history.specs.Lent.{row_width, block_head}
use Rattle.history.specs.Words.{Operation}
use Rattle.history.specs.Tree as segment
use Rattle.history.specs.Ledger.{Ledger, with_now, finished, is_read, read_by, update_by, record_by}
use Rattle.tables.specs.Columns.{block_base, head_state, head_end, head_kinds, head_count, head_used, head_last, block_next}
use Rattle.block_table.specs.Blocks.{SameRows, head_place}
use Rattle.block_table.proofs.Blocks.{blocks_kept}
use Rattle.block_table.proofs.Keeping.{stored_kept}
use Rattle.ordering.proofs.Keeping.{unordered_kept}
use Rattle.day_table.proofs.DayLists.{days_kept}
use Rattle.calendar_table.proofs.Calendars.{calendar_kept}
use Rattle.layout.specs.Tables.{Tables, lengths_of, head_at}
use Rattle.layout.specs.Encodes.{Encodes, TreesIn}
use Rattle.layout.specs.Relations.{read_tables}
use Rattle.layout.proofs.Lengths.{lent_same, heads_fit}
use Rattle.layout.proofs.Installing.{still_none, open_unordered}

-- ── what recording leaves ──

pub record_read : (l : Ledger) (o : Operation) → is_read l.now o ≡ true → record_by l o ≡ with_now (read_by l.now o) l
unfolding record_by
record_read l o e = rw e

pub record_update : (l : Ledger) (o : Operation) → is_read l.now o ≡ false
    → record_by l o ≡ with_now (update_by l.now o) l
unfolding record_by
record_update l o e = rw e

-- ── a read ──

module _ (t : Tables) (l : Ledger) (o : Operation) (e : Encodes t l) (still : finished l ≡ false) (read : is_read l.now o ≡ true) where
  head_there : block_head ≤ length t.blocks
  head_there = (heads_fit (lengths_of t) e.heads).blocks

  -- all but the last tick is as it was
  other : (i : ℕ) → (i ≡ head_place head_last → ⊥) → get_or (set t.blocks (head_place head_last) o.tick) i 0 ≡ get_or t.blocks i 0
  other i n = get_or-set_other t.blocks (head_place head_last) i o.tick 0 n

  head_other : (c : ℕ) → (c ≡ head_last → ⊥) → head_at (read_tables o.tick t) c ≡ head_at t c
  head_other c n = other (row_width * 0 + (block_base + c)) (λ z. n (omega arith))

  same_rows : (n : ℕ) → SameRows t.blocks (set t.blocks (head_place head_last) o.tick) n
  same_rows n = record { same = λ i lo hi. other i (λ z. omega arith) }

  lens : lengths_of t ≡ lengths_of (read_tables o.tick t)
  lens = lent_same (lengths_of t) (lengths_of (read_tables o.tick t)) refl (sym (length-set t.blocks (head_place head_last) o.tick)) refl refl refl

  pub read_encodes : Encodes (read_tables o.tick t) (record_by l o)
  unfolding read_by
  read_encodes =
      let kinds : head_at (read_tables o.tick t) head_kinds ≡ head_at t head_kinds = head_other head_kinds (λ z. omega arith) in
      let used : head_at (read_tables o.tick t) head_used ≡ head_at t head_used = head_other head_used (λ z. omega arith) in
      let count : head_at (read_tables o.tick t) head_count ≡ head_at t head_count = head_other head_count (λ z. omega arith) in
      let there : Encodes (read_tables o.tick t) (with_now (read_by l.now o) l) = record {
        lengths = e.lengths ∙ lens;
        heads = rw (← lens) e.heads;
        state = head_other head_state (λ z. omega arith) ∙ e.state;
        end = head_other head_end (λ z. omega arith) ∙ e.end;
        mask = rw kinds e.mask;
        kinds = rw kinds e.kinds;
        last = get_or-set_same t.blocks (head_place head_last) o.tick 0 (omega (arith, head_there));
        used = used ∙ e.used;
        store = rw used e.store;
        count = count ∙ e.count;
        blocks = rw count (e.blocks ∙ sym (blocks_kept t.store (same_rows (head_at t head_count))));
        blocks_stored = rw (count, used) (stored_kept (same_rows (head_at t head_count)) e.blocks_stored);
        pieces = rw used e.pieces;
        trees = subst (λ (x : Option (List segment.Tree)). TreesIn (read_tables o.tick t) (with_now (read_by l.now o) l) x) (sym (still_none l.trees still))
            (unordered_kept (same_rows (length l.now.blocks)) (other (row_width * 0 + (block_base + block_next)) (λ z. omega arith)) (open_unordered t l e still));
        calendar = calendar_kept t.blocks (set t.blocks (head_place head_last) o.tick) l.calendar (λ i lo hi. other i (λ z. omega arith)) e.calendar;
        days = days_kept t.blocks (set t.blocks (head_place head_last) o.tick) l.days (omega (arith, head_there)) (omega (arith, head_there, length-set t.blocks (head_place head_last) o.tick))
            (λ i lo hi. other i (λ z. omega arith)) e.days;
      } in
      subst (λ (m : Ledger). Encodes (read_tables o.tick t) m) (sym (record_read l o read)) there
