-- A freshly opened index: its tables stand for the ledger that opening gives. Assumes nothing.
use mathlib.Core.Path.{◌≡◌, refl, ap, sym, ◌∙◌}
use mathlib.Core.Logic.{◌⊎◌, inl, inr}
use mathlib.Core.Bool.{false, true}
use mathlib.Core.List.{List, [], ◌∷◌}
use Prim.Native.Nat.{ℕ, ◌+◌, ◌*◌, ◌≤◌, ◌<◌}
use native.Mathlib.Omega.{arith}
use lib.Dec.{leb}
use lib.ListN.{length, get_or, replicate, length-replicate, get_or-replicate, get_or-eq_default}
use lib.Seq.{length-sets}
use borrow.Author.Tests.{ne_eqb, le-ltb}
use Rattle.lists.specs.Lists.{All, all_nil, Mem, count_from}
use Rattle.lists.proofs.Numbers.{lt_or_le, decides_leb, decided}
use Rattle.lists.proofs.Stores.{get_d_sets_in, get_d_sets_out}
use Rattle.history.specs.Lent.{too_short, row_width, piece_head, block_head}
use Rattle.history.specs.Rules.{every}
use Rattle.history.specs.Ledger.{Opening, opened}
use Rattle.history.specs.Refusals.{accepted, first_of, max_end_tick, open_refusals, open_answer}
use Rattle.history.proofs.RulesLaws.{every_decides}
use Rattle.tables.specs.Columns.{column, block_base, head_state, head_end, head_kinds, head_count, head_used, head_last, block_next, pieces_root, pieces_count, front_calendar, front_days}
use Rattle.block_table.specs.Blocks.{blocks_of}
use Rattle.merge_set.specs.Tree.{leaf, rows, Balanced}
use Rattle.merge_set.specs.Table.{Shape}
use Rattle.piece_table.specs.Rep.{Links}
use Rattle.day_table.proofs.DayLists.{days_none}
use Rattle.calendar_table.proofs.Calendars.{calendar-none}
use Rattle.kind_mask.specs.Masks.{mask_of}
use Rattle.layout.specs.Tables.{Tables, lengths_of, head_at}
use Rattle.layout.specs.Encodes.{open_state, PiecesIn, Encodes}
use Rattle.layout.specs.Formed.{Blank}
use Rattle.layout.specs.Relations.{opening_of, opened_tables}
use Rattle.kind_mask.proofs.Masks.{mask_below, mask_kinds}
use Rattle.layout.proofs.Lengths.{lent_same, Heads, heads_fit}

-- ── opening is accepted ──

pub open_accepted : (a : Opening) → 1 ≤ a.end → a.end ≤ max_end_tick → 0 < length a.kinds → All (λ kind. kind ≤ 4) a.kinds → open_answer a ≡ accepted tt
unfolding open_refusals first_of
open_accepted a x y some known =
    let all : every (λ kind. leb kind 4) a.kinds ≡ true =
    decided (every (λ kind. leb kind 4) a.kinds) (every_decides (λ kind. leb kind 4) (λ kind. decides_leb kind 4) a.kinds) known in
    rw (ne_eqb a.end 0 (λ e. omega arith), le-ltb max_end_tick a.end y, ne_eqb (length a.kinds) 0 (λ e. omega arith), all)

-- ── zeros ──

pub get_d_zeros : (n i : ℕ) → get_or {A = ℕ} (replicate n 0) i 0 ≡ 0
get_d_zeros n i = go (lt_or_le i n)
  where
    go : (i < n) ⊎ (n ≤ i) → get_or {A = ℕ} (replicate n 0) i 0 ≡ 0
    go (inl h) = get_or-replicate n i 0 0 h
    go (inr h) = get_or-eq_default (replicate n 0) 0 {n = i} (omega (arith, length-replicate {A = ℕ} n 0))

-- a table of zeros has no pieces
pub no_links : (pieces : List ℕ) → row_width ≤ length pieces → ((i : ℕ) → get_or pieces i 0 ≡ 0) → Links pieces []
unfolding rows Shape Balanced
no_links pieces room zeros = record {
  tree = leaf;
  is = refl;
  shape = zeros (row_width * 0 + pieces_root);
  balanced = tt;
  count = sym (zeros (row_width * 0 + pieces_count));
  within = λ link m. nothing m;
  once = tt;
  room = let z : column pieces 0 pieces_count ≡ 0 = zeros (row_width * 0 + pieces_count) in omega arith;
}
  where
    nothing : {A : Type 0} {link : ℕ} → Mem link [] → A
    nothing m = elim m [ ]

-- so no pieces are in it
pub no_pieces_in : (n : ℕ) → piece_head ≤ n → (store : List ℕ) (used : ℕ) → PiecesIn (replicate n 0) store used []
no_pieces_in n room store used =
    record { links = []; linked = no_links (replicate n 0) (omega (arith, length-replicate {A = ℕ} n 0)) (get_d_zeros n); shows = refl; stored = all_nil }

no_blocks : (store blocks : List ℕ) (n : ℕ) → n ≡ 0 → [] ≡ blocks_of store blocks n
unfolding blocks_of count_from
no_blocks store blocks n e = rw e

module _ (end : ℕ) (kinds : List ℕ) (t : Tables) where
  pub opened-lengths : lengths_of t ≡ lengths_of (opened_tables end kinds t)
  unfolding opened_tables
  opened-lengths =
      lent_same (lengths_of t) (lengths_of (opened_tables end kinds t)) (sym (length-replicate (length t.pieces) 0))
      (sym (length-sets (replicate (length t.blocks) 0) block_base (open_state ∷ end ∷ mask_of kinds ∷ []) ∙ length-replicate (length t.blocks) 0)) refl
      (sym (length-replicate (length t.nodes) 0)) (sym (length-replicate (length t.entries) 0))

  -- the head of the block table: the three numbers written, and zeros behind
  head_in : (j : ℕ) → j < 3 → block_head ≤ length t.blocks → head_at (opened_tables end kinds t) j ≡ get_or (open_state ∷ end ∷ mask_of kinds ∷ []) j 0
  unfolding opened_tables
  head_in j h room =
      let at : row_width * 0 + (block_base + j) ≡ block_base + j = omega arith in
      rw at (get_d_sets_in (open_state ∷ end ∷ mask_of kinds ∷ []) (replicate (length t.blocks) 0) block_base j (omega (arith, length-replicate {A = ℕ} (length t.blocks) 0)) h)

  head_out : (j : ℕ) → 3 ≤ j → head_at (opened_tables end kinds t) j ≡ 0
  unfolding opened_tables
  head_out j h = get_d_sets_out (open_state ∷ end ∷ mask_of kinds ∷ []) (replicate (length t.blocks) 0) block_base (row_width * 0 + (block_base + j)) (inr (omega arith)) ∙ get_d_zeros (length t.blocks) (row_width * 0 + (block_base + j))

  -- no calendar, and no listed day
  front_zero : get_or (opened_tables end kinds t).blocks front_calendar 0 ≡ 0
  unfolding opened_tables
  front_zero = get_d_sets_out (open_state ∷ end ∷ mask_of kinds ∷ []) (replicate (length t.blocks) 0) block_base front_calendar (inl (omega arith)) ∙ get_d_zeros (length t.blocks) front_calendar

  days_zero : get_or (opened_tables end kinds t).blocks front_days 0 ≡ 0
  unfolding opened_tables
  days_zero = get_d_sets_out (open_state ∷ end ∷ mask_of kinds ∷ []) (replicate (length t.blocks) 0) block_base front_days (inl (omega arith)) ∙ get_d_zeros (length t.blocks) front_days

  pub opened_encodes : too_short (lengths_of t) ≡ false → Encodes (opened_tables end kinds t) (opened (opening_of end kinds t))
  unfolding opened opened_tables
  opened_encodes fits =
      let h : Heads (lengths_of t) = heads_fit (lengths_of t) fits in
      let is_mask : head_at (opened_tables end kinds t) head_kinds ≡ mask_of kinds = head_in head_kinds (omega arith) h.blocks in
      record {
        lengths = opened-lengths;
        heads = rw (← opened-lengths) fits;
        state = head_in head_state (omega arith) h.blocks;
        end = head_in head_end (omega arith) h.blocks;
        mask = rw is_mask (mask_below kinds);
        kinds = rw is_mask (sym (mask_kinds kinds));
        last = head_out head_last (omega arith);
        used = head_out head_used (omega arith);
        store = rw (head_out head_used (omega arith));
        count = head_out head_count (omega arith);
        blocks = no_blocks t.store (opened_tables end kinds t).blocks (head_at (opened_tables end kinds t) head_count) (head_out head_count (omega arith));
        blocks_stored = record { inside = λ link p q. absurd (omega (arith, head_out head_count (omega arith))) };
        pieces = no_pieces_in (length t.pieces) h.pieces t.store _;
        trees = record { none = λ link z. let e : link ≡ 0 = omega arith in rw e (head_out block_next (omega arith)) };
        calendar = calendar-none (opened_tables end kinds t).blocks front_zero;
        days = days_none (opened_tables end kinds t).blocks days_zero;
      }

  pub opened_blank : Blank (opened_tables end kinds t)
  unfolding opened_tables
  opened_blank = record {
    nodes = ap (λ (n : ℕ). replicate n 0) (sym (length-replicate (length t.nodes) 0));
    entries = ap (λ (n : ℕ). replicate n 0) (sym (length-replicate (length t.entries) 0));
  }
