-- A table for every list of blocks, with any head and any order column. Assumes nothing.
use mathlib.Core.Path.{◌≡◌, refl, ap₂, ◌∙◌}
use mathlib.Core.Logic.{inr}
use mathlib.Core.List.{List, [], ◌∷◌, ◌++◌, map}
use Prim.Native.Nat.{ℕ, zero, suc, ◌+◌, ◌*◌, ◌^◌, ◌≤◌, ◌<◌}
use native.Mathlib.Omega.{arith}
use lib.ListN.{length, get_or, set}
use lib.Seq.{sets, length-sets}
use Rattle.lists.specs.Lists.{All, all_nil, all_cons}
use Rattle.lists.proofs.Lists.{all_at}
use Rattle.lists.proofs.Counting.{map_from_at}
use Rattle.history.specs.Lent.{row_width, block_head}
use Rattle.history.specs.Words.{Block, size, first_cell}
use Rattle.history.specs.Sound as sound
use Rattle.lists.proofs.Stores.{get_d_sets_out}
use Rattle.tables.specs.Columns.{front_calendar, front_days, front_mark_count, block_column, block_base, block_first, block_length, block_created, block_destroyed, block_offset, block_owner, block_next}
use Rattle.block_table.specs.Blocks.{BlockRow, no_row, shown_block, row_at, block_of_row, blocks_of, Stored}
use Rattle.block_table.proofs.Blocks.{shown_is}
use Rattle.ordering.specs.Order.{next_at}
use Rattle.layout.specs.Law.{Word}
use Rattle.layout.proofs.ExistsTable.{table_by, table_by_length, table_by_at, part_in, all_get, table_by_words}

-- ── rows ──

-- the rows of blocks whose bytes lie in the first `used` bytes of a store
pub record BlockRows (store : List ℕ) (used : ℕ) (bs : List Block) : Type 0 where
  pub rows : List BlockRow
  pub shows : map (shown_block store) rows ≡ bs
  pub inside : All (λ (f : BlockRow). f.offset + f.size ≤ used) rows

-- every sound block has a row; the store may go on behind the used part
pub block_rows_lem : (kinds : List ℕ) (end : ℕ) (store rest : List ℕ) (bs : List Block) → All (sound.SoundBlock kinds end store) bs → BlockRows (store ++ rest) (length store) bs
block_rows_lem kinds end store rest [] all_nil = record { rows = []; shows = refl; inside = all_nil }
block_rows_lem kinds end store rest (b ∷ bs) (all_cons h hs) =
    let stored = h.stretch.stored in
    let more = block_rows_lem kinds end store rest bs hs in
    let row : BlockRow =
    record { first = first_cell b; size = size b.stretch; created = b.created; destroyed = b.destroyed; offset = stored.offset; owner = b.kind } in
    let is : shown_block (store ++ rest) row ≡ b = shown_is (store ++ rest) row b refl (omega (arith, h.stretch.from_line)) (part_in store rest b.stretch stored) refl refl in
    record {
      rows = row ∷ more.rows;
      shows = ap₂ (λ (q : Block) (qs : List Block). q ∷ qs) is more.shows;
      inside = all_cons stored.inside more.inside;
    }

-- ── the table ──

-- what the head says
pub record Head : Type 0 where
  pub state : ℕ
  pub end : ℕ
  pub kinds : ℕ
  pub used : ℕ
  pub last : ℕ
  -- what stands in its front: at the calendar's place no more than a calendar takes, and behind it no more than a list of days
  pub calendar : List ℕ
  pub calendar-fits : front_calendar + length calendar ≤ front_days
  pub days : List ℕ
  pub days_fit : front_days + length days ≤ front_mark_count

-- the head, then a row for each block; what is not used is 0
unfoldable pub block_row : Head → (fs : List BlockRow) (link : ℕ) → List ℕ
block_row h fs zero = h.state ∷ h.end ∷ h.kinds ∷ length fs ∷ h.used ∷ h.last ∷ []
block_row h fs (suc k) =
    let f = get_or fs k no_row in
    f.first ∷ f.size ∷ f.created ∷ f.destroyed ∷ f.offset ∷ f.owner ∷ []

-- as long as it is lent
unfoldable pub block_table : (many : ℕ) → Head → (fs : List BlockRow) → List ℕ
block_table many h fs = sets (sets (table_by block_base many (block_row h fs)) front_calendar h.calendar) front_days h.days

pub block_table_length : (many : ℕ) (h : Head) (fs : List BlockRow) → length (block_table many h fs) ≡ many
unfolding block_table
block_table_length many h fs =
    length-sets (sets (table_by block_base many (block_row h fs)) front_calendar h.calendar) front_days h.days
    ∙ length-sets (table_by block_base many (block_row h fs)) front_calendar h.calendar
    ∙ table_by_length block_base many (block_row h fs)

module _ (many : ℕ) (h : Head) (fs : List BlockRow) (room : block_head + row_width * length fs ≤ many) where
  -- a column in use reads as the row says
  pub block_column_lem : (link c : ℕ) → link ≤ length fs → c < row_width → block_column (block_table many h fs) link c ≡ get_or (block_row h fs link) c 0
  unfolding block_table
  block_column_lem link c p q =
      get_d_sets_out h.days (sets (table_by block_base many (block_row h fs)) front_calendar h.calendar) front_days (row_width * link + (block_base + c)) (inr (omega (arith, h.days_fit)))
      ∙ get_d_sets_out h.calendar (table_by block_base many (block_row h fs)) front_calendar (row_width * link + (block_base + c)) (inr (omega (arith, h.calendar-fits)))
      ∙ table_by_at block_base many (block_row h fs) link c q (omega arith)

  -- there is no order
  pub block_next_lem : (link : ℕ) → link ≤ length fs → next_at (block_table many h fs) link ≡ 0
  unfolding block_row
  block_next_lem zero p = block_column_lem 0 block_next p (omega arith)
  block_next_lem (suc k) p = block_column_lem (suc k) block_next p (omega arith)

  -- the row of a link is as given
  pub row_at_lem : (k : ℕ) → k < length fs → row_at (block_table many h fs) (suc k) ≡ get_or fs k no_row
  unfolding block_row
  row_at_lem k p = λ i. record {
    owner = block_column_lem (suc k) block_owner p (omega arith) i;
    first = block_column_lem (suc k) block_first p (omega arith) i;
    size = block_column_lem (suc k) block_length p (omega arith) i;
    created = block_column_lem (suc k) block_created p (omega arith) i;
    destroyed = block_column_lem (suc k) block_destroyed p (omega arith) i;
    offset = block_column_lem (suc k) block_offset p (omega arith) i;
  }

  -- all blocks are shown, and their bytes are inside the used part
  pub blocks_shown : (store : List ℕ) → blocks_of store (block_table many h fs) (length fs) ≡ map (shown_block store) fs
  unfolding blocks_of block_of_row
  blocks_shown store =
      map_from_at (shown_block store) (row_at (block_table many h fs)) no_row 1 fs
      (λ k p. let z : 1 + k ≡ suc k = omega arith in rw z (row_at_lem k p))

  pub blocks_inside : (used : ℕ) → All (λ (f : BlockRow). f.offset + f.size ≤ used) fs → Stored used (block_table many h fs) (length fs)
  unfolding block_row
  blocks_inside used a = record { inside = inside }
    where
      inside : (link : ℕ) → 0 < link → link ≤ length fs
          → block_column (block_table many h fs) link block_offset + block_column (block_table many h fs) link block_length ≤ used
      inside zero p q = absurd (omega arith)
      inside (suc k) p q =
          let off = block_column_lem (suc k) block_offset q (omega arith) in
          let long = block_column_lem (suc k) block_length q (omega arith) in
          rw (off, long) (all_at no_row a k (omega arith))

-- ── its numbers ──

-- words written over words
all_set : {P : ℕ → Type 0} {l : List ℕ} (i v : ℕ) → P v → All P l → All P (set l i v)
all_set i v p all_nil = all_nil
all_set zero v p (all_cons q qs) = all_cons p qs
all_set (suc i) v p (all_cons q qs) = all_cons q (all_set i v p qs)

all_sets : {P : ℕ → Type 0} {l : List ℕ} (vs : List ℕ) (at : ℕ) → All P vs → All P l → All P (sets l at vs)
all_sets [] at all_nil a = a
all_sets (v ∷ vs) at (all_cons p ps) a = all_sets vs (suc at) ps (all_set at v p a)

-- the numbers of a block and of the head are words
pub record RowWords (f : BlockRow) : Type 0 where
  pub owner : f.owner < 2 ^ 64
  pub first : f.first < 2 ^ 64
  pub size : f.size < 2 ^ 64
  pub created : f.created < 2 ^ 64
  pub destroyed : f.destroyed < 2 ^ 64
  pub offset : f.offset < 2 ^ 64

pub record HeadWords (h : Head) : Type 0 where
  pub state : h.state < 2 ^ 64
  pub end : h.end < 2 ^ 64
  pub kinds : h.kinds < 2 ^ 64
  pub used : h.used < 2 ^ 64
  pub last : h.last < 2 ^ 64
  pub calendar : All Word h.calendar
  pub days : All Word h.days

-- and so are all numbers of the table
pub block_table_words : (many : ℕ) (h : Head) (fs : List BlockRow) → HeadWords h
    → length fs < 2 ^ 64 → All RowWords fs → All Word (block_table many h fs)
unfolding block_table block_row
block_table_words many h fs w few a =
    all_sets h.days front_days w.days (all_sets h.calendar front_calendar w.calendar (table_by_words block_base many (block_row h fs) words))
  where
    none : RowWords no_row
    none = record { owner = omega arith; first = omega arith; size = omega arith; created = omega arith; destroyed = omega arith; offset = omega arith }

    words : (link : ℕ) → All Word (block_row h fs link)
    words zero =
        all_cons w.state (all_cons w.end (all_cons w.kinds (all_cons few (all_cons w.used (all_cons w.last all_nil)))))
    words (suc k) =
        let f : RowWords (get_or fs k no_row) = all_get no_row none a k in
        all_cons f.first
        (all_cons f.size (all_cons f.created (all_cons f.destroyed (all_cons f.offset (all_cons f.owner all_nil)))))
