-- Laws of the blocks that the rows of a block table stand for: how many, which, and what of table and store they depend on. Assumes nothing.
use mathlib.Core.Path.{◌≡◌, sym, ap, ◌∙◌}
use mathlib.Core.List.{List, ◌++◌, map}
use Prim.Native.Nat.{ℕ, suc, ◌+◌, ◌-◌, ◌≤◌, ◌<◌}
use native.Mathlib.Omega.{arith}
use lib.ListN.{length, get_or, take, drop, length-drop}
use lib.Seq.{length-take-le, take-take}
use Rattle.lists.specs.Lists.{count_from}
use Rattle.lists.proofs.Lists.{count_from_length, count_from_at}
use Rattle.lists.proofs.Counting.{all_count_from, count_from_append}
use Rattle.lists.proofs.Maps.{map-append, length_of_map, get_d_of_map, map_all}
use Rattle.lists.proofs.Parts.{drop-take}
use Rattle.history.specs.Words.{Block, cell_place, first_cell}
use Rattle.history.specs.Tree.{no_block, key_in}
use Rattle.tables.specs.Columns.{block_column, block_first, block_length, block_created, block_destroyed, block_offset, block_owner, block_next}
use Rattle.block_table.specs.Blocks.{first_cell_at, length_at, offset_at, BlockRow, shown_block, bytes_at, block_of_row, blocks_of, SameRows, Stored}
use Rattle.block_table.proofs.Keeping.{kept_column}

-- ── one row ──

-- a row that says what a block has stands for it
pub shown_is : (store : List ℕ) (r : BlockRow) (b : Block) → r.owner ≡ b.kind → cell_place r.owner r.first ≡ b.stretch.first
    → take r.size (drop r.offset store) ≡ b.stretch.bytes → r.created ≡ b.created → r.destroyed ≡ b.destroyed → shown_block store r ≡ b
shown_is store r b own first bytes born died =
    λ i. record { kind = own i; stretch = record { first = first i; bytes = bytes i }; created = born i; destroyed = died i }

-- ── how many, and which ──

pub blocks_length : (store t : List ℕ) (n : ℕ) → length (blocks_of store t n) ≡ n
unfolding blocks_of
blocks_length store t n = length_of_map (block_of_row store t) (count_from 1 n) ∙ count_from_length 1 n

-- block k is the row of link k + 1
pub blocks_at : (store t : List ℕ) (n k : ℕ) (d : Block) → k < n → get_or (blocks_of store t n) k d ≡ block_of_row store t (suc k)
unfolding blocks_of
blocks_at store t n k d h =
    let e : get_or (count_from 1 n) k 0 ≡ suc k = count_from_at 1 n k h ∙ omega arith in
    get_d_of_map (block_of_row store t) (count_from 1 n) k 0 d (rw (count_from_length 1 n) h) ∙ ap (block_of_row store t) e

-- its first cell
pub blocks_key : (store t : List ℕ) (n k : ℕ) → k < n → key_in (blocks_of store t n) k ≡ first_cell_at t (suc k)
unfolding block_of_row
blocks_key store t n k h = ap first_cell (blocks_at store t n k no_block h) ∙ omega arith

-- m rows more, one row more
pub blocks_more : (store t : List ℕ) (n m : ℕ) → blocks_of store t (n + m) ≡ blocks_of store t n ++ map (block_of_row store t) (count_from (suc n) m)
unfolding blocks_of
blocks_more store t n m =
    let e : 1 + n ≡ suc n = omega arith in
    rw (count_from_append 1 n m, e) (map-append (block_of_row store t) (count_from 1 n) (count_from (suc n) m))

-- ── what of the table they depend on ──

-- a row's block: every column before the order's
pub row_same : (store t t' : List ℕ) (link : ℕ) → ((c : ℕ) → c < block_next → block_column t' link c ≡ block_column t link c)
    → block_of_row store t' link ≡ block_of_row store t link
unfolding block_of_row
row_same store t t' link f =
    rw (f block_first (omega arith), f block_length (omega arith), f block_created (omega arith), f block_destroyed (omega arith), f block_offset (omega arith), f block_owner (omega arith))

pub blocks_same : (store t t' : List ℕ) (n : ℕ)
    → ((link c : ℕ) → 0 < link → link ≤ n → c < block_next → block_column t' link c ≡ block_column t link c) → blocks_of store t' n ≡ blocks_of store t n
unfolding blocks_of
blocks_same store t t' n f =
    map_all (block_of_row store t') (block_of_row store t)
    (all_count_from 1 n (λ link a b. row_same store t t' link (λ c h. f link c (omega arith) (omega arith) h)))

-- the head and what stands behind the rows are nothing to them
pub blocks_kept : (store : List ℕ) {t t' : List ℕ} {n : ℕ} → SameRows t t' n → blocks_of store t' n ≡ blocks_of store t n
blocks_kept store {t} {t'} {n} s = blocks_same store t t' n (λ link c a b h. kept_column s link c a b (omega arith))

-- rows written behind n rows that stay
pub blocks_append : (store : List ℕ) {t t' : List ℕ} {n : ℕ} (m : ℕ) → SameRows t t' n
    → blocks_of store t' (n + m) ≡ blocks_of store t n ++ map (block_of_row store t') (count_from (suc n) m)
blocks_append store {t} {t'} {n} m s =
    blocks_more store t' n m ∙ ap (λ (l : List Block). l ++ map (block_of_row store t') (count_from (suc n) m)) (blocks_kept store s)

-- ── what of the store they depend on ──

-- a part of the first bytes stays where these do
pub part_kept : (from many used : ℕ) (s s' : List ℕ) → take used s' ≡ take used s → from + many ≤ used → take many (drop from s') ≡ take many (drop from s)
part_kept from many used s s' same h = sym (front s') ∙ ap (λ (l : List ℕ). take many (drop from l)) same ∙ front s
  where
    front : (l : List ℕ) → take many (drop from (take used l)) ≡ take many (drop from l)
    front l = ap (λ (r : List ℕ). take many r) (drop-take from used l) ∙ take-take many (used - from) (drop from l) (omega arith)

pub bytes_length : (store t : List ℕ) (link : ℕ) → offset_at t link + length_at t link ≤ length store → length (bytes_at store t link) ≡ length_at t link
bytes_length store t link h =
    length-take-le (length_at t link) (drop (offset_at t link) store) (rw (length-drop (offset_at t link) store) (omega arith))

-- bytes that come behind the used ones are nothing to them
pub blocks_store : (store store' t : List ℕ) (n used : ℕ) → Stored used t n → take used store' ≡ take used store
    → blocks_of store' t n ≡ blocks_of store t n
unfolding blocks_of block_of_row
blocks_store store store' t n used inside same =
    map_all (block_of_row store' t) (block_of_row store t) (all_count_from 1 n (λ link a b. row link (omega arith) (omega arith)))
  where
    row : (link : ℕ) → 0 < link → link ≤ n → block_of_row store' t link ≡ block_of_row store t link
    row link a b =
        let h : offset_at t link + length_at t link ≤ used = inside.inside link a b in
        let p : bytes_at store' t link ≡ bytes_at store t link = part_kept (offset_at t link) (length_at t link) used store store' same h in
        rw p
