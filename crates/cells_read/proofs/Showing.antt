-- What is painted in a window of a closed index are the cells of the ledger. Assumes nothing.
use Rattle.std.specs.Prelude.{Option, Some, None}
use mathlib.Core.Path.{◌≡◌, refl, sym, ap, ap₂, ◌∙◌}
use mathlib.Core.Logic.{inl, inr}
use mathlib.Core.Bool.{Bool, true, false, cond}
use mathlib.Core.List.{List, [], ◌∷◌, ◌++◌, map}
use Prim.Native.Nat.{ℕ, suc, ◌+◌, ◌-◌, ◌^◌, ◌≤◌, ◌<◌}
use native.Mathlib.Omega.{arith}
use lib.ListN.{length, get_or, take, length-take, get_or-append}
use lib.Seq.{ext_get_or, get_or-take}
use Rattle.std.proofs.lemmas.List.{get_or-append_right}
use Rattle.lists.specs.Lists.{Mem, here, there, count, count_from}
use Rattle.lists.proofs.Lists.{count_from_length, count_from_at, all_mem, mem_left, mem_right, mem_split}
use Rattle.lists.proofs.Counting.{not_mem_nil, mem_count, count_mem}
use Rattle.lists.proofs.Numbers.{lt_or_le}
use Rattle.lists.proofs.Maps.{length_of_map, get_d_of_map}
use Rattle.history.specs.Words.{Block, cell_place, end_cell, live_of, within}
use Rattle.history.specs.Tree.{block_at, key_in}
use Rattle.history.specs.Find.{window}
use Rattle.history.specs.Ledger.{Ledger}
use Rattle.history.specs.Reads.{seen, cells_by}
use Rattle.history.proofs.FindLaws.{count-window}
use Rattle.history.proofs.Within.{within_in}
use Rattle.block_table.specs.Blocks.{first_cell_at}
use Rattle.segment_table.specs.Closed.{first_cell_in}
use Rattle.segment_near.specs.declared.Side.TheVariants.{Before}
use Rattle.segment_near.specs.declared.Neighbour.{Neighbour}
use Rattle.segment_near.specs.Neighbours.{Neighbours}
use Rattle.live_blocks.specs.Live.{ClosedAt}
use Rattle.live_blocks.proofs.Seeing.{live-number, free_cell, held_by, meet_same, some_cell}
use Rattle.live_blocks.proofs.Living.{Row, Living, living}
use Rattle.live_rows.specs.Extents.{one_of, reaching}
use Rattle.cells_paint.specs.Painting.{Covers, byte_of, Drawn, left, drawn, Slices, Shown}
use Rattle.cells_read.specs.Long.{CellShown, ShownIn}

-- ── the window of a list ──

module _ (key : ℕ → ℕ) (start stop : ℕ) {k : ℕ} {xs : List ℕ} where
  listed_in : start ≤ key k → key k < stop → Mem k xs → Mem k (window key start stop xs)
  listed_in a b m = count_mem k (window key start stop xs) (rw (count-window key start stop k xs, within_in start stop (key k) a b) (mem_count m))

  unlisted_in : Mem k (window key start stop xs) → Mem k xs
  unlisted_in m = count_mem k xs (go (within start stop (key k)) (rw (count-window key start stop k xs) at (mem_count m)))
    where
      go : (w : Bool) → 0 < cond w (count k xs) 0 → 0 < count k xs
      go true h = h
      go false h = absurd (omega arith)

-- ── a cell ──

module _ {blocks store nodes entries : List ℕ} {kind tick : ℕ} {bs : List Block} (v : Living blocks store nodes entries kind tick bs) where
  pub row_of : (k : ℕ) → live_of kind tick (block_at bs k) ≡ true → Row blocks store bs k
  row_of k a = v.row k (live-number bs kind tick v.apart v.used v.lies k a)

  -- a live block covers its cells
  pub covers : (k c : ℕ) → live_of kind tick (block_at bs k) ≡ true → key_in bs k ≤ c → c < end_cell (block_at bs k) → Covers blocks store k c
  covers k c a from below =
      let row = row_of k a in
      record { row = row.room; stored = row.inside; from = omega (arith, row.first); below = omega (arith, row.ended) }

  -- it alone shows what such a cell has
  pub alone : (k c : ℕ) → live_of kind tick (block_at bs k) ≡ true → Covers blocks store k c → seen tick (cell_place kind c) bs ≡ byte_of blocks store k c ∷ []
  alone k c a on =
      let row = row_of k a in
      held_by bs kind tick v.apart v.used v.lies k c a (omega (arith, row.first, on.from)) (omega (arith, row.ended, on.below))
      ∙ rw (← row.first) (ap (λ (x : ℕ). x ∷ []) (row.byte (c - first_cell_at blocks (suc k)) (omega (arith, on.from, on.below))))

  module _ {start : ℕ} (stop : ℕ) (before : Option Neighbour) (n : Neighbours Before (key_in bs) start v.list before) where
    -- what is painted is live
    lives : (k : ℕ) → Mem k (reaching blocks start stop v.list before) → live_of kind tick (block_at bs k) ≡ true
    lives k m =
        v.lives k
        (elim (mem_split (window (first_cell_in blocks) start stop v.list) (one_of before) m) [
          | inl w ↦ unlisted_in (first_cell_in blocks) start stop w
          | inr w ↦ last before n w
        ])
      where
        last : (x : Option Neighbour) → Neighbours Before (key_in bs) start v.list x → Mem k (one_of x) → Mem k v.list
        last None n w = absurd (not_mem_nil w)
        last (Some b) n (here e) = rw e (n.block b refl).listed
        last (Some b) n (there w) = absurd (not_mem_nil w)

    -- and so is every live block with a cell of the window: of those that start before it only the last has one
    painted : (j c : ℕ) → live_of kind tick (block_at bs j) ≡ true → start ≤ c → c < stop → key_in bs j ≤ c → c < end_cell (block_at bs j)
        → Mem j (reaching blocks start stop v.list before)
    painted j c a s e from below =
        elim (lt_or_le (key_in bs j) start) [
          | inl g ↦ mem_right (window (first_cell_in blocks) start stop v.list) (one_of before) (last before n g)
          | inr g ↦ mem_left (window (first_cell_in blocks) start stop v.list) (one_of before)
              (listed_in (first_cell_in blocks) start stop (omega (arith, (row_of j a).first)) (omega (arith, (row_of j a).first)) (v.met j a))
        ]
      where
        last : (x : Option Neighbour) → Neighbours Before (key_in bs) start v.list x → key_in bs j < start → Mem j (one_of x)
        last None n g = absurd (all_mem (n.nothing refl) (v.met j a) g)
        last (Some b) n g =
            let m = n.block b refl in
            let live = v.lives b.number m.listed in
            here
            (meet_same bs kind tick v.apart v.used v.lies j b.number a live
            (omega (arith, all_mem m.nearest (v.met j a) g, some_cell bs kind tick v.apart v.used v.lies b.number live)) (omega (arith, m.beside)))

    cell_shown : {c byte held : ℕ} → start ≤ c → c < stop → stop < 2 ^ 64 → Drawn blocks store (reaching blocks start stop v.list before) c 0 0 byte held
        → CellShown bs kind tick c byte held
    cell_shown {c} s e small (left none b h) =
        let free : seen tick (cell_place kind c) bs ≡ [] =
        free_cell bs kind tick v.apart v.used v.lies c (omega arith) (λ j a from below. all_mem none (painted j c a s e from below) (covers j c a from below)) in
        record { byte_is = rw free (sym b); held_is = rw free (sym h) }
    cell_shown {c} s e small (drawn k m on b h) =
        let one : seen tick (cell_place kind c) bs ≡ byte_of blocks store k c ∷ [] = alone k c (lives k m) on in
        record { byte_is = rw one (sym b); held_is = rw one (sym h) }

-- ── all cells ──

-- a place of the first n of a list, with others behind them
in_first : (n : ℕ) (l xs : List ℕ) (i : ℕ) → n ≤ length l → i < n → get_or (take n l ++ xs) i 0 ≡ get_or l i 0
in_first n l xs i room h = get_or-append (take n l) xs 0 i (omega (arith, length-take n l)) ∙ get_or-take n l i 0 h

-- and of those behind them
in_last : (n : ℕ) (l xs : List ℕ) (i : ℕ) → n ≤ length l → n ≤ i → get_or (take n l ++ xs) i 0 ≡ get_or xs (i - n) 0
in_last n l xs i room h = get_or-append_right (take n l) xs n i 0 (omega (arith, length-take n l)) h

-- what a function gives for the numbers from a on
map_is : (f : ℕ → ℕ) (a m : ℕ) (xs : List ℕ) → length xs ≡ m → ((i : ℕ) → i < m → f (a + i) ≡ get_or xs i 0) → map f (count_from a m) ≡ xs
map_is f a m xs n h =
    ext_get_or 0 (map f (count_from a m)) xs (length_of_map f (count_from a m) ∙ count_from_length a m ∙ sym n) (λ i b.
    let below : i < m = omega (arith, length_of_map f (count_from a m), count_from_length a m) in
    get_d_of_map f (count_from a m) i 0 0 (rw (count_from_length a m) below) ∙ rw (count_from_at a m i below) (h i below))

module _ {blocks store nodes entries : List ℕ} {kind tick start place stop : ℕ} {l : Ledger} (at : ClosedAt blocks store nodes entries kind tick l) (onward : start ≤ place)
    (small : stop < 2 ^ 64) {bytes held xs ys : List ℕ} (long : place - start ≤ length bytes) (long' : place - start ≤ length held)
    (front : ShownIn l.now.blocks kind tick start start place bytes held) (s : Shown blocks nodes entries store kind tick place stop xs ys) where
  -- what runs show at the front, and what is painted behind it
  cell : (i : ℕ) → i < stop - start
      → CellShown l.now.blocks kind tick (start + i) (get_or (take (place - start) bytes ++ xs) i 0) (get_or (take (place - start) held ++ ys) i 0)
  cell i a = elim (lt_or_le i (place - start)) [ inl h ↦ shown i h | inr h ↦ painted i a h ]
    where
      shown : (i : ℕ) → i < place - start
          → CellShown l.now.blocks kind tick (start + i) (get_or (take (place - start) bytes ++ xs) i 0) (get_or (take (place - start) held ++ ys) i 0)
      shown i h =
          rw (in_first (place - start) bytes xs i long h, in_first (place - start) held ys i long' h) (front.cell i (omega arith) (omega arith))

      painted : (i : ℕ) → i < stop - start → place - start ≤ i
          → CellShown l.now.blocks kind tick (start + i) (get_or (take (place - start) bytes ++ xs) i 0) (get_or (take (place - start) held ++ ys) i 0)
      painted i a h =
          let v = living at in
          let same : place + (i - (place - start)) ≡ start + i = omega arith in
          rw (in_last (place - start) bytes xs i long h, in_last (place - start) held ys i long' h)
          (cell_shown v stop s.before (v.near Before place s.near) (omega arith) (omega arith) small (rw (v.way, same) at (s.cell v.tree v.rooted (i - (place - start)) (omega arith))))

  pub cells_shown : Slices start stop (take (place - start) bytes ++ xs) (take (place - start) held ++ ys)
      → cells_by l kind tick start stop ≡ record { bytes = take (place - start) bytes ++ xs; held = take (place - start) held ++ ys }
  unfolding cells_by
  cells_shown w =
      ap₂ (λ (b h : List ℕ). record { bytes = b; held = h })
      (map_is _ start (stop - start) (take (place - start) bytes ++ xs) w.bytes_long (λ i a. (cell i a).byte_is))
      (map_is _ start (stop - start) (take (place - start) held ++ ys) w.held_long (λ i a. (cell i a).held_is))
