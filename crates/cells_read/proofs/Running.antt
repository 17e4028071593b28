-- Runs at the front of a window: the returns of `free`, `show_over` and `show_run`, and run after run. Assumes nothing.
use Rattle.std.specs.Prelude.{Option, Some, None}
use mathlib.Core.Path.{◌≡◌, refl, sym, ◌∙◌}
use mathlib.Core.Logic.{inl, inr}
use mathlib.Core.Bool.{true}
use mathlib.Core.List.{List, [], ◌∷◌, ◌++◌}
use Prim.Native.Nat.{ℕ, ◌+◌, ◌-◌, ◌^◌, ◌≤◌, ◌<◌, min, max}
use native.Mathlib.Omega.{arith}
use lib.ListN.{length, get_or, take, drop, replicate, length-replicate, get_or-replicate}
use lib.Seq.{sets}
use Rattle.lists.specs.Lists.{here, there}
use Rattle.lists.proofs.Lists.{all_mem}
use Rattle.lists.proofs.Counting.{not_mem_nil}
use Rattle.lists.proofs.Numbers.{lt_or_le, le_or_lt}
use Rattle.lists.proofs.Stores.{get_d_sets_in, get_d_sets_out}
use Rattle.history.specs.Words.{Block, cell_place, end_cell, live_of}
use Rattle.history.specs.Tree.{block_at, key_in}
use Rattle.history.specs.Ledger.{Ledger}
use Rattle.history.specs.Reads.{seen}
use Rattle.segment_table.specs.Closed.{TreeOf}
use Rattle.segment_near.specs.declared.Side.TheVariants.{From, Before}
use Rattle.segment_near.specs.declared.Neighbour.{Neighbour}
use Rattle.segment_near.specs.Neighbours.{NearestLive}
use Rattle.live_blocks.specs.Live.{ClosedAt, Passed}
use Rattle.live_blocks.proofs.Seeing.{passed_last, passed_first, meet_same, some_cell, free_cell}
use Rattle.live_blocks.proofs.Living.{Living, near_in, living}
use Rattle.cells_paint.specs.Painting.{Covers, byte_of, Drawn, left, drawn, Slices, PaintedFrom}
use Rattle.cells_paint.proofs.Drawing.{filled_part}
use Rattle.cells_read.specs.Long.{CellShown, ShownIn, Freed, Front, Reached, RunShown}
use Rattle.cells_read.proofs.Showing.{row_of, covers, alone}

-- ── free cells ──

-- the return of `free`
pub freed : {start from past stop at to : ℕ} {bytes held xs ys : List ℕ} → Slices start stop bytes held → start ≤ from → from ≤ past → past ≤ stop → at ≡ from - start
    → to ≡ past - start → xs ≡ replicate (length (take (to - at) (drop at bytes))) 0 → ys ≡ replicate (length (take (to - at) (drop at held))) 0
    → Freed start from past bytes (take at bytes ++ (xs ++ drop (to - at) (drop at bytes))) held (take at held ++ (ys ++ drop (to - at) (drop at held)))
freed {start} {from} {past} {stop} {at} {to} {bytes} {held} {xs} {ys} w begun onward inside a b x y =
    rw (a, b)
    (let many : past - start - (from - start) ≡ past - from = omega arith in
    let x' = rw (a, b) at x in
    let y' = rw (a, b) at y in
    record {
      in_bytes = filled_part (from - start) (past - from) 0 (past - start - (from - start)) bytes xs (omega (arith, w.bytes_long)) many x';
      in_held = filled_part (from - start) (past - from) 0 (past - start - (from - start)) held ys (omega (arith, w.held_long)) many y';
    })

module _ {start from past : ℕ} {bytes bytes' held held' : List ℕ} (f : Freed start from past bytes bytes' held held') (begun : start ≤ from) where
  -- what stands before them stays
  freed_before : (i : ℕ) → start + i < from → (get_or bytes' i 0 ≡ get_or bytes i 0) × (get_or held' i 0 ≡ get_or held i 0)
  freed_before i h =
      rw (f.in_bytes, f.in_held)
      (get_d_sets_out (replicate (past - from) 0) bytes (from - start) i (inl (omega arith)), get_d_sets_out (replicate (past - from) 0) held (from - start) i (inl (omega arith)))

  module _ (bytes_room : past - start ≤ length bytes) (held_room : past - start ≤ length held) where
    zero_in : (out : List ℕ) → past - start ≤ length out → (i : ℕ) → from ≤ start + i → start + i < past
        → get_or (sets out (from - start) (replicate (past - from) 0)) i 0 ≡ 0
    zero_in out room i a b =
        let long : length (replicate {A = ℕ} (past - from) 0) ≡ past - from = length-replicate (past - from) 0 in
        let at : from - start + (i - (from - start)) ≡ i = omega arith in
        rw at at (get_d_sets_in (replicate (past - from) 0) out (from - start) (i - (from - start)) (omega (arith, long)) (omega (arith, long)))
        ∙ get_or-replicate (past - from) (i - (from - start)) 0 0 (omega arith)

    freed_in : (i : ℕ) → from ≤ start + i → start + i < past → (get_or bytes' i 0 ≡ 0) × (get_or held' i 0 ≡ 0)
    freed_in i a b = rw (f.in_bytes, f.in_held) (zero_in bytes bytes_room i a b, zero_in held held_room i a b)

-- ── over a closed index ──

module _ {blocks store nodes entries : List ℕ} {kind tick : ℕ} {bs : List Block} (v : Living blocks store nodes entries kind tick bs) where
  -- a cell that no live block has is shown by zeros
  free_shown : (c byte held : ℕ) → c < 2 ^ 64 → ((j : ℕ) → live_of kind tick (block_at bs j) ≡ true → key_in bs j ≤ c → c < end_cell (block_at bs j) → ⊥)
      → byte ≡ 0 → held ≡ 0 → CellShown bs kind tick c byte held
  free_shown c byte held low none b h =
      let free : seen tick (cell_place kind c) bs ≡ [] = free_cell bs kind tick v.apart v.used v.lies c low none in
      record { byte_is = rw free (sym b); held_is = rw free (sym h) }

  -- a live block that was painted from a place on, at which it has begun
  module _ {k start place stop r : ℕ} {bytes bytes' held held' : List ℕ} (a : live_of kind tick (block_at bs k) ≡ true)
      (p : PaintedFrom blocks store k start place stop r bytes bytes' held held') (begun : key_in bs k ≤ place) (behind : start ≤ place) (room : place ≤ stop) where
    on_it : (c : ℕ) → place ≤ c → c < r → Covers blocks store k c
    on_it c from below = elim p.reached [ inl e ↦ absurd (omega arith) | inr all ↦ all c (omega (arith, (row_of v k a).first)) below ]

    drawn_shown : (c byte held byte' held' : ℕ) → Covers blocks store k c → Drawn blocks store (k ∷ []) c byte held byte' held' → CellShown bs kind tick c byte' held'
    drawn_shown c byte held byte' held' on (left none b h) = absurd (all_mem none (here refl) on)
    drawn_shown c byte held byte' held' on (drawn j (here e) _ b h) =
        let one : seen tick (cell_place kind c) bs ≡ byte_of blocks store k c ∷ [] = alone v k c a on in
        record { byte_is = rw (one, b, e); held_is = rw (one, h) }
    drawn_shown c byte held byte' held' on (drawn j (there m) _ b h) = absurd (not_mem_nil m)

    part_shown : ShownIn bs kind tick start place r bytes' held'
    part_shown = record {
      cell = λ i from below.
          drawn_shown (start + i) _ _ _ _ (on_it (start + i) from below) (p.cell i (omega (arith, p.inside room)) from);
    }

    part_ended : r < stop → end_cell (block_at bs k) ≤ r
    part_ended h =
        elim (le_or_lt (end_cell (block_at bs k)) r) [
          | inl g ↦ g
          | inr g ↦ absurd (p.spent r (omega arith) h (covers v k r a (omega (arith, p.onward)) g))
        ]

    part_passed : ((j : ℕ) → live_of kind tick (block_at bs j) ≡ true → key_in bs j < place → key_in bs j ≤ key_in bs k) → r < stop → Passed bs kind tick r
    part_passed last h = passed_last bs kind tick v.apart v.used v.lies k r a later (part_ended h)
      where
        later : (j : ℕ) → live_of kind tick (block_at bs j) ≡ true → key_in bs j < r → key_in bs j ≤ key_in bs k
        later j b g =
            elim (lt_or_le (key_in bs j) place) [
              | inl x ↦ last j b x
              | inr x ↦
                  let on : Covers blocks store k (key_in bs j) = on_it (key_in bs j) x g in
                  let same : j ≡ k =
                  meet_same bs kind tick v.apart v.used v.lies j k b a (omega (arith, on.below, (row_of v k a).ended)) (omega (arith, some_cell bs kind tick v.apart v.used v.lies j b)) in
                  rw same (omega arith)
            ]

-- ── the returns of `show_over` ──

module _ {blocks store nodes entries ns es : List ℕ} {kind own last tick start stop : ℕ} {found : Option Neighbour} {bytes held : List ℕ}
    (t : TreeOf blocks nodes entries kind ns es own last) (n : NearestLive ns es own last tick Before start found) (room : start ≤ stop) where
  pub over_none : found ≡ None → Reached blocks store nodes entries kind tick start stop start bytes held
  over_none is = record {
    front = record { onward = omega arith; inside = room; shown = λ l c. record { cell = λ i a b. absurd (omega arith) } };
    passed = λ l c h.
        let v = living c in
        let without = (v.near Before start (near_in t n)).nothing is in
        passed_first l.now.blocks kind tick v.apart v.used v.lies start (λ j b g. all_mem without (v.met j b) g);
  }

  pub over_block : {b : Neighbour} {r : ℕ} {bytes₀ held₀ : List ℕ} → found ≡ Some b → PaintedFrom blocks store b.number start start stop r bytes₀ bytes held₀ held
      → Reached blocks store nodes entries kind tick start stop r bytes held
  over_block {b} {r} is p = record {
    front = record {
      onward = p.onward;
      inside = p.inside room;
      shown = λ l c.
          let v = living c in
          let m = (v.near Before start (near_in t n)).block b is in
          part_shown v (v.lives b.number m.listed) p (omega (arith, m.beside)) (omega arith) room;
    };
    passed = λ l c h.
        let v = living c in
        let m = (v.near Before start (near_in t n)).block b is in
        part_passed v (v.lives b.number m.listed) p (omega (arith, m.beside)) (omega arith) room (λ j a g. all_mem m.nearest (v.met j a) g) h;
  }

-- ── the returns of `show_run` ──

module _ {blocks store nodes entries ns es : List ℕ} {kind own last tick start place stop : ℕ} {found : Option Neighbour} {bytes bytes₁ held held₁ : List ℕ}
    (t : TreeOf blocks nodes entries kind ns es own last) (n : NearestLive ns es own last tick From place found) (begun : start ≤ place) (room : place ≤ stop)
    (small : stop < 2 ^ 64) (w : Slices start stop bytes held) where
  -- free cells of a run, up to which no live block starts
  gap_shown : {bs : List Block} {until : ℕ} → Living blocks store nodes entries kind tick bs → Passed bs kind tick place → until ≤ stop
      → Freed start place until bytes bytes₁ held held₁ → ((j : ℕ) → live_of kind tick (block_at bs j) ≡ true → place ≤ key_in bs j → until ≤ key_in bs j)
      → ShownIn bs kind tick start place until bytes₁ held₁
  gap_shown {bs} {until} v passed inside f none = record {
    cell = λ i a b.
        let z = freed_in f begun (omega (arith, w.bytes_long)) (omega (arith, w.held_long)) i a b in
        free_shown v (start + i) _ _ (omega arith) (unheld (start + i) a b) z.0 z.1;
  }
    where
      unheld : (c : ℕ) → place ≤ c → c < until → (j : ℕ) → live_of kind tick (block_at bs j) ≡ true → key_in bs j ≤ c → c < end_cell (block_at bs j) → ⊥
      unheld c a b j y from below =
          elim (lt_or_le (key_in bs j) place) [ inl h ↦ omega (arith, passed.passed j y h) | inr h ↦ omega (arith, none j y h) ]

  pub run_none : found ≡ None → Freed start place stop bytes bytes₁ held held₁ → RunShown blocks store nodes entries kind tick start place stop stop bytes bytes₁ held held₁
  run_none is f = record {
    onward = room;
    inside = omega arith;
    kept = freed_before f begun;
    shown = λ l c passed.
        let v = living c in
        gap_shown v passed (omega arith) f (λ j a h. absurd (all_mem ((v.near From place (near_in t n)).nothing is) (v.met j a) h));
    passed = λ l c passed h. absurd (omega arith);
  }

  module _ {b : Neighbour} {until r : ℕ} {bytes₂ held₂ : List ℕ} (is : found ≡ Some b) (to : until ≡ min (max b.first place) stop)
      (f : Freed start place until bytes bytes₁ held held₁) (p : PaintedFrom blocks store b.number start until stop r bytes₁ bytes₂ held₁ held₂) where
    pub run_block : RunShown blocks store nodes entries kind tick start place stop r bytes bytes₂ held held₂
    run_block = record {
      onward = omega (arith, p.onward);
      inside = p.inside (omega arith);
      kept = λ i h. ((p.kept i (omega arith)).0 ∙ (freed_before f begun i h).0, (p.kept i (omega arith)).1 ∙ (freed_before f begun i h).1);
      shown = λ l c passed. record { cell = λ i a h. run_cell l c passed i a h };
      passed = run_passed;
    }
      where
        run_passed : (l : Ledger) → ClosedAt blocks store nodes entries kind tick l → Passed l.now.blocks kind tick place → r < stop → Passed l.now.blocks kind tick r
        run_passed l c passed h =
            let v = living c in
            let m = (v.near From place (near_in t n)).block b is in
            part_passed v (v.lives b.number m.listed) p (omega (arith, m.starts, m.beside, p.onward)) (omega arith) (omega arith) (λ j a g. omega (arith, m.starts, m.beside, p.onward)) h

        run_cell : (l : Ledger) → ClosedAt blocks store nodes entries kind tick l → Passed l.now.blocks kind tick place → (i : ℕ) → place ≤ start + i → start + i < r
            → CellShown l.now.blocks kind tick (start + i) (get_or bytes₂ i 0) (get_or held₂ i 0)
        run_cell l c passed i a h =
            let v = living c in
            let m = (v.near From place (near_in t n)).block b is in
            elim (lt_or_le (start + i) until) [
              | inl x ↦
                  let first = gap_shown v passed (omega arith) f (λ j y g. omega (arith, m.starts, all_mem m.nearest (v.met j y) g)) in
                  rw ((p.kept i x).0, (p.kept i x).1) (first.cell i a x)
              | inr x ↦
                  (part_shown v (v.lives b.number m.listed) p (omega (arith, m.starts, m.beside, p.inside (omega arith))) (omega arith) (omega arith)).cell i x h
            ]

-- ── run after run ──

module _ {blocks store nodes entries : List ℕ} {kind tick start stop : ℕ} {bytes held : List ℕ} where
  -- nothing is shown yet
  pub front_none : start ≤ stop → Front blocks store nodes entries kind tick start stop start bytes held
  front_none room = record { onward = omega arith; inside = room; shown = λ l c. record { cell = λ i a b. absurd (omega arith) } }

  pub reached_more : {place r : ℕ} {bytes' held' : List ℕ} → Reached blocks store nodes entries kind tick start stop place bytes held → place < stop
      → RunShown blocks store nodes entries kind tick start place stop r bytes bytes' held held' → Reached blocks store nodes entries kind tick start stop r bytes' held'
  reached_more {place} {r} {bytes'} {held'} a some b = record {
    front = record {
      onward = omega (arith, a.front.onward, b.onward);
      inside = b.inside;
      shown = λ l c. record { cell = λ i x y. cell l c i x y };
    };
    passed = λ l c h. b.passed l c (a.passed l c some) h;
  }
    where
      cell : (l : Ledger) → ClosedAt blocks store nodes entries kind tick l → (i : ℕ) → start ≤ start + i → start + i < r
          → CellShown l.now.blocks kind tick (start + i) (get_or bytes' i 0) (get_or held' i 0)
      cell l c i x y =
          elim (lt_or_le (start + i) place) [
            | inl h ↦ rw ((b.kept i h).0, (b.kept i h).1) ((a.front.shown l c).cell i x h)
            | inr h ↦ (b.shown l c (a.passed l c some)).cell i h y
          ]
