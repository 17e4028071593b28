-- The returns of `near_closed`: over a closed index they are the ledger's neighbours. Assumes nothing.
use Rattle.std.specs.Prelude.{Option as Found, Some, None}
use mathlib.Core.Path.{◌≡◌, refl, ap}
use mathlib.Core.Logic.{inl, inr}
use mathlib.Core.Bool.{true, false}
use mathlib.Core.Option.{Option, none, some}
use mathlib.Core.List.{List}
use Prim.Native.Nat.{ℕ, ◌≤◌, ◌<◌}
use native.Mathlib.Omega.{arith}
use Rattle.lists.proofs.Lists.{all_mem}
use Rattle.lists.proofs.Numbers.{le_or_lt, lt_or_le}
use Rattle.history.specs.Words.{end_cell}
use Rattle.history.specs.Tree.{block_at, key_in}
use Rattle.history.specs.Ledger.{Ledger}
use Rattle.history.specs.Reads.{next_by, last_by}
use Rattle.history.specs.Refusals.{accepted, refused}
use Rattle.history.specs.Law.{LiveBelow}
use Rattle.history.proofs.Touching.{neighbours_law}
use Rattle.tables.specs.Masks.{opens}
use Rattle.tables.specs.Columns.{block_column, head_kinds}
use Rattle.segment_table.specs.Closed.{TreeOf}
use Rattle.segment_near.specs.declared.Side.{Side}
use Rattle.segment_near.specs.declared.Side.TheVariants.{From, Before}
use Rattle.segment_near.specs.declared.Neighbour.{Neighbour}
use Rattle.segment_near.specs.Neighbours.{NearestLive}
use Rattle.layout.specs.Relations.{near_of}
use Rattle.layout.proofs.ReadLaws.{mask_opens, neighbour_25, neighbour_14, neighbour_rest, out_refused, closed_refuses}
use Rattle.live_blocks.specs.Live.{ClosedAt}
use Rattle.live_blocks.proofs.Seeing.{some_cell, meet_same}
use Rattle.live_blocks.proofs.Living.{near_in, living}
use Rattle.touching_read.specs.Reads.{EndOf, NextClosed, LastClosed, NearClosed}
use Rattle.live_blocks.proofs.Living.{closed_at}
use Rattle.touching_read.proofs.Reaching.{end_is}

-- ── next ──

module _ {blocks nodes entries ns es : List ℕ} {kind tick cell own last : ℕ} (k : opens (block_column blocks 0 head_kinds) kind ≡ true)
    (t : TreeOf blocks nodes entries kind ns es own last) where
  next_14 : last ≤ tick → NextClosed blocks nodes entries kind tick cell (refused 14)
  next_14 h = record { given = λ pieces store. closed_refuses (λ l enc done. neighbour_14 enc done _ kind tick k (omega (arith, t.end))) out_refused }

  -- the ledger's neighbour, whatever it is
  next_by_lem : {x : Option ℕ} → tick < last
      → ((store : List ℕ) (l : Ledger) → ClosedAt blocks store nodes entries kind tick l → next_by l kind tick cell ≡ x)
      → NextClosed blocks nodes entries kind tick cell (accepted (near_of x))
  next_by_lem h is = record {
    given = λ pieces store. record {
      closed = λ l enc s done.
          rw (neighbour_rest enc done (next_by l kind tick cell) kind tick k (omega (arith, t.end)), is store l (closed_at kind enc s done k (omega (arith, t.end)))) (record { answered = refl });
    };
  }

  module _ {found : Found Neighbour} (h : tick < last) (n : NearestLive ns es own last tick From cell found) where
    next_block : {b : Neighbour} → found ≡ Some b → NextClosed blocks nodes entries kind tick cell (accepted (record { found = 1; number = b.number }))
    next_block {b} is = next_by_lem {x = some b.number} h (λ store l c.
        let v = living c in
        let m = (v.near From cell (near_in t n)).block b is in
        (neighbours_law l c.sound c.done kind c.opened tick cell c.before_end).next.nearest b.number (record { living = v.lives b.number m.listed; starts = m.beside })
        (λ j p. all_mem m.nearest (v.met j p.living) p.starts))

    next_missing : found ≡ None → NextClosed blocks nodes entries kind tick cell (accepted (record { found = 0; number = 0 }))
    next_missing is = next_by_lem {x = none} h (λ store l c.
        let v = living c in
        let without = (v.near From cell (near_in t n)).nothing is in
        (neighbours_law l c.sound c.done kind c.opened tick cell c.before_end).next.nothing (λ j p. all_mem without (v.met j p.living) p.starts))

-- ── last ──

-- a live block whose cells are all below the cell starts before it
starts_below : {blocks store nodes entries : List ℕ} {kind tick cell : ℕ} {l : Ledger} → ClosedAt blocks store nodes entries kind tick l → (j : ℕ) → LiveBelow l kind tick cell j
    → key_in l.now.blocks j < cell
starts_below {kind = kind} {tick} {l = l} c j p = let v = living c in omega (arith, p.ended, some_cell l.now.blocks kind tick v.apart v.used v.lies j p.living)

module _ {blocks nodes entries ns es : List ℕ} {kind tick cell own last : ℕ} (k : opens (block_column blocks 0 head_kinds) kind ≡ true)
    (t : TreeOf blocks nodes entries kind ns es own last) where
  last_14 : last ≤ tick → LastClosed blocks nodes entries kind tick cell (refused 14)
  last_14 h = record { given = λ pieces store. closed_refuses (λ l enc done. neighbour_14 enc done _ kind tick k (omega (arith, t.end))) out_refused }

  last_by_lem : {x : Option ℕ} → tick < last
      → ((store : List ℕ) (l : Ledger) → ClosedAt blocks store nodes entries kind tick l → last_by l kind tick cell ≡ x)
      → LastClosed blocks nodes entries kind tick cell (accepted (near_of x))
  last_by_lem h is = record {
    given = λ pieces store. record {
      closed = λ l enc s done.
          rw (neighbour_rest enc done (last_by l kind tick cell) kind tick k (omega (arith, t.end)), is store l (closed_at kind enc s done k (omega (arith, t.end)))) (record { answered = refl });
    };
  }

  module _ {found : Found Neighbour} (h : tick < last) (n : NearestLive ns es own last tick Before cell found) where
    -- nothing starts before the cell
    last_missing : found ≡ None → LastClosed blocks nodes entries kind tick cell (accepted (record { found = 0; number = 0 }))
    last_missing is = last_by_lem {x = none} h (λ store l c.
        let v = living c in
        let without = (v.near Before cell (near_in t n)).nothing is in
        (neighbours_law l c.sound c.done kind c.opened tick cell c.before_end).last.nothing (λ j p. all_mem without (v.met j p.living) (starts_below c j p)))

    module _ {b : Neighbour} {end : ℕ} (is : found ≡ Some b) (at : EndOf blocks b.number end) where
      -- the last that starts before the cell ends there too
      last_block : end ≤ cell → LastClosed blocks nodes entries kind tick cell (accepted (record { found = 1; number = b.number }))
      last_block g = last_by_lem {x = some b.number} h (λ store l c.
          let v = living c in
          let m = (v.near Before cell (near_in t n)).block b is in
          let a = v.lives b.number m.listed in
          (neighbours_law l c.sound c.done kind c.opened tick cell c.before_end).last.nearest b.number (record { living = a; ended = omega (arith, end_is c b.number end a at) })
          (λ j p. all_mem m.nearest (v.met j p.living) (starts_below c j p)))

      -- it reaches over the cell: whatever lies below the cell starts before it
      module _ {earlier : Found Neighbour} (g : cell < end) (n' : NearestLive ns es own last tick Before b.first earlier) where
        before_first : {store : List ℕ} {l : Ledger} → (c : ClosedAt blocks store nodes entries kind tick l) → (j : ℕ) → LiveBelow l kind tick cell j
            → key_in l.now.blocks j < b.first
        before_first {l = l} c j p =
            let v = living c in
            let m = (v.near Before cell (near_in t n)).block b is in
            let a = v.lives b.number m.listed in
            let near = all_mem m.nearest (v.met j p.living) (starts_below c j p) in
            elim (lt_or_le (key_in l.now.blocks j) b.first) [
              | inl y ↦ y
              | inr y ↦
                  let one : j ≡ b.number =
                  meet_same l.now.blocks kind tick v.apart v.used v.lies j b.number p.living a
                  (omega (arith, m.starts, near, some_cell l.now.blocks kind tick v.apart v.used v.lies b.number a))
                  (omega (arith, m.starts, some_cell l.now.blocks kind tick v.apart v.used v.lies j p.living)) in
                  absurd (omega (arith, p.ended, end_is c b.number end a at, ap (λ x. end_cell (block_at l.now.blocks x)) one))
            ]

        last_earlier : {b' : Neighbour} → earlier ≡ Some b' → LastClosed blocks nodes entries kind tick cell (accepted (record { found = 1; number = b'.number }))
        last_earlier {b'} is' = last_by_lem {x = some b'.number} h (λ store l c.
            let v = living c in
            let m = (v.near Before cell (near_in t n)).block b is in
            let m' = (v.near Before b.first (near_in t n')).block b' is' in
            let a = v.lives b.number m.listed in
            let a' = v.lives b'.number m'.listed in
            let ended : end_cell (block_at l.now.blocks b'.number) ≤ cell =
            elim (le_or_lt (end_cell (block_at l.now.blocks b'.number)) cell) [
              | inl y ↦ y
              | inr y ↦
                  let one : b'.number ≡ b.number =
                  meet_same l.now.blocks kind tick v.apart v.used v.lies b'.number b.number a' a
                  (omega (arith, m.starts, m'.beside, some_cell l.now.blocks kind tick v.apart v.used v.lies b.number a)) (omega (arith, m.starts, m.beside)) in
                  absurd (omega (arith, m.starts, m'.beside, ap (key_in l.now.blocks) one))
            ] in
            (neighbours_law l c.sound c.done kind c.opened tick cell c.before_end).last.nearest b'.number (record { living = a'; ended = ended })
            (λ j p. all_mem m'.nearest (v.met j p.living) (before_first c j p)))

        last_none : earlier ≡ None → LastClosed blocks nodes entries kind tick cell (accepted (record { found = 0; number = 0 }))
        last_none is' = last_by_lem {x = none} h (λ store l c.
            let v = living c in
            let without = (v.near Before b.first (near_in t n')).nothing is' in
            (neighbours_law l c.sound c.done kind c.opened tick cell c.before_end).last.nothing (λ j p. all_mem without (v.met j p.living) (before_first c j p)))

-- ── either side ──

-- a kind that was not opened
pub near_25 : (blocks nodes entries : List ℕ) (kind tick cell : ℕ) (side : Side) → opens (block_column blocks 0 head_kinds) kind ≡ false
    → NearClosed side blocks nodes entries kind tick cell (refused 25)
near_25 blocks nodes entries kind tick cell From k = record { given = λ pieces store. closed_refuses (λ l enc done. neighbour_25 enc done _ kind tick k) out_refused }
near_25 blocks nodes entries kind tick cell Before k = record { given = λ pieces store. closed_refuses (λ l enc done. neighbour_25 enc done _ kind tick k) out_refused }

module _ {blocks nodes entries ns es : List ℕ} {kind tick own last : ℕ} (k : opens (block_column blocks 0 head_kinds) kind ≡ true)
    (t : TreeOf blocks nodes entries kind ns es own last) where
  pub near_14 : (side : Side) (cell : ℕ) → last ≤ tick → NearClosed side blocks nodes entries kind tick cell (refused 14)
  near_14 From cell h = next_14 k t h
  near_14 Before cell h = last_14 k t h

  pub near_missing : (side : Side) {cell : ℕ} {found : Found Neighbour} → tick < last → NearestLive ns es own last tick side cell found → found ≡ None
      → NearClosed side blocks nodes entries kind tick cell (accepted (record { found = 0; number = 0 }))
  near_missing From h n is = next_missing k t h n is
  near_missing Before h n is = last_missing k t h n is

  module _ {side : Side} {cell : ℕ} {found : Found Neighbour} (h : tick < last) (n : NearestLive ns es own last tick side cell found) {b : Neighbour} (is : found ≡ Some b) where
    pub near_next : side ≡ From → NearClosed side blocks nodes entries kind tick cell (accepted (record { found = 1; number = b.number }))
    near_next s = rw s (next_block k t h (rw s at n) is)

    module _ {end : ℕ} (s : side ≡ Before) (at : EndOf blocks b.number end) where
      pub near_last : end ≤ cell → NearClosed side blocks nodes entries kind tick cell (accepted (record { found = 1; number = b.number }))
      near_last g = rw s (last_block k t h (rw s at n) is at g)

      module _ {earlier : Found Neighbour} (g : cell < end) (n' : NearestLive ns es own last tick Before b.first earlier) where
        pub near_earlier : {b' : Neighbour} → earlier ≡ Some b' → NearClosed side blocks nodes entries kind tick cell (accepted (record { found = 1; number = b'.number }))
        near_earlier is' = rw s (last_earlier k t h (rw s at n) is at g n' is')

        pub near_none : earlier ≡ None → NearClosed side blocks nodes entries kind tick cell (accepted (record { found = 0; number = 0 }))
        near_none is' = rw s (last_none k t h (rw s at n) is at g n' is')

pub ruleset nearing = (near_missing, near_next, near_earlier, near_none, mask_opens, arith)
