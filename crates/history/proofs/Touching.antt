-- Touching, next and last over any sound closed index: exactly the live blocks asked for, in order of first cell. Assumes nothing.
use mathlib.Core.Path.{◌≡◌, refl, ap, ◌∙◌}
use mathlib.Core.Logic.{inl, inr, ◌≢◌}
use mathlib.Core.Bool.{Bool, true, false, cond, ◌&&◌}
use mathlib.Core.Option.{none}
use mathlib.Core.List.{List, [], ◌∷◌, map, head?}
use Prim.Native.Nat.{ℕ, ◌+◌, ◌≤◌, ◌<◌, min, max}
use native.Mathlib.Omega.{arith}
use lib.ListN.{length}
use lib.Dec.{eqb}
use borrow.Author.Tests.{lt-ltb, ltb-true, le-leb, leb-true, eq-eqb, eqb-true}
use Rattle.lists.specs.Lists.{All, Mem, here, Ascending, count, sum_of}
use Rattle.lists.proofs.Numbers.{bool_cases, and_left, and_right, and_both}
use Rattle.lists.proofs.Lists.{all_map}
use Rattle.lists.proofs.Counting.{not_mem_nil}
use Rattle.history.specs.Words.{Block, within, only_kind, of_kind, first_cell, end_cell, live, live_of}
use Rattle.history.specs.Tree.{no_block, block_at, key_in}
use Rattle.history.specs.Rules.{Apart}
use Rattle.history.specs.Ledger.{Ledger, finished}
use Rattle.history.specs.Reads.{block_by, live_by, touches, starts_from, ends_by, last_in}
use Rattle.history.specs.Sound.{Sound}
use Rattle.history.specs.Law.{Touching, LawOfTouching, LiveFrom, LiveBelow, NeighbourLaw, LawOfNeighbours}
use Rattle.history.proofs.Within.{within_in, within_high, within_true}
use Rattle.history.proofs.ByKind.{only_at, own-live}
use Rattle.history.proofs.TreeSorted.{Standing}
use Rattle.history.proofs.TreeOrder.{cells_apart}
use Rattle.history.proofs.FindSound.{closed_trees}
use Rattle.history.proofs.Counted.{counted_holds, counted_mem, counted_numbers, counted_length}
use Rattle.history.proofs.Ascending.{from_count, from_ascending, ascending_same, head_least, head_member, last_greatest, last_member}

-- ── live blocks of which a test holds ──

-- live blocks of a kind with one first cell are one
pub live_differ : (bs : List Block) → Apart bs → All Standing bs → (kind t i j : ℕ) → live_of kind t (block_at bs i) ≡ true → live_of kind t (block_at bs j) ≡ true → i ≢ j → key_in bs i ≢ key_in bs j
live_differ bs apart standing kind t i j a b n =
    let p = within_true (block_at (only_kind kind bs) i).created (block_at (only_kind kind bs) i).destroyed t (own-lives_at i a) in
    let q = within_true (block_at (only_kind kind bs) j).created (block_at (only_kind kind bs) j).destroyed t (own-lives_at j b) in
    cells_apart kind bs apart standing i j n (record { tick = t; born = p.0; alive = p.1; other_born = q.0; other_alive = q.1 })
  where
    own-lives_at : (k : ℕ) → live_of kind t (block_at bs k) ≡ true → live t (block_at (only_kind kind bs) k) ≡ true
    own-lives_at k h = ap (live t) (only_at kind bs k) ∙ own-live kind t (block_at bs k) ∙ h

-- the block is of the kind and live, and the test holds of it
abbrev asked : (kind t : ℕ) (test : Block → Bool) → Block → Bool
asked kind t test b = live_of kind t b && test b

no_block_lem : (kind t : ℕ) (test : Block → Bool) → asked kind t test no_block ≡ false
no_block_lem kind t test = go (eqb 0 kind)
  where
    go : (u : Bool) → ((u && within 0 0 t) && test no_block) ≡ false
    go true = rw (within_high 0 0 t (omega arith))
    go false = refl

module _ (l : Ledger) (sound : Sound l) (done : finished l ≡ true) (kind t : ℕ) (test : Block → Bool) where
  -- each once if it is live and the test holds of it, and never else
  pub live-count : (k : ℕ) → count k (live_by l kind t test) ≡ cond (live_of kind t (block_by l k) && test (block_by l k)) 1 0
  unfolding live_by
  live-count k = let z : 0 + k ≡ k = omega arith in rw z at (from_count (key_in l.now.blocks) (asked kind t test) (no_block_lem kind t test) k 0 l.now.blocks)

  pub live_holds : (k : ℕ) → Mem k (live_by l kind t test) → (live_of kind t (block_by l k) && test (block_by l k)) ≡ true
  live_holds = counted_holds l.now.blocks (asked kind t test) (no_block_lem kind t test) (live_by l kind t test) live-count

  pub live_mem : (k : ℕ) → live_of kind t (block_by l k) ≡ true → test (block_by l k) ≡ true → Mem k (live_by l kind t test)
  live_mem k a b =
      counted_mem l.now.blocks (asked kind t test) (no_block_lem kind t test) (live_by l kind t test) live-count k (and_both (live_of kind t (block_by l k)) (test (block_by l k)) a b)

  -- first cells ascend
  pub live_ascending : Ascending (key_in l.now.blocks) (live_by l kind t test)
  unfolding live_by
  live_ascending =
      from_ascending (key_in l.now.blocks) (asked kind t test) (λ k. live_of kind t (block_by l k) ≡ true)
      (live_differ l.now.blocks (closed_trees l l.trees done sound.closed).rule_24
      (all_map (λ b x. record { some_cell = x.stretch.some_cell; from_line = omega (arith, x.stretch.from_line) }) sound.board.blocks) kind t)
      l.now.blocks (λ j e. and_left (live_of kind t (block_by l j)) (test (block_by l j)) e)

  -- any other ascending list of these blocks is the same
  pub live_same : {ks : List ℕ} → Ascending (key_in l.now.blocks) ks → ((k : ℕ) → Mem k ks → (live_of kind t (block_by l k) ≡ true) × (test (block_by l k) ≡ true))
      → ((k : ℕ) → live_of kind t (block_by l k) ≡ true → test (block_by l k) ≡ true → Mem k ks) → ks ≡ live_by l kind t test
  live_same order holds lists =
      ascending_same (key_in l.now.blocks) order live_ascending (λ k m. let h = holds k m in live_mem k h.0 h.1)
      (λ k m. let h = live_holds k m in lists k (and_left (live_of kind t (block_by l k)) (test (block_by l k)) h) (and_right (live_of kind t (block_by l k)) (test (block_by l k)) h))

  pub live_numbers : All (λ k. k < length l.now.blocks) (live_by l kind t test)
  live_numbers = counted_numbers l.now.blocks (asked kind t test) (no_block_lem kind t test) (live_by l kind t test) live-count

  pub live-length : length (live_by l kind t test) ≡ sum_of (map (λ b. cond (live_of kind t b && test b) 1 0) l.now.blocks)
  live-length = counted_length l.now.blocks (asked kind t test) (no_block_lem kind t test) (live_by l kind t test) live-count

-- ── touching ──

-- a block that holds a cell of the window
pub touches_cell : (s n : ℕ) (b : Block) (cell : ℕ) → s ≤ cell → cell < n → first_cell b ≤ cell → cell < end_cell b → touches s n b ≡ true
touches_cell s n b cell from below starts ended = lt-ltb (max s (first_cell b)) (min n (end_cell b)) (omega arith)

pub cell_touched : (s n : ℕ) (b : Block) → touches s n b ≡ true → max s (first_cell b) < min n (end_cell b)
cell_touched s n b e = ltb-true (max s (first_cell b)) (min n (end_cell b)) e

module _ (l : Ledger) (kind t s n k : ℕ) where
  touching_live : Touching l kind t s n k → (live_of kind t (block_by l k) && touches s n (block_by l k)) ≡ true
  touching_live h =
      and_both (live_of kind t (block_by l k)) (touches s n (block_by l k))
      (and_both (of_kind kind (block_by l k)) (live t (block_by l k)) (eq-eqb (block_by l k).kind kind h.held.same_kind)
      (within_in (block_by l k).created (block_by l k).destroyed t h.held.born h.held.alive))
      (touches_cell s n (block_by l k) h.cell h.from h.below h.held.from h.held.below)

  live_touching : (live_of kind t (block_by l k) && touches s n (block_by l k)) ≡ true → Touching l kind t s n k
  live_touching e =
      let mine = and_left (live_of kind t (block_by l k)) (touches s n (block_by l k)) e in
      let lives = within_true (block_by l k).created (block_by l k).destroyed t (and_right (of_kind kind (block_by l k)) (live t (block_by l k)) mine) in
      let cell = cell_touched s n (block_by l k) (and_right (live_of kind t (block_by l k)) (touches s n (block_by l k)) e) in
      record {
        cell = max s (first_cell (block_by l k));
        from = omega arith;
        below = omega arith;
        held = record {
          same_kind = eqb-true (block_by l k).kind kind (and_left (of_kind kind (block_by l k)) (live t (block_by l k)) mine);
          born = lives.0;
          alive = lives.1;
          from = omega arith;
          below = omega arith;
        };
      }

pub touching_law : LawOfTouching
touching_law l sound done kind opened t s n h =
    record {
      once = λ k touching. live-count l sound done kind t (touches s n) k ∙ rw (touching_live l kind t s n k touching);
      never = λ k none. elim (bool_cases (asked kind t (touches s n) (block_by l k))) [
        | inl e ↦ absurd (none (live_touching l kind t s n k e))
        | inr e ↦ live-count l sound done kind t (touches s n) k ∙ rw e
      ];
      numbers = live_numbers l sound done kind t (touches s n);
      how_many = live-length l sound done kind t (touches s n);
      ascending = live_ascending l sound done kind t (touches s n);
    }

-- ── neighbours ──

module _ (key : ℕ → ℕ) (P : ℕ → Type 0) {ks : List ℕ} (order : Ascending key ks) (holds : (k : ℕ) → Mem k ks → P k) (lists : (k : ℕ) → P k → Mem k ks) where
  -- the first of an ascending list is the nearest after a place
  first_law : NeighbourLaw P (λ k j. key k ≤ key j) (head? ks)
  first_law = record {
    given = λ k e. let m = head_member key k order e in (holds k m.0, λ j p. m.1 j (lists j p));
    nearest = λ k p near. head_least key k order (lists k p) (λ j m. near j (holds j m));
    missing = λ e j p. empty ks e j (lists j p);
    nothing = λ f. none_first ks (λ j m. f j (holds j m));
  }
    where
      empty : (xs : List ℕ) → head? xs ≡ none → (j : ℕ) → Mem j xs → ⊥
      empty [] e j m = not_mem_nil m
      empty (x ∷ xs) e j m = let no : ◌≡◌ {A = ℕ} 0 1 = cc in omega arith

      none_first : (xs : List ℕ) → ((j : ℕ) → Mem j xs → ⊥) → head? xs ≡ none
      none_first [] f = refl
      none_first (x ∷ xs) f = absurd (f x (here refl))

  -- the last one is the nearest before it
  last_law : NeighbourLaw P (λ k j. key j ≤ key k) (last_in ks)
  unfolding last_in
  last_law = record {
    given = λ k e. let m = last_member key k order e in (holds k m.0, λ j p. m.1 j (lists j p));
    nearest = λ k p near. last_greatest key k order (lists k p) (λ j m. near j (holds j m));
    missing = λ e j p. empty ks e j (lists j p);
    nothing = λ f. none_last ks (λ j m. f j (holds j m));
  }
    where
      empty : (xs : List ℕ) → last_in xs ≡ none → (j : ℕ) → Mem j xs → ⊥
      empty [] e j m = not_mem_nil m
      empty (x ∷ []) e j m = let no : ◌≡◌ {A = ℕ} 0 1 = cc in omega arith
      empty (x ∷ y ∷ xs) e j m = empty (y ∷ xs) e y (here refl)

      none_last : (xs : List ℕ) → ((j : ℕ) → Mem j xs → ⊥) → last_in xs ≡ none
      none_last [] f = refl
      none_last (x ∷ xs) f = absurd (f x (here refl))

pub neighbours_law : LawOfNeighbours
neighbours_law l sound done kind opened t cell h =
    record {
      next = first_law (key_in l.now.blocks) (LiveFrom l kind t cell) (live_ascending l sound done kind t (starts_from cell))
          (λ k m.
          let e = live_holds l sound done kind t (starts_from cell) k m in
          record {
            living = and_left (live_of kind t (block_by l k)) (starts_from cell (block_by l k)) e;
            starts = leb-true cell (first_cell (block_by l k)) (and_right (live_of kind t (block_by l k)) (starts_from cell (block_by l k)) e);
          })
          (λ k p. live_mem l sound done kind t (starts_from cell) k p.living (le-leb cell (first_cell (block_by l k)) p.starts));
      last = last_law (key_in l.now.blocks) (LiveBelow l kind t cell) (live_ascending l sound done kind t (ends_by cell))
          (λ k m.
          let e = live_holds l sound done kind t (ends_by cell) k m in
          record {
            living = and_left (live_of kind t (block_by l k)) (ends_by cell (block_by l k)) e;
            ended = leb-true (end_cell (block_by l k)) cell (and_right (live_of kind t (block_by l k)) (ends_by cell (block_by l k)) e);
          })
          (λ k p. live_mem l sound done kind t (ends_by cell) k p.living (le-leb (end_cell (block_by l k)) cell p.ended));
    }
