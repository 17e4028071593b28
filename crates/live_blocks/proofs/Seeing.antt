-- What blocks show of a cell at a tick: nothing where no live one holds it, one byte where one does, as no two share a cell. Assumes nothing.
use mathlib.Core.Path.{◌≡◌, refl, sym, ap, ◌∙◌}
use mathlib.Core.Logic.{◌⊎◌, inl, inr}
use mathlib.Core.Bool.{true, false, true≢false, cond}
use mathlib.Core.Option.{none}
use mathlib.Core.List.{List, [], ◌∷◌, filter_map, Option-to_list}
use Prim.Native.Nat.{ℕ, zero, suc, ◌-◌, ◌^◌, ◌≤◌, ◌<◌}
use native.Mathlib.Omega.{arith}
use lib.ListN.{length, get_or}
use borrow.Author.Tests.{eq-eqb, eqb-true}
use Rattle.lists.specs.Lists.{All, all_nil, all_cons, pairs_nil, pairs_cons}
use Rattle.lists.proofs.Lists.{all_map, all_at, all_of_at, pairs_at}
use Rattle.lists.proofs.Numbers.{bool_cases, le_or_lt, lt_or_le, and_left, and_right, and_both}
use Rattle.history.specs.Words.{Block, Holds, line_of, cell_place, byte_at, ends, end_cell, live, live_of, of_kind}
use Rattle.history.specs.Tree.{no_block, block_at, key_in}
use Rattle.history.specs.Reads.{shows, seen}
use Rattle.history.specs.Rules.{Apart}
use Rattle.history.specs.Sound.{SoundStretch}
use Rattle.history.proofs.ByKind.{holds_cell, cell_holds}
use Rattle.history.proofs.Within.{within_in, within_true}
use Rattle.history.proofs.Clip.{byte_at_low, byte_at_high}
use Rattle.history.proofs.Seen.{seen_cons, holds_shows}
use Rattle.history.proofs.TreePath.{live-none}
use Rattle.live_blocks.specs.Live.{Passed}

-- ── a cell ──

-- a block that does not hold the cell shows nothing
shows_unheld : (t c : ℕ) (b : Block) → (Holds t c b → ⊥) → shows t c b ≡ none
unfolding shows
shows_unheld t c b unheld = go (bool_cases (live t b)) (lt_or_le c b.stretch.first) (le_or_lt (ends b.stretch) c)
  where
    go : (live t b ≡ true) ⊎ (live t b ≡ false) → (c < b.stretch.first) ⊎ (b.stretch.first ≤ c) → (ends b.stretch ≤ c) ⊎ (c < ends b.stretch)
        → cond (live t b) (byte_at c b.stretch) none ≡ none
    go (inr e) x y = rw e
    go (inl e) (inl h) y = rw e (byte_at_low c b.stretch h)
    go (inl e) (inr h) (inl k) = rw e (byte_at_high c b.stretch k)
    go (inl e) (inr h) (inr k) =
        let w = within_true b.created b.destroyed t e in
        absurd (unheld (record { born = w.0; alive = w.1; has = record { from = h; below = k } }))

pub seen_free : (t c : ℕ) {bs : List Block} → All (λ (b : Block). Holds t c b → ⊥) bs → seen t c bs ≡ []
unfolding seen filter_map Option-to_list
seen_free t c all_nil = refl
seen_free t c (all_cons {x = b} {xs = bs} h hs) = seen_cons t c b bs ∙ rw (shows_unheld t c b h, seen_free t c hs)

-- where no two blocks share a cell, the one that holds it shows its byte alone
pub seen-held : (t c : ℕ) {bs : List Block} → Apart bs → (k : ℕ) → k < length bs → Holds t c (block_at bs k)
    → seen t c bs ≡ get_or (block_at bs k).stretch.bytes (c - (block_at bs k).stretch.first) 0 ∷ []
unfolding Option-to_list
seen-held t c pairs_nil k h held = absurd (omega arith)
seen-held t c (pairs_cons {x = b} {xs = bs} a p) zero h held =
    seen_cons t c b bs ∙ rw (holds_shows t c b held, seen_free t c (all_map (λ x alone. alone t c held) a))
seen-held t c (pairs_cons {x = b} {xs = bs} a p) (suc k) h held =
    seen_cons t c b bs ∙ rw (shows_unheld t c b (λ one. all_at no_block a k (omega arith) t c one held)) (seen-held t c p k (omega arith) held)

-- ── the blocks that are live at a tick ──

module _ (bs : List Block) (kind t : ℕ) (apart : Apart bs) (store : List ℕ) (lies : All (λ (b : Block). SoundStretch b.kind store b.stretch) bs) where
  pub live-number : (k : ℕ) → live_of kind t (block_at bs k) ≡ true → k < length bs
  live-number k e = elim (lt_or_le k (length bs)) [ inl h ↦ h | inr h ↦ absurd (true≢false (sym (and_right (of_kind kind (block_at bs k)) (live t (block_at bs k)) e) ∙ live-none t k bs h)) ]

  lies_at : (k : ℕ) → live_of kind t (block_at bs k) ≡ true → SoundStretch (block_at bs k).kind store (block_at bs k).stretch
  lies_at k e = all_at no_block lies k (live-number k e)

  pub some_cell : (k : ℕ) → live_of kind t (block_at bs k) ≡ true → key_in bs k < end_cell (block_at bs k)
  some_cell k e = omega (arith, (lies_at k e).some_cell)

  -- it is of the kind
  pub own : (k : ℕ) → live_of kind t (block_at bs k) ≡ true → (block_at bs k).kind ≡ kind
  own k e = eqb-true (block_at bs k).kind kind (and_left (of_kind kind (block_at bs k)) (live t (block_at bs k)) e)

  holds : (k c : ℕ) → live_of kind t (block_at bs k) ≡ true → key_in bs k ≤ c → c < end_cell (block_at bs k) → Holds t (cell_place kind c) (block_at bs k)
  holds k c e h below =
      let w = within_true (block_at bs k).created (block_at bs k).destroyed t (and_right (of_kind kind (block_at bs k)) (live t (block_at bs k)) e) in
      cell_holds store (block_at bs k) (lies_at k e) kind t c (record { same_kind = own k e; born = w.0; alive = w.1; from = h; below = below })

  -- two that hold one cell are one
  pub one_holds : (j k c : ℕ) → j < length bs → k < length bs → Holds t c (block_at bs j) → Holds t c (block_at bs k) → j ≡ k
  one_holds j k c hj hk a b =
      elim (lt_or_le j k) [
        | inl h ↦ absurd (pairs_at no_block apart j k h hk t c a b)
        | inr h ↦ elim (lt_or_le k j) [ inl g ↦ absurd (pairs_at no_block apart k j g hj t c b a) | inr g ↦ omega arith ]
      ]

  -- of two that both have a cell of the larger first cell, neither is another
  pub meet_same : (j k : ℕ) → live_of kind t (block_at bs j) ≡ true → live_of kind t (block_at bs k) ≡ true → key_in bs j < end_cell (block_at bs k)
      → key_in bs k < end_cell (block_at bs j) → j ≡ k
  meet_same j k a b p q =
      elim (le_or_lt (key_in bs j) (key_in bs k)) [
        | inl h ↦ one_holds j k (cell_place kind (key_in bs k)) (live-number j a) (live-number k b) (holds j (key_in bs k) a h q) (holds k (key_in bs k) b (omega arith) (some_cell k b))
        | inr h ↦ one_holds j k (cell_place kind (key_in bs j)) (live-number j a) (live-number k b) (holds j (key_in bs j) a (omega arith) (some_cell j a)) (holds k (key_in bs j) b (omega arith) p)
      ]

  -- at a place before which the last live block ends, or none starts
  pub passed_last : (k place : ℕ) → live_of kind t (block_at bs k) ≡ true → ((j : ℕ) → live_of kind t (block_at bs j) ≡ true → key_in bs j < place → key_in bs j ≤ key_in bs k)
      → end_cell (block_at bs k) ≤ place → Passed bs kind t place
  passed_last k place b last ended = record {
    passed = λ j a h.
        elim (le_or_lt (end_cell (block_at bs j)) place) [
          | inl g ↦ g
          | inr g ↦ rw (meet_same j k a b (omega (arith, last j a h, some_cell k b)) (omega (arith, some_cell k b))) ended
        ];
  }

  pub passed_first : (place : ℕ) → ((j : ℕ) → live_of kind t (block_at bs j) ≡ true → key_in bs j < place → ⊥) → Passed bs kind t place
  passed_first place first = record { passed = λ j a h. absurd (first j a h) }

  -- a cell that no live block has is free
  pub free_cell : (c : ℕ) → c < 2 ^ 64 → ((j : ℕ) → live_of kind t (block_at bs j) ≡ true → key_in bs j ≤ c → c < end_cell (block_at bs j) → ⊥)
      → seen t (cell_place kind c) bs ≡ []
  free_cell c low unheld =
      seen_free t (cell_place kind c) (all_of_at no_block bs (λ j h held.
      let cell = holds_cell store (block_at bs j) (all_at no_block lies j h) kind t c low held in
      unheld j
      (and_both (of_kind kind (block_at bs j)) (live t (block_at bs j)) (eq-eqb (block_at bs j).kind kind cell.same_kind)
      (within_in (block_at bs j).created (block_at bs j).destroyed t held.born held.alive)) cell.from cell.below))

  -- cells of a live block have its bytes
  pub held_by : (k c : ℕ) → live_of kind t (block_at bs k) ≡ true → key_in bs k ≤ c → c < end_cell (block_at bs k)
      → seen t (cell_place kind c) bs ≡ get_or (block_at bs k).stretch.bytes (c - key_in bs k) 0 ∷ []
  held_by k c a h below =
      let at : cell_place kind c - (block_at bs k).stretch.first ≡ c - key_in bs k = omega (arith, ap line_of (own k a), (lies_at k a).from_line) in
      rw at at (seen-held t (cell_place kind c) apart k (live-number k a) (holds k c a h below))
