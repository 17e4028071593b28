-- The blocks that touch a window: those that start in it, in order of first cell, behind the one that reaches over its start. Assumes nothing.
use mathlib.Core.Path.{◌≡◌, refl, ◌∙◌}
use mathlib.Core.Logic.{inl, inr}
use mathlib.Core.Bool.{Bool, true, false, cond, ◌&&◌}
use mathlib.Core.List.{List, [], ◌∷◌}
use Prim.Native.Nat.{ℕ, ◌≤◌, ◌<◌}
use native.Mathlib.Omega.{arith}
use lib.Dec.{eqb}
use Rattle.lists.specs.Lists.{All, Mem, here, there, Ascending, pairs_nil, pairs_cons, count}
use Rattle.lists.proofs.Numbers.{counts_one, lt_or_le, eq_or_ne, and_left, and_right, and_both}
use Rattle.lists.proofs.Lists.{all_map, all_of_mem}
use Rattle.lists.proofs.Counting.{not_mem_nil, count_distinct}
use Rattle.history.specs.Words.{within, Block, first_cell, live_of}
use Rattle.history.specs.Tree.{no_block, key_in}
use Rattle.history.specs.Rules.{Apart}
use Rattle.history.specs.Ledger.{Ledger, finished, opens_kind}
use Rattle.history.specs.Reads.{block_by, find_by, touches, touching_by}
use Rattle.history.specs.Sound.{Sound, SoundStretch}
use Rattle.history.proofs.Within.{within_in, within_high, within_true}
use Rattle.history.proofs.TreeSorted.{Standing}
use Rattle.history.proofs.FindSound.{closed_trees, find_sound}
use Rattle.history.proofs.Counted.{counted_holds, counted_mem}
use Rattle.history.proofs.Touching.{live_differ, live_same, touches_cell, cell_touched}
use Rattle.segment_touch.specs.Sorting.{sort_by}
use Rattle.segment_touch.proofs.Sorting.{sort_count, sort_ascending}
use Rattle.live_blocks.specs.Live.{Passed}
use Rattle.live_blocks.proofs.Seeing.{some_cell, meet_same}
use Rattle.touching_read.specs.Reads.{Reaches}

module _ (l : Ledger) (sound : Sound l) (done : finished l ≡ true) (kind : ℕ) (opened : opens_kind l kind ≡ true) (t : ℕ) (before : t < l.opening.end) (s n : ℕ) where
  apart : Apart l.now.blocks
  apart = (closed_trees l l.trees done sound.closed).rule_24

  standing : All Standing l.now.blocks
  standing = all_map (λ b x. record { some_cell = x.stretch.some_cell; from_line = omega (arith, x.stretch.from_line) }) sound.board.blocks

  lies : All (λ (b : Block). SoundStretch b.kind l.now.store b.stretch) l.now.blocks
  lies = all_map (λ b x. x.stretch) sound.board.blocks

  -- ── those that start in the window ──

  -- what find lists, by first cell
  abbrev pub started : List ℕ
  started = sort_by (key_in l.now.blocks) (find_by l kind t s n).numbers

  abbrev starts_now : Block → Bool
  starts_now b = live_of kind t b && within s n (first_cell b)

  no_block_lem : starts_now no_block ≡ false
  no_block_lem = go (eqb 0 kind)
    where
      go : (u : Bool) → ((u && within 0 0 t) && within s n (first_cell no_block)) ≡ false
      go true = rw (within_high 0 0 t (omega arith))
      go false = refl

  started_count : (k : ℕ) → count k started ≡ cond (live_of kind t (block_by l k) && within s n (first_cell (block_by l k))) 1 0
  started_count k = sort_count (key_in l.now.blocks) k (find_by l kind t s n).numbers ∙ (find_sound l sound done kind opened t s n before).once k

  record StartsIn (k : ℕ) : Type 0 where
    lives : live_of kind t (block_by l k) ≡ true
    from : s ≤ key_in l.now.blocks k
    below : key_in l.now.blocks k < n

  starts_in : (ks : List ℕ) → ((k : ℕ) → count k ks ≡ cond (live_of kind t (block_by l k) && within s n (first_cell (block_by l k))) 1 0) → (k : ℕ) → Mem k ks → StartsIn k
  starts_in ks counts k m =
      let e = counted_holds l.now.blocks starts_now no_block_lem ks counts k m in
      let w = within_true s n (key_in l.now.blocks k) (and_right (live_of kind t (block_by l k)) (within s n (first_cell (block_by l k))) e) in
      record { lives = and_left (live_of kind t (block_by l k)) (within s n (first_cell (block_by l k))) e; from = w.0; below = w.1 }

  started_mem : (k : ℕ) → live_of kind t (block_by l k) ≡ true → s ≤ key_in l.now.blocks k → key_in l.now.blocks k < n → Mem k started
  started_mem k a p q =
      counted_mem l.now.blocks starts_now no_block_lem started started_count k
      (and_both (live_of kind t (block_by l k)) (within s n (first_cell (block_by l k))) a (within_in s n (key_in l.now.blocks k) p q))

  started_ascending : Ascending (key_in l.now.blocks) started
  started_ascending =
      let counts = (find_sound l sound done kind opened t s n before).once in
      sort_ascending (key_in l.now.blocks) (find_by l kind t s n).numbers
      (count_distinct (find_by l kind t s n).numbers (λ k. rw (counts k) (counts_one (starts_now (block_by l k)))))
      (λ j k a b e. elim (eq_or_ne j k) [
        | inl q ↦ q
        | inr q ↦ absurd (live_differ l.now.blocks apart standing kind t j k (starts_in (find_by l kind t s n).numbers counts j a).lives (starts_in (find_by l kind t s n).numbers counts k b).lives q e)
      ])

  -- such a block holds its first cell
  started_touches : (k : ℕ) → Mem k started → (live_of kind t (block_by l k) ≡ true) × (touches s n (block_by l k) ≡ true)
  started_touches k m =
      let h = starts_in started started_count k m in
      (h.lives, touches_cell s n (block_by l k) (key_in l.now.blocks k) h.from h.below (omega arith) (some_cell l.now.blocks kind t apart l.now.store lies k h.lives))

  -- ── what touches ──

  -- Where no block reaches over the start it is these alone;
  pub touched_started : Passed l.now.blocks kind t s → started ≡ touching_by l kind t s n
  touched_started passed =
      live_same l sound done kind t (touches s n) started_ascending started_touches
      (λ k a b.
      let cell = cell_touched s n (block_by l k) b in
      elim (lt_or_le (key_in l.now.blocks k) s) [
        | inl g ↦ absurd (omega (arith, passed.passed k a g))
        | inr g ↦ started_mem k a g (omega arith)
      ])

  -- else the one that does comes first;
  pub touched-over : (k : ℕ) → Reaches l.now.blocks kind t s k → s < n → k ∷ started ≡ touching_by l kind t s n
  touched-over k over some =
      live_same l sound done kind t (touches s n)
      (pairs_cons (all_of_mem started (λ j m. omega (arith, over.before, (starts_in started started_count j m).from))) started_ascending) holds lists
    where
      holds : (j : ℕ) → Mem j (k ∷ started) → (live_of kind t (block_by l j) ≡ true) × (touches s n (block_by l j) ≡ true)
      holds j (here e) = rw e (over.lives, touches_cell s n (block_by l k) s (omega arith) some (omega (arith, over.before)) over.beyond)
      holds j (there m) = started_touches j m

      lists : (j : ℕ) → live_of kind t (block_by l j) ≡ true → touches s n (block_by l j) ≡ true → Mem j (k ∷ started)
      lists j a b =
          let cell = cell_touched s n (block_by l j) b in
          elim (lt_or_le (key_in l.now.blocks j) s) [
            | inl g ↦ here (meet_same l.now.blocks kind t apart l.now.store lies j k a over.lives (omega (arith, over.beyond)) (omega (arith, over.before)))
            | inr g ↦ there (started_mem j a g (omega arith))
          ]

  -- and of an empty window none.
  pub touched_none : n ≤ s → [] ≡ touching_by l kind t s n
  touched_none h =
      live_same l sound done kind t (touches s n) pairs_nil (λ k m. absurd (not_mem_nil m)) (λ k a b. let cell = cell_touched s n (block_by l k) b in absurd (omega arith))
