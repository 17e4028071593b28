-- Slots: what a pass does to one, and that a full one is covered. Assumes nothing.
use mathlib.Core.Path.{◌≡◌, refl}
use mathlib.Core.List.{List, [], ◌∷◌, ◌++◌, map}
use Prim.Native.Nat.{ℕ, ◌+◌, ◌-◌, ◌≤◌, ◌<◌, min, max}
use native.Mathlib.Omega.{arith}
use lib.ListN.{length}
use Rattle.lists.specs.Lists.{All, all_nil, all_cons, Pairs, Mem, here, there, Distinct, count, sum_of}
use Rattle.lists.proofs.Lists.{all_append, all_mem, mem_at, count-append}
use Rattle.lists.proofs.Maps.{map-append, pairs_of_map}
use Rattle.lists.proofs.Counting.{count_distinct}
use Rattle.history.specs.Words.{Stretch, Block, size, ends, HasCell}
use Rattle.history.specs.Tree.{no_block, block_at}
use Rattle.apart_laws.specs.Ticks.{Lives, Disjoint, ApartAt, TakenOver, HandedOn, HandedAt}
use Rattle.apart_laws.specs.Cover.{cut, cut_sum, Covered}
use Rattle.apart_laws.specs.Slots.{stretch_at, Slot, Born, Counts, Full, TakesIn, Refilled, Restored, RestoredBy, HandedOver}
use Rattle.apart_laws.specs.Law.{SlotLaw, SlotSteps}
use Rattle.apart_laws.proofs.Covering.{covering_lemma}
use Rattle.apart_laws.proofs.Numbers.{number-below, by_number, apart_numbers, distinct_pairs}

-- ── cuts ──

-- a wider range cuts off less
pub cut_wider : (lo hi lo' hi' : ℕ) (r : Stretch) → lo' ≤ lo → hi ≤ hi' → cut lo hi r ≤ cut lo' hi' r
unfolding cut
cut_wider lo hi lo' hi' r p q =
    let low : max lo' r.first ≤ max lo r.first = omega arith in
    let high : min hi (ends r) ≤ min hi' (ends r) = omega arith in
    less _ _ _ _ low high
  where
    less : (a b c d : ℕ) → a ≤ b → c ≤ d → c - b ≤ d - a
    less a b c d f g = omega arith

pub cut-sum_wider : (lo hi lo' hi' : ℕ) (rs : List Stretch) → lo' ≤ lo → hi ≤ hi' → cut_sum lo hi rs ≤ cut_sum lo' hi' rs
unfolding cut_sum sum_of
cut-sum_wider lo hi lo' hi' [] p q = omega arith
cut-sum_wider lo hi lo' hi' (r ∷ rs) p q = omega (arith, cut_wider lo hi lo' hi' r p q, cut-sum_wider lo hi lo' hi' rs p q)

-- a stretch in the range is cut nowhere
pub cut-whole : (lo hi : ℕ) (r : Stretch) → lo ≤ r.first → ends r ≤ hi → cut lo hi r ≡ size r
unfolding cut
cut-whole lo hi r p q =
    let high : min hi (ends r) ≡ ends r = omega arith in
    let low : max lo r.first ≡ r.first = omega arith in
    rw (high, low) (omega arith)

cut-sum_last : (lo hi : ℕ) (rs : List Stretch) (r : Stretch) → cut_sum lo hi (rs ++ r ∷ []) ≡ cut_sum lo hi rs + cut lo hi r
unfolding cut_sum sum_of
cut-sum_last lo hi [] r = omega arith
cut-sum_last lo hi (q ∷ rs) r = omega (arith, cut-sum_last lo hi rs r)

-- ── steps ──

pub counts-none : (bs : List Block) (t : ℕ) (xs : List ℕ) (s : Slot) → s.sum ≡ 0 → Counts bs t xs s
unfolding count
counts-none bs t xs s e = record { blocks = []; among = λ k. omega arith; born = all_nil; adds = omega arith }

pub counts_more : (bs : List Block) (t : ℕ) (xs ys : List ℕ) (s : Slot) → ((k : ℕ) → count k xs ≤ count k ys) → Counts bs t xs s → Counts bs t ys s
counts_more bs t xs ys s h c = record { blocks = c.blocks; among = λ k. omega (arith, c.among k, h k); born = c.born; adds = c.adds }

pub counts-takes : (bs : List Block) (t : ℕ) (xs : List ℕ) (k : ℕ) (s s' : Slot) → Born bs t k → TakesIn (stretch_at bs k) s s' → Counts bs t xs s
    → Counts bs t (xs ++ k ∷ []) s'
counts-takes bs t xs k s s' born takes c = record {
  blocks = c.blocks ++ k ∷ [];
  among = λ j. rw (count-append j c.blocks (k ∷ []), count-append j xs (k ∷ [])) (omega (arith, c.among j));
  born = all_append c.born (all_cons born all_nil);
  adds = rw (map-append (stretch_at bs) c.blocks (k ∷ []), cut-sum_last s'.lo s'.hi (map (stretch_at bs) c.blocks) (stretch_at bs k))
      (omega (arith, c.adds, takes.adds, cut-sum_wider s.lo s.hi s'.lo s'.hi (map (stretch_at bs) c.blocks) takes.lower takes.upper));
}

pub takes_whole : (r : Stretch) (s : Slot) (sum : ℕ) → sum ≤ s.sum + size r → TakesIn r s (record { lo = min s.lo r.first; hi = max s.hi (ends r); sum = sum })
takes_whole r s sum h = record {
  lower = omega arith;
  upper = omega arith;
  adds = rw (cut-whole (min s.lo r.first) (max s.hi (ends r)) r (omega arith) (omega arith)) h;
}

pub slot_steps : SlotSteps
slot_steps = record { none = counts-none; more = counts_more; takes = counts-takes; whole = takes_whole }

-- ── a full slot ──

-- what is created at a tick at which rule 24 holds is disjoint
pub born_disjoint : (bs : List Block) (t : ℕ) → ApartAt t bs → (j k : ℕ) → (j ≡ k → ⊥) → Born bs t j → Born bs t k → Disjoint (stretch_at bs j) (stretch_at bs k)
born_disjoint bs t apart j k ne p q cell m n =
    apart_numbers bs t apart j k ne cell (record { born = omega (arith, p.created); alive = p.alive; has = m })
    (record { born = omega (arith, q.created); alive = q.alive; has = n })

-- the block of a stretch
stretch_of_lem : (bs : List Block) (ks : List ℕ) {r : Stretch} → Mem r (map (stretch_at bs) ks) → (k : ℕ) × Mem k ks × (r ≡ stretch_at bs k)
stretch_of_lem bs [] {r = r} x' = elim x' [ ]
stretch_of_lem bs (k ∷ ks) (here e) = (k, here refl, e)
stretch_of_lem bs (k ∷ ks) (there m) = let z = stretch_of_lem bs ks m in (z.0, there z.1, z.2)

pub slot_covers : (bs : List Block) (t : ℕ) (xs : List ℕ) (s : Slot) → ApartAt t bs → ((k : ℕ) → count k xs ≤ 1) → Counts bs t xs s → Full s
    → (cell : ℕ) → s.lo ≤ cell → cell < s.hi → TakenOver t cell bs
slot_covers bs t xs s apart once c full cell p q =
    let distinct : Distinct c.blocks = count_distinct c.blocks (λ k. omega (arith, c.among k, once k)) in
    let parted : Pairs (λ j k. Disjoint (stretch_at bs j) (stretch_at bs k)) c.blocks = distinct_pairs (born_disjoint bs t apart) c.blocks distinct c.born in
    let covered : Covered cell (map (stretch_at bs) c.blocks) =
    covering_lemma.covers s.lo s.hi (map (stretch_at bs) c.blocks) (pairs_of_map (stretch_at bs) parted) (omega (arith, full.is, c.adds)) cell p q in
    let z = stretch_of_lem bs c.blocks covered.listed in
    let born : Born bs t z.0 = all_mem c.born z.1 in
    record {
      by = block_at bs z.0;
      listed = mem_at no_block bs z.0 (number-below bs t z.0 born.alive);
      created = born.created;
      alive = born.alive;
      has = rw z.2 at covered.has;
    }

-- ── a tick ──

-- a stretch in a full slot has its cells restored
pub refilled_restores : (bs : List Block) (t : ℕ) (ys : List ℕ) {slots : List Slot} (r : Stretch) (cell : ℕ) → HasCell r cell → All (Counts bs t ys) slots
    → Refilled slots r → Restored bs t ys cell
refilled_restores bs t ys r cell c counts f =
    record {
      slot = f.slot;
      counts = all_mem counts f.among;
      full = f.full;
      from = omega (arith, f.from, c.from);
      below = omega (arith, f.to, c.below);
    }

-- what is restored is handed on, where rule 24 holds at the tick
pub restored_handed : (bs : List Block) (t : ℕ) (ys : List ℕ) (k : ℕ) → ApartAt t bs → ((k : ℕ) → count k ys ≤ 1) → RestoredBy bs t ys k → HandedOn t (block_at bs k) bs
restored_handed bs t ys k apart once restored cell c =
    let r : Restored bs t ys cell = restored cell c in slot_covers bs t ys r.slot apart once r.counts r.full cell r.from r.below

pub hands : (bs : List Block) (t : ℕ) (xs ys : List ℕ) → ApartAt t bs → ((k : ℕ) → count k ys ≤ 1)
    → ((k : ℕ) → k < length bs → Lives (block_at bs k) → (block_at bs k).destroyed ≡ t → Mem k xs) → HandedOver bs t xs ys → HandedAt t bs
hands bs t xs ys apart once listed over =
    by_number (λ (b : Block). Lives b → b.destroyed ≡ t → HandedOn t b bs) bs
    (λ k h lives dies. restored_handed bs t ys k apart once (over k (listed k h lives dies) dies))

pub slot_law : SlotLaw
slot_law = record { covers = slot_covers; hands = hands }
