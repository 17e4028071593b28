-- What is proved. Statements alone: the proofs stand in proofs/.
use Rattle.std.specs.Prelude.{◌≡◌, ◌⊎◌, List, [], ◌∷◌, ◌++◌, ℕ, ◌+◌, ◌-◌, ◌≤◌, ◌<◌, min, max, length}
use Rattle.lists.specs.Lists.{Pairs, Mem, count}
use Rattle.history.specs.Words.{Stretch, Block, size, ends}
use Rattle.history.specs.Tree.{Tree, block_at}
use Rattle.history.specs.Find.{path}
use Rattle.history.specs.Rules.{Apart}
use Rattle.apart_laws.specs.Ticks.{Lives, DestroyedBy, Disjoint, ApartAt, EndsApart, TakenOver, HandedOn, HandedAt, ClearOf, Settled}
use Rattle.apart_laws.specs.Ruled.{Ruled, NoneEmpty}
use Rattle.apart_laws.specs.Cover.{cut_sum, Covered}
use Rattle.apart_laws.specs.Slots.{stretch_at, Slot, Born, Counts, Full, TakesIn, HandedOver}
use Rattle.apart_laws.specs.Parted.{PartedIn}
use Rattle.apart_laws.specs.RightFirst.{RightFirst}

-- ── theorem H ──

-- H1, and H2 at every tick below the end, make rule 24. H2 at a tick may lean on rule 24 at that tick; and for a block of which it is left open it may be shown
-- in any other way that nothing is shared with what lives on. H1 at a tick may lean on rule 24 at that tick too.
pub record TheoremH : Type 0 where
  pub plain : (end : ℕ) (bs : List Block) → DestroyedBy end bs → EndsApart bs → ((t : ℕ) → t < end → HandedAt t bs) → Apart bs
  pub leaning : (end : ℕ) (bs : List Block) → DestroyedBy end bs → EndsApart bs → ((t : ℕ) → t < end → ApartAt t bs → HandedAt t bs) → Apart bs
  pub each : (end : ℕ) (bs : List Block) → DestroyedBy end bs → EndsApart bs
      → ((t : ℕ) → t < end → ApartAt t bs → (b : Block) → Mem b bs → Lives b → b.destroyed ≡ t → HandedOn t b bs ⊎ ClearOf t b bs) → Apart bs
  pub stepwise : (end : ℕ) (bs : List Block) → DestroyedBy end bs → ((t : ℕ) → 0 < t → t ≤ end → ApartAt t bs → Settled end t bs) → Apart bs

-- ── the covering lemma ──

-- disjoint stretches that have in [lo, hi) no fewer cells than [lo, hi) cover it; they cannot have more
pub record CoveringLemma : Type 0 where
  pub covers : (lo hi : ℕ) (ss : List Stretch) → Pairs Disjoint ss → hi - lo ≤ cut_sum lo hi ss → (cell : ℕ) → lo ≤ cell → cell < hi → Covered cell ss
  pub fits : (lo hi : ℕ) (ss : List Stretch) → Pairs Disjoint ss → cut_sum lo hi ss ≤ hi - lo

-- ── slots ──

-- A full slot is covered by what is created at its tick, whatever blocks it counts, if no number was looked at twice. So a tick is handed on where what is
-- destroyed then is restored by full slots.
pub record SlotLaw : Type 0 where
  pub covers : (bs : List Block) (t : ℕ) (xs : List ℕ) (s : Slot) → ApartAt t bs → ((k : ℕ) → count k xs ≤ 1) → Counts bs t xs s → Full s
      → (cell : ℕ) → s.lo ≤ cell → cell < s.hi → TakenOver t cell bs
  pub hands : (bs : List Block) (t : ℕ) (xs ys : List ℕ) → ApartAt t bs → ((k : ℕ) → count k ys ≤ 1)
      → ((k : ℕ) → k < length bs → Lives (block_at bs k) → (block_at bs k).destroyed ≡ t → Mem k xs) → HandedOver bs t xs ys → HandedAt t bs

-- What a pass does to a slot: it starts at 0 with any range, stays as more is looked at, and may take in the block that is looked at, if that is created at
-- the tick.
pub record SlotSteps : Type 0 where
  pub none : (bs : List Block) (t : ℕ) (xs : List ℕ) (s : Slot) → s.sum ≡ 0 → Counts bs t xs s
  pub more : (bs : List Block) (t : ℕ) (xs ys : List ℕ) (s : Slot) → ((k : ℕ) → count k xs ≤ count k ys) → Counts bs t xs s → Counts bs t ys s
  pub takes : (bs : List Block) (t : ℕ) (xs : List ℕ) (k : ℕ) (s s' : Slot) → Born bs t k → TakesIn (stretch_at bs k) s s' → Counts bs t xs s
      → Counts bs t (xs ++ k ∷ []) s'
  -- a stretch that the range is widened to hold counts whole
  pub whole : (r : Stretch) (s : Slot) (sum : ℕ) → sum ≤ s.sum + size r → TakesIn r s (record { lo = min s.lo r.first; hi = max s.hi (ends r); sum = sum })

-- ── the walk ──

-- Over a tree with rules 21 and 23 the walk that takes the right half first shows rule 24, where each block that it leaves open is parted from the others on the way to the
-- tick before. What was kept before it and after it is free: nothing is owed for tick 0 and for the end tick.
pub record RightLaw : Type 0 where
  pub apart : (end : ℕ) (bs : List Block) (tree : Tree) → Ruled end bs tree → NoneEmpty bs → (after born born' : List Slot)
      → RightFirst bs end (λ t k. PartedIn bs (path (t - 1) 0 end tree) k) 0 end tree [] after born born' → Apart bs
