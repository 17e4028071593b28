-- Slots in code as the laws have them, and what each function does. Definitions alone: laws stand in proofs/.
use Rattle.std.specs.Prelude.{◌≡◌, Bool, true, List, map, ℕ, ◌+◌, ◌-◌, ◌≤◌, ◌<◌}
use Rattle.lists.specs.Lists.{All}
use Rattle.history.specs.Words.{Stretch, Block, ends}
use Rattle.history.specs.Tree.{block_at}
use Rattle.apart_laws.specs.Slots as laws
use Rattle.apart_laws.specs.Slots.{stretch_at, Born, ComesFrom, Refilled}
use Rattle.slots.specs.declared.Slot.{Slot}
use Rattle.slots.specs.declared.Slots.{Slots}

-- ── as the laws have them ──

abbrev pub slot_of : Slot → laws.Slot
slot_of s = record { lo = s.lo; hi = s.hi; sum = s.sum }

abbrev pub slots_of : Slots → List laws.Slot
slots_of ss = map slot_of ss.each

-- the stretch is [first, end)
pub record Spans (r : Stretch) (first end : ℕ) : Type 0 where
  pub from : r.first ≡ first
  pub to : ends r ≡ end

-- ── what the functions do ──

pub record Unused (ss : Slots) : Type 0 where
  pub all : All laws.Unused (slots_of ss)

-- the range holds [first, end) besides, and the sum grows by its cells at most
pub record TookIn (s : Slot) (first end : ℕ) (s' : Slot) : Type 0 where
  pub lower : s'.lo ≤ s.lo
  pub from : s'.lo ≤ first
  pub upper : s.hi ≤ s'.hi
  pub to : end ≤ s'.hi
  pub adds : s'.sum ≤ s.sum + (end - first)

-- whatever block of those cells is created at the tick is taken in
pub record Takes (ss : Slots) (first end : ℕ) (ss' : Slots) : Type 0 where
  pub slots : (bs : List Block) (t k : ℕ) → Spans (stretch_at bs k) first end → Born bs t k → All (ComesFrom bs t k (slots_of ss)) (slots_of ss')

-- the slot is full and has [first, end)
pub record Restores (s : Slot) (first end : ℕ) : Type 0 where
  pub full : s.hi - s.lo ≤ s.sum
  pub from : s.lo ≤ first
  pub to : end ≤ s.hi

-- yes is said only where one of the slots is full and has [first, end)
pub record Holds (ss : Slots) (first end : ℕ) (q : Bool) : Type 0 where
  pub refilled : q ≡ true → (r : Stretch) → Spans r first end → Refilled (slots_of ss) r

-- ── one entry of a node ──

-- block k as the tables have it
pub record Reads (bs : List Block) (k created destroyed first end : ℕ) : Type 0 where
  pub born : (block_at bs k).created ≡ created
  pub gone : (block_at bs k).destroyed ≡ destroyed
  pub spans : Spans (stretch_at bs k) first end

-- the slots for min go on from those before, for whatever block of these cells has a life
pub record Counts (ss : Slots) (min created first end : ℕ) (ss' : Slots) : Type 0 where
  pub slots : (bs : List Block) (k destroyed : ℕ) → Reads bs k created destroyed first end → min < destroyed → All (ComesFrom bs min k (slots_of ss)) (slots_of ss')
