-- What a pass keeps for a tick: slots, built of what is created then. Blocks go by their numbers; xs and ys are the numbers that were looked at. Definitions alone: their laws stand in proofs/.
use Rattle.std.specs.Prelude.{◌≡◌, List, map, ℕ, ◌+◌, ◌-◌, ◌≤◌, ◌<◌}
use Rattle.lists.specs.Lists.{All, Mem, count}
use Rattle.history.specs.Words.{Stretch, Block, ends, HasCell}
use Rattle.history.specs.Tree.{block_at}
use Rattle.apart_laws.specs.Cover.{cut, cut_sum}

-- the stretch of block k
abbrev pub stretch_at : List Block → (k : ℕ) → Stretch
stretch_at bs k = (block_at bs k).stretch

-- ── slots ──

-- a range of cells, and how many cells of it have been counted
pub record Slot : Type 0 where
  pub lo : ℕ
  pub hi : ℕ
  pub sum : ℕ

-- block k is created at tick t and has a life
pub record Born (bs : List Block) (t k : ℕ) : Type 0 where
  pub created : (block_at bs k).created ≡ t
  pub alive : t < (block_at bs k).destroyed

-- A slot counts cells of blocks that are created at tick t. Which ones is free, as long as none is counted more often than it was looked at; of each only
-- the part in the range counts. A sum may fall short: one that wraps or stops does.
pub record Counts (bs : List Block) (t : ℕ) (xs : List ℕ) (s : Slot) : Type 0 where
  pub blocks : List ℕ
  pub among : (k : ℕ) → count k blocks ≤ count k xs
  pub born : All (Born bs t) blocks
  pub adds : s.sum ≤ cut_sum s.lo s.hi (map (stretch_at bs) blocks)

-- no fewer cells have been counted than the range has
pub record Full (s : Slot) : Type 0 where
  pub is : s.hi - s.lo ≤ s.sum

-- the slot takes a stretch in: its range does not shrink, and its sum grows by the part in the range at most
pub record TakesIn (r : Stretch) (s s' : Slot) : Type 0 where
  pub lower : s'.lo ≤ s.lo
  pub upper : s.hi ≤ s'.hi
  pub adds : s'.sum ≤ s.sum + cut s'.lo s'.hi r

-- a slot that counts nothing yet
abbrev pub Unused : Slot → Type 0
Unused s = s.sum ≡ 0

-- a slot to go on from: it counts nothing yet, or was there before
pub data Source (slots : List Slot) (s : Slot) : Type 0 where
  unused : Unused s → Source slots s
  listed : Mem s slots → Source slots s

-- what a slot is when block k has been looked at: as it was, or it took the block in
pub data ComesFrom (bs : List Block) (t k : ℕ) (slots : List Slot) (s' : Slot) : Type 0 where
  kept : Source slots s' → ComesFrom bs t k slots s'
  taken : {s : Slot} → Source slots s → Born bs t k → TakesIn (stretch_at bs k) s s' → ComesFrom bs t k slots s'

-- ── a tick ──

-- the stretch lies in a full slot
pub record Refilled (slots : List Slot) (r : Stretch) : Type 0 where
  pub slot : Slot
  pub among : Mem slot slots
  pub full : Full slot
  pub from : slot.lo ≤ r.first
  pub to : ends r ≤ slot.hi

-- a full slot that counts blocks of the numbers ys has the cell
pub record Restored (bs : List Block) (t : ℕ) (ys : List ℕ) (cell : ℕ) : Type 0 where
  pub slot : Slot
  pub counts : Counts bs t ys slot
  pub full : Full slot
  pub from : slot.lo ≤ cell
  pub below : cell < slot.hi

-- every cell of block k is restored so
abbrev pub RestoredBy : (bs : List Block) (t : ℕ) (ys : List ℕ) (k : ℕ) → Type 0
RestoredBy bs t ys k = (cell : ℕ) → HasCell (stretch_at bs k) cell → Restored bs t ys cell

-- and so it is of every block of the numbers xs that is destroyed at tick t
abbrev pub HandedOver : (bs : List Block) (t : ℕ) (xs ys : List ℕ) → Type 0
HandedOver bs t xs ys = (k : ℕ) → Mem k xs → (block_at bs k).destroyed ≡ t → RestoredBy bs t ys k
