-- A block held against a list of those that are live at one tick. Definitions alone: their laws stand
-- in proofs/Parting.
use Rattle.std.specs.Prelude.{◌≡◌, List, ℕ, ◌≤◌, ◌<◌}
use Rattle.lists.specs.Lists.{All, Mem}
use Rattle.history.specs.Words.{Block, ends}
use Rattle.apart_laws.specs.Slots.{stretch_at}

-- between blocks j and k there is one of the list: it starts where j does or behind, and ends where k starts or before
pub record PartedBy (bs : List Block) (list : List ℕ) (k j : ℕ) : Type 0 where
  pub by : ℕ
  pub listed : Mem by list
  pub from : (stretch_at bs j).first ≤ (stretch_at bs by).first
  pub to : ends (stretch_at bs by) ≤ (stretch_at bs k).first

-- block k is parted from every other one of the list that starts before its end
abbrev pub PartedIn : (bs : List Block) (list : List ℕ) (k : ℕ) → Type 0
PartedIn bs list k = All (λ j. (j ≡ k → ⊥) → (stretch_at bs j).first < ends (stretch_at bs k) → PartedBy bs list k j) list
