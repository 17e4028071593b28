-- Rule 24 tick by tick: what is destroyed at a tick, and what takes its cells over. Definitions alone: their laws stand in proofs/.
use Rattle.std.specs.Prelude.{◌≡◌, List, ℕ, ◌≤◌, ◌<◌}
use Rattle.lists.specs.Lists.{All, Pairs, Mem}
use Rattle.history.specs.Words.{Stretch, Block, HasCell, Holds}

-- ── words ──

-- a block has a life
abbrev pub Lives : Block → Type 0
Lives b = b.created < b.destroyed

-- every block is destroyed by the end tick
abbrev pub DestroyedBy : (end : ℕ) → List Block → Type 0
DestroyedBy end bs = All (λ (b : Block). b.destroyed ≤ end) bs

-- two stretches share no cell
abbrev pub Disjoint : (r s : Stretch) → Type 0
Disjoint r s = (cell : ℕ) → HasCell r cell → HasCell s cell → ⊥

-- no two blocks share a cell at tick t
abbrev pub ApartAt : (t : ℕ) → List Block → Type 0
ApartAt t bs = Pairs (λ a b. (cell : ℕ) → Holds t cell a → Holds t cell b → ⊥) bs

-- ── H1 and H2 ──

-- H1: no two blocks with a life that are destroyed at one tick share a cell
abbrev pub EndsApart : List Block → Type 0
EndsApart bs = Pairs (λ a b. Lives a → Lives b → a.destroyed ≡ b.destroyed → Disjoint a.stretch b.stretch) bs

-- H1 at tick t: so it is of those that are destroyed at t
abbrev pub EndsApartAt : (t : ℕ) → List Block → Type 0
EndsApartAt t bs = Pairs (λ a b. Lives a → Lives b → a.destroyed ≡ t → b.destroyed ≡ t → Disjoint a.stretch b.stretch) bs

-- a block with a life that is created at tick t has the cell
pub record TakenOver (t cell : ℕ) (bs : List Block) : Type 0 where
  pub by : Block
  pub listed : Mem by bs
  pub created : by.created ≡ t
  pub alive : t < by.destroyed
  pub has : HasCell by.stretch cell

-- every cell of a block is taken over at tick t
abbrev pub HandedOn : (t : ℕ) → Block → List Block → Type 0
HandedOn t b bs = (cell : ℕ) → HasCell b.stretch cell → TakenOver t cell bs

-- H2 at tick t: so it is of every block with a life that is destroyed at t
abbrev pub HandedAt : (t : ℕ) → List Block → Type 0
HandedAt t bs = (b : Block) → Mem b bs → Lives b → b.destroyed ≡ t → HandedOn t b bs

-- ── what H2 is for ──

-- a block shares no cell with one that lives on through tick t
abbrev pub ClearOf : (t : ℕ) → Block → List Block → Type 0
ClearOf t a bs = (b : Block) → Mem b bs → b.created < t → t < b.destroyed → Disjoint a.stretch b.stretch

-- so it is of every block with a life that is destroyed at t
abbrev pub ClearAt : (t : ℕ) → List Block → Type 0
ClearAt t bs = (a : Block) → Mem a bs → Lives a → a.destroyed ≡ t → ClearOf t a bs

-- what rule 24 at a tick t up to the end needs to hold at the tick before
pub record Settled (end t : ℕ) (bs : List Block) : Type 0 where
  pub ends : EndsApartAt t bs
  pub clear : t < end → ClearAt t bs
