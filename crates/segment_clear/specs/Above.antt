-- A block held against the blocks of the nodes above one, on the way to a tick. Definitions alone.
use Rattle.std.specs.Prelude.{◌≡◌, Bool, true, List, [], ◌++◌, ℕ, ◌-◌, ◌^◌, ◌≤◌, ◌<◌}
use Rattle.lists.specs.Lists.{All, Pairs, Ascending}
use Rattle.segment_table.specs.Closed.{first_cell_in}
use Rattle.segment_walk.specs.declared.walk.Node.{Node}
use Rattle.segment_walk.specs.Walking.{half_at}
use Rattle.segment_walk.specs.Rowing.{rows_at, RunOf}
use Rattle.segment_clear.specs.declared.Own.{Own}
use Rattle.segment_clear.specs.Clear.{end_in, Owns}

-- each of the blocks ends where a later one starts, or before
abbrev pub Chained : (blocks list : List ℕ) → Type 0
Chained blocks xs = Pairs (λ j k. end_in blocks j ≤ first_cell_in blocks k) xs

-- blocks j and k share no cell
pub data Aside (blocks : List ℕ) (k j : ℕ) : Type 0 where
  before : end_in blocks j ≤ first_cell_in blocks k → Aside blocks k j
  behind : end_in blocks k ≤ first_cell_in blocks j → Aside blocks k j

-- the nodes on the way to a tick, from one down to another, and the blocks that they list: those of a node follow one another
pub data Above (blocks nodes entries : List ℕ) (tick : ℕ) (at : Node) : (from : Node) → List ℕ → Type 0 where
  above-none : Above blocks nodes entries tick at at []
  above_next : {from : Node} {es rest : List ℕ} → from.min < at.min → 0 < from.link → from.min < from.max
      → RunOf blocks entries (rows_at nodes entries from.link) es → Ascending (first_cell_in blocks) es → Chained blocks es
      → Above blocks nodes entries tick at (half_at nodes tick from) rest → Above blocks nodes entries tick at from (es ++ rest)

-- yes is said only where block k shares no cell with another one of them
pub record AboveClear (blocks nodes entries : List ℕ) (top : Node) (min tick : ℕ) (own : Own) (r : Bool) : Type 0 where
  pub of_above : r ≡ true → (k : ℕ) (at : Node) (list : List ℕ) → Owns blocks k own → end_in blocks k ≤ 2 ^ 64 - 1 → at.min ≡ min
      → Above blocks nodes entries tick at top list → All (λ j. (j ≡ k → ⊥) → Aside blocks k j) list
