-- A block among those that are live when it is created. Definitions alone.
use Rattle.std.specs.Prelude.{◌≡◌, Bool, true, List, ℕ, ◌-◌, ◌^◌, ◌≤◌, ◌<◌}
use Rattle.history.specs.Tree.{Tree}
use Rattle.history.specs.Find.{path}
use Rattle.segment_test.specs.Test.{created_in, destroyed_in, owner_in}
use Rattle.segment_walk.specs.Walking.{Rooted}
use Rattle.segment_clear.specs.Clear.{end_in, Clears}

-- of the blocks of its kind that are live when block k is created; one without a life is passed over
pub record BirthClear (blocks nodes entries : List ℕ) (end k : ℕ) (r : Bool) : Type 0 where
  pub lived : (tree : Tree) → created_in blocks k < destroyed_in blocks k → end_in blocks k ≤ 2 ^ 64 - 1 → Rooted blocks nodes entries (owner_in blocks k) end tree
      → Clears blocks (path (created_in blocks k) 0 end tree) k r
  pub unlived : destroyed_in blocks k ≤ created_in blocks k → r ≡ true
