-- For callers: the test decides rule 24 of history over the blocks that the rows stand for. Assumes nothing.
use mathlib.Core.Bool.{Bool}
use mathlib.Core.List.{List}
use Prim.Native.Nat.{ℕ}
use lib.ListN.{length}
use Rattle.lists.specs.Tests.{Decides}
use Rattle.lists.proofs.Numbers.{decides_iff}
use Rattle.history.specs.Rules.{Apart}
use Rattle.block_table.specs.Blocks.{blocks_of, Stored}
use Rattle.ordering.proofs.Agreeing.{unshared_apart, apart_unshared}
use Rattle.segment_table.specs.Closed.{Tables}
use Rattle.segment_test.specs.Test.{BlockRows, ClosedTrees}
use Rattle.segment_apart.specs.Apart.{AllBounded, ClosedApart}

pub closed_decides : (t : Tables) (e n : ℕ) (store : List ℕ) {r : Bool} → ClosedApart t e n r → BlockRows t.blocks n (blocks_of store t.blocks n)
    → ClosedTrees t e (blocks_of store t.blocks n) → AllBounded t.blocks e n → Stored (length store) t.blocks n
    → Decides r (Apart (blocks_of store t.blocks n))
closed_decides t e n store {r} test rows index bounded stored =
    decides_iff r (unshared_apart store stored) (apart_unshared store stored) (test.decides (blocks_of store t.blocks n) rows index bounded)
