-- How many cells stretches have in a range, and that they cover it. Definitions alone: their laws stand in proofs/Covering.
use Rattle.std.specs.Prelude.{List, map, ℕ, ◌-◌, min, max}
use Rattle.lists.specs.Lists.{Mem, sum_of}
use Rattle.history.specs.Words.{Stretch, ends, HasCell}

-- how many cells of a stretch lie in [lo, hi), and how many of several, one after the other
unfoldable pub cut : (lo hi : ℕ) → Stretch → ℕ
cut lo hi s = min hi (ends s) - max lo s.first

unfoldable pub cut_sum : (lo hi : ℕ) → List Stretch → ℕ
cut_sum lo hi ss = sum_of (map (cut lo hi) ss)

-- one of the stretches has the cell
pub record Covered (cell : ℕ) (ss : List Stretch) : Type 0 where
  pub by : Stretch
  pub listed : Mem by ss
  pub has : HasCell by cell
