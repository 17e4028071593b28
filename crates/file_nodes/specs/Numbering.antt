-- The new numbers of blocks: places in the list of those that are written. Definitions alone.
use Rattle.std.specs.Prelude.{◌≡◌, true, cond, ℕ, ◌+◌, ◌*◌, ◌^◌, ◌≤◌, ◌<◌, eqb, length, get_or, take, drop}
use mathlib.Core.List.{List, [], flat_map}
use Rattle.std.proofs.lemmas.List.Edits.{sets}
use Rattle.lists.specs.Lists.{Ascending, has}
use Rattle.history.specs.File.{bytes_of, number_of, place_in}
use Rattle.file_put.specs.Living.{living}
use Rattle.file_put.specs.Living.{blocks_at}

-- The list ks of the numbers written stands in the slice where the blocks will be, in front of place `at`: `listed` numbers of 8 bytes each. Where
-- none are listed, every number stays what it is.
pub record Numbering (out : List ℕ) (at listed : ℕ) (ks : List ℕ) : Type 0 where
  pub ascend : Ascending (λ k. k) ks
  pub stay : listed ≡ 0 → (k : ℕ) → has k ks ≡ true → place_in ks k ≡ k
  pub many : 0 < listed → length ks ≡ listed
  pub before : 0 < listed → blocks_at + 8 * listed ≤ at
  pub inside : 0 < listed → blocks_at + 8 * listed ≤ length out
  pub stands : 0 < listed → (j : ℕ) → j < listed → number_of (take 8 (drop (blocks_at + 8 * j) out)) ≡ get_or ks j 0

pub record NewNumber (out : List ℕ) (listed k r : ℕ) : Type 0 where
  pub new : (at : ℕ) (ks : List ℕ) → Numbering out at listed ks → has k ks ≡ true → r ≡ place_in ks k

-- The list of the first n blocks that are of the kind and have a life, `many` of them; none is written where all are and have one.
pub record Listed (blocks : List ℕ) (kind n many : ℕ) (out out' : List ℕ) (listed : ℕ) : Type 0 where
  pub stands : out' ≡ sets out blocks_at (cond (eqb many n) [] (flat_map (bytes_of 8) (living blocks kind n)))
  pub count : listed ≡ cond (eqb many n) 0 many
  pub few : n < 2 ^ 64
