-- The blocks of a kind that have a life: in a closed index they are the ones with an entry in its tree, and so those that are written (file_write,
-- proofs/Agreeing). Definitions alone.
use Rattle.std.specs.Prelude.{Bool, cond, ◌&&◌, List, [], ◌∷◌, ◌++◌, map, ℕ, zero, suc, ◌+◌, ltb, eqb}
use Rattle.history.specs.Words.{Block}
use Rattle.block_table.specs.Blocks.{created_at, destroyed_at, owner_at, block_of_row}

-- the block of a link is of the kind and has a life
abbrev pub lives_at : (blocks : List ℕ) (kind link : ℕ) → Bool
lives_at blocks kind link = eqb (owner_at blocks link) kind && ltb (created_at blocks link) (destroyed_at blocks link)

-- so is block k, whose link is k + 1
abbrev pub lives : (blocks : List ℕ) (kind k : ℕ) → Bool
lives blocks kind k = lives_at blocks kind (suc k)

-- the numbers of those among the first n, ascending
unfoldable pub living : (blocks : List ℕ) (kind n : ℕ) → List ℕ
living blocks kind zero = []
living blocks kind (suc n) = living blocks kind n ++ cond (lives blocks kind n) (n ∷ []) []

-- they themselves
abbrev pub living_blocks : (store blocks : List ℕ) (kind n : ℕ) → List Block
living_blocks store blocks kind n = map (λ k. block_of_row store blocks (suc k)) (living blocks kind n)

-- the blocks begin behind the kind byte and the block count
abbrev pub blocks_at : ℕ
blocks_at = 1 + 8
