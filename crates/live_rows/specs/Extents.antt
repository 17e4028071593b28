-- What the functions of this crate give.
use Rattle.std.specs.Prelude.{◌≡◌, Option, List, [], ◌∷◌, None, Some, ◌++◌, ℕ, suc}
use Rattle.history.specs.Find.{window}
use Rattle.block_table.specs.Blocks.{Room, first_cell_at, length_at, offset_at}
use Rattle.segment_table.specs.Closed.{first_cell_in}
use Rattle.segment_walk.specs.declared.rows.Rows.{Rows}
use Rattle.segment_walk.specs.Rowing.{Lower}
use Rattle.segment_near.specs.declared.Side.TheVariants.{Before}
use Rattle.segment_near.specs.declared.Neighbour.{Neighbour}
use Rattle.segment_near.specs.Neighbours.{OwnNeighbour, Nearer}
use Rattle.live_rows.specs.declared.Extent.{Extent}

-- the row of block k
pub record ExtentOf (blocks : List ℕ) (k : ℕ) (r : Extent) : Type 0 where
  pub room : Room blocks (suc k)
  pub first : r.first ≡ first_cell_at blocks (suc k)
  pub length : r.length ≡ length_at blocks (suc k)
  pub offset : r.offset ≡ offset_at blocks (suc k)

-- of `best` and the last of the rows that start before a place the one nearer to it; `row` is the first that does not
pub record Later (entries : List ℕ) (rows : Rows) (row : ℕ) (best r : Option Neighbour) : Type 0 where
  pub of_place : (place : ℕ) → Lower entries rows place row → (own : Option Neighbour) × OwnNeighbour entries rows Before place own × Nearer Before best own r

-- the number of a block, if there is one
abbrev pub one_of : Option Neighbour → List ℕ
one_of None = []
one_of (Some b) = b.number ∷ []

-- the blocks of a list that start in the window, and the one before it
abbrev pub reaching : (blocks : List ℕ) (start stop : ℕ) (list : List ℕ) (before : Option Neighbour) → List ℕ
reaching blocks start stop list before = window (first_cell_in blocks) start stop list ++ one_of before
