-- H1 over the rows of a block table, and what its test says. Definitions alone.
use Rattle.std.specs.Prelude.{◌≡◌, Bool, true, List, [], ◌∷◌, ℕ, ◌+◌, ◌≤◌, ◌<◌, min, get_or, set}
use Rattle.block_table.specs.Blocks.{first_cell_at, length_at, destroyed_at, owner_at}
use Rattle.block_table.specs.declared.Row.{Row}
use Rattle.block_table.specs.RowRead.{Reads}
use Rattle.ends_apart.specs.declared.Tops.{Tops}
use Rattle.ends_apart.specs.declared.Run.{Run}
use Rattle.ends_apart.specs.Rows.{LivesAt, CellAt, NoWrap}

-- no two of the blocks 1 to n with a life that are destroyed at one tick share a cell
pub record EndsApart (blocks : List ℕ) (n : ℕ) : Type 0 where
  pub apart : (i j : ℕ) → 0 < i → i < j → j ≤ n → LivesAt blocks i → LivesAt blocks j → destroyed_at blocks i ≡ destroyed_at blocks j
      → (kind cell : ℕ) → CellAt blocks i kind cell → CellAt blocks j kind cell → ⊥

-- a row as it was read has the kind's cell
pub record HasCell (row : Row) (kind cell : ℕ) : Type 0 where
  pub own : row.owner ≡ kind
  pub from : row.first ≤ cell
  pub below : cell < row.first + row.length

-- `parted`: yes is said only where the row has no life or shares no cell with the other
pub record Parted (row own : Row) (r : Bool) : Type 0 where
  pub shown : r ≡ true → row.created < row.destroyed → (kind cell : ℕ) → HasCell row kind cell → HasCell own kind cell → ⊥

-- so it is of the rows above `low` up to k
abbrev pub Clear : (blocks : List ℕ) (low k : ℕ) (own : Row) → Type 0
Clear blocks low k own = (i : ℕ) → low < i → i ≤ k → LivesAt blocks i → (kind cell : ℕ) → CellAt blocks i kind cell → HasCell own kind cell → ⊥

-- `clear_back`
pub record ClearBack (blocks : List ℕ) (low k : ℕ) (own : Row) (r : Bool) : Type 0 where
  pub shown : r ≡ true → Clear blocks low k own

-- ── how far each kind has got ──

-- the ends that the kinds have reached, by kind code
abbrev pub tops_of : Tops → List ℕ
tops_of t = t.constant ∷ t.memory ∷ t.register ∷ t.unique ∷ t.other ∷ []

-- that of a kind; in tables that nobody has tested kinds above 4 count as the last
abbrev pub top_in : Tops → (kind : ℕ) → ℕ
top_in t kind = get_or (tops_of t) (min kind 4) 0

-- `top_of`, `raised`
pub record TopOf (tops : Tops) (kind out : ℕ) : Type 0 where
  pub is : out ≡ top_in tops kind

pub record Raised (tops : Tops) (kind end : ℕ) (out : Tops) : Type 0 where
  pub is : tops_of out ≡ set (tops_of tops) (min kind 4) end

-- `pushed`: the kind's top is the end at least, and no top has fallen
pub record Pushed (tops : Tops) (kind end : ℕ) (out : Tops) : Type 0 where
  pub own : end ≤ top_in out kind
  pub kept : (k : ℕ) → top_in tops k ≤ top_in out k

-- ── the rows of the last tick ──

-- none of the rows above `low` up to k ends after the top of its kind
abbrev pub ByTops : (blocks : List ℕ) (low k : ℕ) (tops : Tops) → Type 0
ByTops blocks low k tops = (i : ℕ) → low < i → i ≤ k → LivesAt blocks i → first_cell_at blocks i + length_at blocks i ≤ top_in tops (owner_at blocks i)

-- `clear_of`: yes is said only where they are clear of it, if none of them ends after the top of its kind
pub record Follows (blocks : List ℕ) (run : Run) (k : ℕ) (own : Row) (r : Bool) : Type 0 where
  pub shown : r ≡ true → ByTops blocks run.low k run.tops → Clear blocks run.low k own

-- Of the rows 1 to k those with a life up to `low` are destroyed before `tick`, and those above at it; none of these ends after the top of its kind. H1
-- holds so far.
pub record Met (blocks : List ℕ) (k : ℕ) (run : Run) : Type 0 where
  pub within : run.low ≤ k
  pub before : (i : ℕ) → 0 < i → i ≤ run.low → LivesAt blocks i → destroyed_at blocks i < run.tick
  pub since : (i : ℕ) → run.low < i → i ≤ k → LivesAt blocks i → destroyed_at blocks i ≡ run.tick
  pub ends : ByTops blocks run.low k run.tops
  pub own : EndsApart blocks k

-- `with`: after the row behind k it is so of one row more
pub record Continues (blocks : List ℕ) (run : Run) (k : ℕ) (row : Row) (next : Run) : Type 0 where
  pub met : Reads blocks (k + 1) row → NoWrap blocks (k + 1) → Met blocks k run → Met blocks (k + 1) next

-- ── the test ──

-- `ends_apart`: yes is said only where H1 holds
pub record SeenApart (blocks : List ℕ) (n : ℕ) (r : Bool) : Type 0 where
  pub shown : r ≡ true → NoWrap blocks n → EndsApart blocks n
