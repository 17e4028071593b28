-- What tables are known to be after a test, as long as only calls change them. Definitions alone.
use Rattle.std.specs.Prelude.{◌≡◌, List, ℕ, ◌-◌, ◌/◌, ◌≤◌, length}
use Rattle.history.specs.Lent.{row_width, piece_head, block_head}
use Rattle.tables.specs.Columns.{column, pieces_count, block_column, head_state, head_count}
use Rattle.layout.specs.Tables.{Tables, head_at}
use Rattle.layout.specs.Encodes.{open_state, closed_state}
use Rattle.layout.specs.Formed.{WellFormed}
use Rattle.index_test.specs.declared.State.{State}
use Rattle.index_test.specs.declared.State.TheVariants.{Bad, Open, Closed}

-- ── the state ──

-- well formed, of an index in that state
pub record StandsIn (head : ℕ) (t : Tables) : Type 0 where
  pub formed : WellFormed t
  pub state : head_at t head_state ≡ head

-- the state is true of the tables: not well formed; well formed and open; well formed and closed
pub record Kept (s : State) (t : Tables) : Type 0 where
  pub unformed : s ≡ Bad → WellFormed t → ⊥
  pub opened : s ≡ Open → StandsIn open_state t
  pub closed : s ≡ Closed → StandsIn closed_state t

-- ── guards: what every true state has ──

-- the block table has the rows that its head counts
pub record BlocksFit (blocks : List ℕ) : Type 0 where
  pub rows : block_column blocks 0 head_count ≤ (length blocks - block_head) / row_width

-- so has the piece table
pub record CountsFit (pieces blocks : List ℕ) : Type 0 where
  pub blocks_fit : BlocksFit blocks
  pub pieces_fit : column pieces 0 pieces_count ≤ (length pieces - piece_head) / row_width
