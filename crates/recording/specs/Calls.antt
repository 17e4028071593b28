-- What the functions ensure: `t` is the piece table at entry and `t'` at exit, `b` and `b'` the block table. `first` and `end` are places:
-- they bound the operation's cells. Definitions alone.
use Rattle.std.specs.Prelude.{◌≡◌, ◌⊎◌, Bool, true, false, List, [], ◌∷◌, ◌++◌, map, ℕ, ◌+◌, ◌-◌, ◌*◌, ◌≤◌, ◌<◌, min, max, length, Option, Some, None}
use Rattle.lists.specs.Lists.{All}
use Rattle.history.specs.Lent.{row_width}
use Rattle.merge_set.specs.Tree.{Tree, height, rows}
use Rattle.merge_set.specs.Table.{first_at, Shape}
use Rattle.block_table.specs.Appended.{Countable}
use Rattle.piece_table.specs.Piece.{PieceRow, row_end, piece_at, part, rows_below, rows_inside, rows_above, Filled}
use Rattle.piece_table.specs.Rep.{Linked, Rep, Becomes}
use Rattle.piece_table.specs.Calls.{end_at, Sought}
use Rattle.recording.specs.Recorded.{recorded}

-- ── blocks ──

-- the part of a link's piece in [first, end), which it meets
abbrev pub inner_part : (t : List ℕ) (link first end : ℕ) → PieceRow
inner_part t link first end = part (max first (first_at t link)) (min end (end_at t link)) (piece_at t link)

-- `record_part`: of a piece that meets [first, end), the part in it becomes a block
pub record RecordedPart (t b b' : List ℕ) (link tick first end : ℕ) : Type 0 where
  pub done : Filled (piece_at t link) → first < end → first_at t link < end → first < end_at t link → Countable b 1
      → b' ≡ recorded tick (inner_part t link first end ∷ []) b

-- `extract`: the pieces of the tree at a link, in order
pub record Extracted (t b b' : List ℕ) (link end fuel : ℕ) : Type 0 where
  pub done : (T : Tree) → Shape t link T → height T ≤ fuel → Countable b (length (rows T)) → b' ≡ recorded end (map (piece_at t) (rows T)) b

-- `extract_members`: all pieces become blocks, ascending, destroyed at `end`
pub record ExtractedMembers (t b b' : List ℕ) (end : ℕ) : Type 0 where
  pub done : (ps : List PieceRow) → Rep t ps → Countable b (length ps) → b' ≡ recorded end ps b

-- ── an update ──

-- no piece reaches over the cell
abbrev pub Uncrossed : (cell : ℕ) → List PieceRow → Type 0
Uncrossed cell ps = All (λ (p : PieceRow). (row_end p ≤ cell) ⊎ (cell ≤ p.first)) ps

-- On the way: at most `left` pieces stand, nothing changed outside [first, end), and the blocks recorded so far, followed by what of the standing
-- pieces lies inside, are what of the pieces at entry lay inside.
pub record Clearing (t t' b b' : List ℕ) (tick first end left : ℕ) (ps : List PieceRow) : Type 0 where
  pub now : List PieceRow
  pub gone : List PieceRow
  pub becomes : Becomes t t' now
  pub blocks : b' ≡ recorded tick gone b
  pub inside : rows_inside first end ps ≡ gone ++ rows_inside first end now
  pub same_below : rows_below first now ≡ rows_below first ps
  pub same_above : rows_above end now ≡ rows_above end ps
  pub uncrossed : Uncrossed first now
  pub few : length now ≤ left

-- At the end: what of the pieces lies below and above stands, and what lies inside is recorded.
pub record Clear (t t' b b' : List ℕ) (tick first end : ℕ) (ps : List PieceRow) : Type 0 where
  pub becomes : Becomes t t' (rows_below first ps ++ rows_above end ps)
  pub blocks : b' ≡ recorded tick (rows_inside first end ps) b

-- what every step of an update may assume
pub record Given (t b : List ℕ) (first end : ℕ) (ps : List PieceRow) : Type 0 where
  pub rep : Rep t ps
  pub some : first < end
  pub space : Countable b (length (rows_inside first end ps))

-- the link's piece is the lowest in [first, end) and lies in there wholly; it is recorded
pub record Covered (t t' b b' : List ℕ) (tick first end link : ℕ) : Type 0 where
  pub same : t' ≡ t
  pub sought : Sought t first (Some link)
  pub from : first ≤ first_at t link
  pub to : end_at t link ≤ end
  pub blocks : b' ≡ recorded tick (inner_part t link first end ∷ []) b

-- `meet_one`: a covered piece is recorded, or none is left in [first, end)
pub record MetOne (t t' b b' : List ℕ) (tick first end : ℕ) (met : Option ℕ) : Type 0 where
  pub covers : (link : ℕ) → met ≡ Some link → (ps : List PieceRow) → Given t b first end ps → Uncrossed first ps → Covered t t' b b' tick first end link
  pub stop : met ≡ None → (ps : List PieceRow) → Given t b first end ps → Uncrossed first ps → Clear t t' b b' tick first end ps

-- `clear_one`: one covered piece is gone, or none is left in [first, end)
pub record ClearedOne (t t' b b' : List ℕ) (tick first end : ℕ) (more : Bool) : Type 0 where
  pub step : more ≡ true → (ps : List PieceRow) → Given t b first end ps → Uncrossed first ps → Clearing t t' b b' tick first end (length ps - 1) ps
  pub stop : more ≡ false → (ps : List PieceRow) → Given t b first end ps → Uncrossed first ps → Clear t t' b b' tick first end ps

-- `clear`: where no piece reaches over the first cell
pub record Cleared (t t' b b' : List ℕ) (tick first end : ℕ) : Type 0 where
  pub done : (ps : List PieceRow) → Given t b first end ps → Uncrossed first ps → Clear t t' b b' tick first end ps

-- `split`: of a piece that reaches over both ends, the parts left and right of [first, end)
pub record SplitPiece (t t' : List ℕ) (link first end : ℕ) : Type 0 where
  pub done : (xs ys : List ℕ) → Linked t (xs ++ link ∷ ys) → first_at t link < first → first < end → end < end_at t link
      → row_width * length (xs ++ link ∷ ys) + (row_width + row_width) ≤ length t
      → Becomes t t' (map (piece_at t) xs ++ part (first_at t link) first (piece_at t link) ∷ part end (end_at t link) (piece_at t link) ∷ map (piece_at t) ys)

-- `clear_after`: of the pieces behind the link's, what lies below `end` is recorded and gone
pub record After (t t' b b' : List ℕ) (tick link end : ℕ) (xs ys : List ℕ) : Type 0 where
  pub becomes : Becomes t t' (map (piece_at t) xs ++ piece_at t link ∷ rows_above end (map (piece_at t) ys))
  pub blocks : b' ≡ recorded tick (rows_inside (end_at t link) end (map (piece_at t) ys)) b

pub record ClearedAfter (t t' b b' : List ℕ) (tick link end : ℕ) : Type 0 where
  pub done : (xs ys : List ℕ) → Linked t (xs ++ link ∷ ys) → end_at t link ≤ end → Countable b (length (rows_inside (end_at t link) end (map (piece_at t) ys)))
      → After t t' b b' tick link end xs ys

-- `cut_first`: no piece reaches over the first cell any more; or, where there is space for what is left of the pieces, none is left in [first, end)
pub record CutFirst (t t' b b' : List ℕ) (tick first end : ℕ) (more : Bool) : Type 0 where
  pub step : more ≡ true → (ps : List PieceRow) → Given t b first end ps → Clearing t t' b b' tick first end (length ps) ps
  pub stop : more ≡ false → (ps : List PieceRow) → Given t b first end ps → row_width * length (rows_below first ps ++ rows_above end ps) + row_width ≤ length t
      → Clear t t' b b' tick first end ps

-- where there is space, the ledger's update: the operation's piece between what is below and above it, and a block for what it covers
pub record Updated (t t' b b' : List ℕ) (p : PieceRow) (ps : List PieceRow) : Type 0 where
  pub becomes : Becomes t t' (rows_below p.first ps ++ p ∷ rows_above (row_end p) ps)
  pub blocks : b' ≡ recorded p.written (rows_inside p.first (row_end p) ps) b

-- `take_place`: where no piece reaches over the first cell
pub record TookPlace (t t' b b' : List ℕ) (p : PieceRow) : Type 0 where
  pub done : (ps : List PieceRow) → Given t b p.first (row_end p) ps → Uncrossed p.first ps → Filled p
      → row_width * length (rows_below p.first ps ++ p ∷ rows_above (row_end p) ps) + row_width ≤ length t → Updated t t' b b' p ps

-- `apply_update`
pub record AppliedUpdate (t t' b b' : List ℕ) (p : PieceRow) : Type 0 where
  pub done : (ps : List PieceRow) → Rep t ps → Filled p → Countable b (length (rows_inside p.first (row_end p) ps))
      → row_width * length (rows_below p.first ps ++ p ∷ rows_above (row_end p) ps) + row_width ≤ length t → Updated t t' b b' p ps
