-- What is proved of the ledger, for every list of calls: the value of a cell in the mission's words, the law, and demand 3's clauses of a finished
-- ledger. Statements alone: the proofs stand in proofs/.
use Rattle.std.specs.Prelude.{◌≡◌, ◌⊎◌, Bool, true, false, cond, ◌&&◌, ℕ, zero, suc, ◌+◌, ◌-◌, ◌^◌, ◌≤◌, ◌<◌, min, length, get_or}
use Rattle.std.proofs.Math.Option.{Option, none, some}
use mathlib.Core.List.{List, [], ◌∷◌, ◌++◌, map, flatten, Option-to_list}
use Rattle.lists.specs.Lists.{All, Pairs, Mem, Ascending, count, sum_of}
use Rattle.history.specs.Words.{within, Operation, Piece, Block, size, block_of, cell_place, first_cell, end_cell, live_of, cells_of, stretch_of, byte_at, first_difference, held_at, Covers, HoldsCell}
use Rattle.history.specs.Tree.{key_in}
use Rattle.history.specs.Find.{way_to, covers_at}
use Rattle.history.specs.Ledger.{Moment, Ledger, Opening, opened, opens_kind, finished, changed, settled}
use Rattle.history.specs.Reads.{block_by, find_by, touches, touching_by, next_by, last_by, seen}
use Rattle.history.specs.Refusals.{accepted, open_answer}
use Rattle.history.specs.Calls.{Call, after_all, history, value_at}
use Rattle.history.specs.Sound.{InOrder, is_empty, Sound, SoundForFinish}

-- ── the value of a cell ──

-- a call of the kind, of tick t or earlier, covers the cell
pub record CoversBy (kind t cell : ℕ) (o : Operation) : Type 0 where
  pub by : o.tick ≤ t
  pub covers : Covers kind cell o

-- the last such call of the history, newest first, and its byte for the cell
pub record LastCall (h : List Operation) (kind t cell byte : ℕ) : Type 0 where
  pub newer : List Operation
  pub call : Operation
  pub older : List Operation
  pub is : h ≡ newer ++ call ∷ older
  pub covered : CoversBy kind t cell call
  pub has : byte_at cell (cells_of call) ≡ some byte
  pub last : All (λ (o : Operation). CoversBy kind t cell o → ⊥) newer

-- the value of a cell is none exactly when no such call covers it, and a byte exactly when the last such call has that byte
pub record ValueAt : Type 0 where
  pub none_if : (h : List Operation) (kind t cell : ℕ) → All (λ (o : Operation). CoversBy kind t cell o → ⊥) h → value_at h kind t cell ≡ none
  pub none_then : (h : List Operation) (kind t cell : ℕ) → value_at h kind t cell ≡ none → All (λ (o : Operation). CoversBy kind t cell o → ⊥) h
  pub some_if : (h : List Operation) (kind t cell byte : ℕ) → LastCall h kind t cell byte → value_at h kind t cell ≡ some byte
  pub some_then : (h : List Operation) (kind t cell byte : ℕ) → value_at h kind t cell ≡ some byte → LastCall h kind t cell byte

-- ── the law ──

-- of a ledger after the accepted calls h, newest first
pub record LedgerLaw (l : Ledger) (h : List Operation) : Type 0 where
  -- well formed for every call, finish too
  pub sound : SoundForFinish l
  -- At each tick below E and for each cell of each kind, the blocks that are live then, each piece counted as live up to E, show the byte that the
  -- history has for that kind: one byte, from one block, or none where it has none.
  pub cells : (kind t cell : ℕ) → t < l.opening.end → cell < 2 ^ 64
      → seen t (cell_place kind cell) (settled l.opening.end l.now) ≡ Option-to_list (value_at h kind t cell)
  -- no accepted call passes the end of its kind's cells
  pub no_wraps : All (λ (o : Operation). o.first + length o.bytes ≤ 2 ^ 64 - 1) h
  -- while it is open no block is destroyed after the last accepted tick
  pub open_blocks : finished l ≡ false → All (λ (b : Block). b.destroyed ≤ l.now.last) l.now.blocks

-- ── what an operation changes ──

-- of two places the lower, if there is one
abbrev pub lower : Option ℕ → Option ℕ → Option ℕ
lower none y = y
lower (some a) none = some a
lower (some a) (some b) = some (min a b)

unfoldable pub lowest : Option ℕ → List (Option ℕ) → Option ℕ
lowest x [] = x
lowest x (y ∷ ys) = lower y (lowest x ys)

-- the first of so many places from c on that no piece holds
unfoldable pub first_unknown : List Piece → (place many : ℕ) → Option ℕ
first_unknown ps c zero = none
first_unknown ps c (suc n) =
    let later = first_unknown ps (suc c) n in
    cond (is_empty (held_at c ps)) (some c) later

-- Where pieces share no cell, what an operation changes first is the lowest of the first place that no piece holds and of the first differences from each.
abbrev pub LawOfChange : Type 0
LawOfChange = (m : Moment) → InOrder m.pieces → (o : Operation)
    → changed m o ≡ lowest (first_unknown m.pieces (stretch_of o).first (size (stretch_of o))) (map (λ p. first_difference (stretch_of o) p.stretch) m.pieces)

-- ── demand 3's clauses, of the blocks of a finished index ──

pub record Faithful (end : ℕ) (blocks : List Block) (h : List Operation) : Type 0 where
  -- At every tick below E a live block holds a kind's cell exactly when a call of the history, of that kind and of that tick or earlier, covered it;
  pub held : (kind t cell : ℕ) → t < end → (b : Block) → Mem b blocks → HoldsCell kind t cell b → (o : Operation) × Mem o h × CoversBy kind t cell o
  pub kept : (kind t cell : ℕ) → t < end → (o : Operation) → Mem o h → CoversBy kind t cell o → (b : Block) × Mem b blocks × HoldsCell kind t cell b
  -- the byte of every live block that holds it is the last such call's;
  pub byte : (kind t cell : ℕ) → t < end → (b : Block) → Mem b blocks → HoldsCell kind t cell b → byte_at (cell_place kind cell) b.stretch ≡ value_at h kind t cell
  -- no two live blocks share a kind's cell.
  pub apart : Pairs (λ (a b : Block). (kind t cell : ℕ) → HoldsCell kind t cell a → HoldsCell kind t cell b → ⊥) blocks

-- block a comes before b: by kind code, then by cell, and they share none
abbrev pub ByKindAndCell : (a b : Block) → Type 0
ByKindAndCell a b = (a.kind < b.kind) ⊎ ((a.kind ≡ b.kind) × (end_cell a ≤ first_cell b))

-- For every opening that is taken and every list of calls: the ledger is sound, shows what the history has, and once finished is faithful to it.
pub record EveryList (a : Opening) (ks : List Call) : Type 0 where
  -- finish turns the pieces into blocks by kind code, then by cell
  pub order : Pairs (λ (p q : Piece). ByKindAndCell (block_of a.end p) (block_of a.end q)) (after_all (opened a) ks).now.pieces
  pub law : LedgerLaw (after_all (opened a) ks) (history [] (opened a) ks)
  pub faithful : finished (after_all (opened a) ks) ≡ true → Faithful a.end (after_all (opened a) ks).now.blocks (history [] (opened a) ks)

abbrev pub LawOfCalls : Type 0
LawOfCalls = (a : Opening) → open_answer a ≡ accepted tt → (ks : List Call) → EveryList a ks

-- ── find over any sound closed index, finished or loaded ──

-- the block is of the kind, live at t, and its first cell is in [start, stop)
abbrev pub starts : (kind t start stop : ℕ) → Block → Bool
starts kind t start stop b = live_of kind t b && within start stop (first_cell b)

pub record FindLaw (l : Ledger) (kind t start stop : ℕ) : Type 0 where
  -- the list has exactly the live blocks of the kind whose first cell is in [start, stop), each once;
  pub once : (k : ℕ) → count k (find_by l kind t start stop).numbers ≡ cond (starts kind t start stop (block_by l k)) 1 0
  pub numbers : All (λ k. k < length l.now.blocks) (find_by l kind t start stop).numbers
  -- they are so many;
  pub how_many : length (find_by l kind t start stop).numbers ≡ sum_of (map (λ b. cond (starts kind t start stop b) 1 0) l.now.blocks)
  -- a list for each node visited, at most 64;
  pub by_node : List (List ℕ)
  pub joined : (find_by l kind t start stop).numbers ≡ flatten by_node
  pub as_many : (find_by l kind t start stop).visited ≡ length by_node
  pub at_most : (find_by l kind t start stop).visited ≤ 64
  -- root first, down the way to the tick: a block stands in the list of the first node on that way that its life covers;
  pub covered : (depth : ℕ) → All (λ k. covers_at (way_to t 0 l.opening.end depth) (block_by l k) ≡ true) (get_or by_node depth [])
  pub not-above : (depth : ℕ) → All (λ k. covers_at (way_to t 0 l.opening.end depth) (block_by l k) ≡ false) (get_or by_node (suc depth) [])
  -- ascending within a node.
  pub ascending : All (Ascending (key_in l.now.blocks)) by_node

abbrev pub LawOfFind : Type 0
LawOfFind =
    (l : Ledger) → Sound l → finished l ≡ true → (kind : ℕ) → opens_kind l kind ≡ true → (t start stop : ℕ) → t < l.opening.end → FindLaw l kind t start stop

-- ── touching and neighbours over any sound closed index, finished or loaded ──

-- block k is of the kind, live at t, and holds a cell of [start, stop)
pub record Touching (l : Ledger) (kind t start stop k : ℕ) : Type 0 where
  pub cell : ℕ
  pub from : start ≤ cell
  pub below : cell < stop
  pub held : HoldsCell kind t cell (block_by l k)

pub record TouchingLaw (l : Ledger) (kind t start stop : ℕ) : Type 0 where
  -- Each number stands in the list once if its block is live and holds a cell of [start, stop), and never else;
  pub once : (k : ℕ) → Touching l kind t start stop k → count k (touching_by l kind t start stop) ≡ 1
  pub never : (k : ℕ) → (Touching l kind t start stop k → ⊥) → count k (touching_by l kind t start stop) ≡ 0
  pub numbers : All (λ k. k < length l.now.blocks) (touching_by l kind t start stop)
  -- they are so many;
  pub how_many : length (touching_by l kind t start stop) ≡ sum_of (map (λ b. cond (live_of kind t b && touches start stop b) 1 0) l.now.blocks)
  -- their first cells ascend strictly.
  pub ascending : Ascending (key_in l.now.blocks) (touching_by l kind t start stop)

abbrev pub LawOfTouching : Type 0
LawOfTouching =
    (l : Ledger) → Sound l → finished l ≡ true → (kind : ℕ) → opens_kind l kind ≡ true → (t start stop : ℕ) → t < l.opening.end → TouchingLaw l kind t start stop

-- block k is of the kind, live at t, and starts at or after the cell; it is live so and all its cells are below it
pub record LiveFrom (l : Ledger) (kind t cell k : ℕ) : Type 0 where
  pub living : live_of kind t (block_by l k) ≡ true
  pub starts : cell ≤ first_cell (block_by l k)

pub record LiveBelow (l : Ledger) (kind t cell k : ℕ) : Type 0 where
  pub living : live_of kind t (block_by l k) ≡ true
  pub ended : end_cell (block_by l k) ≤ cell

-- the answer is number k exactly when P holds of it and it is as near as every other of which P holds; it is missing exactly when P holds of none
pub record NeighbourLaw (P : ℕ → Type 0) (AsNear : (k j : ℕ) → Type 0) (answer : Option ℕ) : Type 0 where
  pub given : (k : ℕ) → answer ≡ some k → P k × ((j : ℕ) → P j → AsNear k j)
  pub nearest : (k : ℕ) → P k → ((j : ℕ) → P j → AsNear k j) → answer ≡ some k
  pub missing : answer ≡ none → (j : ℕ) → P j → ⊥
  pub nothing : ((j : ℕ) → P j → ⊥) → answer ≡ none

pub record NeighboursLaw (l : Ledger) (kind t cell : ℕ) : Type 0 where
  -- next: no live block of the kind starts between the cell and it
  pub next : NeighbourLaw (LiveFrom l kind t cell) (λ k j. first_cell (block_by l k) ≤ first_cell (block_by l j)) (next_by l kind t cell)
  -- last: no live block of the kind lies between it and the cell
  pub last : NeighbourLaw (LiveBelow l kind t cell) (λ k j. first_cell (block_by l j) ≤ first_cell (block_by l k)) (last_by l kind t cell)

abbrev pub LawOfNeighbours : Type 0
LawOfNeighbours =
    (l : Ledger) → Sound l → finished l ≡ true → (kind : ℕ) → opens_kind l kind ≡ true → (t cell : ℕ) → t < l.opening.end → NeighboursLaw l kind t cell
