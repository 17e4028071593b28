-- How many rows of nodes and entries finish needs. Statements alone: the proofs stand in proofs/.
use Rattle.std.specs.Prelude.{◌≡◌, false, List, [], ◌∷◌, map, ℕ, ◌+◌, ◌-◌, ◌*◌, ◌^◌, ◌≤◌, ◌<◌, length}
use Rattle.lists.specs.Lists.{All, Mem, sum_of}
use Rattle.history.specs.Words.{Operation, Block, a_block, set_of}
use Rattle.history.specs.Lent.{block_rows, node_rows, entry_rows, too_short}
use Rattle.history.specs.Tree.{tree_of, node_count, entry_count}
use Rattle.history.specs.Ledger.{Opening, opened, finished}
use Rattle.history.specs.Results.{done}
use Rattle.history.specs.Refusals.{accepted, max_end_tick, open_answer, finish_answer}
use Rattle.history.specs.Calls.{Call, after_all, history}

-- ── the bounds ──

-- Halved so many times, [0, E) is ticks: E is at most 2 to the power of `levels`.

-- the root of each tree, and for each tick two nodes on every level below it
abbrev pub nodes_for : (levels trees ticks : ℕ) → ℕ
nodes_for levels trees ticks = trees + levels * (2 * ticks)

-- for each block one entry, and two on every level below the first
abbrev pub entries_for : (levels blocks : ℕ) → ℕ
entries_for levels blocks = blocks * (1 + 2 * (levels - 1))

-- ── the tree of a kind's blocks ──

-- a block is created below E, and its ticks are among some: the one at which it is created, unless it is 0, and the one at which it is destroyed, if it is
-- below E
pub record TicksAmong (end : ℕ) (ticks : List ℕ) (b : Block) : Type 0 where
  pub in-time : b.created < end
  pub created : 0 < b.created → Mem b.created ticks
  pub destroyed : b.destroyed < end → Mem b.destroyed ticks

pub record TreeFits (levels kind end : ℕ) (blocks : List Block) : Type 0 where
  -- nodes by the ticks of the kind's blocks, which may be fewer than the blocks,
  pub nodes : (ticks : List ℕ) → All (λ (b : Block). b.kind ≡ kind → TicksAmong end ticks b) blocks → node_count (tree_of kind end blocks) ≤ nodes_for levels 1 (length ticks)
  -- and by the blocks, each of which has two ticks;
  pub nodes_by_blocks : All (λ (b : Block). b.created < end) blocks → node_count (tree_of kind end blocks) ≤ nodes_for levels 1 (2 * length blocks)
  -- entries by the blocks
  pub entries : All (λ (b : Block). b.created < end) blocks → entry_count (tree_of kind end blocks) ≤ entries_for levels (length blocks)

-- ── finish ──

-- An open index after any list of calls: `kinds` has the kind of each accepted record, and `ticks` of its kind has its tick.
pub record Awaits (levels : ℕ) (kinds : List ℕ) (ticks : (kind : ℕ) → List ℕ) (a : Opening) (ks : List Call) : Type 0 where
  pub opens : open_answer a ≡ accepted tt
  pub halved : a.end ≤ 2 ^ levels
  pub heads : too_short a.lent ≡ false
  pub still_open : finished (after_all (opened a) ks) ≡ false
  pub recorded : All (λ (o : Operation). Mem o.kind kinds × Mem o.tick (ticks o.kind)) (history [] (opened a) ks)

-- the nodes of the trees of all these kinds: a tick of two kinds counts twice
abbrev pub nodes_of_kinds : (levels : ℕ) (kinds : List ℕ) (ticks : (kind : ℕ) → List ℕ) → ℕ
nodes_of_kinds levels kinds ticks = nodes_for levels (length (set_of kinds)) (sum_of (map (λ kind. length (ticks kind)) (set_of kinds)))

-- one cell, whose byte changes at tick 3
abbrev pub changed_once : List Block
changed_once = a_block 1 100 (7 ∷ []) 0 3 ∷ a_block 1 100 (9 ∷ []) 3 8 ∷ []

pub record LawOfRoom : Type 0 where
  pub tree : (levels kind end : ℕ) (blocks : List Block) → end ≤ max_end_tick → end ≤ 2 ^ levels → TreeFits levels kind end blocks
  -- In 8 ticks, halved three times, a cell that changes at one tick takes as many nodes.
  pub reached : node_count (tree_of 1 8 changed_once) ≡ nodes_for 3 1 1
  -- With so many node rows for the ticks of each kind, and so many entry rows for the rows of the block table, finish is not refused.
  pub finish : (levels : ℕ) (kinds : List ℕ) (ticks : (kind : ℕ) → List ℕ) (a : Opening) (ks : List Call) → Awaits levels kinds ticks a ks
      → nodes_of_kinds levels kinds ticks ≤ node_rows a.lent → entries_for levels (block_rows a.lent) ≤ entry_rows a.lent
      → finish_answer (after_all (opened a) ks) ≡ accepted done
