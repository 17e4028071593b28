-- What finish does to tables that stand for an open index. The store is neither read nor changed: what is said holds with every store with which the
-- tables stand for a ledger. Definitions alone.
use Rattle.std.specs.Prelude.{◌≡◌, Bool, false, List, ℕ, ◌≤◌, ◌<◌, ◌^◌, length, replicate}
use Rattle.lists.specs.Tests.{Decides}
use Rattle.history.specs.Words.{Block}
use Rattle.history.specs.Tree.{Tree, entries_all, trees_of}
use Rattle.history.specs.Rules.{Apart}
use Rattle.history.specs.Ledger.{Ledger, finished, settled, finish_by}
use Rattle.history.specs.Results.{Result, done}
use Rattle.history.specs.Refusals.{Answer, accepted, refused, finish_answer}
use Rattle.history.specs.Sound.{Sound}
use Rattle.segment_tree.specs.Lives.{Counted, entry_rows_in}
use Rattle.layout.specs.Tables.{Tables, tables}
use Rattle.layout.specs.Encodes.{Encodes}
use Rattle.layout.specs.Formed.{Blank}
use Rattle.layout.specs.Relations.{FinishedTables, FinishLeaves}

-- ── the ledger ──

-- the tables stand for a sound ledger that is not finished
pub record StandsOpen (t : Tables) (l : Ledger) : Type 0 where
  pub encodes : Encodes t l
  pub sound : Sound l
  pub still_open : finished l ≡ false
  -- as in every slice
  pub few : length t.store < 2 ^ 64

-- the blocks of the finished index: those recorded, and the pieces, destroyed at the end
abbrev pub all_blocks : Ledger → List Block
all_blocks l = settled l.opening.end l.now

-- and their trees
abbrev pub whole_trees : Ledger → List Tree
whole_trees l = trees_of l.opening.end (all_blocks l)

-- ── finish ──

-- What finish asks of an open index besides: it builds in zeros, and no two of all blocks share a cell at a tick.
pub record Finishable (t : Tables) (l : Ledger) : Type 0 where
  pub blank : Blank t
  pub apart : Apart (all_blocks l)

-- the answer is the ledger's, and what it leaves; or, of tables that are not well formed for finish, 2, and everything is as it was
pub record Finishing (l : Ledger) (t t' : Tables) (answer : Answer Result) : Type 0 where
  pub formed : Finishable t l → (answer ≡ finish_answer l) × FinishLeaves (finish_answer l) l t t'
  pub unformed : (Finishable t l → ⊥) → (answer ≡ refused 2) × (t' ≡ t)

-- of every store and ledger
pub record FinishedOpen (pieces blocks nodes entries pieces' blocks' nodes' entries' : List ℕ) (answer : Answer Result) : Type 0 where
  pub done : (store : List ℕ) (l : Ledger) → StandsOpen (tables pieces blocks store nodes entries) l
      → Finishing l (tables pieces blocks store nodes entries) (tables pieces' blocks' store nodes' entries') answer

-- ── what comes before an accepted finish ──

-- `blank`
pub record TestedBlank (nodes entries : List ℕ) (r : Bool) : Type 0 where
  pub decides : (pieces blocks store : List ℕ) → Decides r (Blank (tables pieces blocks store nodes entries))

-- Finish is accepted: the trees of all blocks are counted, and the entry table has room for them.
pub record Tallied (t : Tables) (nodes : List ℕ) (l : Ledger) : Type 0 where
  pub answer : finish_answer l ≡ accepted done
  pub apart : Apart (all_blocks l)
  pub counted : Counted nodes l.opening.end (whole_trees l)
  pub space : entries_all (whole_trees l) ≤ entry_rows_in t.entries

-- the tables are as they were, and rule 24 is decided, each piece counted as live up to the end
pub record TriedAll (l : Ledger) (t : Tables) (blocks nodes entries : List ℕ) (r : Bool) : Type 0 where
  pub blocks_same : blocks ≡ t.blocks
  pub nodes_same : nodes ≡ t.nodes
  pub entries_same : entries ≡ t.entries
  pub decides : Decides r (Apart (all_blocks l))

-- `all_apart`
pub record AllApart (pieces blocks nodes entries : List ℕ) (end n : ℕ) (blocks' nodes' entries' : List ℕ) (r : Bool) : Type 0 where
  pub done : (store : List ℕ) (l : Ledger) → StandsOpen (tables pieces blocks store nodes entries) l → Blank (tables pieces blocks store nodes entries)
      → end ≡ l.opening.end → n ≡ length l.now.blocks → TriedAll l (tables pieces blocks store nodes entries) blocks' nodes' entries' r

-- Nothing is changed yet but that the trees are counted.
pub record Accepted (t : Tables) (nodes : List ℕ) (l : Ledger) : Type 0 where
  pub stands : StandsOpen t l
  pub tallied : Tallied t nodes l
  pub nodes_long : length nodes ≡ length t.nodes
  pub entry_zeros : t.entries ≡ replicate (length t.entries) 0

-- the answer, and on a refusal everything as it was
pub record Preparing (l : Ledger) (t : Tables) (blocks nodes entries : List ℕ) (answer : Answer Result) : Type 0 where
  pub formed : Finishable t l → answer ≡ finish_answer l
  pub unformed : (Finishable t l → ⊥) → answer ≡ refused 2
  pub blocks_same : blocks ≡ t.blocks
  pub entries_same : entries ≡ t.entries
  pub refused_same : (answer ≡ accepted done → ⊥) → nodes ≡ t.nodes
  pub accepted_counted : answer ≡ accepted done → Accepted t nodes l

-- `prepare`
pub record Prepared (pieces blocks nodes entries blocks' nodes' entries' : List ℕ) (answer : Answer Result) : Type 0 where
  pub done : (store : List ℕ) (l : Ledger) → StandsOpen (tables pieces blocks store nodes entries) l
      → Preparing l (tables pieces blocks store nodes entries) blocks' nodes' entries' answer

-- ── the work of an accepted finish ──

-- the tables stand for the finished ledger
pub record Finished (l : Ledger) (t t' : Tables) : Type 0 where
  pub encodes : Encodes t' (finish_by l)
  pub tables_are : FinishedTables l t t'

-- `settle`
pub record SettledTables (pieces blocks nodes entries pieces' blocks' nodes' entries' : List ℕ) : Type 0 where
  pub done : (blank store : List ℕ) (l : Ledger) → Accepted (tables pieces blocks store blank entries) nodes l
      → Finished l (tables pieces blocks store blank entries) (tables pieces' blocks' store nodes' entries')
