-- What is proved of the layout: tables stand for one ledger at most, every sound ledger that can be lent tables has some, and the tree of pieces is not
-- deep. Statements alone: the proofs stand in proofs/.
use Rattle.std.specs.Prelude.{◌≡◌, false, List, ℕ, ◌^◌, ◌≤◌, ◌<◌, length}
use Rattle.std.proofs.Math.Option.{Option, none, some}
use Rattle.lists.specs.Lists.{All}
use Rattle.history.specs.Lent.{too_short, piece_rows}
use Rattle.history.specs.Days.{Day, days_of}
use Rattle.history.specs.Hours.{Calendar, calendar_of}
use Rattle.history.specs.Ledger.{Ledger, finished}
use Rattle.history.specs.Sound.{Sound, SoundForFinish}
use Rattle.tables.specs.Columns.{column, pieces_root}
use Rattle.merge_set.specs.Tree.{Tree, height}
use Rattle.merge_set.specs.Table.{Shape}
use Rattle.layout.specs.Tables.{Tables, lengths_of}
use Rattle.layout.specs.Encodes.{Encodes}
use Rattle.layout.specs.Formed.{WellFormed, Blank, WellFormedForFinish}

-- ── one ledger ──

-- No two ledgers have the same tables: every part of a ledger is told by them.
abbrev pub OneLedger : Type 0
OneLedger = (t : Tables) (l m : Ledger) → Encodes t l → Encodes t m → l ≡ m

-- ── some tables ──

-- a number of a table, and one of the store
abbrev pub Word : ℕ → Type 0
Word n = n < 2 ^ 64

abbrev pub Byte : ℕ → Type 0
Byte n = n < 2 ^ 8

-- tables of numbers of 64 bits, and a store of bytes
pub record Fits (t : Tables) : Type 0 where
  pub pieces : All Word t.pieces
  pub blocks : All Word t.blocks
  pub store : All Byte t.store
  pub nodes : All Word t.nodes
  pub entries : All Word t.entries

-- the calendar of numbers of 64 bits
pub record CalendarOfWords (c : Calendar) : Type 0 where
  pub numbers : List ℕ
  pub words : All Word numbers
  pub is : calendar_of numbers ≡ c

abbrev pub NoneOrOfWords : Option Calendar → Type 0
NoneOrOfWords none = Unit {0}
NoneOrOfWords (some c) = CalendarOfWords c

-- the list of days of numbers of 64 bits
pub record DaysOfWords (days : List Day) : Type 0 where
  pub numbers : List ℕ
  pub words : All Word numbers
  pub is : days_of numbers ≡ days

-- what a ledger can be lent: its heads are there, lengths are of 64 bits, the store's used part has bytes, and the numbers of calendar and days are of 64 bits
pub record Lendable (l : Ledger) : Type 0 where
  pub heads : too_short l.opening.lent ≡ false
  pub pieces : Word l.opening.lent.pieces
  pub blocks : Word l.opening.lent.blocks
  pub store : Word l.opening.lent.store
  pub nodes : Word l.opening.lent.nodes
  pub entries : Word l.opening.lent.entries
  pub bytes : All Byte l.now.store
  pub calendar : NoneOrOfWords l.calendar
  pub days : DaysOfWords l.days

-- tables that stand for the ledger; the node and entry tables of an open one are zeros
pub record Encoded (l : Ledger) : Type 0 where
  pub tables : Tables
  pub encodes : Encodes tables l
  pub fits : Fits tables
  pub blank : finished l ≡ false → Blank tables

-- So refusal 2 is never given for want of an encoding.
pub record TablesExist : Type 0 where
  -- Every sound ledger that fits the lent lengths has tables that stand for it,
  pub standing : (l : Ledger) → Sound l → Lendable l → Encoded l
  -- which are well formed,
  pub formed : (l : Ledger) (s : Sound l) (f : Lendable l) → WellFormed (standing l s f).tables
  -- for finish too, where rule 24 holds with each piece counted as live up to E.
  pub for_finish : (l : Ledger) (s : SoundForFinish l) (f : Lendable l) → WellFormedForFinish (standing l s.sound f).tables

-- ── the tree of pieces ──

-- its height is the number of nodes on the longest path
pub record Shallow (t : Tables) (l : Ledger) (tree : Tree) : Type 0 where
  -- with at most 4,096 pieces no path has more than 16 nodes,
  pub pieces_4096 : length l.now.pieces ≤ 4096 → height tree ≤ 16
  -- and in a table of fewer than 2^63 rows none has more than 92
  pub any_table : piece_rows (lengths_of t) < 2 ^ 63 → height tree ≤ 92

-- whatever tree stands in the piece table
abbrev pub ShallowTrees : Type 0
ShallowTrees = (t : Tables) (l : Ledger) → Encodes t l → (tree : Tree) → Shape t.pieces (column t.pieces 0 pieces_root) tree → Shallow t l tree
