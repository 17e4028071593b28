-- What makes a set of tables well formed, over lists: document 01's list ("Words", Lent) with what document 02 adds, and nothing that they do not list. How tables stand for a
-- ledger is the layout's matter.
use Rattle.std.specs.Prelude.{◌≡◌, Bool, true, false, not, List, [], ◌∷◌, ℕ, ◌+◌, ◌-◌, ◌^◌, ◌≤◌, ◌<◌, length, take, drop}
use Rattle.std.proofs.Math.Option.{Option, none, some}
use Rattle.lists.specs.Lists.{All, Pairs, Ascending, has}
use Rattle.history.specs.Words.{Stretch, Piece, Block, cell_place, size, ends, of_kind, only_kind, all_kinds}
use Rattle.history.specs.Lent.{piece_rows, block_rows, node_rows, entry_rows}
use Rattle.history.specs.Tree.{Tree, tree_at, nodes_in, entries_all}
use Rattle.history.specs.Rules.{every, is_hole, halved, rule23, Apart}
use Rattle.history.specs.Days.{days_taken}
use Rattle.history.specs.Hours.{NoneOrInstallable}
use Rattle.history.specs.Ledger.{Moment, Ledger, settled}
use Rattle.history.specs.Refusals.{max_end_tick}

-- ── pieces and blocks ──

-- inside the store's used part
pub record Stored (store : List ℕ) (s : Stretch) : Type 0 where
  pub offset : ℕ
  pub inside : offset + size s ≤ length store
  pub bytes : s.bytes ≡ take (size s) (drop offset store)

-- not empty, all its cells of the kind and no end wrapping, inside the store's used part
pub record SoundStretch (kind : ℕ) (store : List ℕ) (s : Stretch) : Type 0 where
  pub some_cell : 0 < size s
  pub from_line : cell_place kind 0 ≤ s.first
  pub no_wrap : ends s ≤ cell_place kind (2 ^ 64 - 1)
  pub stored : Stored store s

-- no written tick above the last accepted one; of an opened kind
pub record SoundPiece (kinds : List ℕ) (m : Moment) (p : Piece) : Type 0 where
  pub stretch : SoundStretch p.kind m.store p.stretch
  pub written_by_last : p.written ≤ m.last
  pub own_kind : has p.kind kinds ≡ true

-- created ≤ destroyed ≤ E
pub record SoundBlock (kinds : List ℕ) (end : ℕ) (store : List ℕ) (b : Block) : Type 0 where
  pub stretch : SoundStretch b.kind store b.stretch
  pub forward : b.created ≤ b.destroyed
  pub by_end : b.destroyed ≤ end
  pub own_kind : has b.kind kinds ≡ true

-- a set of kinds: not empty, none above 4, each once, ascending
pub record SoundKinds (kinds : List ℕ) : Type 0 where
  pub some_kind : 0 < length kinds
  pub known : All (λ kind. kind ≤ 4) kinds
  pub ascending : Ascending (λ kind. kind) kinds

-- the pieces ascend and share no cell
abbrev pub InOrder : List Piece → Type 0
InOrder ps = Pairs (λ p q. ends p.stretch ≤ q.stretch.first) ps

-- ── an index ──

-- what any index has, open or closed
pub record SoundBoard (l : Ledger) : Type 0 where
  -- an E and kinds that opening takes
  pub some_tick : 1 ≤ l.opening.end
  pub end_most : l.opening.end ≤ max_end_tick
  pub known_kinds : SoundKinds l.opening.kinds
  -- the last accepted tick (0 before any) is below E
  pub last_below_end : l.now.last < l.opening.end
  pub pieces : All (SoundPiece l.opening.kinds l.now) l.now.pieces
  pub in_order : InOrder l.now.pieces
  pub blocks : All (SoundBlock l.opening.kinds l.opening.end l.now.store) l.now.blocks
  -- counts inside the tables; blocks plus pieces within the block table
  pub pieces_fit : length l.now.pieces ≤ piece_rows l.opening.lent
  pub blocks_fit : length l.now.blocks + length l.now.pieces ≤ block_rows l.opening.lent
  pub store_fits : length l.now.store ≤ l.opening.lent.store
  -- no calendar that install would refuse
  pub calendar-taken : NoneOrInstallable l.calendar
  -- no list of days that install would refuse
  pub days_taken_lem : days_taken l.days ≡ true

abbrev pub is_empty : {A : Type 0} → List A → Bool
is_empty [] = true
is_empty (x ∷ xs) = false

-- no block is of the kind
abbrev pub none_of : (kind : ℕ) → List Block → Bool
none_of kind bs = every (λ b. not (of_kind kind b)) bs

-- the tree of one kind, for which the blocks of another kind have no life, and so no entry
pub record SoundTree (end : ℕ) (blocks : List Block) (kind : ℕ) (tree : Tree) : Type 0 where
  -- 21: a kind without blocks has no node, any other has a root; no child of a node of width 1
  pub rooted : is_hole tree ≡ none_of kind blocks
  pub rule_21 : halved 0 end tree ≡ true
  pub rule_23 : rule23 end (only_kind kind blocks) tree ≡ true

-- for a closed index no pieces, and rules 21 to 24, except that it may be empty and may hold blocks of no life, which have no entry
pub record SoundClosed (l : Ledger) (trees : List Tree) : Type 0 where
  pub no_pieces : l.now.pieces ≡ []
  -- a tree for each kind, opened or not
  pub five : length trees ≡ length all_kinds
  pub each : (kind : ℕ) → kind ≤ 4 → SoundTree l.opening.end l.now.blocks kind (tree_at trees kind)
  pub rule_24 : Apart l.now.blocks
  pub nodes_fit : nodes_in trees ≤ node_rows l.opening.lent
  pub entries_fit : entries_all trees ≤ entry_rows l.opening.lent

abbrev pub SoundTrees : Ledger → Option (List Tree) → Type 0
SoundTrees l none = Unit {0}
SoundTrees l (some trees) = SoundClosed l trees

-- for every call but finish
pub record Sound (l : Ledger) : Type 0 where
  pub board : SoundBoard l
  pub closed : SoundTrees l l.trees

-- for finish: rule 24 with each piece counted as live up to E
pub record SoundForFinish (l : Ledger) : Type 0 where
  pub sound : Sound l
  pub apart : Apart (settled l.opening.end l.now)
