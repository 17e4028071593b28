-- What each call does, as a relation between the tables at entry and at exit and its answer: the public contracts are these relations, and demand 3
-- links calls by them. Definitions alone.
use Rattle.std.specs.Prelude.{◌≡◌, Bool, true, false, List, [], ◌∷◌, ℕ, suc, ◌+◌, ◌*◌, ◌≤◌, ◌<◌, length, get_or, set, take, drop, replicate}
use Rattle.std.proofs.Math.Option.{Option, none, some}
use Rattle.std.proofs.lemmas.List.Edits.{sets}
use Rattle.history.specs.Words.{Operation, Block, a_block, size, first_cell}
use Rattle.history.specs.Lent.{row_width}
use Rattle.history.specs.Tree.{trees_of}
use Rattle.history.specs.Ledger.{Opening, Ledger, is_read, record_by, finish_by, install_by, install_days_by, opening_for}
use Rattle.history.specs.Reads.{Found}
use Rattle.history.specs.Results.{Result}
use Rattle.history.specs.Refusals.{Answer, accepted, refused, open_answer, record_answer, finish_answer, install_answer, days_answer, find_answer, touching_answer, next_answer, last_answer, block_answer, clock_answer}
use Rattle.history.specs.Sound.{Sound}
use Rattle.tables.specs.Columns.{column, block_base, block_column, block_offset, block_next, block_spare, head_state, head_count, head_last, piece_offset}
use Rattle.block_table.specs.Blocks.{head_place}
use Rattle.block_table.specs.Appended.{Appended}
use Rattle.piece_table.specs.Rep.{Links}
use Rattle.segment_table.specs.Alone.{TreeAlone}
use Rattle.day_table.specs.DayLists.{days_installed_in}
use Rattle.calendar_table.specs.Calendars.{installed_in}
use Rattle.kind_mask.specs.Masks.{mask_of}
use Rattle.layout.specs.Tables.{Tables, tables, lengths_of}
use Rattle.layout.specs.Encodes.{Encodes, open_state}
use Rattle.layout.specs.Formed.{WellFormed, WellFormedForFinish}
use Rattle.layout.specs.Reads.{values_of, HandedOut, HandedInto, ReadBy}

-- ── open ──

-- what opening is fed
abbrev pub opening_of : (end : ℕ) (kinds : List ℕ) → Tables → Opening
opening_of e kinds t = opening_for e kinds (lengths_of t)

abbrev pub zeros : List ℕ → List ℕ
zeros l = replicate (length l) 0

-- pieces, nodes and entries zeros; blocks its head, then zeros; the store as it was
unfoldable pub opened_tables : (end : ℕ) (kinds : List ℕ) → Tables → Tables
opened_tables e kinds t = tables (zeros t.pieces) (sets (zeros t.blocks) block_base (open_state ∷ e ∷ mask_of kinds ∷ [])) t.store (zeros t.nodes) (zeros t.entries)

-- what is left: on a refusal everything as it was
unfoldable pub left_by : Answer Unit → (refused_left accepted_left : Tables) → Tables
left_by (accepted a) t t' = t'
left_by (refused n) t t' = t

pub record OpenedBy (end : ℕ) (kinds : List ℕ) (t t' : Tables) (answer : Answer Unit) : Type 0 where
  pub answered : answer ≡ open_answer (opening_of end kinds t)
  pub left : t' ≡ left_by answer t (opened_tables end kinds t)

-- ── record ──

-- a read: blocks with the last tick set; all else as it was
abbrev pub read_tables : (tick : ℕ) → Tables → Tables
read_tables tick t = tables t.pieces (set t.blocks (head_place head_last) tick) t.store t.nodes t.entries

-- an update: the bytes written at the store use; block rows appended and the head set; nodes and entries as they were; the pieces stand for the ledger's
pub record UpdatedTables (l : Ledger) (o : Operation) (t t' : Tables) : Type 0 where
  pub store : t'.store ≡ sets t.store (length l.now.store) o.bytes
  pub blocks : Appended t.blocks t'.blocks (length l.now.blocks) (length (record_by l o).now.blocks)
  pub pieces : length t'.pieces ≡ length t.pieces
  pub nodes : t'.nodes ≡ t.nodes
  pub entries : t'.entries ≡ t.entries

-- a read leaves the tables with the last tick set; an update as above
abbrev pub RecordedTables : (is_read : Bool) → Ledger → Operation → (t t' : Tables) → Type 0
RecordedTables true l o t t' = t' ≡ read_tables o.tick t
RecordedTables false l o t t' = UpdatedTables l o t t'

-- what an answer of record leaves: the tables stand for the ledger's next state, or nothing has changed
abbrev pub RecordLeaves : Answer Result → Ledger → Operation → (t t' : Tables) → Type 0
RecordLeaves (accepted a) l o t t' = Encodes t' (record_by l o) × RecordedTables (is_read l.now o) l o t t'
RecordLeaves (refused n) l o t t' = t' ≡ t

pub record RecordedBy (scratch : ℕ) (o : Operation) (t t' : Tables) (answer : Answer Result) : Type 0 where
  pub formed : (l : Ledger) → Encodes t l → Sound l → (answer ≡ record_answer l scratch o) × RecordLeaves (record_answer l scratch o) l o t t'
  pub unformed : (WellFormed t → ⊥) → (answer ≡ refused 2) × (t' ≡ t)

-- ── finish ──

-- Rows appended behind the first n, up to m. The head but for state and count, the old rows, and what lies past the rows, is as it was; the unused columns of
-- a new row are 0.
pub record AppendedRows (blocks blocks' : List ℕ) (n m : ℕ) : Type 0 where
  pub len : length blocks' ≡ length blocks
  pub head : (i : ℕ) → i < block_base + row_width → (i ≡ head_place head_state → ⊥) → (i ≡ head_place head_count → ⊥) → get_or blocks' i 0 ≡ get_or blocks i 0
  pub rows : (link c : ℕ) → 0 < link → link ≤ n → c < row_width → block_column blocks' link c ≡ block_column blocks link c
  pub next : (link : ℕ) → n < link → link ≤ m → block_column blocks' link block_next ≡ 0
  pub spare : (link : ℕ) → n < link → link ≤ m → block_column blocks' link block_spare ≡ 0
  pub rest : (i : ℕ) → block_base + row_width * suc m ≤ i → get_or blocks' i 0 ≡ get_or blocks i 0

-- The blocks of the pieces stand behind the first n, in the pieces' order: each names the bytes that its piece named, which have not moved.
pub record SameBytes (pieces links blocks' : List ℕ) (n : ℕ) : Type 0 where
  pub offset : (i : ℕ) → i < length links → block_column blocks' (suc n + i) block_offset ≡ column pieces (get_or links i 0) piece_offset

-- Pieces zeros; the store as it was; blocks appended and the head set; the trees of all blocks alone in nodes and entries. What this leaves
-- open of the block table and of the trees, `Encodes` says.
pub record FinishedTables (l : Ledger) (t t' : Tables) : Type 0 where
  pub pieces : t'.pieces ≡ zeros t.pieces
  pub store : t'.store ≡ t.store
  pub blocks : AppendedRows t.blocks t'.blocks (length l.now.blocks) (length (finish_by l).now.blocks)
  pub bytes : (links : List ℕ) → Links t.pieces links → SameBytes t.pieces links t'.blocks (length l.now.blocks)
  pub trees : TreeAlone t'.nodes t'.entries (trees_of l.opening.end (finish_by l).now.blocks)

abbrev pub FinishLeaves : Answer Result → Ledger → (t t' : Tables) → Type 0
FinishLeaves (accepted a) l t t' = Encodes t' (finish_by l) × FinishedTables l t t'
FinishLeaves (refused n) l t t' = t' ≡ t

pub record FinishedBy (t t' : Tables) (answer : Answer Result) : Type 0 where
  pub formed : (w : WellFormedForFinish t) → (answer ≡ finish_answer w.ledger) × FinishLeaves (finish_answer w.ledger) w.ledger t t'
  pub unformed : (WellFormedForFinish t → ⊥) → (answer ≡ refused 2) × (t' ≡ t)

-- ── install ──

-- the calendar written into the front of the blocks' head, all its numbers; all else as it was
abbrev pub installed_tables : (numbers : List ℕ) → Tables → Tables
installed_tables numbers t = tables t.pieces (installed_in t.blocks numbers) t.store t.nodes t.entries

abbrev pub InstallLeaves : Answer Result → Ledger → (numbers : List ℕ) → (t t' : Tables) → Type 0
InstallLeaves (accepted a) l numbers t t' = Encodes t' (install_by l numbers) × (t' ≡ installed_tables numbers t)
InstallLeaves (refused n) l numbers t t' = t' ≡ t

pub record InstalledBy (numbers : List ℕ) (t t' : Tables) (answer : Answer Result) : Type 0 where
  pub formed : (l : Ledger) → Encodes t l → Sound l → (answer ≡ install_answer l numbers) × InstallLeaves (install_answer l numbers) l numbers t t'
  pub unformed : (WellFormed t → ⊥) → (answer ≡ refused 2) × (t' ≡ t)

-- ── install days ──

-- the list written behind the calendar, all its numbers; all else as it was
abbrev pub days_tables : (numbers : List ℕ) → Tables → Tables
days_tables numbers t = tables t.pieces (days_installed_in t.blocks numbers) t.store t.nodes t.entries

abbrev pub DaysLeave : Answer Result → Ledger → (numbers : List ℕ) → (t t' : Tables) → Type 0
DaysLeave (accepted a) l numbers t t' = Encodes t' (install_days_by l numbers) × (t' ≡ days_tables numbers t)
DaysLeave (refused n) l numbers t t' = t' ≡ t

-- of an open or a closed index
pub record DaysInstalledBy (numbers : List ℕ) (t t' : Tables) (answer : Answer Result) : Type 0 where
  pub formed : (l : Ledger) → Encodes t l → Sound l → (answer ≡ days_answer l numbers) × DaysLeave (days_answer l numbers) l numbers t t'
  pub unformed : (WellFormed t → ⊥) → (answer ≡ refused 2) × (t' ≡ t)

-- ── clock ──

-- the label of a cell, by the list of days
pub record ClockGivenBy (t : Tables) (cell : ℕ) (answer : Answer ℕ) : Type 0 where
  pub read : ReadBy t (λ l. clock_answer l cell) (HandedOut (λ label. label) answer)

-- ── find ──

-- what find answers: how many it lists, and how many nodes it visits
pub record Counts : Type 0 where
  pub count : ℕ
  pub visited : ℕ

abbrev pub counts_of : Found → Counts
counts_of f = record { count = length f.numbers; visited = f.visited }

-- the counts, and the numbers in the lent answer
pub record FoundBy (t : Tables) (kind tick start stop : ℕ) (out out' : List ℕ) (answer : Answer Counts) : Type 0 where
  pub read : ReadBy t (λ l. find_answer l kind tick start stop (length out)) (HandedInto counts_of (λ f. f.numbers) out out' answer)

-- ── touching, next, last ──

-- how many blocks touching lists, and their numbers in the lent answer
pub record TouchedBy (t : Tables) (kind tick start stop : ℕ) (out out' : List ℕ) (answer : Answer ℕ) : Type 0 where
  pub read : ReadBy t (λ l. touching_answer l kind tick start stop (length out)) (HandedInto length (λ ks. ks) out out' answer)

-- what next and last answer: 1 and the block's number, or 0 and 0 where it is missing
pub record Near : Type 0 where
  pub found : ℕ
  pub number : ℕ

abbrev pub near_of : Option ℕ → Near
near_of none = record { found = 0; number = 0 }
near_of (some k) = record { found = 1; number = k }

pub record NextGivenBy (t : Tables) (kind tick cell : ℕ) (answer : Answer Near) : Type 0 where
  pub read : ReadBy t (λ l. next_answer l kind tick cell) (HandedOut near_of answer)

pub record LastGivenBy (t : Tables) (kind tick cell : ℕ) (answer : Answer Near) : Type 0 where
  pub read : ReadBy t (λ l. last_answer l kind tick cell) (HandedOut near_of answer)

-- ── block by number ──

-- a block's fields, its bytes named by their place in the store
pub record Fields : Type 0 where
  pub kind : ℕ
  pub first : ℕ
  pub length : ℕ
  pub created : ℕ
  pub destroyed : ℕ
  pub offset : ℕ

-- the fields of a block whose bytes stand at an offset
abbrev pub fields_at : (offset : ℕ) → Block → Fields
fields_at offset b =
    record { kind = b.kind; first = first_cell b; length = size b.stretch; created = b.created; destroyed = b.destroyed; offset = offset }

-- the block that fields stand for
abbrev pub block_in : (store : List ℕ) → Fields → Block
block_in store f = a_block f.kind f.first (take f.length (drop f.offset store)) f.created f.destroyed

-- The ledger's block: its fields, with the offset that the row of link k + 1 has, and its bytes there, whole.
pub record BlockHanded (t : Tables) (k : ℕ) (answer : Answer Fields) (x : Answer Block) : Type 0 where
  pub answered : answer ≡ values_of (fields_at (block_column t.blocks (suc k) block_offset)) x
  pub bytes_there : values_of (block_in t.store) answer ≡ x
  pub whole : (f : Fields) → answer ≡ accepted f → f.offset + f.length ≤ length t.store

pub record BlockGivenBy (t : Tables) (k : ℕ) (answer : Answer Fields) : Type 0 where
  pub read : ReadBy t (λ l. block_answer l k) (BlockHanded t k answer)
