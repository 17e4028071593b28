-- What is proved of write and load. Statements alone: the proofs stand in proofs/.
use Rattle.std.specs.Prelude.{◌≡◌, true, false, cond, List, [], ◌++◌, map, ℕ, suc, ◌+◌, ◌-◌, ◌^◌, ◌≤◌, ◌<◌, eqb, length, take, drop}
use Rattle.std.proofs.lemmas.List.Edits.{sets}
use Rattle.lists.specs.Lists.{All}
use Rattle.history.specs.Words.{all_kinds, life}
use Rattle.history.specs.Lent.{Lent, piece_head, node_rows}
use Rattle.history.specs.Tree.{node_count}
use Rattle.history.specs.Rules.{rule23, apart}
use Rattle.history.specs.Ledger.{Opening, Ledger, opened, finished}
use Rattle.history.specs.Reads.{tree_in, block_by, clock_label}
use Rattle.history.specs.Results.{Result}
use Rattle.history.specs.Refusals.{Answer, accepted, refused, open_answer, max_end_tick}
use Rattle.history.specs.Calls.{Call, after_all, history}
use Rattle.history.specs.Sound.{none_of, Sound}
use Rattle.history.specs.File.{File, bytes_of, node_bytes, nodes_of, new_number, contents, file_part, file_by, part_at, got, read_file, tree_from, end_of, rule20, rule21, rule22, loaded_from, loaded_ledger, saved_ledger}
use Rattle.kind_mask.specs.Masks.{Taken}
use Rattle.layout.specs.Tables.{Tables, lengths_of}
use Rattle.layout.specs.Encodes.{Encodes}
use Rattle.layout.specs.Formed.{WellFormed}
use Rattle.layout.specs.Reads.{values_of}
use Rattle.layout.specs.Relations.{opening_of, OpenedBy, Counts, FoundBy, Fields, block_in, BlockGivenBy, TouchedBy, Near, NextGivenBy, LastGivenBy, ClockGivenBy}
use Rattle.layout.specs.Files.{WrittenBy, LoadedBy, headed, zeroed_tables}
use Rattle.demand.specs.Theorem.{Run}
use Rattle.demand.specs.Touching.{TouchingShows}
use Rattle.cells.specs.Answers.{CellsReadBy}
use Rattle.cells.specs.Law.{ShowsHistory}

-- ── slices ──

-- the numbers of a file are bytes
abbrev pub IsFile : List ℕ → Type 0
IsFile file = All (λ b. b < 256) file

-- a slice has a length of 64 bits
pub record Slices (t : Tables) : Type 0 where
  pub blocks : length t.blocks < 2 ^ 64
  pub entries : length t.entries < 2 ^ 64

-- a closed index in tables
pub record ClosedIn (t : Tables) (l : Ledger) : Type 0 where
  pub encodes : Encodes t l
  pub sound : Sound l
  pub closed : finished l ≡ true

-- ── written and loaded ──

-- block k is of the kind and has a life: created < destroyed
pub record Lives (l : Ledger) (kind k : ℕ) : Type 0 where
  pub number : k < length l.now.blocks
  pub same_kind : (block_by l k).kind ≡ kind
  pub ticks : 0 < life (block_by l k)

-- its number in the file: its place among those of the kind that have a life
abbrev pub number_in : Ledger → (kind k : ℕ) → ℕ
number_in l kind = new_number l.now.blocks (tree_in l kind)

-- what next or last tells of a block, under its number in the file
abbrev pub near_in : Ledger → (kind : ℕ) → Near → Near
near_in l kind n = record { found = n.found; number = cond (eqb n.found 0) 0 (number_in l kind n.number) }

-- Tables u answer for a kind as tables t, in which the ledger stands; the blocks of other kinds and of no life are gone, and the others are numbered
-- accordingly.
pub record AnswersAlike (l : Ledger) (kind : ℕ) (t u : Tables) : Type 0 where
  -- a block of the kind that has a life is block by its new number,
  pub blocks : (k : ℕ) → Lives l kind k → (old new : Answer Fields) → BlockGivenBy t k old → BlockGivenBy u (number_in l kind k) new
      → values_of (block_in u.store) new ≡ values_of (block_in t.store) old
  -- no others are left,
  pub no_others : (j : ℕ) (f : Fields) → BlockGivenBy u j (accepted f) → (k : ℕ) × Lives l kind k × (number_in l kind k ≡ j)
  -- and they are in the same order;
  pub in_order : (j k : ℕ) → Lives l kind j → Lives l kind k → j < k → number_in l kind j < number_in l kind k
  -- find refuses alike, or lists as many and visits as many nodes: the same blocks in the same order, under their new numbers;
  pub finds : (tick start stop : ℕ) (out old new : List ℕ) (a b : Answer Counts) → FoundBy t kind tick start stop out old a → FoundBy u kind tick start stop out new b
      → (b ≡ a) × ((c : Counts) → a ≡ accepted c → take c.count new ≡ map (number_in l kind) (take c.count old))
  -- touching refuses alike, or lists as many, likewise;
  pub touches : (tick start stop : ℕ) (out old new : List ℕ) (a b : Answer ℕ) → TouchedBy t kind tick start stop out old a → TouchedBy u kind tick start stop out new b
      → (b ≡ a) × ((n : ℕ) → a ≡ accepted n → take n new ≡ map (number_in l kind) (take n old))
  -- next and last refuse alike, or give the same block under its new number, or that there is none;
  pub next : (tick cell : ℕ) (a b : Answer Near) → NextGivenBy t kind tick cell a → NextGivenBy u kind tick cell b → b ≡ values_of (near_in l kind) a
  pub last : (tick cell : ℕ) (a b : Answer Near) → LastGivenBy t kind tick cell a → LastGivenBy u kind tick cell b → b ≡ values_of (near_in l kind) a
  -- read cells refuses alike, or gives the same bytes and the same held cells.
  pub cells : (tick start stop : ℕ) (bytes bytes₁ bytes₂ held held₁ held₂ : List ℕ) (a b : Answer Unit) → stop < 2 ^ 64
      → CellsReadBy t kind tick start stop bytes bytes₁ held held₁ a → CellsReadBy u kind tick start stop bytes bytes₂ held held₂ b
      → (b ≡ a) × (bytes₂ ≡ bytes₁) × (held₂ ≡ held₁)
  -- The clock goes by no list of days, since a file holds none.
  pub clock : (cell : ℕ) (b : Answer ℕ) → ClockGivenBy u cell b → b ≡ accepted (clock_label [] cell)

-- Of what write writes into a slice that holds it, the part of a kind, at its position, can be loaded, wherever it stands in a file, into any tables that have
-- room; then these are good.
abbrev pub Reloads : (t : Tables) (l : Ledger) (kind : ℕ) (Room Good : Tables → Type 0) → Type 0
Reloads t l kind Room Good =
    (out out' : List ℕ) (wrote : Answer ℕ) → WrittenBy t out out' wrote → length (file_by l) ≤ length out
    → (file : List ℕ) (at : ℕ) → IsFile file → take (length (file_part l kind)) (drop at file) ≡ take (length (file_part l kind)) (drop (part_at l kind) out')
    → (u u' : Tables) (loaded : Answer ℕ) → Room u → LoadedBy file at u u' loaded
    → (wrote ≡ accepted (length (file_by l))) × (loaded ≡ accepted (at + length (file_part l kind))) × Good u'

-- The parts of the kinds follow one another by kind code, and are all that is written.
pub record PartsFollow (l : Ledger) : Type 0 where
  pub first : part_at l 0 ≡ 0
  pub next : (kind : ℕ) → part_at l (suc kind) ≡ part_at l kind + length (file_part l kind)
  pub last : part_at l (length all_kinds) ≡ length (file_by l)

-- Room: rule 20 holds of what the kind's part says, and the piece table holds its head.
pub record RoomFor (l : Ledger) (kind : ℕ) (u : Tables) : Type 0 where
  pub room : rule20 (lengths_of u) (contents kind l.opening.end l.now.blocks (tree_in l kind)) ≡ true
  pub head : piece_head ≤ length u.pieces

-- each table is as long or longer
pub record AsLong (t u : Tables) : Type 0 where
  pub pieces : length t.pieces ≤ length u.pieces
  pub blocks : length t.blocks ≤ length u.blocks
  pub store : length t.store ≤ length u.store
  pub nodes : length t.nodes ≤ length u.nodes
  pub entries : length t.entries ≤ length u.entries

-- a kind of an index that calls have reached, loaded again: it answers alike, and read cells, touching, next and last show the history of the kind
pub record LoadedAgain (a : Opening) (ks : List Call) (kind : ℕ) (t u : Tables) : Type 0 where
  pub alike : AnswersAlike (after_all (opened a) ks) kind t u
  pub shows : ShowsHistory a ks kind u
  pub touched : TouchingShows (saved_ledger (lengths_of u) (after_all (opened a) ks) kind) (history [] (opened a) ks) u kind

pub record SavedAndLoaded : Type 0 where
  -- What is written has a part for each kind.
  pub parts : (l : Ledger) → PartsFollow l
  -- Of any closed index, each kind of which a block has a life, into tables with room for it;
  pub any : (t : Tables) (l : Ledger) → Slices t → ClosedIn t l → (kind k : ℕ) → Lives l kind k → Reloads t l kind (RoomFor l kind) (AnswersAlike l kind t)
  -- for every opening that is taken and every list of calls that leaves a finished index, each kind that has blocks, into any tables as long as those in
  -- which it stands;
  pub reached : (a : Opening) → open_answer a ≡ accepted tt → (ks : List Call) → finished (after_all (opened a) ks) ≡ true → (kind : ℕ)
      → none_of kind (after_all (opened a) ks).now.blocks ≡ false → (t : Tables) → Slices t → Encodes t (after_all (opened a) ks)
      → Reloads t (after_all (opened a) ks) kind (AsLong t) (LoadedAgain a ks kind t)
  -- so for every index that was opened in tables of any contents and finished by any list of calls, each done by its contract.
  pub called : (end : ℕ) (kinds : List ℕ) → 1 ≤ end → end ≤ max_end_tick → Taken kinds → (t t₀ t' : Tables) (opening : Answer Unit)
      → OpenedBy end kinds t t₀ opening → (ks : List Call) (given : List (Answer Result)) → Run t₀ ks given t'
      → finished (after_all (opened (opening_of end kinds t)) ks) ≡ true → (kind : ℕ)
      → none_of kind (after_all (opened (opening_of end kinds t)) ks).now.blocks ≡ false → Slices t'
      → Reloads t' (after_all (opened (opening_of end kinds t)) ks) kind (AsLong t') (LoadedAgain (opening_of end kinds t) ks kind t')

-- ── loaded and written ──

-- Writing a loaded index gives the bytes read, if the slice holds them, and else 16.
pub record WritesBack (file : List ℕ) (at next : ℕ) (out out' : List ℕ) (wrote : Answer ℕ) : Type 0 where
  pub held : next - at ≤ length out → (wrote ≡ accepted (next - at)) × (out' ≡ sets out 0 (take (next - at) (drop at file)))
  pub no_room : length out < next - at → (wrote ≡ refused 16) × (out' ≡ out)

abbrev pub LoadedAndWritten : Type 0
LoadedAndWritten =
    (file : List ℕ) (at next : ℕ) (t t' : Tables) → IsFile file → piece_head ≤ length t.pieces → LoadedBy file at t t' (accepted next)
    → (out out' : List ℕ) (wrote : Answer ℕ) → WrittenBy t' out out' wrote → WritesBack file at next out out' wrote

-- ── what the loader takes ──

-- rules 20 to 24 hold of what the file says
pub record RulesHold (n : Lent) (f : File) : Type 0 where
  pub rule_20 : rule20 n f ≡ true
  pub rule_21 : rule21 f.nodes ≡ true
  pub rule_22 : rule22 (end_of f.nodes) f.blocks ≡ true
  pub rule_23 : rule23 (end_of f.nodes) f.blocks (tree_from f.nodes) ≡ true
  pub rule_24 : apart f.blocks ≡ true

pub record LoaderTakes (file : List ℕ) (at : ℕ) (t t' : Tables) (answer : Answer ℕ) : Type 0 where
  -- Whatever the loader takes is what the parser says, and the rules hold of it;
  pub taken : (next : ℕ) → answer ≡ accepted next → (f : File) × (read_file file at ≡ got f next) × RulesHold (lengths_of t) f
  -- what the parser and the rules accept is not refused,
  pub not_refused : (f : File) (next : ℕ) → read_file file at ≡ got f next → RulesHold (lengths_of t) f → answer ≡ accepted next
  -- the tables stand for it (a piece table shorter than its head is taken, as in open),
  pub stands : (f : File) (next : ℕ) → read_file file at ≡ got f next → RulesHold (lengths_of t) f
      → Encodes (headed t') (loaded_ledger (lengths_of (headed t')) (loaded_from f))
  -- and are well formed, if the piece table holds its head: else every later call is refused 2.
  pub formed : (next : ℕ) → answer ≡ accepted next → piece_head ≤ length t.pieces → WellFormed t'
  pub too_short : length t.pieces < piece_head → WellFormed t' → ⊥

abbrev pub TakenAndNotRefused : Type 0
TakenAndNotRefused = (file : List ℕ) (at : ℕ) (t t' : Tables) (answer : Answer ℕ) → IsFile file → LoadedBy file at t t' answer → LoaderTakes file at t t' answer

-- ── empty files ──

pub record EmptyFiles : Type 0 where
  -- A kind without blocks writes nothing,
  pub no_part : (t : Tables) (l : Ledger) → ClosedIn t l → (kind : ℕ) → kind ≤ 4 → none_of kind l.now.blocks ≡ true → file_part l kind ≡ []
  -- and so does an empty closed index;
  pub nothing : (t : Tables) (l : Ledger) → ClosedIn t l → l.now.blocks ≡ [] → (out out' : List ℕ) (wrote : Answer ℕ) → WrittenBy t out out' wrote
      → (wrote ≡ accepted 0) × (out' ≡ out)
  -- those bytes cannot be loaded: a position at or past the end is refused 17.
  pub at_end : (file : List ℕ) (at : ℕ) (t t' : Tables) (answer : Answer ℕ) → length file ≤ at → LoadedBy file at t t' answer
      → (answer ≡ refused 17) × (t' ≡ t)
  -- A kind with blocks of no life alone writes kind, count 0 and its nodes,
  pub lifeless : (t : Tables) (l : Ledger) → Slices t → ClosedIn t l → (kind : ℕ) → none_of kind l.now.blocks ≡ false → ((k : ℕ) → Lives l kind k → ⊥)
      → file_part l kind ≡ bytes_of 1 kind ++ (bytes_of 8 0 ++ node_bytes (nodes_of 0 l.opening.end (tree_in l kind)))
  -- which the loader refuses 22, if its table has room for the nodes; the tables hold zeros then;
  pub refused_22 : (t : Tables) (l : Ledger) → Slices t → ClosedIn t l → (kind : ℕ) → none_of kind l.now.blocks ≡ false → ((k : ℕ) → Lives l kind k → ⊥)
      → (file : List ℕ) (at : ℕ) → take (length (file_part l kind)) (drop at file) ≡ file_part l kind
      → (u u' : Tables) (answer : Answer ℕ) → node_count (tree_in l kind) ≤ node_rows (lengths_of u) → LoadedBy file at u u' answer
      → (answer ≡ refused 22) × (u' ≡ zeroed_tables u)
  -- and else 20, with nothing changed.
  pub refused_20 : (t : Tables) (l : Ledger) → Slices t → ClosedIn t l → (kind : ℕ) → none_of kind l.now.blocks ≡ false → ((k : ℕ) → Lives l kind k → ⊥)
      → (file : List ℕ) (at : ℕ) → take (length (file_part l kind)) (drop at file) ≡ file_part l kind
      → (u u' : Tables) (answer : Answer ℕ) → node_rows (lengths_of u) < node_count (tree_in l kind) → LoadedBy file at u u' answer
      → (answer ≡ refused 20) × (u' ≡ u)
