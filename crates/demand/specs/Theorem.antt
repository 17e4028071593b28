-- Demand 3, whole: one statement over every list of calls from a freshly opened index. The words of the demand stand over the clauses that say them.
use Rattle.std.specs.Prelude.{◌≡◌, true, false, List, [], ◌∷◌, ℕ, ◌≤◌, ◌<◌, length}
use Rattle.std.proofs.lemmas.List.Edits.{sets}
use Rattle.history.specs.Words.{Operation}
use Rattle.history.specs.Lent.{too_short}
use Rattle.history.specs.Ledger.{Ledger, opened, opens_kind, finished}
use Rattle.history.specs.Reads.{block_by, find_by, clock_label}
use Rattle.history.specs.Results.{Result}
use Rattle.history.specs.Refusals.{Answer, accepted, refused, max_end_tick}
use Rattle.history.specs.Calls.{Call, record_call, finish_call, calendar_call, days_call, answers, after_all, last_days, history}
use Rattle.history.specs.Law.{Faithful, FindLaw}
use Rattle.tables.specs.Columns.{column, pieces_root}
use Rattle.merge_set.specs.Tree.{Tree, rows, height, Balanced}
use Rattle.merge_set.specs.Table.{Shape}
use Rattle.kind_mask.specs.Masks.{Taken}
use Rattle.layout.specs.Tables.{Tables, lengths_of}
use Rattle.info.specs.Info.{Summary, summary_of, InfoGivenBy}
use Rattle.layout.specs.Relations.{opening_of, OpenedBy, RecordedBy, FinishedBy, InstalledBy, DaysInstalledBy, ClockGivenBy, Counts, FoundBy, Fields, block_in, BlockGivenBy}

-- ── lists of calls ──

-- what a call does: the relation that is its contract
abbrev pub CallDone : Call → (t t' : Tables) → Answer Result → Type 0
CallDone (record_call scratch o) t t' answer = RecordedBy scratch o t t' answer
CallDone finish_call t t' answer = FinishedBy t t' answer
CallDone (calendar_call numbers) t t' answer = InstalledBy numbers t t' answer
CallDone (days_call numbers) t t' answer = DaysInstalledBy numbers t t' answer

-- a list of calls, each with the scratch it is lent, and their answers, refused ones included: every call finds the tables as the one before left them
pub data Run : Tables → List Call → List (Answer Result) → Tables → Type 0 where
  run_nil : {t : Tables} → Run t [] [] t
  run_cons : {t t₁ t' : Tables} {k : Call} {ks : List Call} {a : Answer Result} {given : List (Answer Result)} → CallDone k t t₁ a → Run t₁ ks given t' → Run t (k ∷ ks) (a ∷ given) t'

-- ── after an accepted finish ──

-- the ledger after the calls, and the history that they leave
module _ (l : Ledger) (h : List Operation) (t : Tables) where
  pub record Finished : Type 0 where
    -- block by number gives the ledger's blocks in its order, bytes included, and refuses 15 from their number on;
    pub blocks : (k : ℕ) (answer : Answer Fields) → BlockGivenBy t k answer → k < length l.now.blocks
        → (f : Fields) × (answer ≡ accepted f) × (block_in t.store f ≡ block_by l k)
    pub no_more : (k : ℕ) (answer : Answer Fields) → BlockGivenBy t k answer → length l.now.blocks ≤ k → answer ≡ refused 15
    -- at every tick below the end a live block holds a kind's cell exactly when a call of the history, of that kind and of that tick or earlier, covered it,
    -- and its byte is the last such call's; no two live blocks share a kind's cell;
    pub cells : Faithful l.opening.end l.now.blocks h
    -- for every opened kind and every start ≤ end find lists exactly the live blocks of the kind whose first cell is in [start, end), each once, in document
    -- 01's order,
    pub finds : (kind tick start stop : ℕ) → opens_kind l kind ≡ true → tick < l.opening.end → FindLaw l kind tick start stop
    -- and says how many, if the lent answer holds them, and else refuses 16.
    pub found : (kind tick start stop : ℕ) (out out' : List ℕ) (answer : Answer Counts) → opens_kind l kind ≡ true → tick < l.opening.end → start ≤ stop
        → FoundBy t kind tick start stop out out' answer → length (find_by l kind tick start stop).numbers ≤ length out
        → (answer ≡ accepted (record { count = length (find_by l kind tick start stop).numbers; visited = (find_by l kind tick start stop).visited }))
        × (out' ≡ sets out 0 (find_by l kind tick start stop).numbers)
    pub no_room : (kind tick start stop : ℕ) (out out' : List ℕ) (answer : Answer Counts) → opens_kind l kind ≡ true → tick < l.opening.end → start ≤ stop
        → FoundBy t kind tick start stop out out' answer → length out < length (find_by l kind tick start stop).numbers → (answer ≡ refused 16) × (out' ≡ out)
    -- A kind that was not opened is refused 25.
    pub unopened : (kind tick start stop : ℕ) (out out' : List ℕ) (answer : Answer Counts) → opens_kind l kind ≡ false
        → FoundBy t kind tick start stop out out' answer → (answer ≡ refused 25) × (out' ≡ out)

-- ── the tree of pieces ──

-- The tree of pieces that stands in the tables has the balance of Adelson-Velsky and Landis: at each node the depths of the two sides differ by at most
-- one. With at most 4,096 pieces no path has more than 16 nodes.
pub record Balance (l : Ledger) (t : Tables) : Type 0 where
  pub tree : Tree
  pub stands : Shape t.pieces (column t.pieces 0 pieces_root) tree
  pub of_pieces : length (rows tree) ≡ length l.now.pieces
  pub balanced : Balanced tree
  pub short_ways : length l.now.pieces ≤ 4096 → height tree ≤ 16

-- ── the demand ──

-- For one opening: the end tick, the kinds, and tables of any lengths and contents.
pub record Demand (end : ℕ) (kinds : List ℕ) (t t₀ : Tables) (opening : Answer Unit) : Type 0 where
  -- opening is accepted;
  pub opens : opening ≡ accepted tt
  -- each call gets the answer of the ledger (of tables too short, 2 every time);
  pub answered : (ks : List Call) (given : List (Answer Result)) (t' : Tables) → Run t₀ ks given t' → given ≡ answers (opened (opening_of end kinds t)) ks
  -- after every list of calls the tree of pieces is balanced;
  pub balance : (ks : List Call) (given : List (Answer Result)) (t' : Tables) → Run t₀ ks given t' → Balance (after_all (opened (opening_of end kinds t)) ks) t'
  -- after every list of calls the clock gives the label of a cell by the list of days that was accepted last, of an open or a closed index; tables too
  -- short give 2;
  pub clock : (ks : List Call) (given : List (Answer Result)) (t' : Tables) → Run t₀ ks given t' → (cell : ℕ) (answer : Answer ℕ) → ClockGivenBy t' cell answer
      → too_short (lengths_of t) ≡ false → answer ≡ accepted (clock_label (last_days [] (opened (opening_of end kinds t)) ks) cell)
  pub no_clock : (ks : List Call) (given : List (Answer Result)) (t' : Tables) → Run t₀ ks given t' → (cell : ℕ) (answer : Answer ℕ) → ClockGivenBy t' cell answer
      → too_short (lengths_of t) ≡ true → answer ≡ refused 2
  -- and so does info what stands in the index by the ledger, open or closed; tables too short give 2;
  pub info : (ks : List Call) (given : List (Answer Result)) (t' : Tables) → Run t₀ ks given t' → (answer : Answer Summary) → InfoGivenBy t' answer
      → too_short (lengths_of t) ≡ false → answer ≡ accepted (summary_of (after_all (opened (opening_of end kinds t)) ks))
  pub no_info : (ks : List Call) (given : List (Answer Result)) (t' : Tables) → Run t₀ ks given t' → (answer : Answer Summary) → InfoGivenBy t' answer
      → too_short (lengths_of t) ≡ true → answer ≡ refused 2
  -- after an accepted finish, and after every list of days that is installed then, all the above.
  pub done : (ks : List Call) (given : List (Answer Result)) (t' : Tables) → Run t₀ ks given t' → finished (after_all (opened (opening_of end kinds t)) ks) ≡ true
      → Finished (after_all (opened (opening_of end kinds t)) ks) (history [] (opened (opening_of end kinds t)) ks) t'

-- For every end tick from 1 to 2^63, every set of kinds, every length of all that is lent.
abbrev pub Demand3 : Type 0
Demand3 = (end : ℕ) (kinds : List ℕ) → 1 ≤ end → end ≤ max_end_tick → Taken kinds → (t t₀ : Tables) (opening : Answer Unit) → OpenedBy end kinds t t₀ opening
    → Demand end kinds t t₀ opening
