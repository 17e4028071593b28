-- Tables with zeros behind them, the ledger that is lent so much more, and what is proved of both. Statements alone: the proofs stand in proofs/.
use Rattle.std.specs.Prelude.{◌≡◌, false, List, ◌++◌, ℕ, ◌+◌, replicate}
use Rattle.history.specs.Words.{Operation}
use Rattle.history.specs.Lent.{Lent, too_short}
use Rattle.history.specs.Ledger.{Ledger, opening_for, record_by, finish_by, install_by, install_days_by}
use Rattle.history.specs.Results.{Result}
use Rattle.history.specs.Refusals.{accepted, record_answer, finish_answer, install_answer, days_answer, find_answer, touching_answer, next_answer, last_answer, cells_answer, block_answer, clock_answer}
use Rattle.history.specs.File.{write_answer}
use Rattle.history.specs.Sound.{Sound, SoundForFinish}
use Rattle.layout.specs.Tables.{Tables, tables, head_at}
use Rattle.layout.specs.Encodes.{Encodes}
use Rattle.layout.specs.Formed.{WellFormed, WellFormedForFinish}

-- ── longer ──

-- so many zeros behind a table
abbrev pub zeros_behind : (more : ℕ) → List ℕ → List ℕ
zeros_behind more table = table ++ replicate more 0

-- `more` says for each table how many, and for the store
abbrev pub longer : (more : Lent) → Tables → Tables
longer more t =
    tables (zeros_behind more.pieces t.pieces) (zeros_behind more.blocks t.blocks) (zeros_behind more.store t.store)
    (zeros_behind more.nodes t.nodes) (zeros_behind more.entries t.entries)

abbrev pub lengthened : (more : Lent) → Lent → Lent
lengthened more n =
    record {
      pieces = n.pieces + more.pieces;
      blocks = n.blocks + more.blocks;
      store = n.store + more.store;
      nodes = n.nodes + more.nodes;
      entries = n.entries + more.entries;
    }

-- the same ledger, with longer lengths: what it keeps, its trees, its calendar and its list of days stay, so an open index stays open and a closed one closed
abbrev pub lent_more : (more : Lent) → Ledger → Ledger
lent_more more l =
    record {
      opening = opening_for l.opening.end l.opening.kinds (lengthened more l.opening.lent);
      now = l.now;
      trees = l.trees;
      calendar = l.calendar;
      days = l.days;
    }

-- ── answers ──

-- every read of the one is answered as of the other
pub record ReadsAlike (l m : Ledger) : Type 0 where
  pub find : (kind t start stop answer : ℕ) → find_answer m kind t start stop answer ≡ find_answer l kind t start stop answer
  pub touching : (kind t start stop answer : ℕ) → touching_answer m kind t start stop answer ≡ touching_answer l kind t start stop answer
  pub next : (kind t cell : ℕ) → next_answer m kind t cell ≡ next_answer l kind t cell
  pub last : (kind t cell : ℕ) → last_answer m kind t cell ≡ last_answer l kind t cell
  pub cells : (kind t start stop bytes held : ℕ) → cells_answer m kind t start stop bytes held ≡ cells_answer l kind t start stop bytes held
  pub block : (k : ℕ) → block_answer m k ≡ block_answer l k
  pub clock : (cell : ℕ) → clock_answer m cell ≡ clock_answer l cell
  pub write : (out : ℕ) → write_answer m out ≡ write_answer l out

-- what was accepted is accepted, and the call leaves the same ledger, which is lent more
pub record TakesAlike (more : Lent) (l : Ledger) : Type 0 where
  pub records : (scratch : ℕ) (o : Operation) (r : Result) → record_answer l scratch o ≡ accepted r → record_answer (lent_more more l) scratch o ≡ accepted r
  pub recorded : (o : Operation) → record_by (lent_more more l) o ≡ lent_more more (record_by l o)
  pub finishes : (r : Result) → finish_answer l ≡ accepted r → finish_answer (lent_more more l) ≡ accepted r
  pub finished : finish_by (lent_more more l) ≡ lent_more more (finish_by l)
  pub installs : (numbers : List ℕ) (r : Result) → install_answer l numbers ≡ accepted r → install_answer (lent_more more l) numbers ≡ accepted r
  pub installed : (numbers : List ℕ) → install_by (lent_more more l) numbers ≡ lent_more more (install_by l numbers)
  pub installs_days : (numbers : List ℕ) (r : Result) → days_answer l numbers ≡ accepted r → days_answer (lent_more more l) numbers ≡ accepted r
  pub days_installed : (numbers : List ℕ) → install_days_by (lent_more more l) numbers ≡ lent_more more (install_days_by l numbers)

-- ── the law ──

pub record LongerTables : Type 0 where
  -- Longer tables stand for the same ledger, which is lent more;
  pub stand : (more : Lent) (t : Tables) (l : Ledger) → Encodes t l → Encodes (longer more t) (lent_more more l)
  -- their head reads alike, the state too;
  pub head : (more : Lent) (t : Tables) (c : ℕ) → head_at (longer more t) c ≡ head_at t c
  -- the ledger is sound again, for finish too;
  pub sound : (more : Lent) (l : Ledger) → Sound l → Sound (lent_more more l)
  pub sound_for_finish : (more : Lent) (l : Ledger) → SoundForFinish l → SoundForFinish (lent_more more l)
  -- so they are well formed again, for finish too;
  pub formed : (more : Lent) (t : Tables) → WellFormed t → WellFormed (longer more t)
  pub formed_for_finish : (more : Lent) (t : Tables) → WellFormedForFinish t → WellFormedForFinish (longer more t)
  -- every read is answered alike, and what record, finish and the two install calls took they take.
  pub reads : (more : Lent) (l : Ledger) → too_short l.opening.lent ≡ false → ReadsAlike l (lent_more more l)
  pub takes : (more : Lent) (l : Ledger) → TakesAlike more l
