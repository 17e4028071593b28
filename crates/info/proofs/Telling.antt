-- The returns of `info_formed` and `info`. Assumes nothing.
use mathlib.Core.Path.{◌≡◌, refl, sym, ap, ◌∙◌, subst}
use mathlib.Core.Logic.{◌⊎◌, inl, inr}
use mathlib.Core.Option.{Option, none, some}
use mathlib.Core.List.{List}
use Prim.Native.Nat.{ℕ}
use lib.ListN.{length}
use Rattle.lists.specs.Lists.{sum_of}
use Rattle.lists.proofs.Maps.{length_of_map}
use Rattle.history.specs.Tree.{Tree, nodes_in, entries_all}
use Rattle.history.specs.Ledger.{Ledger}
use Rattle.history.specs.Reads.{trees_or_none}
use Rattle.history.specs.Refusals.{accepted, refused, first_of}
use Rattle.tables.specs.Columns.{column, block_column, pieces_count, head_state, head_end, head_kinds, head_count, head_used, head_last}
use Rattle.kind_mask.specs.Masks.{mask_of}
use Rattle.kind_mask.proofs.Masks.{mask_own}
use Rattle.piece_table.specs.Piece.{piece_at}
use Rattle.piece_table.specs.Shown.{shown}
use Rattle.segment_table.specs.Closed.{nodes_used, entries_used}
use Rattle.layout.specs.Tables.{Tables, tables}
use Rattle.layout.specs.Encodes.{Encodes, TreesIn, state_of}
use Rattle.layout.specs.Formed.{WellFormed}
use Rattle.layout.specs.Reads.{values_of, HandedOut}
use Rattle.layout.proofs.ReadLaws.{heads-held, out_refused}
use Rattle.index_test.specs.Board.{Outcome}
use Rattle.index_test.specs.declared.State.{State}
use Rattle.index_test.specs.declared.State.TheVariants.{Bad, Open, Closed}
use Rattle.index_test.specs.States.{state_number, state_numbered, when_formed}
use Rattle.index_test.proofs.Told.{formed_taken, read_not_formed}
use Rattle.std.specs.Prelude.{Result, Ok, Err}
use Rattle.refusals.specs.declared.Refusal.{Refusal}
use Rattle.refusals.specs.Numbers.{number_of}
use Rattle.info.specs.Info.{Summary, summary_of, info_answer, InfoGivenBy}
use Rattle.info.specs.Answers.{InfoTold, summary_given}
use Rattle.info.specs.declared.Summary.{Summary as Given}

-- ── the ledger in the tables ──

-- a ledger in the tables is asked without a refusal
pub info_there : {t : Tables} {l : Ledger} → Encodes t l → info_answer l ≡ accepted (summary_of l)
unfolding first_of
info_there e = rw (heads-held e) refl

-- the rows that nodes and entries have in use: those of the trees where the state says that there are some, and else none
abbrev Rows : State → (nodes entries many runs : ℕ) → Type 0
Rows Closed nodes entries many runs = (many ≡ nodes) × (runs ≡ entries)
Rows Open nodes entries many runs = (many ≡ 0) × (runs ≡ 0)
Rows Bad nodes entries many runs = (many ≡ 0) × (runs ≡ 0)

rows_of : (t : Tables) (l : Ledger) (x : Option (List Tree)) (many runs : ℕ) → TreesIn t l x → Rows (state_numbered (state_of x)) (nodes_used t.nodes) (entries_used t.entries) many runs
    → (many ≡ nodes_in (trees_or_none x)) × (runs ≡ entries_all (trees_or_none x))
unfolding state_numbered sum_of
rows_of t l none many runs stands rows = rows
rows_of t l (some trees) many runs stands rows = (rows.0 ∙ stands.all_rows_lem, rows.1 ∙ stands.all_entries_lem)

-- no rows, by a state that says so
no_rows : {s : State} (nodes entries : ℕ) → (s ≡ Open) ⊎ (s ≡ Bad) → Rows s nodes entries 0 0
no_rows nodes entries which = elim which [ inl e ↦ rw e (refl, refl) | inr e ↦ rw e (refl, refl) ]

number_of_state : (x : Option (List Tree)) → state_number (state_numbered (state_of x)) ≡ state_of x
unfolding state_numbered
number_of_state none = refl
number_of_state (some trees) = refl

-- ── `info_formed` ──

-- what it reads, column by column
record Read (pieces blocks nodes entries : List ℕ) (s : Given) : Type 0 where
  state : s.state ≡ state_numbered (block_column blocks 0 head_state)
  end_tick : s.end_tick ≡ block_column blocks 0 head_end
  last_tick : s.last_tick ≡ block_column blocks 0 head_last
  kinds : s.kinds ≡ block_column blocks 0 head_kinds
  pieces_many : s.pieces ≡ column pieces 0 pieces_count
  blocks_many : s.blocks ≡ block_column blocks 0 head_count
  used : s.store ≡ block_column blocks 0 head_used
  rows : Rows s.state (nodes_used nodes) (entries_used entries) s.nodes s.entries

module _ {pieces blocks store nodes entries : List ℕ} {l : Ledger} (e : Encodes (tables pieces blocks store nodes entries) l) where
  pieces_told : column pieces 0 pieces_count ≡ length l.now.pieces
  pieces_told = sym e.pieces.linked.count ∙ sym (ap length e.pieces.shows ∙ length_of_map (λ link. shown store (piece_at pieces link)) e.pieces.links)

  kinds_told : block_column blocks 0 head_kinds ≡ mask_of l.opening.kinds
  kinds_told = mask_own (block_column blocks 0 head_kinds) e.mask ∙ ap mask_of (sym e.kinds)

  summary_told : {s : Given} → Read pieces blocks nodes entries s → summary_given s ≡ summary_of l
  summary_told {s} r =
      let state : s.state ≡ state_numbered (state_of l.trees) = r.state ∙ ap state_numbered e.state in
      let rows = rows_of (tables pieces blocks store nodes entries) l l.trees s.nodes s.entries e.trees
      (subst (λ (x : State). Rows x (nodes_used nodes) (entries_used entries) s.nodes s.entries) state r.rows) in
      let number : state_number s.state ≡ state_of l.trees = ap state_number state ∙ number_of_state l.trees in
      let end : s.end_tick ≡ l.opening.end = r.end_tick ∙ e.end in
      let last : s.last_tick ≡ l.now.last = r.last_tick ∙ e.last in
      let kinds : s.kinds ≡ mask_of l.opening.kinds = r.kinds ∙ kinds_told in
      let many : s.pieces ≡ length l.now.pieces = r.pieces_many ∙ pieces_told in
      let blocks : s.blocks ≡ length l.now.blocks = r.blocks_many ∙ e.count in
      let used : s.store ≡ length l.now.store = r.used ∙ e.used in
      rw (number, end, last, kinds, many, blocks, used, rows.0, rows.1) refl

read_told : {pieces blocks nodes entries : List ℕ} {s : Given} → Read pieces blocks nodes entries s → InfoTold pieces blocks nodes entries s
read_told r = record { given = λ store l e. record { answered = ap accepted (summary_told e r) ∙ sym (ap (values_of (λ (s : Summary). s)) (info_there e)) } }

-- each column by its read
abbrev pub summary : State → (end last kinds pieces blocks used nodes entries : ℕ) → Given
summary state end last kinds pieces blocks used nodes entries =
    record {
      state = state;
      end_tick = end;
      last_tick = last;
      kinds = kinds;
      pieces = pieces;
      blocks = blocks;
      store = used;
      nodes = nodes;
      entries = entries;
    }

module _ {pieces blocks nodes entries : List ℕ} {state : State} {number end last kinds many count used : ℕ} (at : number ≡ block_column blocks 0 head_state)
    (e₁ : state ≡ state_numbered number) (e₂ : end ≡ block_column blocks 0 head_end) (e₃ : last ≡ block_column blocks 0 head_last)
    (e₄ : kinds ≡ block_column blocks 0 head_kinds) (e₅ : many ≡ column pieces 0 pieces_count) (e₆ : count ≡ block_column blocks 0 head_count)
    (e₇ : used ≡ block_column blocks 0 head_used) where
  told : {rows runs : ℕ} → Rows state (nodes_used nodes) (entries_used entries) rows runs
      → InfoTold pieces blocks nodes entries (summary state end last kinds many count used rows runs)
  told r =
      read_told
      (record { state = e₁ ∙ ap state_numbered at; end_tick = e₂; last_tick = e₃; kinds = e₄; pieces_many = e₅; blocks_many = e₆; used = e₇; rows = r })

  pub told_closed : {rows runs : ℕ} → state ≡ Closed → rows ≡ nodes_used nodes → runs ≡ entries_used entries
      → InfoTold pieces blocks nodes entries (summary state end last kinds many count used rows runs)
  told_closed is e₈ e₉ = told (rw is (e₈, e₉))

  pub told_open : (state ≡ Open) ⊎ (state ≡ Bad) → InfoTold pieces blocks nodes entries (summary state end last kinds many count used 0 0)
  told_open which = told (no_rows (nodes_used nodes) (entries_used entries) which)

pub ruleset telling = (told_closed, told_open)

-- ── `info` ──

-- what was told of tables that are well formed is their ledger's
pub formed_told : {pieces blocks store nodes entries : List ℕ} {s : Given} → WellFormed (tables pieces blocks store nodes entries) → InfoTold pieces blocks nodes entries s
    → InfoGivenBy (tables pieces blocks store nodes entries) (accepted (summary_given s))
formed_told {store = store} w f = record { read = record { formed = λ l e _. f.given store l e; unformed = λ n. absurd (n w) } }

module _ {t : Tables} (r : State) {x : Result Unit Refusal} (told : Outcome r t) (is : x ≡ when_formed r) where
  pub info_refused : {e : Refusal} → x ≡ Err e → InfoGivenBy t (refused (number_of e))
  info_refused q = record { read = read_not_formed (λ n. HandedOut (λ (s : Summary). s) (refused n)) r told (sym is ∙ q) out_refused }

  pub info_taken : {u : Unit} → x ≡ Ok u → WellFormed t
  info_taken q = formed_taken r told (sym is ∙ q)
