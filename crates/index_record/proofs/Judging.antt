-- One step for each return of what reads: `call_refusal`, `space_refusal`, `refusal`. Assumes nothing.
use mathlib.Core.Path.{◌≡◌, sym, ap, ◌∙◌}
use mathlib.Core.Bool.{Bool, true, false, not}
use mathlib.Core.List.{List, map}
use Prim.Native.Nat.{ℕ, ◌+◌, ◌-◌, ◌/◌, ◌^◌, ◌≤◌, ◌<◌}
use native.Mathlib.Omega.{arith}
use lib.Dec.{ltb}
use lib.ListN.{length, length-append}
use borrow.Author.Tests.{lt-ltb, le-ltb, le-leb, lt-leb, eq-eqb, ne_eqb, ltb-true, ltb-false}
use Rattle.lists.specs.Lists.{All}
use Rattle.lists.proofs.Lists.{all_map, all_of_map}
use Rattle.history.specs.Words.{Operation, stretch_of, line_of, cell_place}
use Rattle.history.specs.Hours.{closed_by}
use Rattle.history.specs.Lent.{row_width, piece_head, block_head, too_short, piece_rows, block_rows}
use Rattle.history.specs.Ledger.{Ledger, opens_kind, changed, is_read, update_by}
use Rattle.history.specs.Results.{Result, read, update as updates, result_of}
use Rattle.history.specs.Refusals.{Answer, accepted, first_of}
use Rattle.history.specs.Sound.{Sound}
use Rattle.tables.specs.Masks.{opens, Opens}
use Rattle.tables.specs.Columns.{block_column, head_end, head_kinds, head_last, head_count, head_used}
use Rattle.piece_table.specs.Piece.{PieceRow, piece_at}
use Rattle.piece_table.specs.Shown.{shown, Stored}
use Rattle.survey.specs.Survey.{change_at, Counts, Surveyed}
use Rattle.survey.specs.declared.Report.{Report}
use Rattle.survey.proofs.Telling.{survey_read, survey_changed, survey_pieces, survey_blocks}
use Rattle.calendar_table.specs.Calendars.{ClosedTold}
use Rattle.layout.specs.Tables.{Tables, tables}
use Rattle.layout.specs.Encodes.{Encodes}
use Rattle.layout.proofs.ReadLaws.{mask_opens, opens_kind_lem}
use Rattle.layout.proofs.Pieces.{pieces_inside, pieces_rep, pieces_shown}
use Rattle.index_record.specs.Refusing.{call_refusals, space_refusals, lent_refusals, first_answer, First, CallTested, SpaceTested}
use Rattle.index_record.specs.Calls.{operation, Judged}
use Rattle.index_record.specs.declared.Change.{Change}
use Rattle.std.specs.Prelude.{None, Some, Ok, Err, Result as Tested}
use Rattle.refusals.specs.declared.Refusal.{Refusal}
use Rattle.refusals.specs.declared.Refusal.TheVariants.{KindNotOpened, NoCells, EndTooHigh, TickTooHigh, TickTooLow, PiecesFull, BlocksFull, StoreFull, CellClosed}
use Rattle.refusals.specs.Numbers.{number_of, answer_by}
use Rattle.index_record.proofs.Refusing.{Sized, call_sized, answer_call, answer_closed, answer_read, answer_space, answer_update}

-- ── `call_refusal` ──

module _ {blocks : List ℕ} {kind tick first size mask : ℕ} {o : Bool} (em : mask ≡ block_column blocks 0 head_kinds) (is : Opens mask kind o) where
  pub call_unopened : o ≡ false → CallTested blocks kind tick first size (Err KindNotOpened)
  unfolding call_refusals first_of
  call_unopened n = record { finds = rw (mask_opens em is n) }

  module _ (y : o ≡ true) where
    pub call_empty : size ≡ 0 → CallTested blocks kind tick first size (Err NoCells)
    unfolding call_refusals first_of
    call_empty z = record { finds = rw (mask_opens em is y, eq-eqb size 0 z) }

    pub call_wraps : {q : Bool} → (size ≡ 0 → ⊥) → q ≡ ltb (2 ^ 64 - 1) (first + size) → q ≡ true → CallTested blocks kind tick first size (Err EndTooHigh)
    unfolding call_refusals first_of
    call_wraps s e w = record { finds = rw (mask_opens em is y, ne_eqb size 0 s, sym e ∙ w) }

    module _ {q : Bool} {end : ℕ} (s : size ≡ 0 → ⊥) (e : q ≡ ltb (2 ^ 64 - 1) (first + size)) (w : q ≡ false) (at : end ≡ block_column blocks 0 head_end) where
      pub call_late : end ≤ tick → CallTested blocks kind tick first size (Err TickTooHigh)
      unfolding call_refusals first_of
      call_late h =
          record { finds = rw (mask_opens em is y, ne_eqb size 0 s, sym e ∙ w, le-leb (block_column blocks 0 head_end) tick (omega arith)) }

      module _ {last : ℕ} (h : tick < end) (by : last ≡ block_column blocks 0 head_last) where
        pub call_back : tick < last → CallTested blocks kind tick first size (Err TickTooLow)
        unfolding call_refusals first_of
        call_back k = record {
          finds = rw (mask_opens em is y, ne_eqb size 0 s, sym e ∙ w, lt-leb (block_column blocks 0 head_end) tick (omega arith), lt-ltb tick (block_column blocks 0 head_last) (omega arith));
        }

        pub call_passes : last ≤ tick → CallTested blocks kind tick first size (Ok tt)
        unfolding call_refusals first_of
        call_passes k = record {
          finds = rw (mask_opens em is y, ne_eqb size 0 s, sym e ∙ w, lt-leb (block_column blocks 0 head_end) tick (omega arith), le-ltb tick (block_column blocks 0 head_last) (omega arith));
        }

pub ruleset calling = (call_unopened, call_empty, call_wraps, call_late, call_back, call_passes)

-- ── `space_refusal` ──

-- the first of 9 to 11, by the numbers
module _ (space rows bytes pieces blocks used : ℕ) where
  space_nine : space < pieces → First (Err PiecesFull) (space_refusals space rows bytes pieces blocks used)
  unfolding space_refusals first_of
  space_nine h = rw (lt-ltb space pieces h)

  space_ten : pieces ≤ space → rows < blocks + pieces → First (Err BlocksFull) (space_refusals space rows bytes pieces blocks used)
  unfolding space_refusals first_of
  space_ten h k = rw (le-ltb space pieces h, lt-ltb rows (blocks + pieces) k)

  space_eleven : pieces ≤ space → blocks + pieces ≤ rows → bytes < used → First (Err StoreFull) (space_refusals space rows bytes pieces blocks used)
  unfolding space_refusals first_of
  space_eleven h k m = rw (le-ltb space pieces h, le-ltb rows (blocks + pieces) k, lt-ltb bytes used m)

  space_free : pieces ≤ space → blocks + pieces ≤ rows → used ≤ bytes → First (Ok tt) (space_refusals space rows bytes pieces blocks used)
  unfolding space_refusals first_of
  space_free h k m = rw (le-ltb space pieces h, le-ltb rows (blocks + pieces) k, le-ltb bytes used m)

-- a sum that does not exceed the limit
pub sum_fits : (limit a b : ℕ) {q : Bool} → q ≡ ltb limit (a + b) → q ≡ false → a + b ≤ limit
sum_fits limit a b e h = ltb-false limit (a + b) (sym e ∙ h)

module _ {pieces blocks store : List ℕ} {left made size : ℕ} where
  pub space_pieces : {rows : ℕ} → rows ≡ (length pieces - piece_head) / row_width → rows < left → SpaceTested pieces blocks store left made size (Err PiecesFull)
  space_pieces e h = record { finds = space_nine _ _ _ _ _ _ (omega arith) }

  module _ {rows space count : ℕ} {q : Bool} (er : rows ≡ (length pieces - piece_head) / row_width) (hr : left ≤ rows)
      (es : space ≡ (length blocks - block_head) / row_width) (ec : count ≡ block_column blocks 0 head_count) (eq : q ≡ ltb space (count + made)) where
    pub space_blocks : q ≡ true → SpaceTested pieces blocks store left made size (Err BlocksFull)
    space_blocks h =
        let more : space < count + made = ltb-true space (count + made) (sym eq ∙ h) in
        record { finds = space_ten _ _ _ _ _ _ (omega arith) (omega arith) }

    module _ {q₂ : Bool} (eq₂ : q₂ ≡ ltb space (count + made + left)) where
      pub space_both : q₂ ≡ true → SpaceTested pieces blocks store left made size (Err BlocksFull)
      space_both h =
          let more : space < count + made + left = ltb-true space (count + made + left) (sym eq₂ ∙ h) in
          record { finds = space_ten _ _ _ _ _ _ (omega arith) (omega arith) }

      module _ {used : ℕ} {q₃ : Bool} (h₂ : q₂ ≡ false) (eu : used ≡ block_column blocks 0 head_used) (eq₃ : q₃ ≡ ltb (length store) (used + size)) where
        pub space_store : q₃ ≡ true → SpaceTested pieces blocks store left made size (Err StoreFull)
        space_store h =
            let fits : count + made + left ≤ space = ltb-false space (count + made + left) (sym eq₂ ∙ h₂) in
            let more : length store < used + size = ltb-true (length store) (used + size) (sym eq₃ ∙ h) in
            record { finds = space_eleven _ _ _ _ _ _ (omega arith) (omega arith) (omega arith) }

        pub space_passes : q₃ ≡ false → SpaceTested pieces blocks store left made size (Ok tt)
        space_passes h =
            let fits : count + made + left ≤ space = ltb-false space (count + made + left) (sym eq₂ ∙ h₂) in
            let room : used + size ≤ length store = ltb-false (length store) (used + size) (sym eq₃ ∙ h) in
            record { finds = space_free _ _ _ _ _ _ (omega arith) (omega arith) (omega arith) }

pub ruleset spacing = (space_pieces, space_blocks, space_both, space_store, space_passes)

-- ── `refusal` ──

-- what the survey of an operation tells of the ledger
pub record Told (l : Ledger) (o : Operation) (r : Report) : Type 0 where
  pub read : is_read l.now o ≡ not (ltb r.same (length o.bytes))
  pub pieces : length (update_by l.now o).pieces ≡ r.pieces
  pub blocks : length (update_by l.now o).blocks ≡ length l.now.blocks + r.blocks
  pub change : changed l.now o ≡ change_at (cell_place o.kind o.first) (length o.bytes) r.same
  pub store : length (update_by l.now o).store ≡ length l.now.store + length o.bytes

told : (t : Tables) (l : Ledger) (o : Operation) (r : Report) → Encodes t l → Sound l → length t.pieces < 2 ^ 64 → length t.store < 2 ^ 64
    → Sized o.first (length o.bytes) → Surveyed t.pieces t.store o.kind o.first o.bytes r → Told l o r
unfolding stretch_of update_by
told t l o r e s few fits sized v =
    let ps : List PieceRow = map (piece_at t.pieces) e.pieces.links in
    let stored : All (Stored t.store) ps = all_of_map (piece_at t.pieces) (all_map (λ link h. record { has = h }) (pieces_inside t l e s.board)) in
    let counts : Counts t.store ps (cell_place o.kind o.first) o.bytes r = v.says ps (pieces_rep t l e s.board few fits) stored sized.some sized.near in
    let now : l.now.pieces ≡ map (shown t.store) ps = pieces_shown t l e in
    record {
      read = survey_read t.store ps stored l.now o now r counts;
      pieces = survey_pieces t.store ps stored l.now o now r counts;
      blocks = survey_blocks t.store ps stored l.now o now r counts;
      change = survey_changed t.store ps stored l.now o now r counts;
      store = length-append l.now.store o.bytes;
    }

-- where every cell is held with its byte nothing changes
known : (kind place size same : ℕ) → ltb same size ≡ false → result_of kind (change_at place size same) ≡ read
known kind place size same e = rw e

-- else the first change is told by its cell
changes : (kind first size same cell : ℕ) → ltb same size ≡ true → cell ≡ first + same → result_of kind (change_at (cell_place kind first) size same) ≡ updates cell
changes kind first size same cell e is = let z : cell_place kind first + same - line_of kind ≡ cell = omega arith in rw (e, z)

-- the refusals of the numbers in the tables are those of the ledger's numbers
module _ (t : Tables) (l : Ledger) (o : Operation) (e : Encodes t l) where
  call_same : (n : Tested Unit Refusal) → First n (call_refusals (opens (block_column t.blocks 0 head_kinds) o.kind) (block_column t.blocks 0 head_end) (block_column t.blocks 0 head_last) o.tick o.first (length o.bytes))
      → First n (call_refusals (opens_kind l o.kind) l.opening.end l.now.last o.tick o.first (length o.bytes))
  call_same n f = rw (opens_kind_lem e o.kind, ← e.end, ← e.last) f

  space_same : (n : Tested Unit Refusal) (r : Report) → Told l o r → First n (lent_refusals t.pieces t.blocks t.store r.pieces r.blocks (length o.bytes))
      → First n (space_refusals (piece_rows l.opening.lent) (block_rows l.opening.lent) l.opening.lent.store (length (update_by l.now o).pieces)
      (length (update_by l.now o).blocks) (length (update_by l.now o).store))
  space_same n r v f = rw (v.pieces, v.blocks, v.store, e.lengths, ← e.count, ← e.used) f

-- a call that was found to pass does
passes : (pieces blocks store bytes : List ℕ) (kind tick first : ℕ) (n : Tested Unit Refusal) {u : Unit} → CallTested blocks kind tick first (length bytes) n → n ≡ Ok u
    → (nodes entries : List ℕ) (l : Ledger) → Encodes (tables pieces blocks store nodes entries) l
    → first_answer (call_refusals (opens_kind l kind) l.opening.end l.now.last tick first (length bytes)) ≡ accepted tt
passes pieces blocks store bytes kind tick first n call z nodes entries l e =
    call_same (tables pieces blocks store nodes entries) l (operation kind tick first bytes) e n call.finds ∙ ap (answer_by (λ v. v)) z

module _ {pieces blocks store bytes : List ℕ} {kind tick first : ℕ} {n : Tested Unit Refusal}
    (call : CallTested blocks kind tick first (length bytes) n) where
  pub judge_call : {x : Refusal} → n ≡ Err x → Judged pieces blocks store (operation kind tick first bytes) (Err x)
  judge_call {x} h = record {
    says = λ nodes entries l scratch long e s still.
        answer_call l scratch (operation kind tick first bytes) (ap too_short e.lengths ∙ e.heads) long still (number_of x)
        (call_same (tables pieces blocks store nodes entries) l (operation kind tick first bytes) e n call.finds ∙ ap (answer_by (λ v. v)) h);
  }

  pub judge_closed : {u : Unit} {c : Bool} → n ≡ Ok u → ClosedTold blocks first bytes c → c ≡ true → Judged pieces blocks store (operation kind tick first bytes) (Err CellClosed)
  judge_closed z q w = record {
    says = λ nodes entries l scratch long e s still.
        answer_closed l scratch (operation kind tick first bytes) (ap too_short e.lengths ∙ e.heads) long still (passes pieces blocks store bytes kind tick first n call z nodes entries l e)
        (sym (q.says l.days l.calendar e.days e.calendar) ∙ w);
  }

  module _ {u : Unit} (z : n ≡ Ok u) (few : length pieces < 2 ^ 64) (fits : length store < 2 ^ 64) {c : Bool} (q : ClosedTold blocks first bytes c) (w : c ≡ false)
      {r : Report} (v : Surveyed pieces store kind first bytes r) where
    -- the calendar lets it pass, and what the survey tells
    inside : (nodes entries : List ℕ) (l : Ledger) → Encodes (tables pieces blocks store nodes entries) l → closed_by l.days l.calendar first bytes ≡ false
    inside nodes entries l e = sym (q.says l.days l.calendar e.days e.calendar) ∙ w

    tells : (nodes entries : List ℕ) (l : Ledger) → Encodes (tables pieces blocks store nodes entries) l → Sound l → Told l (operation kind tick first bytes) r
    tells nodes entries l e s =
        told (tables pieces blocks store nodes entries) l (operation kind tick first bytes) r e s few fits
        (call_sized (opens_kind l kind) l.opening.end l.now.last tick first (length bytes) (passes pieces blocks store bytes kind tick first n call z nodes entries l e)) v

    pub judge_read : length bytes ≤ r.same → Judged pieces blocks store (operation kind tick first bytes) (Ok None)
    judge_read h = record {
      says = λ nodes entries l scratch long e s still.
          let read : is_read l.now (operation kind tick first bytes) ≡ true = (tells nodes entries l e s).read ∙ ap not (le-ltb r.same (length bytes) h) in (
            answer_read l scratch (operation kind tick first bytes) (ap too_short e.lengths ∙ e.heads) long still (passes pieces blocks store bytes kind tick first n call z nodes entries l e) (inside nodes entries l e) read
                ∙ ap {B = Answer Result} accepted (ap (result_of kind) (tells nodes entries l e s).change ∙ known kind (cell_place kind first) (length bytes) r.same (le-ltb r.same (length bytes) h)),
            read,
          );
    }

    module _ {m : Tested Unit Refusal} (h : r.same < length bytes) (space : SpaceTested pieces blocks store r.pieces r.blocks (length bytes) m) where
      update : (nodes entries : List ℕ) (l : Ledger) → Encodes (tables pieces blocks store nodes entries) l → Sound l → is_read l.now (operation kind tick first bytes) ≡ false
      update nodes entries l e s = (tells nodes entries l e s).read ∙ ap not (lt-ltb r.same (length bytes) h)

      pub judge_space : {x : Refusal} → m ≡ Err x → Judged pieces blocks store (operation kind tick first bytes) (Err x)
      judge_space {x} full = record {
        says = λ nodes entries l scratch long e s still.
            answer_space l scratch (operation kind tick first bytes) (ap too_short e.lengths ∙ e.heads) long still (passes pieces blocks store bytes kind tick first n call z nodes entries l e) (inside nodes entries l e) (update nodes entries l e s) (number_of x)
            (space_same (tables pieces blocks store nodes entries) l (operation kind tick first bytes) e m r (tells nodes entries l e s) space.finds ∙ ap (answer_by (λ v. v)) full);
      }

      pub judge_update : {v : Unit} {change : Change} → m ≡ Ok v → change.cell ≡ first + r.same → Judged pieces blocks store (operation kind tick first bytes) (Ok (Some change))
      judge_update free is = record {
        says = λ nodes entries l scratch long e s still. (
          answer_update l scratch (operation kind tick first bytes) (ap too_short e.lengths ∙ e.heads) long still (passes pieces blocks store bytes kind tick first n call z nodes entries l e) (inside nodes entries l e) (update nodes entries l e s)
              (space_same (tables pieces blocks store nodes entries) l (operation kind tick first bytes) e m r (tells nodes entries l e s) space.finds ∙ ap (answer_by (λ v. v)) free)
              ∙ ap {B = Answer Result} accepted (ap (result_of kind) (tells nodes entries l e s).change ∙ changes kind first (length bytes) r.same _ (lt-ltb r.same (length bytes) h) is),
          update nodes entries l e s,
        );
      }

-- the cell that an update changes first is one of its own, so that its number is one of 64 bits
pub cell_fits : {blocks : List ℕ} {kind tick first size same : ℕ} {n : Tested Unit Refusal} {u : Unit} → CallTested blocks kind tick first size n → n ≡ Ok u → same < size → first + same < 2 ^ 64
cell_fits {blocks} {kind} {tick} {first} {size} call z h =
    let sized = call_sized (opens (block_column blocks 0 head_kinds) kind) (block_column blocks 0 head_end) (block_column blocks 0 head_last) tick first size (call.finds ∙ ap (answer_by (λ v. v)) z) in
    omega (arith, sized.near)
