-- How much is printed at most: lines, then the last lines by the sizes of all blocks, then how many records there are. Assumes nothing.
use mathlib.Core.Path.{◌≡◌, refl, sym, ◌∙◌, ap}
use mathlib.Core.Logic.{⊎_elim}
use Rattle.std.proofs.Common.{Some, None, Ok}
use mathlib.Core.Bool.{Bool, true, false, cond}
use mathlib.Core.List.{List, [], ◌∷◌, ◌++◌, map, flat_map}
use Prim.Native.Nat.{ℕ, suc, ◌+◌, ◌*◌, ◌≤◌, ◌<◌}
use native.Mathlib.Omega.{arith}
use lib.Dec.{leb}
use lib.ListN.{length, length-append}
use Rattle.lists.specs.Lists.{sum_of}
use Rattle.lists.proofs.Numbers.{le_or_lt}
use Rattle.lists.proofs.Maps.{length_of_map}
use Rattle.history.specs.Words.{Operation, Block, size, block_of, first_cell}
use Rattle.history.specs.Ledger.{Opening, Ledger, opened, settled, finish_by}
use Rattle.history.specs.Results.{Result}
use Rattle.history.specs.Refusals.{Answer, accepted, refused, open_answer}
use Rattle.history.specs.Calls.{Call, record_call, finish_call, answer_to, accepted_by, leaves, after, after_all, history, noted}
use Rattle.history.specs.Law.{LedgerLaw}
use Rattle.history.specs.File.{Read, got, fault}
use Rattle.history.specs.Printed.{Records, bad, all, read_record, board_lent, board_scratch, bad_record_text, open_text, op_text, finish_text, refused_text, newline, decimal, hex_bytes, block_line, refused_line, op_line, last_lines, lines_from, open_lines, record_lines, Booking, operation_of, board_opening}
use Rattle.history.proofs.EveryList.{the_law, law_after, opening_kept}
use Rattle.board_input.specs.Input.{item_from, item_at, input_from, records_of, first_record}
use Rattle.board_input.specs.Walk.{Walk, walk_end, walk_on}
use Rattle.board_text.specs.Line.{block_line_of, block_front}
use Rattle.board_input.specs.declared.Record.{Record}
use Rattle.board_input.proofs.Walking.{records_on, records_short}
use Rattle.board_input.proofs.Meeting.{law_of_input}
use Rattle.board_text.proofs.Lines.{law_of_lines}
use Rattle.board_run.specs.Runs.{printed_of}
use Rattle.board_run.specs.Room.{output_most}
use Rattle.history.proofs.Cutting.{block_cells}
use Rattle.board_run.proofs.Sizes.{Held, held-opened, held_record, held-settled}

-- ── lines ──

refused_length : (what : List ℕ) (n : ℕ) → length (refused_line what n) ≤ length what + 30
unfolding refused_line
refused_length what n =
    omega (arith, length-append what (refused_text ++ decimal n (newline ∷ [])), law_of_lines.number-length n (newline ∷ []))

op-length : (k : ℕ) (a : Answer Result) → length (op_line k a) ≤ 53
unfolding op_line
op-length k (accepted u) = omega arith
op-length k (refused n) = omega (arith, refused_length (op_text ++ decimal k []) n, law_of_lines.number-length k [])

block_length_lem : (b : Block) → length (block_line b) ≤ 90 + 2 * size b.stretch
unfolding block_line_of
block_length_lem b =
    let bytes = b.stretch.bytes in
    let front = block_front (first_cell b) (length bytes) b.created b.destroyed in
    rw (law_of_lines.in_parts b)
    (omega (
      arith,
      length-append front (hex_bytes bytes [] ++ (newline ∷ [])),
      length-append (hex_bytes bytes []) (newline ∷ []),
      law_of_lines.front_length (first_cell b) (length bytes) b.created b.destroyed,
      law_of_lines.bytes_length bytes,
    ))

blocks_length : (bs : List Block) → length (flat_map block_line bs) ≤ 90 * length bs + 2 * block_cells bs
unfolding flat_map sum_of
blocks_length [] = omega arith
blocks_length (b ∷ bs) = omega (arith, length-append (block_line b) (flat_map block_line bs), block_length_lem b, blocks_length bs)

-- ── the lines of an open index ──

-- what holds of the ledger between records
record Roomy (l : Ledger) : Type 0 where
  calls : List Operation
  law : LedgerLaw l calls
  lent : l.opening.lent ≡ board_lent
  held : Held l.now

roomy_opened : (end kind : ℕ) → open_answer (board_opening end kind) ≡ accepted tt
    → Roomy (opened (board_opening end kind))
unfolding opened after_all history
roomy_opened end kind taken =
    record {
      calls = [];
      law = the_law (board_opening end kind) taken [];
      lent = refl;
      held = held-opened (board_opening end kind);
    }

same_opening : (l : Ledger) (k : Call) → (after l k).opening ≡ l.opening
unfolding after_all
same_opening l k = opening_kept (k ∷ []) l

roomy_record : (l : Ledger) (o : Operation) → Roomy l → Roomy (after l (record_call board_scratch o))
roomy_record l o r =
    record {
      calls = noted r.calls (record_call board_scratch o) (answer_to l (record_call board_scratch o));
      law = law_after l r.calls (record_call board_scratch o) r.law;
      lent = ap (λ (x : Opening). x.lent) (same_opening l (record_call board_scratch o)) ∙ r.lent;
      held = held_record l board_scratch o r.held;
    }

-- at most 1,024 blocks, which have at most 65,536 bytes in all
abbrev last_most : ℕ
last_most = 90 * 1024 + 2 * 65536

settled_few : (l : Ledger) → Roomy l → length (settled l.opening.end l.now) ≤ 1024
unfolding settled
settled_few l r =
    let fits = rw r.lent at r.law.sound.sound.board.blocks_fit in
    omega (arith, length-append l.now.blocks (map (block_of l.opening.end) l.now.pieces), length_of_map (block_of l.opening.end) l.now.pieces, fits)

settled_small : (l : Ledger) → Roomy l → block_cells (settled l.opening.end l.now) ≤ 65536
settled_small l r =
    let fits = rw r.lent at r.law.sound.sound.board.store_fits in
    omega (arith, held-settled l.opening.end l.now r.held, fits)

last_length : (l : Ledger) → Roomy l → length (last_lines (after l finish_call) (answer_to l finish_call)) ≤ last_most
unfolding after leaves accepted_by last_lines finish_by
last_length l r = go (answer_to l finish_call)
  where
    bs : List Block
    bs = settled l.opening.end l.now

    few : length bs ≤ 1024
    few = settled_few l r

    small : block_cells bs ≤ 65536
    small = settled_small l r

    go : (a : Answer Result) → length (last_lines (leaves a l (finish_by l)) a) ≤ last_most
    go (accepted u) = omega (arith, blocks_length bs, few, small)
    go (refused n) = omega (arith, refused_length finish_text n)

lines_length : (bs : List Booking) (kind k : ℕ) (l : Ledger) → Roomy l → length (lines_from kind k l bs) ≤ 53 * length bs + last_most
unfolding lines_from
lines_length [] kind k l r = last_length l r
lines_length (b ∷ bs) kind k l r =
    let call = record_call board_scratch (operation_of kind b) in
    omega (
      arith,
      length-append (op_line k (answer_to l call)) (lines_from kind (suc k) (after l call) bs),
      op-length k (answer_to l call),
      lines_length bs kind (suc k) (after l call) (roomy_record l (operation_of kind b) r),
    )

-- ── how many records there are ──

item_start : (input : List ℕ) (at : ℕ) {r : Record} → Some (Ok r) ≡ item_at input at → r.start ≡ at + 20
unfolding item_at
item_start input at {r} e = go (leb (length input) at) (read_record input at) e
  where
    go : (t : Bool) (b : Read Booking) → Some (Ok r) ≡ cond t None (item_from at b) → r.start ≡ at + 20
    go true b e = cc
    go false (got b n) e = cc
    go false (fault i) e = cc

walk_count : {input : List ℕ} {at : ℕ} {bs : List Booking} → Walk input at bs → at ≤ length input → 20 * length bs + at ≤ length input
walk_count (walk_end h) inside = omega arith
walk_count {input} {at} (walk_on h w) inside =
    let more = records_on input 0 at h in
    omega (arith, item_start input at h, more.forward, more.inside, walk_count w more.inside)

few_records : (input : List ℕ) (bs : List Booking) → length input ≤ 65536 → records_of input ≡ all bs → length bs ≤ 3276
few_records input bs fits e = ⊎_elim
    (λ (h : first_record ≤ length input). let c = walk_count (law_of_input.all_met input bs e) h in omega arith)
    (λ (h : length input < first_record). let f : bad 0 ≡ all bs = sym (records_short input h) ∙ e in cc)
    (le_or_lt first_record (length input))

-- ── the whole ──

bad_length : (k : ℕ) → length (bad_record_text ++ decimal k (newline ∷ [])) ≤ 32
bad_length k = omega (arith, law_of_lines.number-length k (newline ∷ []))

all_length : (end kind : ℕ) (bs : List Booking) → length bs ≤ 3276 → length (record_lines end kind (all bs)) ≤ output_most
unfolding record_lines open_lines
all_length end kind bs few = go (open_answer a) refl
  where
    a : Opening
    a = board_opening end kind

    go : (x : Answer Unit) → open_answer a ≡ x → length (open_lines kind a bs x) ≤ output_most
    go (accepted u) e = omega (arith, lines_length bs kind 1 (opened a) (roomy_opened end kind e))
    go (refused n) e = omega (arith, refused_length open_text n)

pub room : (input : List ℕ) → length input ≤ 65536 → length (printed_of input) ≤ output_most
unfolding printed_of record_lines
room input fits = go (records_of input) refl
  where
    go : (x : Records) → records_of input ≡ x → length (record_lines (input_from input).end (input_from input).kind x) ≤ output_most
    go (bad k) e = omega (arith, bad_length k)
    go (all os) e = all_length (input_from input).end (input_from input).kind os (few_records input os fits e)
