-- The program `board` (01, "Added: cells and clock"): what its input says, and what it prints.
use Rattle.std.specs.Prelude.{cond, ℕ, zero, suc, ◌+◌, ◌*◌, ◌/◌, ◌%◌, leb, ltb, eqb, length, take}
use mathlib.Core.List.{List, [], ◌∷◌, ◌++◌, flat_map}
use Rattle.history.specs.Words.{Operation, Block, first_cell, size}
use Rattle.history.specs.Lent.{Lent, row_width, entry_width, piece_head, block_head, node_head, entry_head}
use Rattle.history.specs.Ledger.{Opening, Ledger, opened, opening_for}
use Rattle.history.specs.Reads.{clock_label}
use Rattle.history.specs.Results.{Result}
use Rattle.history.specs.Refusals.{Answer, accepted, refused, open_answer}
use Rattle.history.specs.Calls.{record_call, finish_call, answer_to, after}
use Rattle.history.specs.File.{Read, got, fault, Reader, ◌>>=◌, ◌>>◌, give, refuse◌unless◌, field, number}

-- ── input ──

-- It reads the first 65,536 bytes of standard input.
abbrev pub input_most : ℕ
input_most = 65536

-- what a record books; the kind is that of the whole input
pub record Booking : Type 0 where
  pub tick : ℕ
  pub first : ℕ
  pub bytes : List ℕ

-- the operation that it stands for
abbrev pub operation_of : (kind : ℕ) → Booking → Operation
operation_of kind b = record { kind = kind; tick = b.tick; first = b.first; bytes = b.bytes }

-- a record: a mark of two bytes, hexadecimal B7 4F, tick (8), first cell (8), length (2), bytes
unfoldable pub read_record : Reader Booking
read_record = do
  mark ← number 2
  refuse 0 unless (eqb mark (0xb7 + 256 * 0x4f))
  tick ← number 8
  first ← number 8
  cells ← number 2
  bytes ← field cells
  give (record { tick = tick; first = first; bytes = bytes })

-- the records, or the first wrong mark or cut record K
pub data Records : Type 0 where
  bad : (k : ℕ) → Records
  all : List Booking → Records

unfoldable pub onto : Booking → Records → Records
onto b (bad k) = bad k
onto b (all bs) = all (b ∷ bs)

unfoldable pub next_record : (k : ℕ) → Read Booking → (ℕ → Records) → Records
next_record k (got b next) rest = onto b (rest next)
next_record k (fault n) rest = bad k

-- the records from a position on, counted from k; each takes bytes, so as much fuel as there are bytes suffices
unfoldable pub records_from : (fuel k : ℕ) (input : List ℕ) (at : ℕ) → Records
records_from zero k input at = all []
records_from (suc fuel) k input at =
    let more = next_record k (read_record input at) (records_from fuel (suc k) input) in
    cond (leb (length input) at) (all []) more

-- E (8 bytes), kind (1), then records; input shorter than 9 bytes is record 0
pub record Input : Type 0 where
  pub end : ℕ
  pub kind : ℕ
  pub records : Records

unfoldable pub input_of : Read ℕ → Read ℕ → (ℕ → Records) → Input
input_of (got e x) (got kind at) rest = record { end = e; kind = kind; records = rest at }
input_of (got e x) (fault n) rest = record { end = e; kind = 0; records = bad 0 }
input_of (fault n) kind rest = record { end = 0; kind = 0; records = bad 0 }

unfoldable pub parsed : (standard_input : List ℕ) → Input
parsed bytes =
    let input = take input_most bytes in
    input_of (number 8 input 0) (number 1 input 8) (records_from (length input) 1 input)

-- ── what it lends ──

-- 512 pieces and as much scratch, 1,024 blocks, 65,536 store bytes, 1,024 nodes and 4,096 entries
abbrev pub board_lent : Lent
board_lent =
    record {
      pieces = piece_head + row_width * 512;
      blocks = block_head + row_width * 1024;
      store = 65536;
      nodes = node_head + row_width * 1024;
      entries = entry_head + entry_width * 4096;
    }

abbrev pub board_scratch : ℕ
board_scratch = row_width * 512

-- what it opens with: a single kind byte is the set of that kind
abbrev pub board_opening : (end kind : ℕ) → Opening
board_opening e kind = opening_for e (kind ∷ []) board_lent

-- ── texts ──

-- "cell n from to clock bytes"
abbrev pub header_text : List ℕ
header_text = 99 ∷ 101 ∷ 108 ∷ 108 ∷ 32 ∷ 110 ∷ 32 ∷ 102 ∷ 114 ∷ 111 ∷ 109 ∷ 32 ∷ 116 ∷ 111 ∷ 32 ∷ 99 ∷ 108 ∷ 111 ∷ 99 ∷ 107 ∷ 32 ∷ 98 ∷ 121 ∷ 116 ∷ 101 ∷ 115 ∷ []

-- "bad record "
abbrev pub bad_record_text : List ℕ
bad_record_text = 98 ∷ 97 ∷ 100 ∷ 32 ∷ 114 ∷ 101 ∷ 99 ∷ 111 ∷ 114 ∷ 100 ∷ 32 ∷ []

-- "open", "op ", "finish", and " refused "
abbrev pub open_text : List ℕ
open_text = 111 ∷ 112 ∷ 101 ∷ 110 ∷ []

abbrev pub op_text : List ℕ
op_text = 111 ∷ 112 ∷ 32 ∷ []

abbrev pub finish_text : List ℕ
finish_text = 102 ∷ 105 ∷ 110 ∷ 105 ∷ 115 ∷ 104 ∷ []

abbrev pub refused_text : List ℕ
refused_text = 32 ∷ 114 ∷ 101 ∷ 102 ∷ 117 ∷ 115 ∷ 101 ∷ 100 ∷ 32 ∷ []

abbrev pub space : ℕ
space = 32

abbrev pub newline : ℕ
newline = 10

-- ── numbers ──

-- the character of a digit
abbrev pub digit : ℕ → ℕ
digit d = 48 + d

-- the decimal digits of a number in front of a text; no number of 64 bits has more than 20
unfoldable pub digits : (most n : ℕ) → List ℕ → List ℕ
digits zero n text = text
digits (suc most) n text =
    let more = digits most (n / 10) (digit (n % 10) ∷ text) in
    cond (ltb n 10) (digit n ∷ text) more

abbrev pub decimal : (n : ℕ) → List ℕ → List ℕ
decimal n text = digits 20 n text

-- a label has four digits
unfoldable pub four_digits : (n : ℕ) → List ℕ → List ℕ
four_digits n text = digit (n / 1000 % 10) ∷ digit (n / 100 % 10) ∷ digit (n / 10 % 10) ∷ digit (n % 10) ∷ text

-- bytes in lower-case hexadecimal
unfoldable pub hex_digit : ℕ → ℕ
hex_digit d = cond (ltb d 10) (digit d) (87 + d)

unfoldable pub hex_bytes : List ℕ → List ℕ → List ℕ
hex_bytes [] text = text
hex_bytes (b ∷ bs) text = hex_digit (b / 16) ∷ hex_digit (b % 16) ∷ hex_bytes bs text

-- ── lines ──

-- fields: first cell, length, created, destroyed, label, bytes
unfoldable pub block_line : Block → List ℕ
block_line b =
    decimal (first_cell b) (space ∷ decimal (size b.stretch) (space ∷ decimal b.created (space ∷ decimal b.destroyed
    (space ∷ four_digits (clock_label [] (first_cell b)) (space ∷ hex_bytes b.stretch.bytes (newline ∷ []))))))

unfoldable pub refused_line : (what : List ℕ) (number : ℕ) → List ℕ
refused_line what n = what ++ (refused_text ++ decimal n (newline ∷ []))

-- a refused record prints `op K refused N`; an accepted one nothing
unfoldable pub op_line : (k : ℕ) → Answer Result → List ℕ
op_line k (accepted a) = []
op_line k (refused n) = refused_line (op_text ++ decimal k []) n

-- the blocks follow in recorded order, those of no life too; a refused finish prints `finish refused N` in place of them
unfoldable pub last_lines : Ledger → Answer Result → List ℕ
last_lines l (accepted a) = flat_map block_line l.now.blocks
last_lines l (refused n) = refused_line finish_text n

unfoldable pub lines_from : (kind k : ℕ) → Ledger → List Booking → List ℕ
lines_from kind k l [] = last_lines (after l finish_call) (answer_to l finish_call)
lines_from kind k l (b ∷ bs) =
    let call = record_call board_scratch (operation_of kind b) in
    op_line k (answer_to l call) ++ lines_from kind (suc k) (after l call) bs

-- a refused opening prints `open refused 1` only
unfoldable pub open_lines : (kind : ℕ) (a : Opening) → List Booking → Answer Unit → List ℕ
open_lines kind a bs (accepted x) = header_text ++ (newline ∷ lines_from kind 1 (opened a) bs)
open_lines kind a bs (refused n) = refused_line open_text n

unfoldable pub record_lines : (end kind : ℕ) → Records → List ℕ
record_lines e kind (bad k) = bad_record_text ++ decimal k (newline ∷ [])
record_lines e kind (all bs) =
    let a = board_opening e kind in
    open_lines kind a bs (open_answer a)

-- all that it prints
unfoldable pub printed : (standard_input : List ℕ) → List ℕ
printed bytes = record_lines (parsed bytes).end (parsed bytes).kind (parsed bytes).records
