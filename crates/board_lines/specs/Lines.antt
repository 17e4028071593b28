-- What is known of the tables between calls, and the lines that the records and the blocks put into the buffer. A name with a prime is the slice at
-- exit; each says that the output's buffer is still the lent one. Definitions alone.
use Rattle.std.specs.Prelude.{◌≡◌, true, false, ℕ, ◌<◌, length}
use mathlib.Core.List.{List, [], ◌++◌, flat_map}
use Rattle.history.specs.Words.{Operation}
use Rattle.history.specs.Ledger.{Ledger, finished}
use Rattle.history.specs.Reads.{block_by}
use Rattle.history.specs.Calls.{record_call, finish_call, answer_to, after}
use Rattle.history.specs.Sound.{Sound}
use Rattle.history.specs.Law.{LedgerLaw}
use Rattle.history.specs.Printed.{board_scratch, block_line, op_line, last_lines, lines_from, Booking}
use Rattle.layout.specs.Tables.{Tables, tables}
use Rattle.layout.specs.Encodes.{Encodes}
use Rattle.layout.specs.Formed.{Blank}
use Rattle.board_input.specs.Input.{first_record}
use Rattle.board_input.specs.Walk.{Walk}
use Rattle.board_text.specs.declared.Output.{Output}
use Rattle.board_text.specs.Wrote.{Wrote}

-- ── the tables between calls ──

-- the tables of an open index, before finish: they stand for the ledger, and the law holds of it after the accepted calls, newest first
pub record Standing (t : Tables) (l : Ledger) : Type 0 where
  pub encodes : Encodes t l
  pub calls : List Operation
  pub law : LedgerLaw l calls
  pub unfinished : finished l ≡ false
  pub blank : Blank t

-- ── records ──

-- `record_one`: the ledger's answer to record k is put, and the tables stand for what it leaves
pub record RecordedOne (pieces blocks store pieces' blocks' store' : List ℕ) (o : Operation) (k : ℕ) (out out' : Output) : Type 0 where
  pub same_loan : out'.buffer.ghost_name ≡ out.buffer.ghost_name
  pub line : (nodes entries : List ℕ) (l : Ledger) → Standing (tables pieces blocks store nodes entries) l
      → Wrote out (op_line k (answer_to l (record_call board_scratch o))) out'
  pub left : (nodes entries : List ℕ) (l : Ledger) → Standing (tables pieces blocks store nodes entries) l
      → Standing (tables pieces' blocks' store' nodes entries) (after l (record_call board_scratch o))

-- of all these lines the first are put, and those from record k on follow; all records are of one kind
pub record Midway (kind : ℕ) (lines : List ℕ) (k : ℕ) (os : List Booking) (t : Tables) (out out' : Output) : Type 0 where
  pub ledger : Ledger
  pub standing : Standing t ledger
  pub text : List ℕ
  pub put : Wrote out text out'
  pub rest : lines ≡ text ++ lines_from kind k ledger os

-- `record_all`: the lines of the records are put, and those of finish follow
pub record RecordedAll (input pieces blocks store pieces' blocks' store' : List ℕ) (kind : ℕ) (out out' : Output) : Type 0 where
  pub same_loan : out'.buffer.ghost_name ≡ out.buffer.ghost_name
  pub recorded : (nodes entries : List ℕ) (l : Ledger) (os : List Booking) → Standing (tables pieces blocks store nodes entries) l → Walk input first_record os
      → Midway kind (lines_from kind 1 l os) 0 [] (tables pieces' blocks' store' nodes entries) out out'

-- ── finish and the blocks ──

-- `list_one`: the line of the block of a number
pub record ListedOne (blocks store : List ℕ) (number : ℕ) (out out' : Output) : Type 0 where
  pub same_loan : out'.buffer.ghost_name ≡ out.buffer.ghost_name
  pub line : (pieces nodes entries : List ℕ) (l : Ledger) → Encodes (tables pieces blocks store nodes entries) l → Sound l → finished l ≡ true
      → number < length l.now.blocks → Wrote out (block_line (block_by l number)) out'

-- `list`: the lines of all blocks
pub record Listed (blocks store : List ℕ) (out out' : Output) : Type 0 where
  pub same_loan : out'.buffer.ghost_name ≡ out.buffer.ghost_name
  pub lines : (pieces nodes entries : List ℕ) (l : Ledger) → Encodes (tables pieces blocks store nodes entries) l → Sound l → finished l ≡ true
      → Wrote out (flat_map block_line l.now.blocks) out'

-- `finish`: the last lines
pub record FinishPut (t : Tables) (out out' : Output) : Type 0 where
  pub same_loan : out'.buffer.ghost_name ≡ out.buffer.ghost_name
  pub lines : (l : Ledger) → Standing t l → Wrote out (last_lines (after l finish_call) (answer_to l finish_call)) out'
