-- The refusals of documents 01 and 02 in their checking order: for each call a list of numbers with their conditions, of which the first that holds is given.
-- 17 to 24, the loader's, stand with the file format in File.
use Rattle.std.specs.Prelude.{Bool, cond, ◌&&◌, ◌||◌, not, List, [], ◌∷◌, ℕ, ◌+◌, ◌-◌, ◌^◌, leb, ltb, eqb, length}
use Rattle.std.proofs.Math.Option.{Option}
use Rattle.history.specs.Rules.{every}
use Rattle.history.specs.Words.{Operation, Block}
use Rattle.history.specs.Lent.{piece_rows, block_rows, node_rows, entry_rows, too_short, least_scratch}
use Rattle.history.specs.Tree.{trees_of, nodes_in, entries_all}
use Rattle.history.specs.Ledger.{Opening, Ledger, finished, opens_kind, changed, is_read, update_by, settled}
use Rattle.history.specs.Days.{days_of, days_taken}
use Rattle.history.specs.Hours.{calendar_of, calendar_taken, closed_by}
use Rattle.history.specs.Results.{Result, done, result_of}
use Rattle.history.specs.Reads.{Found, Cells, find_by, touching_by, next_by, last_by, cells_by, block_by, clock_by}

-- ── answers ──

-- what a call answers: it is accepted and gives something, or it is refused with a number
pub data Answer (A : Type 0) : Type 0 where
  accepted : A → Answer A
  refused : ℕ → Answer A

-- a refusal: its number in the documents, and whether its condition holds
pub record Refusal : Type 0 where
  pub number : ℕ
  pub holds : Bool

infix 70 ◌if◌
abbrev pub ◌if◌ : ℕ → Bool → Refusal
n if b = record { number = n; holds = b }

-- the first refusal whose condition holds, or what an accepted call gives
unfoldable pub first_of : {A : Type 0} → List Refusal → A → Answer A
first_of [] a = accepted a
first_of (r ∷ rs) a =
    let rest = first_of rs a in
    cond r.holds (refused r.number) rest

-- ── the calls that change an index ──

-- the largest end tick
abbrev pub max_end_tick : ℕ
max_end_tick = 2 ^ 63

unfoldable pub open_refusals : Opening → List Refusal
open_refusals a =
    -- E is 0 or above 2^63, or there is no kind, or one above 4
    1 if (eqb a.end 0 || ltb max_end_tick a.end || eqb (length a.kinds) 0 || not (every (λ kind. leb kind 4) a.kinds))
    ∷ []

unfoldable pub record_refusals : Ledger → (scratch : ℕ) → Operation → List Refusal
record_refusals l scratch o =
    let lent = l.opening.lent in
    let update = not (is_read l.now o) in
    let next = update_by l.now o in
    -- its lent tables aren't well formed: of the ledger's, because their lengths are too short; or the scratch is
    2 if (too_short lent || ltb scratch least_scratch)
    -- the index is finished or loaded
    ∷ 3 if finished l
    -- the kind wasn't opened
    ∷ 25 if not (opens_kind l o.kind)
    -- no cells
    ∷ 5 if eqb (length o.bytes) 0
    -- first cell + length is above 2^64 − 1
    ∷ 6 if ltb (2 ^ 64 - 1) (o.first + length o.bytes)
    -- tick ≥ E
    ∷ 7 if leb l.opening.end o.tick
    -- tick below the last accepted one's
    ∷ 8 if ltb o.tick l.now.last
    -- a non-zero byte on a closed cell, of a read too
    ∷ 26 if closed_by l.days l.calendar o.first o.bytes
    -- an update would leave more pieces than there is space for
    ∷ 9 if (update && ltb (piece_rows lent) (length next.pieces))
    -- blocks recorded plus pieces, after the update, exceed the block table
    ∷ 10 if (update && ltb (block_rows lent) (length next.blocks + length next.pieces))
    -- the bytes of all accepted updates and of this update exceed the store
    ∷ 11 if (update && ltb lent.store (length next.store))
    ∷ []

unfoldable pub finish_refusals : Ledger → List Refusal
finish_refusals l =
    let lent = l.opening.lent in
    let trees = trees_of l.opening.end (settled l.opening.end l.now) in
    2 if too_short lent
    ∷ 3 if finished l
    -- more nodes are needed, for all trees together, than the table has
    ∷ 12 if ltb (node_rows lent) (nodes_in trees)
    -- more entries are needed than the table has
    ∷ 13 if ltb (entry_rows lent) (entries_all trees)
    ∷ []

unfoldable pub install_refusals : Ledger → (numbers : List ℕ) → List Refusal
install_refusals l numbers =
    2 if too_short l.opening.lent
    ∷ 3 if finished l
    -- a window with from ≥ to or with to above 1,440, too many windows or special days, or special days that do not ascend
    ∷ 27 if not (calendar_taken (calendar_of numbers))
    ∷ []

-- of an open or a closed index
unfoldable pub days_refusals : Ledger → (numbers : List ℕ) → List Refusal
days_refusals l numbers =
    2 if too_short l.opening.lent
    -- more than 64 days, days that do not ascend, or one of another length than 1,380 or 1,500 minutes
    ∷ 28 if not (days_taken (days_of numbers))
    ∷ []

abbrev pub open_answer : Opening → Answer Unit
open_answer a = first_of (open_refusals a) tt

abbrev pub record_answer : Ledger → (scratch : ℕ) → Operation → Answer Result
record_answer l scratch o = first_of (record_refusals l scratch o) (result_of o.kind (changed l.now o))

abbrev pub finish_answer : Ledger → Answer Result
finish_answer l = first_of (finish_refusals l) done

abbrev pub install_answer : Ledger → (numbers : List ℕ) → Answer Result
install_answer l numbers = first_of (install_refusals l numbers) done

abbrev pub days_answer : Ledger → (numbers : List ℕ) → Answer Result
days_answer l numbers = first_of (days_refusals l numbers) done

-- ── the reads ──

-- every read of a closed index: these two, and then its own
abbrev pub read_refusals : Ledger → List Refusal → List Refusal
read_refusals l own =
    2 if too_short l.opening.lent
    -- it isn't finished or loaded
    ∷ 4 if not (finished l)
    ∷ own

-- of a read of a kind at a tick
abbrev pub tick_refusals : Ledger → (kind t : ℕ) → List Refusal → List Refusal
tick_refusals l kind t own =
    read_refusals l
    -- the kind wasn't opened
    (25 if not (opens_kind l kind)
    -- tick ≥ E
    ∷ 14 if leb l.opening.end t
    ∷ own)

-- of every read of a window alike; `exceeds` says whether the result exceeds a lent slice
unfoldable pub window_refusals : Ledger → (kind t start stop : ℕ) → (exceeds : Bool) → List Refusal
window_refusals l kind t s n exceeds =
    tick_refusals l kind t
    -- start > end
    (15 if ltb n s
    -- the result exceeds a lent slice
    ∷ 16 if exceeds
    ∷ [])

abbrev pub find_answer : Ledger → (kind t start stop answer : ℕ) → Answer Found
find_answer l kind t s n answer = first_of (window_refusals l kind t s n (ltb answer (length (find_by l kind t s n).numbers))) (find_by l kind t s n)

abbrev pub touching_answer : Ledger → (kind t start stop answer : ℕ) → Answer (List ℕ)
touching_answer l kind t s n answer = first_of (window_refusals l kind t s n (ltb answer (length (touching_by l kind t s n)))) (touching_by l kind t s n)

-- of a neighbour of a cell at a tick: without window or slice there is nothing more to refuse
unfoldable pub neighbour_refusals : Ledger → (kind t : ℕ) → List Refusal
neighbour_refusals l kind t = tick_refusals l kind t []

abbrev pub next_answer : Ledger → (kind t cell : ℕ) → Answer (Option ℕ)
next_answer l kind t c = first_of (neighbour_refusals l kind t) (next_by l kind t c)

abbrev pub last_answer : Ledger → (kind t cell : ℕ) → Answer (Option ℕ)
last_answer l kind t c = first_of (neighbour_refusals l kind t) (last_by l kind t c)

abbrev pub cells_answer : Ledger → (kind t start stop bytes held : ℕ) → Answer Cells
cells_answer l kind t s n bytes held = first_of (window_refusals l kind t s n (ltb bytes (n - s) || ltb held (n - s))) (cells_by l kind t s n)

unfoldable pub block_refusals : Ledger → (k : ℕ) → List Refusal
block_refusals l k =
    read_refusals l
    -- the number isn't below the block count
    (15 if leb (length l.now.blocks) k
    ∷ [])

abbrev pub block_answer : Ledger → (k : ℕ) → Answer Block
block_answer l k = first_of (block_refusals l k) (block_by l k)

unfoldable pub write_refusals : Ledger → (out file : ℕ) → List Refusal
write_refusals l out file = read_refusals l (16 if ltb out file ∷ [])

-- the clock label of a cell, of an open or a closed index
unfoldable pub clock_refusals : Ledger → List Refusal
clock_refusals l = 2 if too_short l.opening.lent ∷ []

abbrev pub clock_answer : Ledger → (cell : ℕ) → Answer ℕ
clock_answer l c = first_of (clock_refusals l) (clock_by l c)
