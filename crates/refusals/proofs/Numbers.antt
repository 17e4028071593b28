-- No refusal has the number 0, which tells of an accepted call; and a result can be told from its answer. Assumes nothing.
use mathlib.Core.Path.{◌≡◌, refl, ap}
use mathlib.Core.Bool.{cond}
use Prim.Native.Nat.{ℕ}
use lib.Dec.{eqb}
use Rattle.std.specs.Prelude.{Result, Ok, Err}
use Rattle.history.specs.Refusals.{Answer, accepted, refused}
use Rattle.refusals.specs.declared.Refusal.{Refusal}
use Rattle.refusals.specs.declared.Refusal.TheVariants.{BadOpening, Malformed, Finished, NotFinished, NoCells, EndTooHigh, TickTooHigh, TickTooLow, PiecesFull, BlocksFull, StoreFull, NodesFull, EntriesFull, NoSuchTick, OutOfRange, ResultTooLong, FileEnds, FileKind, FilePresence, FileRoom, FileTree, FileBlocks, FileEntries, FileShared, KindNotOpened, CellClosed, BadCalendar, BadDays, PriceTooHigh, ManyPlatforms, BadWindows}
use Rattle.refusals.specs.Numbers.{number_of, answer_by}

pub some_number : (e : Refusal) → number_of e ≡ 0 → ⊥
some_number BadOpening z = cc
some_number Malformed z = cc
some_number Finished z = cc
some_number NotFinished z = cc
some_number NoCells z = cc
some_number EndTooHigh z = cc
some_number TickTooHigh z = cc
some_number TickTooLow z = cc
some_number PiecesFull z = cc
some_number BlocksFull z = cc
some_number StoreFull z = cc
some_number NodesFull z = cc
some_number EntriesFull z = cc
some_number NoSuchTick z = cc
some_number OutOfRange z = cc
some_number ResultTooLong z = cc
some_number FileEnds z = cc
some_number FileKind z = cc
some_number FilePresence z = cc
some_number FileRoom z = cc
some_number FileTree z = cc
some_number FileBlocks z = cc
some_number FileEntries z = cc
some_number FileShared z = cc
some_number KindNotOpened z = cc
some_number CellClosed z = cc
some_number BadCalendar z = cc
some_number BadDays z = cc
some_number PriceTooHigh z = cc
some_number ManyPlatforms z = cc
some_number BadWindows z = cc

-- the refusal of a number
abbrev named : ℕ → Refusal
named n =
    cond (eqb n 1) BadOpening
    (cond (eqb n 2) Malformed
    (cond (eqb n 3) Finished
    (cond (eqb n 4) NotFinished
    (cond (eqb n 5) NoCells
    (cond (eqb n 6) EndTooHigh
    (cond (eqb n 7) TickTooHigh
    (cond (eqb n 8) TickTooLow
    (cond (eqb n 9) PiecesFull
    (cond (eqb n 10) BlocksFull
    (cond (eqb n 11) StoreFull
    (cond (eqb n 12) NodesFull
    (cond (eqb n 13) EntriesFull
    (cond (eqb n 14) NoSuchTick
    (cond (eqb n 15) OutOfRange
    (cond (eqb n 16) ResultTooLong
    (cond (eqb n 17) FileEnds
    (cond (eqb n 18) FileKind
    (cond (eqb n 19) FilePresence
    (cond (eqb n 20) FileRoom
    (cond (eqb n 21) FileTree
    (cond (eqb n 22) FileBlocks
    (cond (eqb n 23) FileEntries
    (cond (eqb n 24) FileShared
    (cond (eqb n 25) KindNotOpened
    (cond (eqb n 26) CellClosed
    (cond (eqb n 27) BadCalendar
    (cond (eqb n 28) BadDays
    (cond (eqb n 35) PriceTooHigh
    (cond (eqb n 36) ManyPlatforms BadWindows)))))))))))))))))))))))))))))

named_same : (e : Refusal) → named (number_of e) ≡ e
named_same BadOpening = refl
named_same Malformed = refl
named_same Finished = refl
named_same NotFinished = refl
named_same NoCells = refl
named_same EndTooHigh = refl
named_same TickTooHigh = refl
named_same TickTooLow = refl
named_same PiecesFull = refl
named_same BlocksFull = refl
named_same StoreFull = refl
named_same NodesFull = refl
named_same EntriesFull = refl
named_same NoSuchTick = refl
named_same OutOfRange = refl
named_same ResultTooLong = refl
named_same FileEnds = refl
named_same FileKind = refl
named_same FilePresence = refl
named_same FileRoom = refl
named_same FileTree = refl
named_same FileBlocks = refl
named_same FileEntries = refl
named_same FileShared = refl
named_same KindNotOpened = refl
named_same CellClosed = refl
named_same BadCalendar = refl
named_same BadDays = refl
named_same PriceTooHigh = refl
named_same ManyPlatforms = refl
named_same BadWindows = refl

-- the result of an answer, where what it gives tells what was found
abbrev pub result_back : {A B : Type 0} → (B → A) → Answer B → Result A Refusal
result_back back (accepted b) = Ok (back b)
result_back back (refused n) = Err (named n)

pub result_same : {A B : Type 0} (gives : A → B) (back : B → A) → ((a : A) → back (gives a) ≡ a) → (r : Result A Refusal) → result_back back (answer_by gives r) ≡ r
result_same gives back same (Ok a) = ap Ok (same a)
result_same gives back same (Err e) = ap Err (named_same e)
