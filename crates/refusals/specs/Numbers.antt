-- The number of each refusal, and what a call's result means in the words of history. Definitions alone.
use Rattle.std.specs.Prelude.{ℕ, Result, Ok, Err}
use Rattle.history.specs.Refusals.{Answer, accepted, refused}
use Rattle.refusals.specs.declared.Refusal.{Refusal}
use Rattle.refusals.specs.declared.Refusal.TheVariants.{BadOpening, Malformed, Finished, NotFinished, NoCells, EndTooHigh, TickTooHigh, TickTooLow, PiecesFull, BlocksFull, StoreFull, NodesFull, EntriesFull, NoSuchTick, OutOfRange, ResultTooLong, FileEnds, FileKind, FilePresence, FileRoom, FileTree, FileBlocks, FileEntries, FileShared, KindNotOpened, CellClosed, BadCalendar, BadDays, PriceTooHigh, ManyPlatforms, BadWindows}

abbrev pub number_of : Refusal → ℕ
number_of BadOpening = 1
number_of Malformed = 2
number_of Finished = 3
number_of NotFinished = 4
number_of NoCells = 5
number_of EndTooHigh = 6
number_of TickTooHigh = 7
number_of TickTooLow = 8
number_of PiecesFull = 9
number_of BlocksFull = 10
number_of StoreFull = 11
number_of NodesFull = 12
number_of EntriesFull = 13
number_of NoSuchTick = 14
number_of OutOfRange = 15
number_of ResultTooLong = 16
number_of FileEnds = 17
number_of FileKind = 18
number_of FilePresence = 19
number_of FileRoom = 20
number_of FileTree = 21
number_of FileBlocks = 22
number_of FileEntries = 23
number_of FileShared = 24
number_of KindNotOpened = 25
number_of CellClosed = 26
number_of BadCalendar = 27
number_of BadDays = 28
number_of PriceTooHigh = 35
number_of ManyPlatforms = 36
number_of BadWindows = 37

-- what a result means: accepted with what it gives, or refused with the number
abbrev pub answer_by : {A B : Type 0} → (A → B) → Result A Refusal → Answer B
answer_by gives (Ok a) = accepted (gives a)
answer_by gives (Err r) = refused (number_of r)
