-- behind the top of its kind a row is clear; else it is held against the rows of its tick
use Rattle.ends_apart.proofs.Turning.{behind_top}
use Rattle.ends_apart.proofs.Run.clear_of.Goals as goal

pub returns-then-top_of-own : goal.returns-then-top_of-own
returns-then-top_of-own c = behind_top c.top_of.ensures c.if-top_of-own.true

pub returns-else-top_of-own : goal.returns-else-top_of-own
returns-else-top_of-own c = record { shown = λ e _. c.clear_back.ensures.shown e }
