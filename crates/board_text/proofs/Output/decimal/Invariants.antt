-- The digits behind `start` are spelled.
use Rattle.std.proofs.Common.{◌≡◌, ◌<◌, length}
use Rattle.board_text.proofs.Digits.{Spelling}
use Rattle.board_text.proofs.Output.decimal.Given as goal

abbrev pub invariant-loop-rest : goal.invariant-loop-rest
invariant-loop-rest l = record { sized : length l.digits ≡ 20; inside : l.start < 20; spelling : Spelling l.n l.digits l.start l.rest }

abbrev pub decreases-loop-rest : goal.decreases-loop-rest
decreases-loop-rest l = l.start
