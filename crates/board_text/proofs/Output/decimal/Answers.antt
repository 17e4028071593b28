use Rattle.std.proofs.Common.{arith, length-set}
use Rattle.board_text.proofs.Digits.{spelling_one, spelled}
use Rattle.board_text.proofs.Output.decimal.Goals as goal

pub loop-rest-preserved : goal.loop-rest-preserved
loop-rest-preserved c =
    record {
      sized = simp length-set (omega arith);
      inside = omega arith;
      spelling = spelling_one _ c.loop-rest.invariant.spelling (omega arith) (omega arith) c.digit.ensures;
    }

pub returns : goal.returns
returns c =
    let turn = c.loop-rest.invariant in
    rw (spelled c.digit-2.result turn.spelling (omega arith) (omega arith) c.digit-2.ensures turn.sized) at c.text.ensures
