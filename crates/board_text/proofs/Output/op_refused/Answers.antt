use Rattle.board_text.proofs.Lines.{wrote_append, refused_put}
use Rattle.board_text.proofs.Output.op_refused.Goals as goal

pub returns : goal.returns
returns c = refused_put _ _ (wrote_append c.text.ensures c.decimal.ensures) c.refused.ensures
