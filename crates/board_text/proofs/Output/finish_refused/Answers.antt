use Rattle.board_text.proofs.Lines.{refused_put}
use Rattle.board_text.proofs.Output.finish_refused.Goals as goal

pub returns : goal.returns
returns c = refused_put _ _ c.text.ensures c.refused.ensures
