use Rattle.std.proofs.Common.{rules}
use Rattle.board_lines.proofs.Listing.{finish_refused, finish_listed}
use Rattle.board_lines.proofs.blocks.finish.Goals as goal

pub returns-in-Ok : goal.returns-in-Ok
returns-in-Ok c = finish_listed (search rules) c.finish_open.ensures c.in-Ok.is c.list.ensures

pub returns-in-Err : goal.returns-in-Err
returns-in-Err c = finish_refused (search rules) c.finish_open.ensures c.in-Err.is c.from.ensures c.finish_refused.ensures
