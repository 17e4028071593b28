-- Zeros, and the last row behind them, are the head.
use Rattle.file_load.proofs.Building.{head_put}
use Rattle.file_load.proofs.put_head.Goals as goal

pub returns : goal.returns
returns c = head_put c.put_zeros.ensures c.mask_of-kinds.ensures c.put_row.ensures
