-- `index_tested::block_bytes_tested` meets its contract: each return is a step of `carrying`. Assumes nothing.
use Rattle.index_tested.proofs.Reading.{carrying}
use Rattle.index_tested.proofs.block_bytes_tested.Goals as goal

pub returns-in-Ok : goal.returns-in-Ok
returns-in-Ok c = search carrying

pub returns-in-Err : goal.returns-in-Err
returns-in-Err c = search carrying
