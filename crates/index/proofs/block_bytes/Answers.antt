-- `index::block_bytes` meets its contract: each arm is a step of `carrying`. Assumes nothing.
use Rattle.index.proofs.Answering.{carrying}
use Rattle.index.proofs.block_bytes.Goals as goal

pub returns-in-Ok : goal.returns-in-Ok
returns-in-Ok c = search carrying

pub returns-in-Err : goal.returns-in-Err
returns-in-Err c = search carrying
