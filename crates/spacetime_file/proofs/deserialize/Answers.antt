-- `spacetime_file::deserialize` meets its contract, which is that of `file_load::load`. Assumes nothing.
use Rattle.spacetime_file.proofs.deserialize.Goals as goal

pub returns : goal.returns
returns c = search depth 0
