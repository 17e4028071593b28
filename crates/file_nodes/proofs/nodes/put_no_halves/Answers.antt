-- One behind the other.
use Rattle.lists.proofs.Puts.{put_append}
use Rattle.file_nodes.proofs.nodes.put_no_halves.Goals as goal

pub returns : goal.returns
returns c = search put_append
