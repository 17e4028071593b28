use Rattle.tree_room.proofs.Room.{law_of_room}
use Rattle.tree_room.proofs.law_of_room.Goals as goal

pub returns : goal.returns
returns c = law_of_room
