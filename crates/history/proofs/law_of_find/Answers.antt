use Rattle.history.proofs.FindSound.{find_sound}
use Rattle.history.proofs.law_of_find.Goals as goal

pub returns : goal.returns
returns c = find_sound
