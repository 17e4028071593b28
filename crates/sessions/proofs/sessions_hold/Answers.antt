-- `sessions::sessions_hold` meets its contract. Assumes nothing.
use Rattle.sessions.proofs.Sessions.{sessions}
use Rattle.sessions.proofs.sessions_hold.Goals as goal

pub returns : goal.returns
returns c = sessions
