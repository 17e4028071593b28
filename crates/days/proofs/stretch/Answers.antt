-- `days::stretch`: its place, what the clock shows there, and its turn.
use Rattle.days.proofs.Labels.{stretch_done}
use Rattle.days.proofs.stretch.Goals as goal

pub returns : goal.returns
returns c = stretch_done _ _ _ _ _ c.place_of-place.ensures _ _ c.shown.ensures c.turn.ensures
