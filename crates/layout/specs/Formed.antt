-- Well formed: the tables stand for a sound ledger. Definitions alone.
use Rattle.std.specs.Prelude.{◌≡◌, false, length, replicate}
use Rattle.history.specs.Ledger.{Ledger, finished}
use Rattle.history.specs.Sound.{Sound, SoundForFinish}
use Rattle.layout.specs.Tables.{Tables}
use Rattle.layout.specs.Encodes.{Encodes}

-- for every call but finish
pub record WellFormed (t : Tables) : Type 0 where
  pub ledger : Ledger
  pub encodes : Encodes t ledger
  pub sound : Sound ledger

-- the node and entry tables of an open index are zeros: finish builds in them
pub record Blank (t : Tables) : Type 0 where
  pub nodes : t.nodes ≡ replicate (length t.nodes) 0
  pub entries : t.entries ≡ replicate (length t.entries) 0

-- for finish
pub record WellFormedForFinish (t : Tables) : Type 0 where
  pub ledger : Ledger
  pub encodes : Encodes t ledger
  pub sound : SoundForFinish ledger
  pub blank : finished ledger ≡ false → Blank t
