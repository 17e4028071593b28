-- What a record keeps: the node and entry tables, and that the index is open. Assumes nothing.
use mathlib.Core.Path.{◌≡◌, refl}
use mathlib.Core.Bool.{Bool, true, false}
use Rattle.history.specs.Words.{Operation}
use Rattle.history.specs.Ledger.{Ledger, finished, record_by}
use Rattle.layout.specs.Tables.{Tables}
use Rattle.layout.specs.Formed.{Blank}
use Rattle.layout.specs.Relations.{RecordedTables}

pub record_blank : (r : Bool) (l : Ledger) (o : Operation) (t t' : Tables) → RecordedTables r l o t t' → Blank t → Blank t'
record_blank true l o t t' e b = rw e (record { nodes = b.nodes; entries = b.entries })
record_blank false l o t t' u b = record { nodes = rw u.nodes b.nodes; entries = rw u.entries b.entries }

pub record_open : (l : Ledger) (o : Operation) → finished (record_by l o) ≡ finished l
unfolding record_by
record_open l o = refl
