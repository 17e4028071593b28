-- Which state the public calls leave. Statements alone: the proof stands in proofs/States.
use Rattle.std.specs.Prelude.{◌≡◌, false, List, ℕ, ◌≤◌, length}
use Rattle.history.specs.Words.{Operation}
use Rattle.history.specs.Lent.{piece_head, too_short}
use Rattle.history.specs.Results.{Result}
use Rattle.history.specs.Refusals.{Answer, accepted}
use Rattle.layout.specs.Tables.{Tables, lengths_of}
use Rattle.layout.specs.Relations.{OpenedBy, RecordedBy, InstalledBy, DaysInstalledBy}
use Rattle.layout.specs.Files.{LoadedBy}
use Rattle.spacetime_file.specs.Law.{IsFile}
use Rattle.record_all.specs.Many.{RecordedAll}
use Rattle.index_test.specs.declared.State.{State}
use Rattle.index_test.specs.declared.State.TheVariants.{Open, Closed}
use Rattle.index_tested.specs.Kept.{Kept}

pub record StatesFollow : Type 0 where
  -- an accepted open leaves an open index, where the tables hold their heads
  pub opens : (end : ℕ) (kinds : List ℕ) (t t' : Tables) → OpenedBy end kinds t t' (accepted tt) → too_short (lengths_of t) ≡ false → Kept Open t'
  -- an accepted load leaves a closed one, where the piece table holds its head
  pub loads : (file : List ℕ) (at next : ℕ) (t t' : Tables) → IsFile file → LoadedBy file at t t' (accepted next) → piece_head ≤ length t.pieces → Kept Closed t'
  -- a calendar, accepted or refused, leaves the state as it was, and so does a list of days, of an open or a closed index;
  pub installs : (s : State) (numbers : List ℕ) (t t' : Tables) (a : Answer Result) → Kept s t → InstalledBy numbers t t' a → Kept s t'
  pub installs_days : (s : State) (numbers : List ℕ) (t t' : Tables) (a : Answer Result) → Kept s t → DaysInstalledBy numbers t t' a → Kept s t'
  -- so does a record, and so do many
  pub records : (s : State) (scratch : ℕ) (o : Operation) (t t' : Tables) (a : Answer Result) → Kept s t → RecordedBy scratch o t t' a → Kept s t'
  pub lists : (s : State) (scratch kind : ℕ) (list : List ℕ) (t t' : Tables) (answers answers' : List ℕ) (count next : ℕ) → Kept s t
      → RecordedAll scratch kind list t t' answers answers' count next → Kept s t'
