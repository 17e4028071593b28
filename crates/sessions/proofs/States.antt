-- The state after open, load, record and the two install calls. Assumes nothing.
use mathlib.Core.Path.{◌≡◌, refl, sym, ◌∙◌, subst}
use mathlib.Core.Bool.{false}
use mathlib.Core.List.{List, []}
use Prim.Native.Nat.{ℕ, ◌≤◌}
use lib.ListN.{length}
use Rattle.history.specs.Words.{Operation}
use Rattle.history.specs.Lent.{piece_head, too_short}
use Rattle.history.specs.Ledger.{Opening, Ledger, opened, install_by, install_days_by}
use Rattle.history.specs.Calls.{after_all, history}
use Rattle.history.specs.Results.{Result}
use Rattle.history.specs.Refusals.{Answer, accepted, refused, open_answer, record_answer, install_answer, days_answer}
use Rattle.history.specs.Sound.{Sound}
use Rattle.history.proofs.EveryList.{the_law, install_sound, days_sound}
use Rattle.tables.specs.Columns.{head_state}
use Rattle.layout.specs.Tables.{Tables, lengths_of, head_at}
use Rattle.layout.specs.Encodes.{Encodes, state_of, open_state, closed_state}
use Rattle.layout.specs.Formed.{WellFormed}
use Rattle.layout.specs.Relations.{opening_of, left_by, OpenedBy, RecordedBy, InstallLeaves, InstalledBy, DaysLeave, DaysInstalledBy}
use Rattle.layout.specs.Files.{LoadedBy}
use Rattle.layout.proofs.Opening.{opened_encodes}
use Rattle.spacetime_file.specs.Law.{IsFile}
use Rattle.spacetime_file.proofs.Taking.{taken_and_not_refused}
use Rattle.record_all.specs.Many.{Plays, plays_full, plays_end, plays_more}
use Rattle.index_test.specs.declared.State.{State}
use Rattle.index_test.specs.declared.State.TheVariants.{Open, Closed}
use Rattle.index_tested.specs.Kept.{StandsIn, Kept}
use Rattle.index_tested.proofs.Keeping.{kept_open, kept_closed}
use Rattle.index_tested.proofs.Recording.{goes_on, record_stays}
use Rattle.sessions.specs.States.{StatesFollow}

-- ── open ──

opened_state : (a : Opening) → state_of (opened a).trees ≡ open_state
unfolding opened
opened_state a = refl

opened_sound : (a : Opening) → open_answer a ≡ accepted tt → Sound (opened a)
unfolding after_all history
opened_sound a taken = (the_law a taken []).sound.sound

opens : (end : ℕ) (kinds : List ℕ) (t t' : Tables) → OpenedBy end kinds t t' (accepted tt) → too_short (lengths_of t) ≡ false → Kept Open t'
unfolding left_by
opens end kinds t t' d fits =
    let fed = opening_of end kinds t in
    let enc : Encodes t' (opened fed) = subst (λ (x : Tables). Encodes x (opened fed)) (sym d.left) (opened_encodes end kinds t fits) in
    kept_open refl (record {
      formed = record { ledger = opened fed; encodes = enc; sound = opened_sound fed (sym d.answered) };
      state = enc.state ∙ opened_state fed;
    })

-- ── load ──

loads : (file : List ℕ) (at next : ℕ) (t t' : Tables) → IsFile file → LoadedBy file at t t' (accepted next) → piece_head ≤ length t.pieces → Kept Closed t'
loads file at next t t' bytes d long =
    let takes = taken_and_not_refused file at t t' (accepted next) bytes d in
    let told = takes.taken next refl in
    kept_closed refl (record { formed = takes.formed next refl long; state = (takes.stands told.0 next told.1 told.2).state })

-- ── record and the two install calls ──

-- a call that leaves unformed tables alone, and what it finds standing in its state, keeps the state
keeps : {s : State} {t t' : Tables} → Kept s t → ((WellFormed t → ⊥) → t' ≡ t) → ((head : ℕ) → StandsIn head t → StandsIn head t') → Kept s t'
keeps k bad on = record {
  unformed = λ e w. k.unformed e (subst WellFormed (bad (k.unformed e)) w);
  opened = λ e. on open_state (k.opened e);
  closed = λ e. on closed_state (k.closed e);
}

records : (s : State) (scratch : ℕ) (o : Operation) (t t' : Tables) (a : Answer Result) → Kept s t → RecordedBy scratch o t t' a → Kept s t'
records s scratch o t t' a k told =
    keeps k (λ n. (told.unformed n).1)
    (λ head here.
    let w = here.formed in
    record_stays scratch o t t' w.ledger w.encodes w.sound here.state (record_answer w.ledger scratch o) refl
    (told.formed w.ledger w.encodes w.sound).1)

install_state : (l : Ledger) (numbers : List ℕ) → state_of (install_by l numbers).trees ≡ state_of l.trees
unfolding install_by
install_state l numbers = refl

installed : {head : ℕ} (numbers : List ℕ) (t t' : Tables) (l : Ledger) → Encodes t l → Sound l → head_at t head_state ≡ head
    → (a : Answer Result) → install_answer l numbers ≡ a → InstallLeaves a l numbers t t' → StandsIn head t'
installed numbers t t' l enc s h (accepted r) q left = goes_on enc left.0 (install_sound l numbers q s) (install_state l numbers) h
installed numbers t t' l enc s h (refused n) q left = rw left (goes_on enc enc s refl h)

installs : (s : State) (numbers : List ℕ) (t t' : Tables) (a : Answer Result) → Kept s t → InstalledBy numbers t t' a → Kept s t'
installs s numbers t t' a k told =
    keeps k (λ n. (told.unformed n).1)
    (λ head here.
    let w = here.formed in
    installed numbers t t' w.ledger w.encodes w.sound here.state (install_answer w.ledger numbers) refl
    (told.formed w.ledger w.encodes w.sound).1)

days_state : (l : Ledger) (numbers : List ℕ) → state_of (install_days_by l numbers).trees ≡ state_of l.trees
unfolding install_days_by
days_state l numbers = refl

days_installed : {head : ℕ} (numbers : List ℕ) (t t' : Tables) (l : Ledger) → Encodes t l → Sound l → head_at t head_state ≡ head
    → (a : Answer Result) → days_answer l numbers ≡ a → DaysLeave a l numbers t t' → StandsIn head t'
days_installed numbers t t' l enc s h (accepted r) q left = goes_on enc left.0 (days_sound l numbers q s) (days_state l numbers) h
days_installed numbers t t' l enc s h (refused n) q left = rw left (goes_on enc enc s refl h)

installs_days : (s : State) (numbers : List ℕ) (t t' : Tables) (a : Answer Result) → Kept s t → DaysInstalledBy numbers t t' a → Kept s t'
installs_days s numbers t t' a k told =
    keeps k (λ n. (told.unformed n).1)
    (λ head here.
    let w = here.formed in
    days_installed numbers t t' w.ledger w.encodes w.sound here.state (days_answer w.ledger numbers) refl
    (told.formed w.ledger w.encodes w.sound).1)

plays : {s : State} {scratch kind : ℕ} {list : List ℕ} {most at next : ℕ} {t t' : Tables} {given : List (Answer Result)} → Kept s t
    → Plays scratch kind list most at t given next t' → Kept s t'
plays k plays_full = k
plays k (plays_end e) = k
plays k (plays_more e r rest) = plays (records _ _ _ _ _ _ k r) rest

pub states_follow : StatesFollow
states_follow = record {
  opens = opens;
  loads = loads;
  records = records;
  installs = installs;
  installs_days = installs_days;
  lists = λ s scratch kind list t t' answers answers' count next k all. plays k all.calls;
}
