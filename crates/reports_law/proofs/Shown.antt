-- The occupation report of a closed index, and that it shows the history of one that calls have reached.
use mathlib.Core.Path.{◌≡◌, ap, ◌∙◌}
use mathlib.Core.Bool.{true, false}
use mathlib.Core.List.{List, []}
use Prim.Native.Nat.{ℕ, ◌^◌, ◌≤◌, ◌<◌}
use native.Mathlib.Omega.{arith}
use borrow.Author.Tests.{le-leb, lt-leb}
use Rattle.std.specs.List.{list_all}
use Rattle.lists.specs.Lists.{All, all_nil, all_cons}
use Rattle.history.specs.Words.{Operation}
use Rattle.history.specs.Lent.{too_short}
use Rattle.history.specs.Ledger.{Opening, Ledger, opened, opens_kind, finished}
use Rattle.history.specs.Refusals.{Answer, accepted, refused, first_of, open_answer}
use Rattle.history.specs.Calls.{Call, after_all, history}
use Rattle.history.specs.Law.{LedgerLaw}
use Rattle.history.specs.Occupation.{Window, Report, windows_of, forward, given_by, occupied_by, unreported, report_of, occupation_by, occupation_refusals, occupation_answer}
use Rattle.history.specs.OccupationLaw.{occupied_of}
use Rattle.history.proofs.EveryList.{every_list}
use Rattle.history.proofs.OccupationLaws.{occupied-value}
use Rattle.layout.specs.Tables.{Tables}
use Rattle.layout.specs.Encodes.{Encodes}
use Rattle.layout.proofs.ReadLaws.{heads-held}
use Rattle.spacetime_file.specs.Law.{ClosedIn}
use Rattle.occupation_read.specs.Answers.{OccupationReportedBy}
use Rattle.reports_law.specs.Occupation.{Reportable, IsSlice, OccupationReports, ShowsOccupation}

-- the stops of a slice's windows
pub stops_fit : {ns : List ℕ} → IsSlice ns → All (λ (w : Window). w.stop ≤ 2 ^ 64) (windows_of ns)
unfolding windows_of
stops_fit all_nil = all_nil
stops_fit (all_cons a all_nil) = all_cons (omega arith) all_nil
stops_fit (all_cons a (all_cons b rest)) = all_cons (omega arith) (stops_fit rest)

-- ── a closed ledger's answers ──

module _ (l : Ledger) (heads : too_short l.opening.lent ≡ false) (done : finished l ≡ true) (kind tick : ℕ) (ns : List ℕ) where
  answer_25 : opens_kind l kind ≡ false → occupation_answer l kind tick ns ≡ refused 25
  unfolding occupation_refusals first_of
  answer_25 k = rw (heads, done, k)

  module _ (k : opens_kind l kind ≡ true) where
    answer_14 : l.opening.end ≤ tick → occupation_answer l kind tick ns ≡ refused 14
    unfolding occupation_refusals first_of
    answer_14 late = rw (heads, done, k, le-leb l.opening.end tick late)

    module _ (in_time : tick < l.opening.end) where
      answer_15 : list_all forward (windows_of ns) ≡ false → occupation_answer l kind tick ns ≡ refused 15
      unfolding occupation_refusals first_of
      answer_15 backward = rw (heads, done, k, lt-leb l.opening.end tick in_time, backward)

      answer_37 : list_all forward (windows_of ns) ≡ true → unreported (windows_of ns) ≡ true → occupation_answer l kind tick ns ≡ refused 37
      unfolding occupation_refusals first_of
      answer_37 ordered none = rw (heads, done, k, lt-leb l.opening.end tick in_time, ordered, none)

      answer_report : Reportable ns → occupation_answer l kind tick ns ≡ accepted (report_of (occupied_by l kind tick (windows_of ns)) (given_by (windows_of ns)))
      unfolding occupation_refusals occupation_by first_of
      answer_report r = rw (heads, done, k, lt-leb l.opening.end tick in_time, r.ordered, r.reported)

      -- by the history
      pub answer_shows : (h : List Operation) → LedgerLaw l h → IsSlice ns → Reportable ns
          → occupation_answer l kind tick ns ≡ accepted (report_of (occupied_of h kind tick (windows_of ns)) (given_by (windows_of ns)))
      answer_shows h law slice r =
          answer_report r
          ∙ ap (λ (n : ℕ). accepted (report_of n (given_by (windows_of ns)))) (occupied-value l h law done kind tick in_time (windows_of ns) (stops_fit slice))

-- ── in tables ──

module _ {t : Tables} {l : Ledger} (c : ClosedIn t l) where
  answered : {kind tick : ℕ} {ns : List ℕ} {answer : Answer Report} → OccupationReportedBy t kind tick ns answer → answer ≡ occupation_answer l kind tick ns
  answered o = o.read.formed l c.encodes c.sound

  pub unopened : (kind tick : ℕ) (ns : List ℕ) (answer : Answer Report) → opens_kind l kind ≡ false → OccupationReportedBy t kind tick ns answer → answer ≡ refused 25
  unopened kind tick ns answer k o = answered o ∙ answer_25 l (heads-held c.encodes) c.closed kind tick ns k

  pub told : (kind : ℕ) → opens_kind l kind ≡ true → OccupationReports t l kind
  told kind k =
      let heads = heads-held c.encodes in
      record {
        late = λ tick ns answer o late. answered o ∙ answer_14 l heads c.closed kind tick ns k late;
        backward = λ tick ns answer o in_time f. answered o ∙ answer_15 l heads c.closed kind tick ns k in_time f;
        unreported = λ tick ns answer o in_time f u. answered o ∙ answer_37 l heads c.closed kind tick ns k in_time f u;
        reported = λ tick ns answer o in_time r. answered o ∙ answer_report l heads c.closed kind tick ns k in_time r;
      }

-- ── after every list of calls ──

module _ (a : Opening) (taken : open_answer a ≡ accepted tt) (ks : List Call) (done : finished (after_all (opened a) ks) ≡ true) (t : Tables)
    (stands : Encodes t (after_all (opened a) ks)) (kind : ℕ) (k : opens_kind (after_all (opened a) ks) kind ≡ true) where
  pub reached_shows : (tick : ℕ) (ns : List ℕ) → tick < (after_all (opened a) ks).opening.end → IsSlice ns → Reportable ns
      → occupation_answer (after_all (opened a) ks) kind tick ns
      ≡ accepted (report_of (occupied_of (history [] (opened a) ks) kind tick (windows_of ns)) (given_by (windows_of ns)))
  reached_shows tick ns in_time slice r =
      answer_shows (after_all (opened a) ks) (heads-held stands) done kind tick ns k in_time (history [] (opened a) ks) (every_list a taken ks).law slice r

  pub shows : ShowsOccupation a ks kind t
  shows tick ns answer in_time slice r o =
      o.read.formed (after_all (opened a) ks) stands (every_list a taken ks).law.sound.sound ∙ reached_shows tick ns in_time slice r
