-- The returns of `report_closed`: over a closed index they are the ledger's answers.
use mathlib.Core.Path.{◌≡◌, refl, sym, ap, ap₂, ◌∙◌}
use mathlib.Core.Bool.{Bool, true, false, not}
use mathlib.Core.List.{List, [], ◌∷◌}
use Prim.Native.Nat.{ℕ, ◌≤◌, ◌<◌}
use native.Mathlib.Omega.{arith}
use Rattle.std.specs.List.{list_all}
use Rattle.history.specs.Ledger.{Ledger}
use Rattle.history.specs.Occupation.{Report, windows_of, forward, given_by, occupied_by, unreported, report_of, occupation_by, occupation_refusals}
use Rattle.history.specs.Refusals.{accepted, refused, Refusal, ◌if◌, first_of}
use Rattle.tables.specs.Masks.{Opens}
use Rattle.tables.specs.Columns.{block_column, head_kinds, head_end}
use Rattle.layout.proofs.ReadLaws.{mask_opens, tick_rest, closed_25, closed_14, closed_own}
use Rattle.live_blocks.specs.Live.{ClosedAt}
use Rattle.live_blocks.proofs.Living.{closed_at}
use Rattle.occupation_read.specs.Answers.{ReportClosed}

-- what the report refuses by itself, and what it gives
abbrev own : (ns : List ℕ) → Ledger → List Refusal
own ns l = 15 if not (list_all forward (windows_of ns)) ∷ 37 if unreported (windows_of ns) ∷ []

abbrev report : (kind tick : ℕ) (ns : List ℕ) → Ledger → Report
report kind tick ns l = occupation_by l kind tick (windows_of ns)

module _ {blocks store nodes entries : List ℕ} {kind tick mask : ℕ} {ns : List ℕ} {o : Bool} (m : mask ≡ block_column blocks 0 head_kinds) (is : Opens mask kind o) where
  pub report_25 : o ≡ false → ReportClosed blocks store nodes entries kind tick ns (refused 25)
  unfolding occupation_refusals
  report_25 q = record { read = λ pieces. closed_25 (own ns) (report kind tick ns) tick m is q refl }

  module _ (q : o ≡ true) {end : ℕ} (e : end ≡ block_column blocks 0 head_end) where
    pub report_14 : end ≤ tick → ReportClosed blocks store nodes entries kind tick ns (refused 14)
    unfolding occupation_refusals
    report_14 late = record { read = λ pieces. closed_14 (own ns) (report kind tick ns) tick m is q e late refl }

    module _ (in_time : tick < end) {f : Bool} (tested : f ≡ list_all forward (windows_of ns)) where
      pub report_15 : f ≡ false → ReportClosed blocks store nodes entries kind tick ns (refused 15)
      unfolding occupation_refusals first_of
      report_15 backward = record { read = λ pieces. closed_own (own ns) (report kind tick ns) tick m is q e in_time (λ l. rw (sym tested ∙ backward)) refl }

      pub report_37 : f ≡ true → unreported (windows_of ns) ≡ true → ReportClosed blocks store nodes entries kind tick ns (refused 37)
      unfolding occupation_refusals first_of
      report_37 ordered none = record { read = λ pieces. closed_own (own ns) (report kind tick ns) tick m is q e in_time (λ l. rw (sym tested ∙ ordered, none)) refl }

      pub report_told : f ≡ true → {cells occupied : ℕ} {r : Report} → unreported (windows_of ns) ≡ false → cells ≡ given_by (windows_of ns)
          → ((l : Ledger) → ClosedAt blocks store nodes entries kind tick l → occupied ≡ occupied_by l kind tick (windows_of ns)) → r ≡ report_of occupied cells
          → ReportClosed blocks store nodes entries kind tick ns (accepted r)
      unfolding occupation_refusals occupation_by first_of
      report_told ordered {cells} {occupied} {r} some cells_are counted r_is = record {
        read = λ pieces. record {
          closed = λ l enc s done.
              let opened = mask_opens m is q in
              let occupied_are = counted l (closed_at kind enc s done opened (omega arith)) in
              let answered = tick_rest enc done (report kind tick ns l) (own ns l) kind tick opened (omega arith) in
              ap accepted (r_is ∙ ap₂ report_of occupied_are cells_are) ∙ sym (answered ∙ rw (sym tested ∙ ordered, some) refl);
        };
      }

pub ruleset answering = (report_25, report_14, report_15, report_37, report_told)
