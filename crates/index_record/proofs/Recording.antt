-- One step for each return of `record_open`. Assumes nothing.
use mathlib.Core.Path.{◌≡◌, refl, sym, ap, subst}
use mathlib.Core.Bool.{true, false}
use mathlib.Core.List.{List}
use Prim.Native.Nat.{ℕ}
use Rattle.history.specs.Words.{Operation}
use Rattle.history.specs.Ledger.{Ledger, is_read, record_by}
use Rattle.history.specs.Results.{Result, read, update}
use Rattle.history.specs.Refusals.{accepted, refused, record_answer}
use Rattle.layout.specs.Tables.{Tables, tables}
use Rattle.layout.specs.Encodes.{Encodes}
use Rattle.layout.specs.Relations.{read_tables, UpdatedTables, RecordLeaves}
use Rattle.std.specs.Prelude.{Option, None, Some, Ok, Err, Result as Told}
use Rattle.refusals.specs.declared.Refusal.{Refusal}
use Rattle.refusals.specs.Numbers.{number_of}
use Rattle.index_record.specs.Calls.{operation, Verdicts, Judged, ReadApplied, UpdateApplied, RecordedOpen}
use Rattle.index_record.specs.declared.Change.{Change}
use Rattle.index_record.proofs.Reading.{read_encodes}

module _ (l : Ledger) (scratch : ℕ) (o : Operation) (t t' : Tables) where
  leaves_refused : (n : ℕ) → record_answer l scratch o ≡ refused n → t' ≡ t → RecordLeaves (record_answer l scratch o) l o t t'
  leaves_refused n e same = rw e same

  leaves_read : {r : Result} → record_answer l scratch o ≡ accepted r → is_read l.now o ≡ true → Encodes t' (record_by l o) → t' ≡ read_tables o.tick t → RecordLeaves (record_answer l scratch o) l o t t'
  leaves_read e is x y = rw (e, is) (x, y)

  leaves_update : {r : Result} → record_answer l scratch o ≡ accepted r → is_read l.now o ≡ false → Encodes t' (record_by l o) → UpdatedTables l o t t' → RecordLeaves (record_answer l scratch o) l o t t'
  leaves_update e is x y = rw (e, is) (x, y)

module _ {p b s bytes : List ℕ} {kind tick first : ℕ} {v : Told (Option Change) Refusal} (judged : Judged p b s (operation kind tick first bytes) v) where
  pub open_refused : {x : Refusal} → v ≡ Err x → RecordedOpen p b s p b s (operation kind tick first bytes) (Err x)
  open_refused {x} is = record {
    formed = λ nodes entries l scratch long e sound still.
        let says : record_answer l scratch (operation kind tick first bytes) ≡ refused (number_of x)
        = subst (λ (x : Told (Option Change) Refusal). Verdicts x l scratch (operation kind tick first bytes)) is (judged.says nodes entries l scratch long e sound still) in
        (sym says, leaves_refused l scratch (operation kind tick first bytes) (tables p b s nodes entries) (tables p b s nodes entries) (number_of x) says refl);
  }

  pub open_read : {b' : List ℕ} → v ≡ Ok None → ReadApplied b b' tick → RecordedOpen p b s p b' s (operation kind tick first bytes) (Ok None)
  open_read {b'} is applied = record {
    formed = λ nodes entries l scratch long e sound still.
        let o : Operation = operation kind tick first bytes in
        let t : Tables = tables p b s nodes entries in
        let says : (record_answer l scratch (operation kind tick first bytes) ≡ accepted read) × (is_read l.now (operation kind tick first bytes) ≡ true)
        = subst (λ (x : Told (Option Change) Refusal). Verdicts x l scratch (operation kind tick first bytes)) is (judged.says nodes entries l scratch long e sound still) in
        let same : tables p b' s nodes entries ≡ read_tables tick t = ap (λ (x : List ℕ). tables p x s nodes entries) applied.is in
        (sym says.0, leaves_read l scratch o t (tables p b' s nodes entries) says.0 says.1 (subst (λ (x : Tables). Encodes x (record_by l (operation kind tick first bytes))) (sym same) (read_encodes t l o e still says.1)) same);
  }

  pub open_update : {p' b' s' : List ℕ} {change : Change} → v ≡ Ok (Some change) → UpdateApplied p b s p' b' s' (operation kind tick first bytes)
      → RecordedOpen p b s p' b' s' (operation kind tick first bytes) (Ok (Some change.cell))
  open_update {p'} {b'} {s'} {change} is applied = record {
    formed = λ nodes entries l scratch long e sound still.
        let o : Operation = operation kind tick first bytes in
        let says : (record_answer l scratch (operation kind tick first bytes) ≡ accepted (update change.cell)) × (is_read l.now (operation kind tick first bytes) ≡ false)
        = subst (λ (x : Told (Option Change) Refusal). Verdicts x l scratch (operation kind tick first bytes)) is (judged.says nodes entries l scratch long e sound still) in
        let done = applied.done nodes entries l scratch (update change.cell) e sound says.0 says.1 in
        (sym says.0, leaves_update l scratch o (tables p b s nodes entries) (tables p' b' s' nodes entries) says.0 says.1 done.0 done.1);
  }

pub ruleset opening = (open_refused, open_read, open_update)
