-- Every list of calls with `record_all` is the list with its record calls written out. Assumes nothing.
use mathlib.Core.List.{List, ◌++◌, map}
use Prim.Native.Nat.{ℕ, zero, suc}
use Rattle.history.specs.Results.{Result}
use Rattle.history.specs.Refusals.{Answer}
use Rattle.history.specs.Calls.{Call, record_call}
use Rattle.history.specs.Printed.{operation_of}
use Rattle.layout.specs.Tables.{Tables}
use Rattle.demand.specs.Theorem.{Run, run_nil, run_cons}
use Rattle.record_all.specs.Many.{Plays, plays_full, plays_end, plays_more}
use Rattle.record_all.specs.Law.{operations_in, written_out, steps_none, steps_one, steps_all, WrittenOut}

-- one `record_all`
plays_run : {scratch kind : ℕ} {list : List ℕ} {most at next : ℕ} {t t' : Tables} {given : List (Answer Result)} → Plays scratch kind list most at t given next t'
    → Run t (map (λ b. record_call scratch (operation_of kind b)) (operations_in list most at)) given t'
unfolding operations_in
plays_run plays_full = run_nil
plays_run (plays_end {most = zero} e) = run_nil
plays_run (plays_end {most = suc most} e) = rw e run_nil
plays_run (plays_more e r p) = rw e (run_cons r (plays_run p))

-- one list behind another
run_on : {t t₁ t' : Tables} {ks ks' : List Call} {given given' : List (Answer Result)} → Run t ks given t₁ → Run t₁ ks' given' t'
    → Run t (ks ++ ks') (given ++ given') t'
run_on run_nil r = r
run_on (run_cons d q) r = run_cons d (run_on q r)

pub written_out_lem : WrittenOut
unfolding written_out
written_out_lem t t' _ _ steps_none = run_nil
written_out_lem t t' _ _ (steps_one {t₁ = t₁} d s) = run_cons d (written_out_lem t₁ t' _ _ s)
written_out_lem t t' _ _ (steps_all {t₁ = t₁} r s) = run_on (plays_run r.calls) (written_out_lem t₁ t' _ _ s)
