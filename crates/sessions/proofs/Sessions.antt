-- Calls with a true state are the public calls: call by call, then over every list. Assumes nothing.
use mathlib.Core.Path.{◌≡◌, sym, ap₂, subst}
use mathlib.Core.List.{List}
use Prim.Native.Nat.{ℕ}
use Rattle.history.specs.Words.{Operation}
use Rattle.history.specs.Results.{Result}
use Rattle.history.specs.Refusals.{Answer}
use Rattle.layout.specs.Tables.{Tables, tables}
use Rattle.layout.specs.Relations.{RecordedBy}
use Rattle.index_test.specs.declared.State.{State}
use Rattle.index_tested.specs.Kept.{Kept}
use Rattle.sessions.specs.Law.{Asked, recorded, found, block, carried, touched, next, last, shown, written, clocked, informed, Run, run_none, run_more, Public, RecordStep, Tested, Sessions}

record_step : (s : State) (scratch : ℕ) (o : Operation) (a : Answer Result) (t t' : Tables) → Kept s t → RecordStep s scratch o a t t' → RecordedBy scratch o t t' a × Kept s t'
record_step s scratch o a t t' k d =
    let one = d.tested.done t.nodes t.entries k in
    let same : tables t'.pieces t'.blocks t'.store t.nodes t.entries ≡ t' =
    ap₂ (λ (n e : List ℕ). tables t'.pieces t'.blocks t'.store n e) d.same_nodes d.same_entries in
    (subst (λ (x : Tables). RecordedBy scratch o t x a) same one.0, subst (λ (x : Tables). Kept s x) same one.1)

-- a read leaves the state true
stays : (s : State) (t t' : Tables) → t' ≡ t → Kept s t → Kept s t'
stays s t t' e k = subst (λ (x : Tables). Kept s x) (sym e) k

step : (s : State) (a : Asked) (t t' : Tables) → Kept s t → Tested s a t t' → Public a t t' × Kept s t'
step s (recorded scratch o a) t t' k d = record_step s scratch o a t t' k d
step s (found kind tick start stop out out' a) t t' k d = ((d.0.done t.pieces t.store k, d.1), stays s t t' d.1 k)
step s (block n a) t t' k d = ((d.0.done t.pieces t.nodes t.entries k, d.1), stays s t t' d.1 k)
step s (carried n bytes) t t' k d = ((d.0.done t.pieces t.nodes t.entries k, d.1), stays s t t' d.1 k)
step s (touched kind tick start stop out out' a) t t' k d = ((d.0.done t.pieces t.store k, d.1), stays s t t' d.1 k)
step s (next kind tick cell a) t t' k d = ((d.0.done t.pieces t.store k, d.1), stays s t t' d.1 k)
step s (last kind tick cell a) t t' k d = ((d.0.done t.pieces t.store k, d.1), stays s t t' d.1 k)
step s (shown kind tick start stop bytes bytes' held held' a) t t' k d = ((d.0.done t.pieces k, d.1), stays s t t' d.1 k)
step s (written out out' a) t t' k d = ((d.0.done t.pieces k, d.1), stays s t t' d.1 k)
step s (clocked cell a) t t' k d = ((d.0.done t.pieces t.store t.nodes t.entries k, d.1), stays s t t' d.1 k)
step s (informed a) t t' k d = ((d.0.done t.store k, d.1), stays s t t' d.1 k)

runs : (s : State) {t t' : Tables} {ks : List Asked} → Kept s t → Run (Tested s) t ks t' → Run Public t ks t' × Kept s t'
runs s k run_none = (run_none, k)
runs s {t} k (run_more {t₁} {k = a} d r) =
    let one = step s a t t₁ k d in
    let rest = runs s one.1 r in
    (run_more one.0 rest.0, rest.1)

pub sessions : Sessions
sessions s t t' ks k r = runs s k r
