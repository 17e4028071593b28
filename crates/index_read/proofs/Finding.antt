-- The returns of `find_closed`: over a closed index they are the ledger's answers. Assumes nothing.
use mathlib.Core.Path.{◌≡◌, refl, subst}
use mathlib.Core.Logic.{◌⊎◌, inl, inr}
use mathlib.Core.Bool.{Bool, true, false, cond}
use mathlib.Core.List.{List}
use Prim.Native.Nat.{ℕ, ◌≤◌, ◌<◌}
use native.Mathlib.Omega.{arith}
use lib.Dec.{ltb}
use lib.ListN.{length}
use borrow.Author.Tests.{le-leb, lt-leb, lt-ltb, le-ltb}
use Rattle.lists.proofs.Numbers.{le_or_lt}
use Rattle.history.specs.Tree.{tree_at}
use Rattle.history.specs.Ledger.{Ledger, finished}
use Rattle.history.specs.Reads.{Found, find_by}
use Rattle.history.specs.Refusals.{Answer, accepted, refused}
use Rattle.history.specs.Sound.{Sound}
use Rattle.tables.specs.Columns.{block_column, head_end, head_kinds}
use Rattle.segment_table.specs.Closed.{TreeOf}
use Rattle.tables.specs.Masks.{Opens}
use Rattle.tables.proofs.Masks.{opens_low}
use Rattle.segment_find.specs.Listing.{Fills, Finds}
use Rattle.segment_find.proofs.Agreeing.{find_model}
use Rattle.segment_find.specs.declared.Found as listing
use Rattle.std.specs.Prelude.{Option, Some, None}
use Rattle.layout.specs.Tables.{Tables, tables, head_at, tree_tables}
use Rattle.layout.specs.Encodes.{Encodes}
use Rattle.layout.specs.Reads.{HandedInto}
use Rattle.layout.specs.Relations.{Counts, counts_of}
use Rattle.layout.proofs.Trees.{tree_known}
use Rattle.layout.proofs.ReadLaws.{mask_opens, window_25, window_14, window_15, window_rest, into_refused, closed_refuses}
use Rattle.index_read.specs.Reads.{FindClosed}

-- what the search gives is what the ledger lists
fills_found : (t : Tables) (l : Ledger) → Encodes t l → Sound l → finished l ≡ true → (kind tick start stop : ℕ) {out out' : List ℕ} {r : Option listing.Found} → kind ≤ 4
    → Finds t.nodes t.entries kind (head_at t head_end) tick start stop out out' r
    → Fills (find_by l kind tick start stop).numbers (find_by l kind tick start stop).visited out out' r
unfolding find_by
fills_found t l e s done kind tick start stop low f =
    let k = tree_known t l e s kind low done in
    rw k.is
    (find_model (tree_tables t) kind l.opening.end l.now.blocks (tree_at k.trees kind) k.stood k.some_tick k.order k.keys tick start stop
    (rw e.end at f))

-- ── the answers ──

-- document 01's answer of what the search gives
abbrev answer_of : Option listing.Found → Answer Counts
answer_of (Some f) = accepted (record { count = f.count; visited = f.visited })
answer_of None = refused 16

-- by whether the numbers fit
fills_handed : (f : Found) (out out' : List ℕ) (r : Option listing.Found) → Fills f.numbers f.visited out out' r
    → HandedInto counts_of (λ g. g.numbers) out out' (answer_of r) (cond (ltb (length out) (length f.numbers)) (refused 16) (accepted f))
fills_handed f out out' r x = go (le_or_lt (length f.numbers) (length out))
  where
    go : (length f.numbers ≤ length out) ⊎ (length out < length f.numbers)
        → HandedInto counts_of (λ g. g.numbers) out out' (answer_of r) (cond (ltb (length out) (length f.numbers)) (refused 16) (accepted f))
    go (inl h) =
        let w = le-leb (length f.numbers) (length out) h in
        rw (le-ltb (length out) (length f.numbers) h, rw w at x.result, rw w at x.left) (record { answered = refl; left = refl })
    go (inr h) =
        let w = lt-leb (length f.numbers) (length out) h in
        rw (lt-ltb (length out) (length f.numbers) h, rw w at x.result, rw w at x.left) (record { answered = refl; left = refl })

-- ── the returns ──

-- in the tree of the kind, by the end tick that the head says
finds_in : {blocks nodes entries ns es : List ℕ} {kind own last tick start stop : ℕ} {out out' : List ℕ} {r : Option listing.Found} → TreeOf blocks nodes entries kind ns es own last
    → Finds ns es own last tick start stop out out' r
    → Finds nodes entries kind (block_column blocks 0 head_end) tick start stop out out' r
finds_in t f = rw (← t.in_nodes, ← t.in_entries, ← t.own_kind, ← t.end) f

module _ {blocks nodes entries : List ℕ} {kind tick start stop mask : ℕ} {o : Bool} (m : mask ≡ block_column blocks 0 head_kinds) (is : Opens mask kind o) where
  pub find_25 : {out : List ℕ} → o ≡ false → FindClosed blocks nodes entries kind tick start stop out out (refused 25)
  find_25 q = record {
    found = λ pieces store. closed_refuses (λ l enc done. window_25 enc done _ _ kind tick start stop (mask_opens m is q)) into_refused;
  }

  module _ (q : o ≡ true) {ns es : List ℕ} {own last : ℕ} (t : TreeOf blocks nodes entries kind ns es own last) where
    pub find_14 : {out : List ℕ} → last ≤ tick → FindClosed blocks nodes entries kind tick start stop out out (refused 14)
    find_14 h = record { found = λ pieces store. closed_refuses (λ l enc done. window_14 enc done _ _ kind tick start stop (mask_opens m is q) (omega (arith, t.end))) into_refused }

    pub find_15 : {out : List ℕ} → tick < last → stop < start → FindClosed blocks nodes entries kind tick start stop out out (refused 15)
    find_15 h b = record { found = λ pieces store. closed_refuses (λ l enc done. window_15 enc done _ _ kind tick start stop (mask_opens m is q) (omega (arith, t.end)) b) into_refused }

    module _ {out out' : List ℕ} {r : Option listing.Found} (h : tick < last) (b : start ≤ stop) (f : Finds ns es own last tick start stop out out' r) where
      find_any : FindClosed blocks nodes entries kind tick start stop out out' (answer_of r)
      find_any = record {
        found = λ pieces store. record {
          closed = λ l enc s done.
              let low = opens_low (block_column blocks 0 head_kinds) kind (mask_opens m is q) in
              let found = fills_found (tables pieces blocks store nodes entries) l enc s done kind tick start stop low (finds_in t f) in
              let handed = fills_handed (find_by l kind tick start stop) out out' r found in
              rw (window_rest enc done (find_by l kind tick start stop) (ltb (length out) (length (find_by l kind tick start stop).numbers)) kind tick start stop (mask_opens m is q) (omega (arith, t.end)) b) handed;
        };
      }

      pub find-listed : {f : listing.Found} → r ≡ Some f
          → FindClosed blocks nodes entries kind tick start stop out out' (accepted (record { count = f.count; visited = f.visited }))
      find-listed q = subst (λ (x : Option listing.Found). FindClosed blocks nodes entries kind tick start stop out out' (answer_of x)) q find_any

      pub find_16 : r ≡ None → FindClosed blocks nodes entries kind tick start stop out out' (refused 16)
      find_16 q = subst (λ (x : Option listing.Found). FindClosed blocks nodes entries kind tick start stop out out' (answer_of x)) q find_any

pub ruleset finding = (find_25, find_14, find_15, find-listed, find_16, arith)
