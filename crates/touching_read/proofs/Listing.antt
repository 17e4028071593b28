-- The returns of `touching_closed`: over a closed index they are the ledger's answers. Assumes nothing.
use Rattle.std.specs.Prelude.{Option, Some, None}
use mathlib.Core.Path.{◌≡◌, refl, sym, ap, ◌∙◌}
use mathlib.Core.Logic.{inl, inr}
use mathlib.Core.Bool.{Bool, true, false, cond}
use mathlib.Core.List.{List, [], ◌∷◌}
use Prim.Native.Nat.{ℕ, ◌+◌, ◌≤◌, ◌<◌}
use native.Mathlib.Omega.{arith}
use lib.Dec.{ltb}
use mir.Val.{bool_byte}
use Rattle.std.specs.Option.{is_some}
use lib.ListN.{length, set}
use lib.Seq.{sets}
use borrow.Author.Tests.{le-leb, lt-leb, lt-ltb, le-ltb}
use Rattle.lists.proofs.Numbers.{le_or_lt}
use Rattle.lists.proofs.Stores.{set-sets}
use Rattle.history.specs.Find.{find}
use Rattle.history.specs.Tree.{tree_at}
use Rattle.history.specs.Ledger.{Ledger, finished, opens_kind}
use Rattle.history.specs.Reads.{find_by, touching_by}
use Rattle.history.specs.Refusals.{Answer, accepted, refused}
use Rattle.history.specs.Sound.{Sound}
use Rattle.history.proofs.ByKind.{kind_known}
use Rattle.tables.specs.Masks.{opens}
use Rattle.tables.specs.Columns.{block_column, head_end, head_kinds}
use Rattle.segment_table.specs.Closed.{TreeOf}
use Rattle.segment_near.specs.declared.Neighbour.{Neighbour}
use Rattle.segment_touch.specs.Placing.{Placed, Starts}
use Rattle.segment_touch.proofs.Agreeing.{starting_model}
use Rattle.layout.specs.Tables.{tables, tree_tables}
use Rattle.layout.specs.Encodes.{Encodes}
use Rattle.layout.specs.Reads.{HandedInto}
use Rattle.layout.proofs.Trees.{tree_known}
use Rattle.layout.proofs.ReadLaws.{opens_kind_lem, window_25, window_14, window_15, window_rest, into_refused, closed_refuses}
use Rattle.touching_read.specs.Reads.{OverAt, TouchingClosed}
use Rattle.live_blocks.proofs.Living.{closed_at}
use Rattle.touching_read.proofs.Starting.{started, touched_started, touched-over, touched_none}

-- ── what `starting` leaves ──

-- the list went into the answer
record Whole (list answer : List ℕ) (at : ℕ) (answer' : List ℕ) (count : ℕ) : Type 0 where
  fits : at + length list ≤ length answer
  many : count ≡ at + length list
  written : answer' ≡ sets answer at list

-- it is too long
record Short (list answer : List ℕ) (at : ℕ) (answer' : List ℕ) : Type 0 where
  long : length answer < at + length list
  kept : answer' ≡ answer

module _ {list answer : List ℕ} {at : ℕ} {answer' : List ℕ} {r : Option ℕ} (p : Placed list answer at answer' r) where
  placed-whole : {count : ℕ} → r ≡ Some count → Whole list answer at answer' count
  placed-whole {count} e =
      elim (le_or_lt (at + length list) (length answer)) [
        | inl h ↦
            let y : r ≡ Some (at + length list) = rw (le-leb (at + length list) (length answer) h) at p.result in
            record { fits = h; many = cc; written = rw (le-leb (at + length list) (length answer) h) at p.left }
        | inr h ↦
            let y : r ≡ None = rw (lt-leb (at + length list) (length answer) h) at p.result in
            let z : ◌≡◌ {A = ℕ} 0 1 = cc in
            absurd (omega arith)
      ]

  placed_short : r ≡ None → Short list answer at answer'
  placed_short e =
      elim (le_or_lt (at + length list) (length answer)) [
        | inl h ↦
            let y : r ≡ Some (at + length list) = rw (le-leb (at + length list) (length answer) h) at p.result in
            let z : ◌≡◌ {A = ℕ} 0 1 = cc in
            absurd (omega arith)
        | inr h ↦ record { long = h; kept = rw (lt-leb (at + length list) (length answer) h) at p.left }
      ]

-- in the kind's tree, up to the end that the head says
starts_in : {blocks nodes entries ns es : List ℕ} {kind own last tick start stop : ℕ} {out : List ℕ} {at : ℕ} {out' : List ℕ} {r : Option ℕ}
    → TreeOf blocks nodes entries kind ns es own last → Starts ns es own last tick start stop out at out' r
    → Starts nodes entries kind (block_column blocks 0 head_end) tick start stop out at out' r
starts_in t f = rw (← t.in_nodes, ← t.in_entries, ← t.own_kind, ← t.end) f

-- what it lists of a closed index
placed_started : {pieces blocks store nodes entries : List ℕ} {tick start stop : ℕ} {l : Ledger} {out : List ℕ} {at : ℕ} {out' : List ℕ} {r : Option ℕ}
    → (e : Encodes (tables pieces blocks store nodes entries) l) (s : Sound l) (done : finished l ≡ true) (kind : ℕ) (opened : opens_kind l kind ≡ true) (before : tick < l.opening.end)
    → Starts nodes entries kind (block_column blocks 0 head_end) tick start stop out at out' r
    → Placed (started l s done kind opened tick before start stop) out at out' r
unfolding find_by find
placed_started {pieces} {blocks} {store} {nodes} {entries} {tick} {start} {stop} {l} e s done kind opened before f =
    let t = tables pieces blocks store nodes entries in
    let k = tree_known t l e s kind (kind_known l.opening.kinds kind s.board.known_kinds opened) done in
    rw k.is
    (starting_model (tree_tables t) kind l.opening.end l.now.blocks (tree_at k.trees kind) k.stood k.some_tick k.order k.keys tick start stop
    (rw e.end at f))

-- ── the answers ──

-- the ledger's list, where it fits and where it does not
handed-whole : (ks out out' : List ℕ) (count : ℕ) → length ks ≤ length out → count ≡ length ks → out' ≡ sets out 0 ks
    → HandedInto length (λ x. x) out out' (accepted count) (cond (ltb (length out) (length ks)) (refused 16) (accepted ks))
handed-whole ks out out' count h c w = rw (le-ltb (length out) (length ks) h, c, w) (record { answered = refl; left = refl })

handed_short : (ks out out' : List ℕ) → length out < length ks → out' ≡ out
    → HandedInto length (λ x. x) out out' (refused 16) (cond (ltb (length out) (length ks)) (refused 16) (accepted ks))
handed_short ks out out' h w = rw (lt-ltb (length out) (length ks) h, w) (record { answered = refl; left = refl })

module _ {blocks nodes entries : List ℕ} {kind tick start stop : ℕ} (k : opens (block_column blocks 0 head_kinds) kind ≡ false) where
  pub touching_25 : {out : List ℕ} → TouchingClosed blocks nodes entries kind tick start stop out out (refused 25)
  touching_25 = record { touched = λ pieces store. closed_refuses (λ l enc done. window_25 enc done _ _ kind tick start stop k) into_refused }

module _ {blocks nodes entries ns es : List ℕ} {kind tick start stop own last : ℕ} (k : opens (block_column blocks 0 head_kinds) kind ≡ true)
    (t : TreeOf blocks nodes entries kind ns es own last) where
  pub touching_14 : {out : List ℕ} → last ≤ tick → TouchingClosed blocks nodes entries kind tick start stop out out (refused 14)
  touching_14 h = record { touched = λ pieces store. closed_refuses (λ l enc done. window_14 enc done _ _ kind tick start stop k (omega (arith, t.end))) into_refused }

  pub touching_15 : {out : List ℕ} → tick < last → stop < start → TouchingClosed blocks nodes entries kind tick start stop out out (refused 15)
  touching_15 h b = record { touched = λ pieces store. closed_refuses (λ l enc done. window_15 enc done _ _ kind tick start stop k (omega (arith, t.end)) b) into_refused }

  module _ (h : tick < last) (b : start ≤ stop) where
    -- by what is handed out for the ledger's list
    touching_by_lem : {out out' : List ℕ} {answer : Answer ℕ}
        → ((pieces store : List ℕ) (l : Ledger) → Encodes (tables pieces blocks store nodes entries) l → (s : Sound l) → (done : finished l ≡ true) → tick < l.opening.end
        → HandedInto length (λ x. x) out out' answer
        (cond (ltb (length out) (length (touching_by l kind tick start stop))) (refused 16) (accepted (touching_by l kind tick start stop))))
        → TouchingClosed blocks nodes entries kind tick start stop out out' answer
    touching_by_lem {out} f = record {
      touched = λ pieces store. record {
        closed = λ l enc s done.
            rw (window_rest enc done (touching_by l kind tick start stop) (ltb (length out) (length (touching_by l kind tick start stop))) kind tick start stop k (omega (arith, t.end)) b)
            (f pieces store l enc s done (omega (arith, enc.end, t.end)));
      };
    }

    -- an empty window
    pub touching_empty : {out : List ℕ} → start ≡ stop → TouchingClosed blocks nodes entries kind tick start stop out out (accepted 0)
    touching_empty {out} z =
        touching_by_lem (λ pieces store l enc s done before.
        rw (← touched_none l s done kind (opens_kind_lem enc kind ∙ k) tick before start stop (omega arith)) (handed-whole [] out out 0 (omega arith) refl refl))

    module _ {found : Option Neighbour} {out out₁ : List ℕ} {at : ℕ} {r : Option ℕ} (o : OverAt blocks nodes entries kind tick start found)
        (f : Starts ns es own last tick start stop out at out₁ r) where
      -- no block reaches over the start
      module _ (is : found ≡ None) (first : at ≡ 0) where
        plain : {pieces store : List ℕ} {l : Ledger} → (enc : Encodes (tables pieces blocks store nodes entries) l) (s : Sound l) (done : finished l ≡ true) → tick < l.opening.end
            → Placed (touching_by l kind tick start stop) out 0 out₁ r
        plain {store = store} {l} enc s done before =
            rw (← touched_started l s done kind (opens_kind_lem enc kind ∙ k) tick before start stop (o.nothing is store l (closed_at kind enc s done k (omega (arith, enc.end)))))
            (rw first at (placed_started enc s done kind (opens_kind_lem enc kind ∙ k) before (starts_in t f)))

        pub touching_listed : {count : ℕ} → r ≡ Some count → TouchingClosed blocks nodes entries kind tick start stop out out₁ (accepted count)
        touching_listed {count} q =
            touching_by_lem (λ pieces store l enc s done before.
            let w = placed-whole (plain enc s done before) q in
            handed-whole (touching_by l kind tick start stop) out out₁ count (omega (arith, w.fits)) (omega (arith, w.many)) w.written)

        pub touching_16 : r ≡ None → TouchingClosed blocks nodes entries kind tick start stop out out₁ (refused 16)
        touching_16 q =
            touching_by_lem (λ pieces store l enc s done before.
            let w = placed_short (plain enc s done before) q in
            handed_short (touching_by l kind tick start stop) out out₁ (omega (arith, w.long)) w.kept)

      -- one does, and comes first
      module _ {near : Neighbour} (is : found ≡ Some near) (second : at ≡ 1) (some : start ≡ stop → ⊥) where
        rest : {pieces store : List ℕ} {l : Ledger} → (enc : Encodes (tables pieces blocks store nodes entries) l) (s : Sound l) (done : finished l ≡ true) (before : tick < l.opening.end)
            → Placed (started l s done kind (opens_kind_lem enc kind ∙ k) tick before start stop) out 1 out₁ r
        rest enc s done before = rw second at (placed_started enc s done kind (opens_kind_lem enc kind ∙ k) before (starts_in t f))

        whole : {pieces store : List ℕ} {l : Ledger} → (enc : Encodes (tables pieces blocks store nodes entries) l) (s : Sound l) (done : finished l ≡ true) (before : tick < l.opening.end)
            → near.number ∷ started l s done kind (opens_kind_lem enc kind ∙ k) tick before start stop ≡ touching_by l kind tick start stop
        whole {store = store} {l} enc s done before =
            touched-over l s done kind (opens_kind_lem enc kind ∙ k) tick before start stop near.number (o.block near is store l (closed_at kind enc s done k (omega (arith, enc.end)))) (omega arith)

        pub touching_over : {count : ℕ} {out' : List ℕ} → r ≡ Some count → out' ≡ set out₁ 0 near.number → TouchingClosed blocks nodes entries kind tick start stop out out' (accepted count)
        touching_over {count} {out'} q put =
            touching_by_lem (λ pieces store l enc s done before.
            let w = placed-whole (rest enc s done before) q in
            rw (← whole enc s done before)
            (handed-whole (near.number ∷ started l s done kind (opens_kind_lem enc kind ∙ k) tick before start stop) out out' count (omega (arith, w.fits)) (omega (arith, w.many))
            (put ∙ ap (λ (x : List ℕ). set x 0 near.number) w.written ∙ sym (set-sets out 0 near.number 1 (started l s done kind (opens_kind_lem enc kind ∙ k) tick before start stop) (omega arith)))))

        pub touching_over_16 : r ≡ None → TouchingClosed blocks nodes entries kind tick start stop out out₁ (refused 16)
        touching_over_16 q =
            touching_by_lem (λ pieces store l enc s done before.
            let w = placed_short (rest enc s done before) q in
            rw (← whole enc s done before) (handed_short (near.number ∷ started l s done kind (opens_kind_lem enc kind ∙ k) tick before start stop) out out₁ (omega (arith, w.long)) w.kept))

      -- either way: its place is kept free where there is one
      pub touching_short : {q : Bool} → q ≡ is_some found → at ≡ bool_byte q → (start ≡ stop → ⊥) → r ≡ None → TouchingClosed blocks nodes entries kind tick start stop out out₁ (refused 16)
      touching_short {q} asked place some none_left = go found refl
        where
          go : (x : Option Neighbour) → found ≡ x → TouchingClosed blocks nodes entries kind tick start stop out out₁ (refused 16)
          go None is = touching_16 is (rw (asked, is) at place) none_left
          go (Some near) is = touching_over_16 is (rw (asked, is) at place) some none_left
