-- An accepted call passed every refusal: what is known of it. Assumes nothing.
use mathlib.Core.Path.{◌≡◌, refl}
use mathlib.Core.Bool.{Bool, true, false, cond, ◌&&◌, ◌||◌, not}
use mathlib.Core.List.{List, [], ◌∷◌}
use Prim.Native.Nat.{ℕ, ◌+◌, ◌-◌, ◌^◌, ◌≤◌, ◌<◌}
use native.Mathlib.Omega.{arith}
use lib.Dec.{leb, ltb, eqb}
use lib.ListN.{length}
use borrow.Author.Tests.{ltb-false, leb-false, eqb-false, not-false}
use Rattle.lists.specs.Lists.{All}
use Rattle.lists.proofs.Numbers.{or_left, or_right, decides_leb}
use Rattle.history.specs.Words.{Operation}
use Rattle.history.specs.Lent.{Lent, piece_rows, block_rows, node_rows, entry_rows}
use Rattle.history.specs.Tree.{trees_of, nodes_in, entries_all}
use Rattle.history.specs.Ledger.{Opening, Moment, Ledger, finished, opens_kind, is_read, update_by, settled}
use Rattle.history.specs.Rules.{every}
use Rattle.history.specs.Results.{Result}
use Rattle.history.specs.Refusals.{accepted, refused, Refusal, first_of, max_end_tick, open_refusals, open_answer, record_refusals, record_answer, finish_refusals, finish_answer, install_refusals, install_answer, days_refusals, days_answer}
use Rattle.history.proofs.RulesLaws.{every_decides}
use Rattle.history.specs.Hours.{calendar_of, calendar_taken}
use Rattle.history.specs.Days.{days_of, days_taken}

-- no condition of the list holds
abbrev pub Passed : List Refusal → Type 0
Passed [] = Unit {0}
Passed (r ∷ rs) = (r.holds ≡ false) × Passed rs

pub passed : {A : Type 0} (rs : List Refusal) (a : A) {x : A} → first_of rs a ≡ accepted x → Passed rs
unfolding first_of
passed [] a e = tt
passed {A} (r ∷ rs) a {x} e = go r.holds refl e (λ f. passed rs a f)
  where
    go : (b : Bool) → r.holds ≡ b → cond b (refused r.number) (first_of rs a) ≡ accepted x → (first_of rs a ≡ accepted x → Passed rs) → Passed (r ∷ rs)
    go true q e k = let z : ◌≡◌ {A = ℕ} 0 1 = cc in absurd (omega arith)
    go false q e k = (q, k e)

nonzero : {n : ℕ} → (n ≡ 0 → ⊥) → 0 < n
nonzero {n} h = omega arith

-- ── opening ──

pub record Opens (a : Opening) : Type 0 where
  pub some_tick : 1 ≤ a.end
  pub end_most : a.end ≤ max_end_tick
  pub some_kind : 0 < length a.kinds
  pub known_kinds : All (λ kind. kind ≤ 4) a.kinds

pub opens : (a : Opening) → open_answer a ≡ accepted tt → Opens a
unfolding open_refusals
opens a e =
    let p = (passed _ tt e).0 in
    let q = or_left (ticks || eqb (length a.kinds) 0) (not (every (λ kind. leb kind 4) a.kinds)) p in
    let r = or_left ticks (eqb (length a.kinds) 0) q in
    record {
      some_tick = nonzero (eqb-false _ _ (or_left (eqb a.end 0) (ltb max_end_tick a.end) r));
      end_most = ltb-false _ _ (or_right (eqb a.end 0) (ltb max_end_tick a.end) r);
      some_kind = nonzero (eqb-false _ _ (or_right ticks (eqb (length a.kinds) 0) q));
      known_kinds =
          (every_decides (λ kind. leb kind 4) (λ kind. decides_leb kind 4) a.kinds).yes
          (not-false _ (or_right (ticks || eqb (length a.kinds) 0) (not (every (λ kind. leb kind 4) a.kinds)) p));
    }
  where
    ticks : Bool
    ticks = eqb a.end 0 || ltb max_end_tick a.end

-- ── record ──

-- what is known of an accepted operation
pub record Taken (l : Ledger) (o : Operation) : Type 0 where
  pub still_open : finished l ≡ false
  pub own_kind : opens_kind l o.kind ≡ true
  pub some_cell : 0 < length o.bytes
  pub no_wrap : o.first + length o.bytes ≤ 2 ^ 64 - 1
  pub before_end : o.tick < l.opening.end
  pub not_back : l.now.last ≤ o.tick

-- and of the board that an accepted update leaves
pub record Room (lent : Lent) (m : Moment) : Type 0 where
  pub pieces : length m.pieces ≤ piece_rows lent
  pub blocks : length m.blocks + length m.pieces ≤ block_rows lent
  pub store : length m.store ≤ lent.store

pub taken : (l : Ledger) (scratch : ℕ) (o : Operation) {r : Result} → record_answer l scratch o ≡ accepted r → Taken l o
unfolding record_refusals
taken l scratch o e =
    let p = passed _ _ e in
    record {
      still_open = p.1.0;
      own_kind = not-false _ p.1.1.0;
      some_cell = nonzero (eqb-false _ _ p.1.1.1.0);
      no_wrap = ltb-false _ _ p.1.1.1.1.0;
      before_end = leb-false _ _ p.1.1.1.1.1.0;
      not_back = ltb-false _ _ p.1.1.1.1.1.1.0;
    }

pub room : (l : Ledger) (scratch : ℕ) (o : Operation) {r : Result} → record_answer l scratch o ≡ accepted r → is_read l.now o ≡ false
    → Room l.opening.lent (update_by l.now o)
unfolding record_refusals
room l scratch o e u =
    let p = passed _ _ e in
    let next = update_by l.now o in
    record {
      pieces = ltb-false _ _ (really p.1.1.1.1.1.1.1.1.0);
      blocks = ltb-false _ _ (really p.1.1.1.1.1.1.1.1.1.0);
      store = ltb-false _ _ (really p.1.1.1.1.1.1.1.1.1.1.0);
    }
  where
    really : {b : Bool} → (not (is_read l.now o) && b) ≡ false → b ≡ false
    really h = rw u at h

-- ── finish ──

pub record Finishes (l : Ledger) : Type 0 where
  pub still_open : finished l ≡ false
  pub nodes : nodes_in (trees_of l.opening.end (settled l.opening.end l.now)) ≤ node_rows l.opening.lent
  pub entries : entries_all (trees_of l.opening.end (settled l.opening.end l.now)) ≤ entry_rows l.opening.lent

pub finishes : (l : Ledger) {r : Result} → finish_answer l ≡ accepted r → Finishes l
unfolding finish_refusals
finishes l e =
    let p = passed _ _ e in
    record { still_open = p.1.0; nodes = ltb-false _ _ p.1.1.0; entries = ltb-false _ _ p.1.1.1.0 }

-- ── install ──

pub record Installs (l : Ledger) (numbers : List ℕ) : Type 0 where
  pub still_open : finished l ≡ false
  pub taken : calendar_taken (calendar_of numbers) ≡ true

pub installs : (l : Ledger) (numbers : List ℕ) {r : Result} → install_answer l numbers ≡ accepted r → Installs l numbers
unfolding install_refusals
installs l numbers e =
    let p = passed _ _ e in
    record { still_open = p.1.0; taken = not-false _ p.1.1.0 }

pub days_installs : (l : Ledger) (numbers : List ℕ) {r : Result} → days_answer l numbers ≡ accepted r → days_taken (days_of numbers) ≡ true
unfolding days_refusals
days_installs l numbers e = not-false _ (passed _ _ e).1.0
