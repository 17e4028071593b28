-- Laws of the reads: what state and lengths say of a ledger in the tables, what a ledger of a closed index answers, and what is handed out for an
-- answer. Assumes nothing.
use mathlib.Core.Path.{◌≡◌, refl, sym, ap, ◌∙◌, subst}
use mathlib.Core.Logic.{⊎_elim}
use mathlib.Core.Bool.{Bool, true, false, cond, true≢false}
use mathlib.Core.Option.{Option, none, some}
use mathlib.Core.List.{List, [], ◌∷◌}
use Prim.Native.Nat.{ℕ, ◌+◌, ◌≤◌, ◌<◌}
use native.Mathlib.Omega.{arith}
use lib.ListN.{length}
use lib.Dec.{ltb}
use lib.Seq.{sets}
use borrow.Author.Tests.{le-leb, lt-leb, lt-ltb, le-ltb}
use Rattle.lists.proofs.Numbers.{le_or_lt}
use Rattle.history.specs.Lent.{too_short}
use Rattle.history.specs.Tree.{Tree}
use Rattle.history.specs.Ledger.{Ledger, finished, is_some, opens_kind}
use Rattle.history.specs.Reads.{block_by, clock_by}
use Rattle.history.specs.Refusals.{Answer, accepted, refused, Refusal, ◌if◌, first_of, tick_refusals, window_refusals, neighbour_refusals, block_refusals, block_answer, clock_refusals, clock_answer, write_refusals}
use Rattle.history.specs.File.{file_by, write_answer}
use Rattle.tables.specs.Masks.{opens, Opens}
use Rattle.tables.proofs.Masks.{kinds_has}
use Rattle.tables.specs.Columns.{head_state, head_end, head_kinds}
use Rattle.layout.specs.Tables.{Tables, head_at}
use Rattle.layout.specs.Encodes.{Encodes, state_of, open_state, closed_state}
use Rattle.layout.specs.Reads.{values_of, filled_by, HandedOut, HandedInto, ClosedBy}
use Rattle.layout.specs.Relations.{Fields, BlockHanded, BlockGivenBy}

-- ── a kind asked of the mask that was read ──

pub mask_opens : {column mask kind : ℕ} {o b : Bool} → mask ≡ column → Opens mask kind o → o ≡ b → opens column kind ≡ b
mask_opens {kind = kind} m is q = ap (λ (n : ℕ). opens n kind) (sym m) ∙ sym is.is ∙ q

-- ── a ledger in the tables ──

open_trees : (x : Option (List Tree)) → state_of x ≡ open_state → is_some x ≡ false
open_trees none e = refl
open_trees (some trees) e = absurd (omega arith)

closed_trees : (x : Option (List Tree)) → state_of x ≡ closed_state → is_some x ≡ true
closed_trees none e = absurd (omega arith)
closed_trees (some trees) e = refl

pub open_without_tree : (x : Option (List Tree)) → is_some x ≡ false → state_of x ≡ open_state
open_without_tree none e = refl
open_without_tree (some trees) e = absurd (true≢false e)

module _ {t : Tables} {l : Ledger} (e : Encodes t l) where
  -- its state
  pub still_open : head_at t head_state ≡ open_state → finished l ≡ false
  still_open s = open_trees l.trees (sym e.state ∙ s)

  pub is_closed : head_at t head_state ≡ closed_state → finished l ≡ true
  is_closed s = closed_trees l.trees (sym e.state ∙ s)

  -- its tables hold their heads
  pub heads-held : too_short l.opening.lent ≡ false
  heads-held = rw e.lengths e.heads

  -- its mask has the kinds that it was opened for
  pub opens_kind_lem : (kind : ℕ) → opens_kind l kind ≡ opens (head_at t head_kinds) kind
  opens_kind_lem kind = rw e.kinds (kinds_has (head_at t head_kinds) kind)

  -- so the clock shows the label of every cell, open or closed
  pub clock_there : (cell : ℕ) → clock_answer l cell ≡ accepted (clock_by l cell)
  unfolding clock_refusals first_of
  clock_there cell = rw heads-held

-- ── what a closed index answers at a tick ──

-- of every read of a kind at a tick, whatever it gives: 25, 14, and then what it refuses by itself
module _ {t : Tables} {l : Ledger} (e : Encodes t l) (done : finished l ≡ true) {A : Type 0} (given : A) (own : List Refusal) (kind tick : ℕ) where
  pub tick_25 : opens (head_at t head_kinds) kind ≡ false → first_of (tick_refusals l kind tick own) given ≡ refused 25
  unfolding first_of
  tick_25 k = rw (heads-held e, done, opens_kind_lem e kind ∙ k)

  module _ (k : opens (head_at t head_kinds) kind ≡ true) where
    pub tick_14 : head_at t head_end ≤ tick → first_of (tick_refusals l kind tick own) given ≡ refused 14
    unfolding first_of
    tick_14 h = rw (heads-held e, done, opens_kind_lem e kind ∙ k, le-leb l.opening.end tick (omega (arith, e.end)))

    pub tick_rest : tick < head_at t head_end → first_of (tick_refusals l kind tick own) given ≡ first_of own given
    unfolding first_of
    tick_rest h = rw (heads-held e, done, opens_kind_lem e kind ∙ k, lt-leb l.opening.end tick (omega (arith, e.end)))

-- of every read of a window
module _ {t : Tables} {l : Ledger} (e : Encodes t l) (done : finished l ≡ true) {A : Type 0} (given : A) (exceeds : Bool) (kind tick start stop : ℕ) where
  -- what it refuses by itself
  abbrev own : List Refusal
  own = 15 if ltb stop start ∷ 16 if exceeds ∷ []

  pub window_25 : opens (head_at t head_kinds) kind ≡ false → first_of (window_refusals l kind tick start stop exceeds) given ≡ refused 25
  unfolding window_refusals
  window_25 k = tick_25 e done given own kind tick k

  module _ (k : opens (head_at t head_kinds) kind ≡ true) where
    pub window_14 : head_at t head_end ≤ tick → first_of (window_refusals l kind tick start stop exceeds) given ≡ refused 14
    unfolding window_refusals
    window_14 h = tick_14 e done given own kind tick k h

    pub window_15 : tick < head_at t head_end → stop < start → first_of (window_refusals l kind tick start stop exceeds) given ≡ refused 15
    unfolding window_refusals first_of
    window_15 h b = tick_rest e done given own kind tick k h ∙ rw (lt-ltb stop start b)

    pub window_rest : tick < head_at t head_end → start ≤ stop
        → first_of (window_refusals l kind tick start stop exceeds) given ≡ cond exceeds (refused 16) (accepted given)
    unfolding window_refusals first_of
    window_rest h b = tick_rest e done given own kind tick k h ∙ rw (le-ltb stop start b)

-- of next and last
module _ {t : Tables} {l : Ledger} (e : Encodes t l) (done : finished l ≡ true) {A : Type 0} (given : A) (kind tick : ℕ) where
  pub neighbour_25 : opens (head_at t head_kinds) kind ≡ false → first_of (neighbour_refusals l kind tick) given ≡ refused 25
  unfolding neighbour_refusals
  neighbour_25 k = tick_25 e done given [] kind tick k

  module _ (k : opens (head_at t head_kinds) kind ≡ true) where
    pub neighbour_14 : head_at t head_end ≤ tick → first_of (neighbour_refusals l kind tick) given ≡ refused 14
    unfolding neighbour_refusals
    neighbour_14 h = tick_14 e done given [] kind tick k h

    pub neighbour_rest : tick < head_at t head_end → first_of (neighbour_refusals l kind tick) given ≡ accepted given
    unfolding neighbour_refusals first_of
    neighbour_rest h = tick_rest e done given [] kind tick k h

-- ── what it answers to a number, and to write ──

module _ {t : Tables} {l : Ledger} (e : Encodes t l) (done : finished l ≡ true) where
  pub block_there : (k : ℕ) → k < length l.now.blocks → block_answer l k ≡ accepted (block_by l k)
  unfolding block_refusals first_of
  block_there k h = rw (heads-held e, done, lt-leb (length l.now.blocks) k h)

  pub block_15 : (k : ℕ) → length l.now.blocks ≤ k → block_answer l k ≡ refused 15
  unfolding block_refusals first_of
  block_15 k h = rw (heads-held e, done, le-leb (length l.now.blocks) k h)

  pub write_fits : (out : ℕ) → length (file_by l) ≤ out → write_answer l out ≡ accepted (file_by l)
  unfolding write_refusals first_of
  write_fits out h = rw (heads-held e, done, le-ltb out (length (file_by l)) h)

  pub write_16 : (out : ℕ) → out < length (file_by l) → write_answer l out ≡ refused 16
  unfolding write_refusals first_of
  write_16 out h = rw (heads-held e, done, lt-ltb out (length (file_by l)) h)

-- ── what is handed out ──

-- a refusal: its number
pub out_refused : {A B : Type 0} {values : A → B} {n : ℕ} → HandedOut values (refused n) (refused n)
out_refused = record { answered = refl }

module _ {A B : Type 0} {values : A → B} {part : A → List ℕ} where
  -- a refusal: its number, and the slice as it was
  pub into_refused : {out : List ℕ} {n : ℕ} → HandedInto values part out out (refused n) (refused n)
  into_refused = record { answered = refl; left = refl }

  module _ {out out' : List ℕ} {answer : Answer B} {x : Answer A} (h : HandedInto values part out out' answer x) where
    pub into_gives : {a : A} → x ≡ accepted a → (answer ≡ accepted (values a)) × (out' ≡ sets out 0 (part a))
    into_gives e = (h.answered ∙ ap (values_of values) e, h.left ∙ ap (λ (y : Answer A). filled_by part y out) e)

    pub into_refuses : {n : ℕ} → x ≡ refused n → (answer ≡ refused n) × (out' ≡ out)
    into_refuses e = (h.answered ∙ ap (values_of values) e, h.left ∙ ap (λ (y : Answer A). filled_by part y out) e)

-- a closed index that refuses
pub closed_refuses : {A : Type 0} {t : Tables} {asked : Ledger → Answer A} {Handed : Answer A → Type 0} {n : ℕ}
    → ((l : Ledger) → Encodes t l → finished l ≡ true → asked l ≡ refused n) → Handed (refused n) → ClosedBy t asked Handed
closed_refuses {A} {Handed = Handed} refuses h = record { closed = λ l e s done. subst (λ (x : Answer A). Handed x) (sym (refuses l e done)) h }

-- a read of a kind at a tick, whatever it gives: refused by the mask and the end that were read, or by what it refuses itself
module _ {t : Tables} {A : Type 0} {Handed : Answer A → Type 0} (own : Ledger → List Refusal) (given : Ledger → A) {kind mask : ℕ} (tick : ℕ) {o : Bool}
    (m : mask ≡ head_at t head_kinds) (is : Opens mask kind o) where
  pub closed_25 : o ≡ false → Handed (refused 25) → ClosedBy t (λ l. first_of (tick_refusals l kind tick (own l)) (given l)) Handed
  closed_25 q h = closed_refuses (λ l e done. tick_25 e done (given l) (own l) kind tick (mask_opens m is q)) h

  module _ (q : o ≡ true) {end : ℕ} (at_end : end ≡ head_at t head_end) where
    pub closed_14 : end ≤ tick → Handed (refused 14) → ClosedBy t (λ l. first_of (tick_refusals l kind tick (own l)) (given l)) Handed
    closed_14 late h = closed_refuses (λ l e done. tick_14 e done (given l) (own l) kind tick (mask_opens m is q) (omega arith)) h

    pub closed_own : {n : ℕ} → tick < end → ((l : Ledger) → first_of (own l) (given l) ≡ refused n) → Handed (refused n)
        → ClosedBy t (λ l. first_of (tick_refusals l kind tick (own l)) (given l)) Handed
    closed_own in_time refuses h = closed_refuses (λ l e done. tick_rest e done (given l) (own l) kind tick (mask_opens m is q) (omega arith) ∙ refuses l) h

-- ── block by number ──

pub block_refused : {t : Tables} {k n : ℕ} → BlockHanded t k (refused n) (refused n)
block_refused = record { answered = refl; bytes_there = refl; whole = λ f e. let z : ◌≡◌ {A = ℕ} 0 1 = cc in absurd (omega arith) }

-- the bytes of the fields that it answers are in the store, whatever the tables are
pub block_whole : {t : Tables} {k : ℕ} {f : Fields} → BlockGivenBy t k (accepted f) → f.offset + f.length ≤ length t.store
block_whole {t} {k} {f} b =
    ⊎_elim (λ (h : f.offset + f.length ≤ length t.store). h)
    (λ (past : length t.store < f.offset + f.length).
    absurd (never (b.read.unformed (λ w. let here = (b.read.formed w.ledger w.encodes w.sound).whole f refl in omega arith)).answered))
    (le_or_lt (f.offset + f.length) (length t.store))
  where
    never : ◌≡◌ {A = Answer Fields} (accepted f) (refused 2) → ⊥
    never e = let z : ◌≡◌ {A = ℕ} 0 1 = cc in omega arith
