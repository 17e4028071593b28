-- A ledger that is lent more answers every read alike, and takes what it took. Assumes nothing.
use mathlib.Core.Path.{◌≡◌, refl, sym, ◌∙◌}
use mathlib.Core.Bool.{Bool, true, false, ◌&&◌, not}
use mathlib.Core.List.{List, [], ◌∷◌}
use Prim.Native.Nat.{ℕ, ◌≤◌}
use native.Mathlib.Omega.{arith}
use lib.Dec.{ltb}
use borrow.Author.Tests.{ltb-false, le-ltb}
use Rattle.lists.proofs.Numbers.{or_left, or_right}
use Rattle.history.specs.Words.{Operation}
use Rattle.history.specs.Lent.{Lent, piece_rows, block_rows, node_rows, entry_rows, too_short, least_scratch}
use Rattle.history.specs.Ledger.{Ledger, is_read, record_by, finish_by, install_by, install_days_by}
use Rattle.history.specs.Results.{Result}
use Rattle.history.specs.Reads.{find_by, live_by, cells_by}
use Rattle.history.specs.Refusals.{accepted, Refusal, first_of, record_refusals, record_answer, finish_refusals, finish_answer, install_refusals, install_answer, days_refusals, days_answer, window_refusals, neighbour_refusals, block_refusals, clock_refusals, write_refusals}
use Rattle.history.proofs.Passing.{Passed, passed}
use Rattle.layout.proofs.Lengths.{Heads, heads_fit, fit_heads}
use Rattle.growth.specs.Longer.{lengthened, lent_more, ReadsAlike, TakesAlike}

-- longer tables have room for their heads
pub longer-heads : (more n : Lent) → too_short n ≡ false → too_short (lengthened more n) ≡ false
longer-heads more n e =
    let h : Heads n = heads_fit n e in
    fit_heads (lengthened more n)
    (record {
      pieces = omega (arith, h.pieces);
      blocks = omega (arith, h.blocks);
      nodes = omega (arith, h.nodes);
      entries = omega (arith, h.entries);
    })

-- ── reads ──

pub reads_alike : (more : Lent) (l : Ledger) → too_short l.opening.lent ≡ false → ReadsAlike l (lent_more more l)
unfolding find_by live_by cells_by window_refusals neighbour_refusals block_refusals clock_refusals write_refusals
reads_alike more l here =
    let there = longer-heads more l.opening.lent here in
    record {
      find = λ kind t s n answer. rw (here, there);
      touching = λ kind t s n answer. rw (here, there);
      next = λ kind t c. rw (here, there);
      last = λ kind t c. rw (here, there);
      cells = λ kind t s n bytes held. rw (here, there);
      block = λ k. rw (here, there);
      clock = λ c. rw (here, there);
      write = λ out. rw (here, there);
    }

-- ── record, finish and the two install calls ──

-- where no condition holds, the call is accepted
passing : {A : Type 0} (rs : List Refusal) (a : A) → Passed rs → first_of rs a ≡ accepted a
unfolding first_of
passing [] a p = refl
passing (r ∷ rs) a p = rw p.0 (passing rs a p.1)

-- so an accepted call gives what it is said to give
given : {A : Type 0} (rs : List Refusal) (a : A) {x : A} → first_of rs a ≡ accepted x → accepted a ≡ accepted x
given rs a e = sym (passing rs a (passed rs a e)) ∙ e

-- what is not too much for a table is not too much for a longer one
more_room : (update : Bool) (rows rows' many : ℕ) → rows ≤ rows' → (update && ltb rows many) ≡ false → (update && ltb rows' many) ≡ false
more_room true rows rows' many h e = le-ltb rows' many (omega (arith, ltb-false rows many e))
more_room false rows rows' many h e = refl

module _ (more : Lent) (l : Ledger) where
  abbrev here : Lent
  here = l.opening.lent

  abbrev there : Lent
  there = lengthened more here

  records : (scratch : ℕ) (o : Operation) (r : Result) → record_answer l scratch o ≡ accepted r → record_answer (lent_more more l) scratch o ≡ accepted r
  unfolding record_refusals first_of
  records scratch o r e =
      let p = passed (record_refusals l scratch o) _ e in
      let short = too_short here in
      let few = ltb scratch least_scratch in
      let update = not (is_read l.now o) in
      rw (
        longer-heads more here (or_left short few p.0),
        or_right short few p.0,
        p.1.0,
        p.1.1.0,
        p.1.1.1.0,
        p.1.1.1.1.0,
        p.1.1.1.1.1.0,
        p.1.1.1.1.1.1.0,
        p.1.1.1.1.1.1.1.0,
        more_room update (piece_rows here) (piece_rows there) _ (omega arith) p.1.1.1.1.1.1.1.1.0,
        more_room update (block_rows here) (block_rows there) _ (omega arith) p.1.1.1.1.1.1.1.1.1.0,
        more_room update here.store there.store _ (omega arith) p.1.1.1.1.1.1.1.1.1.1.0,
      )
      (given (record_refusals l scratch o) _ e)

  finishes : (r : Result) → finish_answer l ≡ accepted r → finish_answer (lent_more more l) ≡ accepted r
  unfolding finish_refusals first_of
  finishes r e =
      let p = passed (finish_refusals l) _ e in
      rw (
        longer-heads more here p.0,
        p.1.0,
        more_room true (node_rows here) (node_rows there) _ (omega arith) p.1.1.0,
        more_room true (entry_rows here) (entry_rows there) _ (omega arith) p.1.1.1.0,
      )
      (given (finish_refusals l) _ e)

  installs : (numbers : List ℕ) (r : Result) → install_answer l numbers ≡ accepted r → install_answer (lent_more more l) numbers ≡ accepted r
  unfolding install_refusals first_of
  installs numbers r e =
      let p = passed (install_refusals l numbers) _ e in
      rw (longer-heads more here p.0, p.1.0, p.1.1.0) (given (install_refusals l numbers) _ e)

  installs_days : (numbers : List ℕ) (r : Result) → days_answer l numbers ≡ accepted r → days_answer (lent_more more l) numbers ≡ accepted r
  unfolding days_refusals first_of
  installs_days numbers r e =
      let p = passed (days_refusals l numbers) _ e in
      rw (longer-heads more here p.0, p.1.0) (given (days_refusals l numbers) _ e)

  pub takes_alike : TakesAlike more l
  unfolding record_by finish_by install_by install_days_by
  takes_alike = record {
    records = records;
    recorded = λ o. refl;
    finishes = finishes;
    finished = refl;
    installs = installs;
    installed = λ numbers. refl;
    installs_days = installs_days;
    days_installed = λ numbers. refl;
  }
