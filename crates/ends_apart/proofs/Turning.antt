-- H1 along the rows: one step for each return and each turn. Assumes nothing.
use mathlib.Core.Path.{◌≡◌, refl, subst, sym, ap, ◌∙◌}
use mathlib.Core.Bool.{Bool, true, false}
use mathlib.Core.Logic.{◌⊎◌, inl, inr}
use mathlib.Core.List.{List}
use Prim.Native.Nat.{ℕ, ◌+◌, ◌-◌, ◌≤◌, ◌<◌}
use native.Mathlib.Omega.{arith}
use lib.ListN.{length, get_or}
use Rattle.std.specs.Bool.{MatchBool}
use Rattle.std.specs.List.{AllWithin, range_with_len}
use Rattle.std.proofs.lemmas.List.FromFn.{length-range_with_len, get_or-range_with_len}
use lib.Dec.{ltb}
use borrow.Author.Tests.{ltb-false, not-true, not-false}
use Rattle.lists.proofs.Numbers.{lt_or_le}
use Rattle.tables.specs.Sums.{plus_up_to}
use Rattle.block_table.specs.Blocks.{first_cell_at, length_at, destroyed_at, owner_at}
use Rattle.block_table.specs.declared.Row.{Row}
use Rattle.block_table.specs.RowRead.{Reads}
use Rattle.ends_apart.specs.Rows.{LivesAt, CellAt, NoWrap}
use Rattle.ends_apart.specs.declared.Tops.{Tops}
use Rattle.ends_apart.specs.declared.Run.{Run}
use Rattle.ends_apart.specs.Turns.{EndsApart, HasCell, Parted, ClearBack, top_in, TopOf, Pushed, Follows, Met, Continues, SeenApart}

-- ── the return of `clear_back` ──

-- what `all` over a range says of each number in it
pub each_below : (P : ℕ → Type 0) (No : Type 0) {low k : ℕ} {r : Bool} → MatchBool r (AllWithin P (range_with_len low (k - low)) 0 (length (range_with_len low (k - low)))) No → r ≡ true
    → (i : ℕ) → low ≤ i → i < k → P i
each_below P No {low} {k} m e i a b =
    subst P {x = get_or (range_with_len low (k - low)) (i - low) 0} {y = i} (omega (arith, get_or-range_with_len low (k - low) (i - low) 0 (omega arith)))
    ((rw e at m) (i - low) 0 (omega arith) (omega (arith, length-range_with_len low (k - low))))

-- the row behind i is clear of the other
pub record RowClear (blocks : List ℕ) (own : Row) (i : ℕ) : Type 0 where
  pub clear : LivesAt blocks (i + 1) → (kind cell : ℕ) → CellAt blocks (i + 1) kind cell → HasCell own kind cell → ⊥

-- a row that was read has the cells of its link
read_cell : {blocks : List ℕ} {link kind cell : ℕ} {row : Row} → Reads blocks link row → CellAt blocks link kind cell → HasCell row kind cell
read_cell r c = record { own = r.owner ∙ c.own; from = omega (arith, r.first, c.from); below = omega (arith, r.first, r.length, c.below) }

pub row_clear : {blocks : List ℕ} {i : ℕ} {own row : Row} → Reads blocks (i + 1) row → Parted row own true → RowClear blocks own i
row_clear r p = record { clear = λ lives kind cell c o. p.shown refl (omega (arith, r.created, r.destroyed, lives)) kind cell (read_cell r c) o }

pub rows_clear : {blocks : List ℕ} {low k : ℕ} {own : Row} {r : Bool} → (r ≡ true → (i : ℕ) → low ≤ i → i < k → RowClear blocks own i) → ClearBack blocks low k own r
rows_clear {blocks} each = record {
  shown = λ e i a b.
      let z : i - 1 + 1 ≡ i = omega arith in
      rw z at ((each e (i - 1) (omega arith) (omega arith)).clear);
}

-- ── the returns of `with` ──

-- it is the last row, or one before
last_or : (i k : ℕ) → i ≤ k + 1 → (i ≡ k + 1) ⊎ (i ≤ k)
last_or i k h = elim (lt_or_le k i) [ inl g ↦ inl (omega arith) | inr g ↦ inr g ]

-- H1 with one row more
apart_more : {blocks : List ℕ} {k : ℕ} → EndsApart blocks k
    → ((i : ℕ) → 0 < i → i ≤ k → LivesAt blocks i → LivesAt blocks (k + 1) → destroyed_at blocks i ≡ destroyed_at blocks (k + 1)
    → (kind cell : ℕ) → CellAt blocks i kind cell → CellAt blocks (k + 1) kind cell → ⊥) → EndsApart blocks (k + 1)
apart_more {blocks} {k} own new = record { apart = go }
  where
    go : (i j : ℕ) → 0 < i → i < j → j ≤ k + 1 → LivesAt blocks i → LivesAt blocks j → destroyed_at blocks i ≡ destroyed_at blocks j
        → (kind cell : ℕ) → CellAt blocks i kind cell → CellAt blocks j kind cell → ⊥
    go i j a b c li lj e kind cell ci cj =
        elim (last_or j k c) [
          | inl q ↦ new i a (omega arith) li (rw q at lj) (rw q at e) kind cell ci (rw q at cj)
          | inr q ↦ own.apart i j a b q li lj e kind cell ci cj
        ]

module _ {blocks : List ℕ} {row : Row} (link : ℕ) (r : Reads blocks link row) (i : ℕ) (e : i ≡ link) where
  last_ends : {end : ℕ} → 0 < link → NoWrap blocks link → end ≡ plus_up_to row.first row.length → first_cell_at blocks i + length_at blocks i ≤ end
  last_ends some w is = rw e (omega (arith, is, r.first, r.length, w.each link some (omega arith)))

  last_dies : destroyed_at blocks i ≡ row.destroyed
  last_dies = rw e (omega (arith, r.destroyed))

  -- it ends by the top of its kind
  last_top : {end : ℕ} {from next : Tops} → 0 < link → NoWrap blocks link → end ≡ plus_up_to row.first row.length → Pushed from row.owner end next
      → first_cell_at blocks i + length_at blocks i ≤ top_in next (owner_at blocks i)
  last_top {end} {from} {next} some w is up =
      let o : owner_at blocks i ≡ row.owner = rw e (sym r.owner) in
      let same : top_in next (owner_at blocks i) ≡ top_in next row.owner = ap (top_in next) o in
      omega (arith, last_ends some w is, up.own)

-- every row with a life so far is destroyed by the tick
early : {blocks : List ℕ} {run : Run} {k : ℕ} → Met blocks k run → (i : ℕ) → 0 < i → i ≤ k → LivesAt blocks i → destroyed_at blocks i ≤ run.tick
early {run = run} s i a b l = elim (lt_or_le run.low i) [ inl q ↦ omega (arith, s.since i q b l) | inr q ↦ omega (arith, s.before i a q l) ]

module _ {blocks : List ℕ} {run : Run} {k : ℕ} {row : Row} where
  pub goes_lifeless : {lives : Bool} → lives ≡ ltb row.created row.destroyed → lives ≡ false → Continues blocks run k row run
  goes_lifeless el f = record { met = go }
    where
      d : row.destroyed ≤ row.created
      d = ltb-false row.created row.destroyed (sym el ∙ f)

      go : Reads blocks (k + 1) row → NoWrap blocks (k + 1) → Met blocks k run → Met blocks (k + 1) run
      go r w s =
          let dead : (i : ℕ) → i ≡ k + 1 → LivesAt blocks i → ⊥ = λ i e l. omega (arith, d, r.created, r.destroyed, rw e at l) in
          record {
            within = omega (arith, s.within);
            before = s.before;
            since = λ i a b l. elim (last_or i k b) [ inl e ↦ absurd (dead i e l) | inr q ↦ s.since i a q l ];
            ends = λ i a b l. elim (last_or i k b) [ inl e ↦ absurd (dead i e l) | inr q ↦ s.ends i a q l ];
            own = apart_more s.own (λ i a b li lj. absurd (dead (k + 1) (omega arith) lj));
          }

  pub goes_later : {end : ℕ} {from next : Tops} → run.tick < row.destroyed → end ≡ plus_up_to row.first row.length → Pushed from row.owner end next
      → Continues blocks run k row (record { tick = row.destroyed; tops = next; low = k })
  goes_later {end} {from} {next} d is up = record { met = go }
    where
      go : Reads blocks (k + 1) row → NoWrap blocks (k + 1) → Met blocks k run → Met blocks (k + 1) (record { tick = row.destroyed; tops = next; low = k })
      go r w s =
          record {
            within = omega arith;
            before = λ i a b l. omega (arith, early s i a b l);
            since = λ i a b l. last_dies (k + 1) r i (omega arith);
            ends = λ i a b l. last_top (k + 1) r i (omega arith) (omega arith) w is up;
            own = apart_more s.own (λ i a b li lj e. absurd (omega (arith, early s i a b li, e, last_dies (k + 1) r (k + 1) (omega arith))));
          }

  pub goes_on : {q : Bool} {end : ℕ} {next : Tops} → row.destroyed ≤ run.tick → run.tick ≤ row.destroyed → Follows blocks run k row q → q ≡ true
      → end ≡ plus_up_to row.first row.length → Pushed run.tops row.owner end next
      → Continues blocks run k row (record { tick = run.tick; tops = next; low = run.low })
  goes_on {q} {end} {next} d d' f y is up = record { met = go }
    where
      go : Reads blocks (k + 1) row → NoWrap blocks (k + 1) → Met blocks k run → Met blocks (k + 1) (record { tick = run.tick; tops = next; low = run.low })
      go r w s =
          record {
            within = omega (arith, s.within);
            before = s.before;
            since = λ i a b l. elim (last_or i k b) [ inl e ↦ omega (arith, last_dies (k + 1) r i e) | inr g ↦ s.since i a g l ];
            ends = λ i a b l. elim (last_or i k b) [ inl e ↦ last_top (k + 1) r i e (omega arith) w is up | inr g ↦ omega (arith, s.ends i a g l, up.kept (owner_at blocks i)) ];
            own = apart_more s.own (λ i a b li lj e kind cell ci cj.
                elim (lt_or_le run.low i) [
                  | inl g ↦ f.shown y s.ends i g b li kind cell ci (read_cell r cj)
                  | inr g ↦ omega (arith, s.before i a g li, e, last_dies (k + 1) r (k + 1) (omega arith))
                ]);
          }

-- ── the return of `clear_of` ──

-- those of its kind end before it
pub behind_top : {blocks : List ℕ} {run : Run} {k : ℕ} {own : Row} {top : ℕ} {r : Bool} → TopOf run.tops own.owner top → top ≤ own.first → Follows blocks run k own r
behind_top {blocks} {run} {own = own} t h = record {
  shown = λ _ ends i a b lives kind cell c o.
      let same : top_in run.tops (owner_at blocks i) ≡ top_in run.tops own.owner = ap (top_in run.tops) (c.own ∙ sym o.own) in
      omega (arith, ends i a b lives, c.below, o.from, t.is);
}

pub ruleset going = (goes_lifeless, goes_later, goes_on, not-true, not-false)

-- ── the turns and the return of `ends_apart` ──

pub record Turns (blocks : List ℕ) (n k : ℕ) (run : Run) : Type 0 where
  pub to : NoWrap blocks n → Met blocks k run

pub turns_start : {blocks : List ℕ} {n : ℕ} → Turns blocks n 0 (record { tick = 0; tops = record { constant = 0; memory = 0; register = 0; unique = 0; other = 0 }; low = 0 })
turns_start = record {
  to = λ w. record {
    within = omega arith;
    before = λ i a b. absurd (omega arith);
    since = λ i a b. absurd (omega arith);
    ends = λ i a b. absurd (omega arith);
    own = record { apart = λ i j a b c. absurd (omega arith) };
  };
}

pub turns_more : {blocks : List ℕ} {n k : ℕ} {run next : Run} {row : Row} → Turns blocks n k run → k < n → Reads blocks (k + 1) row
    → Continues blocks run k row next → Turns blocks n (k + 1) next
turns_more {k = k} t h r c = record { to = λ w. c.met r (record { each = λ i a b. w.each i a (omega arith) }) (t.to w) }

pub turns_end : {blocks : List ℕ} {n k : ℕ} {run : Run} → Turns blocks n k run → n ≤ k → SeenApart blocks n true
turns_end t h = record { shown = λ _ w. record { apart = λ i j a b c. (t.to w).own.apart i j a b (omega arith) } }

pub ruleset turning = (turns_start, turns_more, turns_end)
