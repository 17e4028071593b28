-- Rule 24 of blocks against pieces: one step for each turn and each return of the tests. Assumes nothing.
use mathlib.Core.Path.{◌≡◌, sym, ap, subst, ◌∙◌}
use mathlib.Core.Bool.{Bool, true, false}
use mathlib.Core.Logic.{◌⊎◌, ⊎_elim}
use mathlib.Core.List.{List, ◌∷◌, map}
use Prim.Native.Nat.{ℕ, ◌+◌, ◌-◌, ◌≤◌, ◌<◌, ◌^◌}
use native.Mathlib.Omega.{arith}
use Rattle.std.specs.Prelude.{Option, Some, None}
use lib.Dec.{ltb}
use borrow.Author.Tests.{ltb-true, ltb-false, not-true, not-false}
use Rattle.lists.specs.Lists.{All, all_cons}
use Rattle.lists.specs.Tests.{Decides}
use Rattle.lists.proofs.Lists.{all_append, all_map, all_both, all_right, all_any}
use Rattle.lists.proofs.Numbers.{confirm, refute, decides_iff, eq_or_ne}
use Rattle.history.specs.Words.{line_of, cell_place}
use Rattle.tables.specs.Columns.{column, piece_owner}
use Rattle.tables.specs.Sums.{plus_up_to}
use Rattle.block_table.specs.Blocks.{first_cell_at, place_at, length_at, created_at, destroyed_at, owner_at}
use Rattle.merge_set.specs.Table.{first_at, StartsBelow}
use Rattle.piece_table.specs.declared.Piece.{Piece}
use Rattle.piece_table.specs.Piece.{PieceRow, row_end, read_at, piece_at, Filled, Follow}
use Rattle.piece_table.specs.Rep.{Rep}
use Rattle.piece_table.specs.Calls.{Sought}
use Rattle.piece_table.proofs.Lines.{same_kind}
use Rattle.piece_table.proofs.Order.{follow_filled, follow_right}
use Rattle.piece_table.proofs.Seeing.{rep_follow, Seen, seen_none, seen-some}
use Rattle.ends_apart.specs.Rows.{NoWrap}
use Rattle.index_finish.specs.Apart.{Meets, Crosses, Uncrossed, PiecesClear, BlockClear, BlocksClear}

-- ── the returns of `pieces_clear` ──

-- none of the pieces meets
abbrev Clear : (place end destroyed : ℕ) → List PieceRow → Type 0
Clear place e d ps = All (λ (p : PieceRow). Meets place e d p → ⊥) ps

-- pieces that end at the place or before it do not
left_clear : (place e d : ℕ) {ps : List PieceRow} → All (λ (p : PieceRow). row_end p ≤ place) ps → Clear place e d ps
left_clear place e d l = all_map (λ p h m. omega (arith, m.after)) l

-- nor do those that start at the end or behind it
right_clear : (place e d : ℕ) {ps : List PieceRow} → All (λ (p : PieceRow). e ≤ p.first) ps → Clear place e d ps
right_clear place e d l = all_map (λ p h m. omega (arith, m.before)) l

-- where the sought piece ends, if it starts before the end: it is of the kind, and the sum does not pass the largest number
sought-ends : {t : List ℕ} {link : ℕ} (kind place e : ℕ) {next : ℕ} {p : Piece} {ps : List PieceRow} → Seen t (cell_place kind place) link ps → e < 2 ^ 64 → first_at t link < cell_place kind e
    → p ≡ read_at t link → next ≡ plus_up_to p.first p.size → cell_place kind next ≡ row_end (piece_at t link)
sought-ends {t} {link} kind place e {next} n small before pe ne =
    let own : column t link piece_owner ≡ kind = same_kind (piece_at t link) n.whole kind place e small n.past before in
    let cut : next ≡ plus_up_to (read_at t link).first (read_at t link).size = rw pe at ne in
    omega (arith, cut, n.whole.near, ap line_of own)

starts_before : {t : List ℕ} {link kind e : ℕ} {starts : Bool} → StartsBelow t link kind e starts → starts ≡ true → first_at t link < cell_place kind e
starts_before {t} {link} {kind} {e} tested q = ltb-true (first_at t link) (cell_place kind e) (sym tested.is ∙ q)

module _ {t : List ℕ} {kind place e d : ℕ} where
  -- no piece of the kind ends behind the largest number
  pub clear_spent : 2 ^ 64 - 1 ≤ place → e < 2 ^ 64 → PiecesClear t kind place e d true
  clear_spent h small = record { decides = λ ps r. confirm (all_map none (follow_filled 0 ps (rep_follow r))) }
    where
      none : (p : PieceRow) → Filled p → Meets (cell_place kind place) (cell_place kind e) d p → ⊥
      none p f m = let own = same_kind p f kind place e small m.after m.before in omega (arith, f.near, m.after, ap line_of own)

  pub clear_none : {out : Option ℕ} → Sought t (cell_place kind place) out → out ≡ None → PiecesClear t kind place e d true
  clear_none s z = record { decides = λ ps r. confirm (left_clear (cell_place kind place) (cell_place kind e) d (seen_none s r z)) }

  -- by the test whether the sought piece starts before the end
  module _ {link : ℕ} {starts : Bool} {out : Option ℕ} (s : Sought t (cell_place kind place) out) (is : out ≡ Some link) (tested : StartsBelow t link kind e starts) where
    pub clear_past : starts ≡ false → PiecesClear t kind place e d true
    clear_past q = record { decides = λ ps r. confirm (go ps (seen-some s r is)) }
      where
        h : cell_place kind e ≤ first_at t link
        h = ltb-false (first_at t link) (cell_place kind e) (sym tested.is ∙ q)

        go : (ps : List PieceRow) → Seen t (cell_place kind place) link ps → Clear (cell_place kind place) (cell_place kind e) d ps
        go ps n =
            let f : Follow (cell_place kind e) (piece_at t link ∷ map (piece_at t) n.ys) = (h, n.whole, n.after) in
            subst (Clear (cell_place kind place) (cell_place kind e) d) (sym n.is)
            (all_append (left_clear (cell_place kind place) (cell_place kind e) d n.left) (right_clear (cell_place kind place) (cell_place kind e) d (follow_right (cell_place kind e) (cell_place kind e) _ (omega arith) f)))

    module _ (q : starts ≡ true) where
      pub clear_met : {p : Piece} → p ≡ read_at t link → p.written < d → PiecesClear t kind place e d false
      clear_met {p} pe l = record { decides = λ ps r. refute (go ps (seen-some s r is)) }
        where
          go : (ps : List PieceRow) → Seen t (cell_place kind place) link ps → Clear (cell_place kind place) (cell_place kind e) d ps → ⊥
          go ps n c =
              first (all_right (map (piece_at t) n.xs) (piece_at t link ∷ map (piece_at t) n.ys) (subst (Clear (cell_place kind place) (cell_place kind e) d) n.is c))
            where
              early : (piece_at t link).written < d
              early = rw pe at l

              first : Clear (cell_place kind place) (cell_place kind e) d (piece_at t link ∷ map (piece_at t) n.ys) → ⊥
              first (all_cons h ps) = h (record { after = n.past; before = starts_before tested q; early = early })

      module _ {p : Piece} {next : ℕ} (small : e < 2 ^ 64) (pe : p ≡ read_at t link) (ne : next ≡ plus_up_to p.first p.size) where
        pub clear_stuck : next ≤ place → PiecesClear t kind place e d true
        clear_stuck h = record { decides = λ ps r. absurd (let n : Seen t (cell_place kind place) link ps = seen-some s r is in omega (arith, n.past, sought-ends kind place e n small (starts_before tested q) pe ne)) }

        -- past a piece that does not meet, those behind it are left
        pub clear_more : {r : Bool} → d ≤ p.written → PiecesClear t kind next e d r → PiecesClear t kind place e d r
        clear_more {r} l rest = record { decides = λ ps rep. decides_iff r (back ps (seen-some s rep is)) (on ps (seen-some s rep is)) (rest.decides ps rep) }
          where
            back : (ps : List PieceRow) → Seen t (cell_place kind place) link ps → Clear (cell_place kind next) (cell_place kind e) d ps → Clear (cell_place kind place) (cell_place kind e) d ps
            back ps n c =
                subst (Clear (cell_place kind place) (cell_place kind e) d) (sym n.is)
                (all_append (left_clear (cell_place kind place) (cell_place kind e) d n.left) (all_cons (λ m. omega (arith, late, m.early)) behind))
              where
                late : d ≤ (piece_at t link).written
                late = rw pe at l

                later : Clear (cell_place kind next) (cell_place kind e) d (piece_at t link ∷ map (piece_at t) n.ys) → Clear (cell_place kind next) (cell_place kind e) d (map (piece_at t) n.ys)
                later (all_cons p ps) = ps

                x : ℕ
                x = row_end (piece_at t link)

                ended : cell_place kind next ≡ row_end (piece_at t link)
                ended = sought-ends kind place e n small (starts_before tested q) pe ne

                after : All (λ (q : PieceRow). cell_place kind next < row_end q) (map (piece_at t) n.ys)
                after =
                    all_both (λ q low fill. omega (arith, ended, fill.some)) (follow_right x x (map (piece_at t) n.ys) (omega arith) n.after)
                    (follow_filled x (map (piece_at t) n.ys) n.after)

                behind : Clear (cell_place kind place) (cell_place kind e) d (map (piece_at t) n.ys)
                behind =
                    all_both (λ q a c m. c (record { after = a; before = m.before; early = m.early })) after
                    (later (all_right (map (piece_at t) n.xs) (piece_at t link ∷ map (piece_at t) n.ys) (subst (Clear (cell_place kind next) (cell_place kind e) d) n.is c)))

            on : (ps : List PieceRow) → Seen t (cell_place kind place) link ps → Clear (cell_place kind place) (cell_place kind e) d ps → Clear (cell_place kind next) (cell_place kind e) d ps
            on ps n c = all_map (λ p h m. h (record { after = omega (arith, m.after, n.past, sought-ends kind place e n small (starts_before tested q) pe ne); before = m.before; early = m.early })) c

-- ── the loop of `pieces_clear` ──

-- what the test from a cell on says, is said of all
pub record ClearAhead (t : List ℕ) (kind first e d place : ℕ) : Type 0 where
  pub whole : (r : Bool) → PiecesClear t kind place e d r → PiecesClear t kind first e d r

pub ahead_start : {t : List ℕ} {kind first e d : ℕ} → ClearAhead t kind first e d first
ahead_start = record { whole = λ r a. a }

pub ahead_turn : {t : List ℕ} {kind first e d place link next : ℕ} {starts : Bool} {out : Option ℕ} {p : Piece} → ClearAhead t kind first e d place → Sought t (cell_place kind place) out
    → out ≡ Some link → StartsBelow t link kind e starts → starts ≡ true → e < 2 ^ 64 → p ≡ read_at t link → next ≡ plus_up_to p.first p.size → d ≤ p.written
    → ClearAhead t kind first e d next
ahead_turn a s is tested q small pe ne l = record { whole = λ r rest. a.whole r (clear_more s is tested q small pe ne l rest) }

pub ahead_end : {t : List ℕ} {kind first e d place : ℕ} {r : Bool} → ClearAhead t kind first e d place → PiecesClear t kind place e d r
    → PiecesClear t kind first e d r
ahead_end {r = r} a b = a.whole r b

pub ruleset seeking = (ahead_start, ahead_turn, ahead_end, clear_spent, clear_none, clear_past, clear_met, clear_stuck, not-true, not-false)

-- ── the returns of `block_clear` ──

module _ {t b : List ℕ} {link created destroyed : ℕ} (ec : created ≡ created_at b link) (ed : destroyed ≡ destroyed_at b link) where
  pub block_lifeless : {lives : Bool} → lives ≡ ltb created destroyed → lives ≡ false → BlockClear t b link true
  block_lifeless el h =
      let ended : destroyed ≤ created = ltb-false created destroyed (sym el ∙ h) in
      record { decides = λ ps r _. confirm (all_any ps (λ p c. omega (arith, c.lives))) }

  pub block_tested : {kind first length end : ℕ} {lives r : Bool} → lives ≡ ltb created destroyed → lives ≡ true → kind ≡ owner_at b link → first ≡ first_cell_at b link → length ≡ length_at b link → end ≡ plus_up_to first length
      → PiecesClear t kind first end destroyed r → BlockClear t b link r
  block_tested {kind} {first} {length} {end} {r = r} eh h ek ef el ee d = record {
    decides = λ ps rep w.
        let alive : created < destroyed = ltb-true created destroyed (sym eh ∙ h) in
        let low : cell_place kind first ≡ place_at b link = rw (ek, ef) in
        let sum : end ≡ first + length = omega arith in
        let high : cell_place kind end ≡ place_at b link + length_at b link = rw (sum, ek, ef, el) (omega arith) in
        let here : Decides r (All (λ (p : PieceRow). Meets (place_at b link) (place_at b link + length_at b link) (destroyed_at b link) p → ⊥) ps) = rw (low, high, ed) at (d.decides ps rep) in
        decides_iff r (λ c. all_map (λ p n x. n x.meets) c) (λ c. all_map (λ p n m. n (record { lives = omega (arith, alive); meets = m })) c) here;
  }

pub ruleset clearing = (block_lifeless, block_tested, not-true, not-false)

-- ── the loop of `blocks_clear` ──

-- the blocks up to k are looked at
pub record ClearTo (t b : List ℕ) (n k : ℕ) : Type 0 where
  pub within : k ≤ n
  pub clear : (ps : List PieceRow) → Rep t ps → NoWrap b n → Uncrossed b k ps

pub clear_start : {t b : List ℕ} {n : ℕ} → ClearTo t b n 0
clear_start = record { within = omega arith; clear = λ ps r w. record { clear = λ link a c. absurd (omega arith) } }

pub clear_turn : {t b : List ℕ} {n k : ℕ} {q : Bool} → ClearTo t b n k → k < n → BlockClear t b (k + 1) q → q ≡ true → ClearTo t b n (k + 1)
clear_turn {t} {b} {n} {k} a h d e = record { within = omega arith; clear = λ ps r w. record { clear = λ link l u. go ps r w link l u (eq_or_ne link (k + 1)) } }
  where
    go : (ps : List PieceRow) → Rep t ps → NoWrap b n → (link : ℕ) → 0 < link → link ≤ k + 1 → (link ≡ k + 1) ⊎ (link ≡ k + 1 → ⊥)
        → All (λ (p : PieceRow). Crosses b link p → ⊥) ps
    go ps r w link l u x =
        ⊎_elim (λ i. subst (λ (x : ℕ). All (λ (p : PieceRow). Crosses b x p → ⊥) ps) (sym i) ((d.decides ps r (w.each (k + 1) (omega arith) (omega arith))).yes e))
        (λ n. (a.clear ps r w).clear link l (omega arith)) x

pub clear_fails : {t b : List ℕ} {n k : ℕ} {q : Bool} → k < n → BlockClear t b (k + 1) q → q ≡ false → BlocksClear t b n false
clear_fails {k = k} h d e = record {
  decides = λ ps r w. refute (λ u. (d.decides ps r (w.each (k + 1) (omega arith) (omega arith))).not e (u.clear (k + 1) (omega arith) (omega arith)));
}

pub clear_end : {t b : List ℕ} {n k : ℕ} → ClearTo t b n k → n ≤ k → BlocksClear t b n true
clear_end a h = record { decides = λ ps r w. confirm (record { clear = λ link l u. (a.clear ps r w).clear link l (omega arith) }) }

pub ruleset passing = (clear_start, clear_turn, clear_fails, clear_end, not-true, not-false)
