-- `seek`: the descent finds what a walk along the list would. Assumes nothing.
use mathlib.Core.Bool.{Bool, true, false, cond, not, false≢true}
use mathlib.Core.Logic.{◌⊎◌, inl, inr}
use mathlib.Core.List.{List, [], ◌∷◌, ◌++◌, map, append_assoc, append-nil}
use mathlib.Core.Path.{◌≡◌, refl, sym, ap, ◌∙◌}
use Prim.Native.Nat.{ℕ, ◌+◌, ◌-◌, ◌/◌, ◌^◌, ◌≤◌, ◌<◌}
use native.Mathlib.Omega.{arith}
use lib.Dec.{ltb}
use lib.ListN.{length}
use borrow.Author.Tests.{le-ltb, lt-ltb, ltb-true, ltb-false, not-true}
use Rattle.std.specs.Prelude.{Option, Some, None}
use Rattle.std.proofs.lemmas.Option.{none-some}
use Rattle.lists.proofs.Numbers.{lt_or_le}
use Rattle.lists.proofs.Lists.{all_append, all_left, all_right, all_head, all_tail, mem_split}
use Rattle.lists.proofs.Maps.{map-append}
use Rattle.lists.specs.Lists.{All, all_nil, all_cons, Mem, here, there, Ascending}
use Rattle.lists.specs.Tests.{Decides}
use Rattle.history.specs.Words.{line_of, cell_place}
use Rattle.history.proofs.ByKind.{line_next}
use Rattle.tables.specs.Columns.{column, piece_length, piece_first, piece_owner, pieces_root, pieces_count, piece_right, piece_left}
use Rattle.merge_set.proofs.Links.{Put, found, put_at, mem_unput}
use Rattle.merge_set.proofs.Order.{ascending_left, ascending_right, ascending_across, ascending_tail}
use Rattle.merge_set.specs.Table.{Shape, first_at}
use Rattle.merge_set.specs.Tree.{Tree, leaf, node, height, rows}
use Rattle.piece_table.proofs.Order.{follow_ends}
use Rattle.piece_table.proofs.Removing.{linked_depth, linked_dense, linked_valid}
use Rattle.piece_table.specs.Calls.{end_at, EndsPast, OnLine, EndsAfter, sought, first_past, SoughtFrom, Heads, Met, IfAny, link_of, Sought, HasCell, HasEnded, Ended}
use Rattle.piece_table.specs.Piece.{PieceRow, row_end, piece_at, Follow}
use Rattle.piece_table.specs.Rep.{Linked}
use Rattle.piece_table.specs.declared.Found.{Found}

-- ── `ends_past`, `ends_after` ──

pub ends-past_other : {owner first size kind cell : ℕ} → (owner ≡ kind → ⊥) → cell < 2 ^ 64 → EndsPast owner first size kind cell (ltb kind owner)
ends-past_other {owner} {first} {size} {kind} {cell} n small =
    record { is = λ fits. go fits (lt_or_le kind owner); same = λ e. absurd (n e); other = λ m. refl }
  where
    go : first + size ≤ 2 ^ 64 → (kind < owner) ⊎ (owner ≤ kind) → ltb kind owner ≡ ltb (cell_place kind cell) (cell_place owner first + size)
    go fits (inl h) = lt-ltb kind owner h ∙ sym (lt-ltb (cell_place kind cell) (cell_place owner first + size) (omega (arith, line_next kind owner h)))
    go fits (inr h) = le-ltb kind owner h ∙ sym (le-ltb (cell_place kind cell) (cell_place owner first + size) (omega (arith, line_next owner kind (omega arith))))

pub ends-past_low : {owner first size kind cell : ℕ} → owner ≡ kind → cell < first → EndsPast owner first size kind cell true
ends-past_low {owner} {first} {size} {kind} {cell} e h =
    let same = ap line_of e in
    record {
      is = λ fits. sym (lt-ltb (cell_place kind cell) (cell_place owner first + size) (omega arith));
      same = λ q. sym (lt-ltb cell (first + size) (omega arith));
      other = λ n. absurd (n e);
    }

pub ends-past_rest : {owner first size kind cell : ℕ} → owner ≡ kind → first ≤ cell → EndsPast owner first size kind cell (ltb (cell - first) size)
ends-past_rest {owner} {first} {size} {kind} {cell} same h =
    record { is = λ fits. go (ltb (cell - first) size) refl; same = λ q. cells (ltb (cell - first) size) refl; other = λ n. absurd (n same) }
  where
    cells : (q : Bool) → ltb (cell - first) size ≡ q → ltb (cell - first) size ≡ ltb cell (first + size)
    cells true e = e ∙ sym (lt-ltb cell (first + size) (omega (arith, ltb-true (cell - first) size e)))
    cells false e = e ∙ sym (le-ltb cell (first + size) (omega (arith, ltb-false (cell - first) size e)))

    go : (q : Bool) → ltb (cell - first) size ≡ q → ltb (cell - first) size ≡ ltb (cell_place kind cell) (cell_place owner first + size)
    go true e = let line = ap line_of same in e ∙ sym (lt-ltb (cell_place kind cell) (cell_place owner first + size) (omega (arith, ltb-true (cell - first) size e)))
    go false e = let line = ap line_of same in e ∙ sym (le-ltb (cell_place kind cell) (cell_place owner first + size) (omega (arith, ltb-false (cell - first) size e)))

pub ends-after_done : {t : List ℕ} {k kind cell owner first size : ℕ} {q : Bool} → owner ≡ column t k piece_owner → first ≡ column t k piece_first → size ≡ column t k piece_length
    → EndsPast owner first size kind cell q → EndsAfter t k kind cell q
ends-after_done eo ef es e =
    record {
      is = λ on. rw (← eo, ← ef, ← es) (e.is (omega (arith, on.fits)));
      same = λ q. rw (← ef, ← es) (e.same (eo ∙ q));
      other = λ n. rw (← eo) (e.other (λ q. n (sym eo ∙ q)));
    }

-- ── the model ──

module _ (end : ℕ → ℕ) (place : ℕ) where
  -- what stands behind one that ends past the place is not looked at
  past_here : (best x : ℕ) (xs ys : List ℕ) → ltb place (end x) ≡ true → first_past end place best (xs ++ x ∷ ys) ≡ first_past end place x xs
  unfolding first_past
  past_here best x [] ys e = rw e
  past_here best x (w ∷ xs) ys e = ap (λ (r : ℕ). cond (ltb place (end w)) w r) (past_here best x xs ys e)

  -- what ends at or before the place is passed over
  past-over : (best : ℕ) (xs ys : List ℕ) → ((j : ℕ) → Mem j xs → end j ≤ place) → first_past end place best (xs ++ ys) ≡ first_past end place best ys
  unfolding first_past
  past-over best [] ys h = refl
  past-over best (x ∷ xs) ys h = rw (le-ltb place (end x) (h x (here refl))) (past-over best xs ys (λ j m. h j (there m)))

  -- where the ends ascend, the descent finds the first of the list
  pub sought-rows : (best : ℕ) (T : Tree) → Ascending end (rows T) → sought end place best T ≡ first_past end place best (rows T)
  unfolding sought first_past rows
  sought-rows best leaf a = refl
  sought-rows best (node A x B) a = go (ltb place (end x)) refl (sought-rows x A (ascending_left end (rows A) (x ∷ rows B) a)) (sought-rows best B (ascending_tail end (ascending_right end (rows A) (x ∷ rows B) a)))
    where
      go : (q : Bool) → ltb place (end x) ≡ q → sought end place x A ≡ first_past end place x (rows A) → sought end place best B ≡ first_past end place best (rows B)
          → cond q (sought end place x A) (sought end place best B) ≡ first_past end place best (rows A ++ x ∷ rows B)
      go true e f g = f ∙ sym (past_here best x (rows A) (rows B) e)
      go false e f g =
          g
          ∙ sym (past-over best (rows A) (x ∷ rows B) (λ j m. omega (arith, ascending_across end (rows A) (x ∷ rows B) a j x m (here refl), ltb-false place (end x) e)) ∙ past_next e)
        where
          past_next : ltb place (end x) ≡ false → first_past end place best (x ∷ rows B) ≡ first_past end place best (rows B)
          past_next e = rw e

-- the search goes on bare links: where it found none, its number is 0
abbrev HeadsAt : (t : List ℕ) (place out : ℕ) → List ℕ → Type 0
HeadsAt t place out [] = out ≡ 0
HeadsAt t place out (x ∷ xs) = (out ≡ x) × (place < end_at t x)

record MetAt (t : List ℕ) (place out : ℕ) (links : List ℕ) : Type 0 where
  front : List ℕ
  back : List ℕ
  is : links ≡ front ++ back
  left : All (λ (p : PieceRow). row_end p ≤ place) (map (piece_at t) front)
  head : HeadsAt t place out back

-- the list splits where the first that ends past the place stands
met : (t : List ℕ) (place : ℕ) (xs : List ℕ) → MetAt t place (first_past (end_at t) place 0 xs) xs
unfolding first_past
met t place [] = record { front = []; back = []; is = refl; left = all_nil; head = refl }
met t place (x ∷ xs) = go (ltb place (end_at t x)) refl (met t place xs)
  where
    go : (q : Bool) → ltb place (end_at t x) ≡ q → MetAt t place (first_past (end_at t) place 0 xs) xs → MetAt t place (cond q x (first_past (end_at t) place 0 xs)) (x ∷ xs)
    go true e m = record { front = []; back = x ∷ xs; is = refl; left = all_nil; head = (refl, ltb-true place (end_at t x) e) }
    go false e m =
        record {
          front = x ∷ m.front;
          back = m.back;
          is = ap (λ (l : List ℕ). x ∷ l) m.is;
          left = all_cons (ltb-false place (end_at t x) e) m.left;
          head = m.head;
        }

-- ── `seek_from` ──

-- on the way down: what the rest of the way finds, the whole finds
pub record Sinks (t : List ℕ) (link kind cell best fuel at found left : ℕ) : Type 0 where
  pub rest : (o : ℕ) → SoughtFrom t at (cell_place kind cell) found left o → SoughtFrom t link (cell_place kind cell) best fuel o

pub sinks_start : {t : List ℕ} {link kind cell best fuel left : ℕ} → left ≡ fuel → Sinks t link kind cell best fuel link best left
sinks_start e = record { rest = λ o s. rw e at s }

module _ {t : List ℕ} {link kind cell best fuel at found left : ℕ} (w : Sinks t link kind cell best fuel at found left) where
  abbrev place : ℕ
  place = cell_place kind cell

  pub sinks_leaf : at ≡ 0 → SoughtFrom t link place best fuel found
  unfolding Shape sought
  sinks_leaf z = w.rest found (record { says = go })
    where
      go : (T : Tree) → Shape t at T → height T ≤ left → All (OnLine t) (rows T) → found ≡ sought (end_at t) place found T
      go leaf s h on = refl
      go (node a x b) s h on = absurd (omega (arith, s.is, s.valid.some))

  pub sinks_end : left ≤ 0 → SoughtFrom t link place best fuel found
  unfolding Shape height sought
  sinks_end z = w.rest found (record { says = go })
    where
      go : (T : Tree) → Shape t at T → height T ≤ left → All (OnLine t) (rows T) → found ≡ sought (end_at t) place found T
      go leaf s h on = refl
      go (node a x b) s h on = absurd (omega arith)

  pub sinks_far : {many : ℕ} → many ≡ length t / 8 → many ≤ at → (at ≡ 0 → ⊥) → SoughtFrom t link place best fuel found
  unfolding Shape sought
  sinks_far {many} e far nz = w.rest found (record { says = go })
    where
      go : (T : Tree) → Shape t at T → height T ≤ left → All (OnLine t) (rows T) → found ≡ sought (end_at t) place found T
      go leaf s h on = absurd (nz s)
      go (node a x b) s h on = absurd (omega (arith, s.is, s.valid.room))

  module _ {q : Bool} {owner first size : ℕ} (nz : at ≡ 0 → ⊥) (eo : owner ≡ column t at piece_owner) (ef : first ≡ column t at piece_first)
      (es : size ≡ column t at piece_length) (eq : EndsPast owner first size kind cell q) where
    -- the test of the row, which does not wrap
    tested : {x : ℕ} → at ≡ x → OnLine t x → ltb place (end_at t x) ≡ q
    tested e on =
        let fits : first + size ≤ 2 ^ 64 = rw (ef, es, e) on.fits in
        rw (← e, ← eo, ← ef, ← es) (sym (eq.is fits))

    pub sinks_left : {m after : ℕ} → q ≡ true → m ≡ column t at piece_left → after ≡ left - 1 → Sinks t link kind cell best fuel m at after
    unfolding Shape height sought rows
    sinks_left {m} y em less = record { rest = λ o p. w.rest o (record { says = go o (rw less at p) }) }
      where
        go : (o : ℕ) → SoughtFrom t m place at (left - 1) o → (T : Tree) → Shape t at T → height T ≤ left → All (OnLine t) (rows T) → o ≡ sought (end_at t) place found T
        go o p leaf s h on = absurd (nz s)
        go o p (node A x B) s h on =
            let test : ltb place (end_at t x) ≡ true = tested s.is (all_head (all_right (rows A) (x ∷ rows B) on)) ∙ y in
            let p' : SoughtFrom t m place x (left - 1) o = rw s.is at p in
            rw test (p'.says A (rw (em, s.is) s.left) (omega arith) (all_left (rows A) (x ∷ rows B) on))

    pub sinks_right : {m after : ℕ} → q ≡ false → m ≡ column t at piece_right → after ≡ left - 1 → Sinks t link kind cell best fuel m found after
    unfolding Shape height sought rows
    sinks_right {m} n em less = record { rest = λ o p. w.rest o (record { says = go o (rw less at p) }) }
      where
        go : (o : ℕ) → SoughtFrom t m place found (left - 1) o → (T : Tree) → Shape t at T → height T ≤ left → All (OnLine t) (rows T) → o ≡ sought (end_at t) place found T
        go o p leaf s h on = absurd (nz s)
        go o p (node A x B) s h on =
            let test : ltb place (end_at t x) ≡ false = tested s.is (all_head (all_right (rows A) (x ∷ rows B) on)) ∙ n in
            rw test (p.says B (rw (em, s.is) s.right) (omega arith) (all_tail (all_right (rows A) (x ∷ rows B) on)))

-- ── `search` ──

-- what is found, of the number that the search ends with
module _ {f : Found} {out : Option Found} (any : IfAny f out) where
  told_none : f.link ≡ 0 → link_of out ≡ None
  told_none z = let e : ltb 0 f.link ≡ false = rw z refl in rw (any.is, e) refl

  told-some : {x : ℕ} → f.link ≡ x → 0 < x → link_of out ≡ Some x
  told-some {x} e lt = let y : ltb 0 f.link ≡ true = rw e (lt-ltb 0 x lt) in rw (any.is, y) (ap Some e)

  met_told : {t : List ℕ} {place : ℕ} {xs : List ℕ} → Linked t xs → MetAt t place f.link xs → Met t place (link_of out) xs
  met_told {t} {place} {xs} r m = record { front = m.front; back = m.back; is = m.is; left = m.left; head = go m.back refl }
    where
      go : (back : List ℕ) → m.back ≡ back → Heads t place (link_of out) back
      go [] e = let h : f.link ≡ 0 = rw e at m.head in told_none h
      go (x ∷ ys) e =
          let h : (f.link ≡ x) × (place < end_at t x) = rw e at m.head in
          let i : xs ≡ m.front ++ x ∷ ys = rw e at m.is in
          let v : Mem x xs = rw i (mem_unput (put_at x m.front ys) (here refl)) in
          (told-some h.0 (linked_valid r v).some, h.1)

-- the rows of pieces that follow one another do not wrap
lines_on : (t : List ℕ) (low : ℕ) (xs : List ℕ) → Follow low (map (piece_at t) xs) → All (OnLine t) xs
lines_on t low [] f = all_nil
lines_on t low (x ∷ xs) f = all_cons {x = x} (record { fits = omega (arith, f.1.near) }) (lines_on t (row_end (piece_at t x)) xs f.2)

pub search_done : {t : List ℕ} {root place : ℕ} {f : Found} {out : Option Found} → root ≡ column t 0 pieces_root → IfAny f out → SoughtFrom t root place 0 92 f.link
    → Sought t place (link_of out)
search_done {t} {root} {place} {f} {out} er any p = record { says = go }
  where
    go : (xs : List ℕ) → Linked t xs → Met t place (link_of out) xs
    go xs r =
        let asc : Ascending (end_at t) (rows r.dense.tree) = rw r.dense.is (follow_ends (piece_at t) 0 xs r.order) in
        let e : f.link ≡ first_past (end_at t) place 0 xs = p.says r.dense.tree (rw er r.dense.shape) (linked_depth r) (rw r.dense.is (lines_on t 0 xs r.order)) ∙ sought-rows (end_at t) place 0 r.dense.tree asc ∙ ap (first_past (end_at t) place 0) r.dense.is in
        met_told any r (rw e (met t place xs))

-- ── `search_next` ──

-- what stands before a piece ends where it starts, or before
before_first : (qs : List PieceRow) (p : PieceRow) (rs : List PieceRow) (low place : ℕ) → Follow low (qs ++ p ∷ rs) → p.first ≤ place → low ≤ place × All (λ (q : PieceRow). row_end q ≤ place) qs
before_first [] p rs low place f h = (omega (arith, f.0), all_nil)
before_first (q ∷ qs) p rs low place f h =
    let r : row_end q ≤ place × All (λ (q : PieceRow). row_end q ≤ place) qs = before_first qs p rs (row_end q) place f.2 h in
    (omega (arith, r.0, f.0), all_cons r.0 r.1)

-- what stands before a link in use
record Standing (t : List ℕ) (link : ℕ) (xs : List ℕ) : Type 0 where
  front : List ℕ
  back : List ℕ
  is : xs ≡ front ++ link ∷ back
  before : (place : ℕ) → first_at t link ≤ place → All (λ (p : PieceRow). row_end p ≤ place) (map (piece_at t) front)

standing : {t : List ℕ} {xs : List ℕ} {link : ℕ} → Linked t xs → 0 < link → link ≤ column t 0 pieces_count → Standing t link xs
standing {t} {xs} {link} r some within =
    let put : (zs : List ℕ) × Put link zs xs = found xs (linked_dense r link some within) in
    let us : List ℕ = put.1.front in
    let bs : List ℕ = put.1.back in
    let f : Follow 0 (map (piece_at t) us ++ piece_at t link ∷ map (piece_at t) bs) = rw (put.1.with_it, map-append (piece_at t) us (link ∷ bs)) at r.order in
    record { front = us; back = bs; is = put.1.with_it; before = λ place h. (before_first (map (piece_at t) us) (piece_at t link) (map (piece_at t) bs) 0 place f h).1 }

-- the piece that has the place is the lowest that ends past it
pub search_next_here : {t : List ℕ} {kind cell near : ℕ} {q : Bool} → Decides q (HasCell t near kind cell) → q ≡ true → Sought t (cell_place kind cell) (Some near)
search_next_here {t} {kind} {cell} {near} d y = record { says = go }
  where
    h : HasCell t near kind cell
    h = d.yes y

    line : line_of (column t near piece_owner) ≡ line_of kind
    line = ap line_of h.own

    go : (xs : List ℕ) → Linked t xs → Met t (cell_place kind cell) (Some near) xs
    go xs r =
        let s : Standing t near xs = standing r h.some h.within in
        record { front = s.front; back = near ∷ s.back; is = s.is; left = s.before (cell_place kind cell) (omega (arith, line, h.from)); head = (refl, omega (arith, line, h.below)) }

-- ── `has_ended` ──

pub has_ended_no : {t : List ℕ} {link kind cell : ℕ} → Ended t link kind cell false
has_ended_no = record { yes = λ e. absurd (false≢true e) }

pub has_ended_rest : {t : List ℕ} {link kind cell count : ℕ} {q : Bool} → (link ≡ 0 → ⊥) → count ≡ column t 0 pieces_count → link ≤ count
    → EndsAfter t link kind cell q → Ended t link kind cell (not q)
has_ended_rest {t} {link} {kind} {cell} {q = q} nz ec le e =
    record {
      yes = λ y. record {
        some = omega (arith, nz);
        within = omega arith;
        to = λ on. ltb-false (cell_place kind cell) (end_at t link) (sym (e.is on) ∙ not-true q y);
      };
    }

-- the links behind one: those of the tree right below it, and the rest
record Behind (t : List ℕ) (x : ℕ) (T : Tree) : Type 0 where
  front : List ℕ
  right : Tree
  rest : List ℕ
  is : rows T ≡ front ++ x ∷ (rows right ++ rest)
  shape : Shape t (column t x piece_right) right
  low : height right ≤ height T

behind : (t : List ℕ) (x k : ℕ) (T : Tree) → Shape t k T → Mem x (rows T) → Behind t x T
unfolding Shape rows height
behind t x k leaf s m = elim m [ ]
behind t x k (node A y B) s m = go (behind t x (column t y piece_left) A s.left) (behind t x (column t y piece_right) B s.right) (mem_split (rows A) (y ∷ rows B) m)
  where
    go : (Mem x (rows A) → Behind t x A) → (Mem x (rows B) → Behind t x B) → Mem x (rows A) ⊎ Mem x (y ∷ rows B) → Behind t x (node A y B)
    go f g (inl i) =
        let b : Behind t x A = f i in
        record {
          front = b.front;
          right = b.right;
          rest = b.rest ++ y ∷ rows B;
          is = ap (λ (l : List ℕ). l ++ y ∷ rows B) b.is ∙ append_assoc b.front (x ∷ (rows b.right ++ b.rest)) (y ∷ rows B) ∙ ap (λ (l : List ℕ). b.front ++ x ∷ l) (append_assoc (rows b.right) b.rest (y ∷ rows B));
          shape = b.shape;
          low = omega (arith, b.low);
        }
    go f g (inr (here e)) = record { front = rows A; right = B; rest = []; is = rw (e, append-nil (rows B)); shape = rw e s.right; low = omega arith }
    go f g (inr (there i)) =
        let b : Behind t x B = g i in
        record {
          front = rows A ++ y ∷ b.front;
          right = b.right;
          rest = b.rest;
          is = ap (λ (l : List ℕ). rows A ++ y ∷ l) b.is ∙ sym (append_assoc (rows A) (y ∷ b.front) (x ∷ (rows b.right ++ b.rest)));
          shape = b.shape;
          low = omega (arith, b.low);
        }

-- where the piece of `near` ends before the place, the lowest right below it that ends past the place is the lowest of all
pub search_next_below : {t : List ℕ} {kind cell near right : ℕ} {f g : Found} {out : Option Found} {q : Bool} → Ended t near kind cell q → q ≡ true → right ≡ column t near piece_right
    → IfAny f out → SoughtFrom t right (cell_place kind cell) 0 92 f.link → out ≡ Some g → Sought t (cell_place kind cell) (Some g.link)
search_next_below {t} {kind} {cell} {near} {right} {f} {g} {out} d y er any p is-some = record { says = λ xs r. rw (← told) (met_told any r (go xs r)) }
  where
    place : ℕ
    place = cell_place kind cell

    told : link_of out ≡ Some g.link
    told = rw is-some refl

    nz : f.link ≡ 0 → ⊥
    nz z = none-some g.link (sym (told_none any z) ∙ told)

    go : (xs : List ℕ) → Linked t xs → MetAt t place f.link xs
    go xs r = split m.back refl
      where
        h : HasEnded t near place
        h = d.yes y

        b : Behind t near r.dense.tree
        b = behind t near (column t 0 pieces_root) r.dense.tree r.dense.shape (rw r.dense.is (linked_dense r near h.some h.within))

        is : xs ≡ b.front ++ near ∷ (rows b.right ++ b.rest)
        is = sym r.dense.is ∙ b.is

        order : Follow 0 (map (piece_at t) b.front ++ piece_at t near ∷ map (piece_at t) (rows b.right ++ b.rest))
        order = rw (is, map-append (piece_at t) b.front (near ∷ (rows b.right ++ b.rest))) at r.order

        lines : All (OnLine t) (near ∷ (rows b.right ++ b.rest))
        lines = all_right b.front (near ∷ (rows b.right ++ b.rest)) (rw is at (lines_on t 0 xs r.order))

        ended : end_at t near ≤ place
        ended = h.to (all_head lines)

        asc : Ascending (end_at t) (rows b.right)
        asc = ascending_left (end_at t) (rows b.right) b.rest (ascending_tail (end_at t) (ascending_right (end_at t) b.front (near ∷ (rows b.right ++ b.rest)) (rw is at (follow_ends (piece_at t) 0 xs r.order))))

        m : MetAt t place (first_past (end_at t) place 0 (rows b.right)) (rows b.right)
        m = met t place (rows b.right)

        e : f.link ≡ first_past (end_at t) place 0 (rows b.right)
        e = p.says b.right (rw er b.shape) (omega (arith, b.low, linked_depth r)) (all_left (rows b.right) b.rest (all_tail lines)) ∙ sought-rows (end_at t) place 0 b.right asc

        before : All (λ (p : PieceRow). row_end p ≤ place) (map (piece_at t) b.front)
        before = (before_first (map (piece_at t) b.front) (piece_at t near) (map (piece_at t) (rows b.right ++ b.rest)) 0 place order (omega (arith, ended))).1

        split : (back : List ℕ) → m.back ≡ back → MetAt t place f.link xs
        split [] z = let head : first_past (end_at t) place 0 (rows b.right) ≡ 0 = rw z at m.head in absurd (nz (e ∙ head))
        split (x ∷ ys) z =
            let head : (first_past (end_at t) place 0 (rows b.right) ≡ x) × (place < end_at t x) = rw z at m.head in
            record {
              front = b.front ++ near ∷ m.front;
              back = x ∷ (ys ++ b.rest);
              is = is ∙ ap (λ (l : List ℕ). b.front ++ near ∷ (l ++ b.rest)) (rw z at m.is) ∙ ap (λ (l : List ℕ). b.front ++ near ∷ l) (append_assoc m.front (x ∷ ys) b.rest) ∙ sym (append_assoc b.front (near ∷ m.front) (x ∷ (ys ++ b.rest)));
              left = rw (map-append (piece_at t) b.front (near ∷ m.front)) (all_append before (all_cons {x = piece_at t near} ended m.left));
              head = (e ∙ head.0, head.1);
            }

-- the steps, one for each turn and return
pub ruleset ending = (ends-past_other, ends-past_low, ends-past_rest, ends-after_done, has_ended_no, has_ended_rest)

pub ruleset sinking = (sinks_start, sinks_leaf, sinks_end, sinks_far, sinks_left, sinks_right)

pub ruleset seeking = (search_done, search_next_here, search_next_below)
