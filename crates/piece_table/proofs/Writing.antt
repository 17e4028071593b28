-- Stores to a row: a new piece, a piece cut in place. Assumes nothing.
use mathlib.Core.Bool.{Bool, true, false, cond}
use mathlib.Core.List.{List, [], ◌∷◌, ◌++◌, map}
use mathlib.Core.Path.{◌≡◌, refl, sym, ap, ap₂, ◌∙◌}
use Prim.Native.Nat.{ℕ, ◌+◌, ◌-◌, ◌*◌, ◌≤◌, ◌<◌}
use native.Mathlib.Omega.{arith}
use lib.Dec.{ltb}
use lib.ListN.{length, set, length-set, length-map}
use lib.Seq.{get_or-set_other}
use Rattle.lists.proofs.Lists.{all_of_mem, mem_left, mem_right}
use Rattle.lists.proofs.Maps.{map-append, map_all}
use Rattle.lists.specs.Lists.{Mem, here, there, Distinct, Ascending}
use Rattle.history.specs.Words.{cell_place}
use Rattle.history.specs.Lent.{row_width}
use Rattle.tables.specs.Columns.{column, piece_offset, piece_first, pieces_count, pieces_root, piece_depth, piece_left, piece_written, piece_owner}
use Rattle.merge_set.proofs.Balance.{Grown, inserted_balanced}
use Rattle.merge_set.proofs.Frame.{column_eq, stays, column_put}
use Rattle.merge_set.proofs.Links.{Put, put_at, mem_put, mem_unput, distinct_put, put_length}
use Rattle.merge_set.proofs.Order.{inserted_put, inserted-rows}
use Rattle.merge_set.specs.Table.{first_at, Good, Valid, Shape, Result, Inserted}
use Rattle.merge_set.specs.Tree.{Tree, rows, inserted, in_order}
use Rattle.std.specs.Prelude.{Some, None}
use Rattle.piece_table.proofs.Clipping.{piece_eq, clip_some, clip_is}
use Rattle.piece_table.proofs.Order.{ascending_same, follow_part, follow_from, follow_distinct}
use Rattle.piece_table.proofs.Removing.{piece_same, linked_ascending, linked_depth, linked_valid}
use Rattle.piece_table.specs.Calls.{HeadSet, WroteRow, ReplacedPiece, InsertedPiece, TrimmedBack, TrimmedFront, Clipped, end_at, own_place}
use Rattle.piece_table.specs.Piece.{PieceRow, row_of, read_at, piece_at, part, Filled, Follow, placed}
use Rattle.piece_table.specs.Rep.{Linked, Rep, Becomes}
use Rattle.piece_table.specs.declared.Piece.{Piece}

-- ── one store ──

column-set_other : (t : List ℕ) (k j c d v : ℕ) → c < row_width → d < row_width → (j ≡ k → c ≡ d → ⊥) → column (set t (row_width * k + d) v) j c ≡ column t j c
column-set_other t k j c d v hc hd n = get_or-set_other t (row_width * k + d) (row_width * j + c) v 0 (λ e. let s : (j ≡ k) × (c ≡ d) = column_eq j c k d hc hd e in n s.0 s.1)

-- ── a row of the tree gets another piece, in order ──

pub rewritten : {t t' : List ℕ} {k : ℕ} {q : PieceRow} (xs ys : List ℕ) → Linked t (xs ++ k ∷ ys) → WroteRow t t' k q
    → Follow 0 (map (piece_at t) xs ++ q ∷ map (piece_at t) ys) → Becomes t t' (map (piece_at t) xs ++ q ∷ map (piece_at t) ys)
rewritten {t} {t'} {k} {q} xs ys r w f =
    let dk : Distinct (k ∷ (xs ++ ys)) = distinct_put (put_at k xs ys) r.dense.once in
    let vk : Valid t k = linked_valid r (mem_unput (put_at k xs ys) (here refl)) in
    let head : (c : ℕ) → c < row_width → column t' 0 c ≡ column t 0 c = λ c h. w.rest 0 c h (λ z. absurd (omega (arith, vk.some))) in
    let root : column t' 0 pieces_root ≡ column t 0 pieces_root = head 0 (omega arith) in
    let count : column t' 0 pieces_count ≡ column t 0 pieces_count = head 1 (omega arith) in
    let kept : (j : ℕ) → (j ≡ k → ⊥) → piece_at t' j ≡ piece_at t j = λ j n. piece_same t t' j j (λ c h m. w.rest j c h (λ z. absurd (n z))) in
    let on_l : map (piece_at t') xs ≡ map (piece_at t) xs = map_all (piece_at t') (piece_at t) (all_of_mem xs (λ j m. kept j (λ z. dk.0 (rw z at (mem_left xs ys m))))) in
    let on_r : map (piece_at t') ys ≡ map (piece_at t) ys = map_all (piece_at t') (piece_at t) (all_of_mem ys (λ j m. kept j (λ z. dk.0 (rw z at (mem_right xs ys m))))) in
    let pieces : map (piece_at t') (xs ++ k ∷ ys) ≡ map (piece_at t) xs ++ q ∷ map (piece_at t) ys = map-append (piece_at t') xs (k ∷ ys) ∙ ap₂ ◌++◌ on_l (ap₂ ◌∷◌ (w.there vk) on_r) in
    let rep : Rep t' (map (piece_at t) xs ++ q ∷ map (piece_at t) ys) = record {
      links = xs ++ k ∷ ys;
      linked = record {
        dense = record {
          tree = r.dense.tree;
          is = r.dense.is;
          shape = rw root (stays t t' w.len (column t 0 pieces_root) r.dense.tree (λ j c m lo hi. w.rest j c (omega arith) (λ z. (lo, hi))) r.dense.shape);
          balanced = r.dense.balanced;
          count = r.dense.count ∙ sym count;
          within = λ j m. rw count (r.dense.within j m);
          once = r.dense.once;
          room = rw count (omega (arith, r.dense.room, w.len));
        };
        few = omega (arith, r.few, w.len);
        order = rw pieces f;
      };
      pieces = pieces;
    } in
    record { rep = rep; len = w.len }

pub replace_piece_done : {t t₁ : List ℕ} {k : ℕ} {p : PieceRow} → WroteRow t t₁ k p → ReplacedPiece t t₁ k p
replace_piece_done w = record { done = λ xs ys r f. rewritten xs ys r w f }

-- ── `trim_back`, `trim_front` ──

-- the pieces around a link
around : {t : List ℕ} (k : ℕ) (xs ys : List ℕ) → Linked t (xs ++ k ∷ ys) → Follow 0 (map (piece_at t) xs ++ piece_at t k ∷ map (piece_at t) ys)
around {t} k xs ys r = rw (map-append (piece_at t) xs (k ∷ ys)) at r.order

pub trim_back_none : {t : List ℕ} {k end first : ℕ} → first ≡ column t k piece_first → end < first → TrimmedBack t t k end
trim_back_none e h = record { done = λ xs ys r lo hi. absurd (omega arith) }

pub trim_back_done : {t t₁ : List ℕ} {k end first : ℕ} → first ≡ column t k piece_first → first ≤ end → t₁ ≡ set t (row_width * k + 1) (end - first) → TrimmedBack t t₁ k end
trim_back_done {t} {t₁} {k} {end} {first} e le e₁ = record { done = go }
  where
    same : (c : ℕ) → c < row_width → (c ≡ 1 → ⊥) → column t₁ k c ≡ column t k c
    same c h n = rw e₁ (column-set_other t k k c 1 (end - first) h (omega arith) (λ z. n))

    wrote : WroteRow t t₁ k (part (first_at t k) (own_place t k end) (piece_at t k))
    wrote =
        record {
          len = rw e₁ (length-set t (row_width * k + 1) (end - first));
          there = λ v. piece_eq
              (ap₂ cell_place (same 7 (omega arith) (λ z. omega arith)) (same 0 (omega arith) (λ z. omega arith)))
              (rw e₁ (column_put t k 1 (end - first) (omega arith) v) ∙ sizes)
              (same 2 (omega arith) (λ z. omega arith))
              (same 3 (omega arith) (λ z. omega arith) ∙ here_again (column t k piece_offset) (first_at t k))
              (same 7 (omega arith) (λ z. omega arith));
          rest = λ j c h n. rw e₁ (column-set_other t k j c 1 (end - first) h (omega arith) (λ z w. let b : (piece_left ≤ c) × (c ≤ piece_depth) = n z in omega arith));
        }
      where
        here_again : (o a : ℕ) → o ≡ o + (a - a)
        here_again o a = omega arith

        sizes : end - first ≡ own_place t k end - first_at t k
        sizes = omega arith

    go : (xs ys : List ℕ) → Linked t (xs ++ k ∷ ys) → first_at t k < own_place t k end → own_place t k end ≤ end_at t k → Becomes t t₁ (map (piece_at t) xs ++ part (first_at t k) (own_place t k end) (piece_at t k) ∷ map (piece_at t) ys)
    go xs ys r lo hi =
        let f : Follow 0 (map (piece_at t) xs ++ piece_at t k ∷ map (piece_at t) ys) = around k xs ys r in
        let h : Filled (piece_at t k) = (follow_from 0 (map (piece_at t) xs) (piece_at t k) (map (piece_at t) ys) f).0 in
        rewritten xs ys r wrote
        (follow_part 0 (map (piece_at t) xs) (piece_at t k) (part (first_at t k) (own_place t k end) (piece_at t k)) (map (piece_at t) ys) (omega arith) (omega arith)
        (record { some = omega arith; line = omega arith; near = omega (arith, h.near); stored = omega (arith, h.stored) })
        f)

-- three stores, where the rest of the row is as it is to be
moved : {t t₁ t₂ t₃ : List ℕ} {k : ℕ} (q : Piece) → column t k piece_written ≡ q.written → column t k piece_owner ≡ q.owner
    → t₁ ≡ set t (row_width * k + 0) q.first → t₂ ≡ set t₁ (row_width * k + 1) q.size → t₃ ≡ set t₂ (row_width * k + 3) q.offset → WroteRow t t₃ k (row_of q)
moved {t} {t₁} {t₂} {t₃} {k} q ew eo e₁ e₂ e₃ =
    record {
      len = rw e₃ (length-set t₂ (row_width * k + 3) q.offset) ∙ len₂;
      there = λ v. piece_eq
          (ap₂ cell_place owner (rw (e₃, column-set_other t₂ k k 0 3 q.offset (omega arith) (omega arith) (λ z w. omega arith), e₂, column-set_other t₁ k k 0 1 q.size (omega arith) (omega arith) (λ z w. omega arith), e₁) (column_put t k 0 q.first (omega arith) v)))
          (rw (e₃, column-set_other t₂ k k 1 3 q.offset (omega arith) (omega arith) (λ z w. omega arith), e₂) (column_put t₁ k 1 q.size (omega arith) (record { some = v.some; room = omega (arith, v.room, len₁) })))
          (other k 2 (omega arith) (λ z w. omega arith) (λ z w. omega arith) (λ z w. omega arith) ∙ ew)
          (rw e₃ (column_put t₂ k 3 q.offset (omega arith) (record { some = v.some; room = omega (arith, v.room, len₂) })))
          owner;
      rest = λ j c h n. other j c h (λ z w. let b : (piece_left ≤ c) × (c ≤ piece_depth) = n z in omega arith) (λ z w. let b : (piece_left ≤ c) × (c ≤ piece_depth) = n z in omega arith) (λ z w. let b : (piece_left ≤ c) × (c ≤ piece_depth) = n z in omega arith);
    }
  where
    len₁ : length t₁ ≡ length t
    len₁ = rw e₁ (length-set t (row_width * k + 0) q.first)

    len₂ : length t₂ ≡ length t
    len₂ = rw e₂ (length-set t₁ (row_width * k + 1) q.size) ∙ len₁

    other : (j c : ℕ) → c < row_width → (j ≡ k → c ≡ 0 → ⊥) → (j ≡ k → c ≡ 1 → ⊥) → (j ≡ k → c ≡ 3 → ⊥) → column t₃ j c ≡ column t j c
    other j c h n₀ n₁ n₃ =
        rw (e₃, column-set_other t₂ k j c 3 q.offset h (omega arith) n₃, e₂, column-set_other t₁ k j c 1 q.size h (omega arith) n₁, e₁)
        (column-set_other t k j c 0 q.first h (omega arith) n₀)

    owner : column t₃ k piece_owner ≡ q.owner
    owner = other k 7 (omega arith) (λ z w. omega arith) (λ z w. omega arith) (λ z w. omega arith) ∙ eo

-- the link's piece is filled
whole : {t : List ℕ} (k : ℕ) (xs ys : List ℕ) → Linked t (xs ++ k ∷ ys) → Filled (piece_at t k)
whole {t} k xs ys r = (follow_from 0 (map (piece_at t) xs) (piece_at t k) (map (piece_at t) ys) (around k xs ys r)).0

module _ {t : List ℕ} {k first : ℕ} {p : Piece} (ep : p ≡ read_at t k) where
  pub trim_front_none : Clipped p first 18446744073709551615 None → TrimmedFront t t k first
  trim_front_none c =
      record {
        done = λ xs ys r lo hi.
            let h : Filled (piece_at t k) = whole k xs ys r in
            absurd (clip_some {p = read_at t k} (own_place t k first) (end_at t k) (rw ep at c) h (omega arith) (omega (arith, h.near)) hi);
      }

  pub trim_front_done : {rest : Piece} {t₁ t₂ t₃ : List ℕ} → Clipped p first 18446744073709551615 (Some rest)
      → t₁ ≡ set t (row_width * k + 0) rest.first → t₂ ≡ set t₁ (row_width * k + 1) rest.size → t₃ ≡ set t₂ (row_width * k + 3) rest.offset → TrimmedFront t t₃ k first
  trim_front_done {rest} {t₁} {t₂} {t₃} c e₁ e₂ e₃ = record { done = go }
    where
      go : (xs ys : List ℕ) → Linked t (xs ++ k ∷ ys) → first_at t k ≤ own_place t k first → own_place t k first < end_at t k
          → Becomes t t₃ (map (piece_at t) xs ++ part (own_place t k first) (end_at t k) (piece_at t k) ∷ map (piece_at t) ys)
      go xs ys r lo hi =
          let h : Filled (piece_at t k) = whole k xs ys r in
          let e : row_of rest ≡ part (own_place t k first) (end_at t k) (piece_at t k)
          = clip_is {p = read_at t k} (own_place t k first) (end_at t k) (rw ep at c) h (omega arith) (omega (arith, h.near)) hi in
          let wrote : WroteRow t t₃ k (row_of rest) = moved rest (ap (λ (q : PieceRow). q.written) (sym e)) (ap (λ (q : PieceRow). q.owner) (sym e)) e₁ e₂ e₃ in
          rewritten xs ys r (rw e at wrote)
          (follow_part 0 (map (piece_at t) xs) (piece_at t k) (part (own_place t k first) (end_at t k) (piece_at t k)) (map (piece_at t) ys) lo (omega arith)
          (record { some = omega arith; line = omega (arith, h.line); near = omega (arith, h.near); stored = omega (arith, h.stored) })
          (around k xs ys r))

-- ── `insert_piece` ──

-- a link put in order is its piece put in order
map-in_order : (key : ℕ → ℕ) (f : ℕ → PieceRow) (x : ℕ) (xs : List ℕ) → ((j : ℕ) → Mem j (x ∷ xs) → key j ≡ (f j).first) → map f (in_order key x xs) ≡ placed (f x) (map f xs)
unfolding in_order
map-in_order key f x [] h = refl
map-in_order key f x (w ∷ xs) h = rw (h x (here refl), h w (there (here refl))) (go (ltb (f x).first (f w).first) (map-in_order key f x xs (λ j m. h j (skip j m))))
  where
    skip : (j : ℕ) → Mem j (x ∷ xs) → Mem j (x ∷ w ∷ xs)
    skip j (here e) = here e
    skip j (there m) = there (there m)

    go : (q : Bool) → map f (in_order key x xs) ≡ placed (f x) (map f xs) → map f (cond q (x ∷ w ∷ xs) (w ∷ in_order key x xs)) ≡ cond q (f x ∷ f w ∷ map f xs) (f w ∷ placed (f x) (map f xs))
    go true e = refl
    go false e = ap (λ (l : List PieceRow). f w ∷ l) e

module _ {t t₁ t₂ t₃ : List ℕ} {root count top : ℕ} {p : PieceRow} (er : root ≡ column t 0 pieces_root) (ec : count ≡ column t 0 pieces_count) (w : WroteRow t t₁ (count + 1) p) (ins : Inserted t₁ t₂ root (count + 1) 92 top) (head : HeadSet t₂ t₃ top (count + 1)) where
  pub insert-piece_done : InsertedPiece t t₃ p
  insert-piece_done = record { done = go }
    where
      among : {P : Type 0} {j x : ℕ} {xs : List ℕ} → (j ≡ x → P) → (Mem j xs → P) → Mem j (x ∷ xs) → P
      among f g (here e) = f e
      among f g (there m) = g m

      go : (ps : List PieceRow) → Rep t ps → row_width * length ps + (row_width + row_width) ≤ length t → Follow 0 (placed p ps) → Becomes t t₃ (placed p ps)
      go ps rep space follow =
          let xs : List ℕ = rep.links in
          let r : Linked t xs = rep.linked in
          let T : Tree = r.dense.tree in
          let x : ℕ = count + 1 in
          let key : ℕ → ℕ = first_at t₁ in
          let n : length ps ≡ length xs = ap length (sym rep.pieces) ∙ length-map xs (piece_at t) in
          let fresh : Mem x xs → ⊥ = λ m. omega (arith, r.dense.within x m, ec) in
          let old : (j : ℕ) → Mem j xs → j ≡ count + 1 → ⊥ = λ j m z. fresh (rw z at m) in
          let vx : Valid t x = record { some = omega arith; room = omega (arith, n, r.dense.count, ec) } in
          let vx₁ : Valid t₁ x = record { some = omega arith; room = omega (arith, vx.room, w.len) } in
          let shape₁ : Shape t₁ root T = stays t t₁ w.len root T (λ k i m lo hi. w.rest k i (omega arith) (λ z. (lo, hi))) (rw er r.dense.shape) in
          let good : Good (x ∷ rows T) = rw r.dense.is (record { distinct = (fresh, r.dense.once); few = omega (arith, r.dense.count, r.few, r.dense.room) }) in
          let res : Result t₁ t₂ top (inserted key x T) (x ∷ rows T) = ins.done T shape₁ (linked_depth r) vx₁ good in
          let T' : Tree = inserted key x T in
          let put : Put x xs (rows T') = rw r.dense.is at (inserted_put key x T) in
          let len₂ : length t₂ ≡ length t = res.only.len ∙ w.len in
          let len₃ : length t₃ ≡ length t = head.len ∙ len₂ in
          let big : 8 ≤ length t₂ = omega (arith, r.dense.room, len₂) in
          let value : (j c : ℕ) → 0 < j → c < row_width → (piece_left ≤ c → c ≤ piece_depth → ⊥) → column t₃ j c ≡ column t₁ j c = λ j c l h m. head.rest j c l ∙ res.only.same j c h (λ _ lo hi. m lo hi) in
          let some : (j : ℕ) → Mem j (x ∷ xs) → 0 < j = λ j. among (λ z. omega arith) (λ m. (linked_valid r m).some) in
          let kept : (j : ℕ) → Mem j xs → piece_at t₃ j ≡ piece_at t j = λ j m. piece_same t t₃ j j (λ c h l. value j c (some j (there m)) h l ∙ w.rest j c h (λ z. absurd (old j m z))) in
          let new : piece_at t₃ x ≡ p = piece_same t₁ t₃ x x (λ c h l. value x c (omega arith) h l) ∙ w.there vx in
          let asc : Ascending key (rows T) = rw r.dense.is (ascending_same (first_at t) key xs (λ j m. ap (λ (q : PieceRow). q.first) (piece_same t t₁ j j (λ c h l. w.rest j c h (λ z. absurd (old j m z))))) (linked_ascending r)) in
          let order : rows T' ≡ in_order key x xs = inserted-rows key x T asc ∙ ap (in_order key x) r.dense.is in
          let same : map (piece_at t₃) xs ≡ ps = map_all (piece_at t₃) (piece_at t) (all_of_mem xs kept) ∙ rep.pieces in
          let pieces : map (piece_at t₃) (rows T') ≡ placed p ps
          = ap (map (piece_at t₃)) order ∙ map-in_order key (piece_at t₃) x xs (λ j m. sym (ap (λ (q : PieceRow). q.first) (piece_same t₁ t₃ j j (λ c h l. value j c (some j m) h l)))) ∙ ap₂ placed new same in
          let bound : (j : ℕ) → Mem j (x ∷ xs) → j ≤ count + 1 = λ j. among (λ z. omega arith) (λ m. omega (arith, r.dense.within j m, ec)) in
          let g : Grown T T' = inserted_balanced key x T r.dense.balanced in
          let out : Rep t₃ (placed p ps) = record {
            links = rows T';
            linked = record {
              dense = record {
                tree = T';
                is = refl;
                shape = rw (head.is_root big) (stays t₂ t₃ head.len top T' (λ k i m lo hi. head.rest k i (some k (mem_put put m))) res.shape);
                balanced = g.balanced;
                count = rw (head.is_count big) (put_length put ∙ omega (arith, r.dense.count, ec));
                within = λ j m. rw (head.is_count big) (bound j (mem_put put m));
                once = follow_distinct (piece_at t₃) 0 (rows T') (rw pieces follow);
                room = rw (head.is_count big) (omega (arith, len₃, n, r.dense.count, ec));
              };
              few = omega (arith, r.few, len₃);
              order = rw pieces follow;
            };
            pieces = pieces;
          } in
          record { rep = out; len = len₃ }

-- the steps, one for each return
pub ruleset writing = (replace_piece_done, trim_back_none, trim_back_done, trim_front_none, trim_front_done, insert-piece_done)
