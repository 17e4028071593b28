-- `set_head` and `remove_piece`: the tree loses a link, and the last row takes the freed one's place. Assumes nothing.
use mathlib.Core.List.{List, ◌∷◌, ◌++◌, map}
use mathlib.Core.Path.{◌≡◌, refl, sym, ap, ◌∙◌}
use Prim.Native.Nat.{ℕ, ◌-◌, ◌≤◌, ◌<◌}
use native.Mathlib.Omega.{arith}
use lib.ListN.{length, length-append}
use Rattle.lists.proofs.Lists.{all_of_mem}
use Rattle.lists.proofs.Maps.{map-append, map_all}
use Rattle.lists.specs.Lists.{Mem, here, there, Distinct, Ascending}
use Rattle.lists.proofs.Counting.{dense}
use Rattle.history.specs.Lent.{row_width}
use Rattle.tables.specs.Columns.{column, pieces_count, pieces_root, piece_depth, piece_left}
use Rattle.merge_set.proofs.Balance.{Shrunk, removed_balanced, AsHigh, relinked_high}
use Rattle.merge_set.proofs.Frame.{stays}
use Rattle.merge_set.proofs.Heights.{height_92}
use Rattle.merge_set.proofs.Links.{Put, put_at, mem_put, mem_unput, distinct_put, Exchanged}
use Rattle.merge_set.proofs.Order.{removed_put, relinked_finds}
use Rattle.merge_set.proofs.Removing.{valid_in}
use Rattle.merge_set.specs.Table.{first_at, Good, Valid, Shape, Result, Removed, CopyOf, CopiedRow, Relinked}
use Rattle.merge_set.specs.Tree.{Tree, rows, height, Balanced, removed, relinked}
use Rattle.piece_table.proofs.Order.{map-exchange, ascending_same, split_once, follow_without, follow_ascending, follow_distinct}
use Rattle.piece_table.specs.Calls.{HeadSet, RemovedPiece}
use Rattle.piece_table.specs.Piece.{PieceRow, piece_at, Follow}
use Rattle.piece_table.specs.Rep.{Linked, Rep, Becomes}

-- ── what a linked table has ──

-- rows with the same value columns hold the same piece
pub piece_same : (t t' : List ℕ) (j k : ℕ) → ((c : ℕ) → c < row_width → (piece_left ≤ c → c ≤ piece_depth → ⊥) → column t' k c ≡ column t j c) → piece_at t' k ≡ piece_at t j
piece_same t t' j k h =
    rw (h 0 (omega arith) (λ a b. omega arith), h 1 (omega arith) (λ a b. omega arith), h 2 (omega arith) (λ a b. omega arith), h 3 (omega arith) (λ a b. omega arith), h 7 (omega arith) (λ a b. omega arith))

module _ {t : List ℕ} {xs : List ℕ} (r : Linked t xs) where
  pub linked_ascending : Ascending (first_at t) xs
  linked_ascending = follow_ascending (piece_at t) 0 xs r.order

  linked_good : Good xs
  linked_good = record { distinct = r.dense.once; few = omega (arith, r.dense.count, r.dense.room, r.few) }

  pub linked_depth : height r.dense.tree ≤ 92
  linked_depth = height_92 r.dense.tree r.dense.balanced (rw r.dense.is linked_good.few)

  pub linked_valid : {j : ℕ} → Mem j xs → Valid t j
  linked_valid m = valid_in t (column t 0 pieces_root) r.dense.tree r.dense.shape (rw r.dense.is m)

  pub linked_dense : (k : ℕ) → 0 < k → k ≤ column t 0 pieces_count → Mem k xs
  linked_dense = dense (column t 0 pieces_count) xs r.dense.once (λ k m. ((linked_valid m).some, r.dense.within k m)) r.dense.count

-- ── the tree without the link ──

-- T is the tree without x, and nothing but tree columns changed
record Loose (t t₁ : List ℕ) (top : ℕ) (xs : List ℕ) : Type 0 where
  T : Tree
  is : rows T ≡ xs
  shape : Shape t₁ top T
  balanced : Balanced T
  high : height T ≤ 92
  len : length t₁ ≡ length t
  same : (j c : ℕ) → c < row_width → (piece_left ≤ c → c ≤ piece_depth → ⊥) → column t₁ j c ≡ column t j c

loosened : {t t₁ : List ℕ} {root x top : ℕ} (xs ys : List ℕ) → root ≡ column t 0 pieces_root → Removed t t₁ root x 92 top → Linked t (xs ++ x ∷ ys) → Loose t t₁ top (xs ++ ys)
loosened {t} {t₁} {root} {x} {top} xs ys er gone r =
    let key : ℕ → ℕ = first_at t in
    let T : Tree = r.dense.tree in
    let good : Good (rows T) = rw r.dense.is (linked_good r) in
    let asc : Ascending key (rows T) = rw r.dense.is (linked_ascending r) in
    let me : Mem x (rows T) = rw r.dense.is (mem_unput (put_at x xs ys) (here refl)) in
    let res : Result t t₁ top (removed key x T) (rows T) = gone.done T (rw er r.dense.shape) (linked_depth r) good in
    let put : Put x (rows (removed key x T)) (rows T) = removed_put key x T asc me in
    let once : (xs ≡ put.front) × (ys ≡ put.back) = split_once x xs ys put.front put.back r.dense.once (sym r.dense.is ∙ put.with_it) in
    let s : Shrunk T (removed key x T) = removed_balanced key x T r.dense.balanced in
    record {
      T = removed key x T;
      is = put.without ∙ sym (ap (λ l. l ++ ys) once.0 ∙ ap (λ l. put.front ++ l) once.1);
      shape = res.shape;
      balanced = s.balanced;
      high = omega (arith, s.high, linked_depth r);
      len = res.only.len;
      same = λ j c h n. res.only.same j c h (λ m lo hi. n lo hi);
    }

module _ {t t₁ : List ℕ} {root count x top : ℕ} (er : root ≡ column t 0 pieces_root) (ec : count ≡ column t 0 pieces_count) where
  module _ (gone : Removed t t₁ root x 92 top) where
    pub removes_last : {t₂ : List ℕ} → x ≡ count → HeadSet t₁ t₂ top (count - 1) → RemovedPiece t t₂ x
    removes_last {t₂} e head = record { done = go }
      where
        go : (xs ys : List ℕ) → Linked t (xs ++ x ∷ ys) → Becomes t t₂ (map (piece_at t) (xs ++ ys))
        go xs ys r =
            let l : Loose t t₁ top (xs ++ ys) = loosened xs ys er gone r in
            let dx : Distinct (x ∷ (xs ++ ys)) = distinct_put (put_at x xs ys) r.dense.once in
            let out : Mem x (xs ++ ys) → ⊥ = dx.0 in
            let old : (j : ℕ) → Mem j (xs ++ ys) → Mem j (xs ++ x ∷ ys) = λ j m. mem_unput (put_at x xs ys) (there m) in
            let some : (j : ℕ) → Mem j (xs ++ ys) → 0 < j = λ j m. (linked_valid r (old j m)).some in
            let big : 8 ≤ length t₁ = omega (arith, r.dense.room, l.len) in
            let pieces : map (piece_at t₂) (xs ++ ys) ≡ map (piece_at t) (xs ++ ys)
            = map_all (piece_at t₂) (piece_at t) (all_of_mem (xs ++ ys) (λ j m. piece_same t t₂ j j (λ c h n. head.rest j c (some j m) ∙ l.same j c h n))) in
            let rep : Rep t₂ (map (piece_at t) (xs ++ ys)) = record {
              links = xs ++ ys;
              linked = record {
                dense = record {
                  tree = l.T;
                  is = l.is;
                  shape = rw (head.is_root big) (stays t₁ t₂ head.len top l.T (λ k c m lo hi. head.rest k c (some k (rw l.is at m))) l.shape);
                  balanced = l.balanced;
                  count = rw (head.is_count big) (omega (arith, r.dense.count, ec, length-append xs (x ∷ ys), length-append xs ys));
                  within = λ j m. rw (head.is_count big) (let w : j ≤ column t 0 pieces_count = r.dense.within j (old j m) in let ne : j ≡ x → ⊥ = λ z. out (rw z at m) in omega arith);
                  once = dx.1;
                  room = rw (head.is_count big) (omega (arith, r.dense.room, head.len, l.len));
                };
                few = omega (arith, r.few, head.len, l.len);
                order = rw (pieces, map-append (piece_at t) xs ys) (follow_without 0 (map (piece_at t) xs) (piece_at t x) (map (piece_at t) ys) (rw (map-append (piece_at t) xs (x ∷ ys)) at r.order));
              };
              pieces = pieces;
            } in
            record { rep = rep; len = head.len ∙ l.len }

    pub removes_inner : {t₂ t₃ t₄ : List ℕ} {moved : ℕ} → (count ≡ 0 → ⊥) → (x ≡ count → ⊥) → CopiedRow t₁ t₂ count x → Relinked t₂ t₃ top count x 92 moved → HeadSet t₃ t₄ moved (count - 1) → RemovedPiece t t₄ x
    removes_inner {t₂} {t₃} {t₄} {moved} nz ne copy link head = record { done = go }
      where
        go : (xs ys : List ℕ) → Linked t (xs ++ x ∷ ys) → Becomes t t₄ (map (piece_at t) (xs ++ ys))
        go xs ys r =
            let l : Loose t t₁ top (xs ++ ys) = loosened xs ys er gone r in
            let dx : Distinct (x ∷ (xs ++ ys)) = distinct_put (put_at x xs ys) r.dense.once in
            let out : Mem x (xs ++ ys) → ⊥ = dx.0 in
            let old : (j : ℕ) → Mem j (xs ++ ys) → Mem j (xs ++ x ∷ ys) = λ j m. mem_unput (put_at x xs ys) (there m) in
            let some : (j : ℕ) → Mem j (xs ++ ys) → 0 < j = λ j m. (linked_valid r (old j m)).some in
            let other : (j : ℕ) → Mem j (xs ++ ys) → j ≡ x → ⊥ = λ j m z. out (rw z at m) in
            let vx : Valid t x = linked_valid r (mem_unput (put_at x xs ys) (here refl)) in
            let vx₁ : Valid t₁ x = record { some = vx.some; room = omega (arith, vx.room, l.len) } in
            let my : Mem count (xs ++ ys) = rest xs ys (mem_put (put_at x xs ys) (linked_dense r count (omega arith) (omega arith))) in
            let key₂ : ℕ → ℕ = first_at t₂ in
            let asc : Ascending (first_at t) (xs ++ ys) = follow_ascending (piece_at t) 0 (xs ++ ys) (order xs ys r) in
            let asc₂ : Ascending key₂ (xs ++ ys) = ascending_same (first_at t) key₂ (xs ++ ys) (λ j m. ap (λ (p : PieceRow). p.first) (piece_same t t₂ j j (λ c h n. copy.rest j c h (other j m) ∙ l.same j c h n))) asc in
            let shape₂ : Shape t₂ top l.T = stays t₁ t₂ copy.len top l.T (λ k c m lo hi. copy.rest k c (omega arith) (other k (rw l.is at m))) l.shape in
            let copied : CopyOf t₂ count x = record { valid = record { some = vx.some; room = omega (arith, vx₁.room, copy.len) }; same = λ c h. copy.there vx₁ c h ∙ sym (copy.rest count c h (λ z. ne (sym z))) } in
            let good : Good (x ∷ rows l.T) = rw l.is (record { distinct = dx; few = omega (arith, r.dense.count, r.dense.room, r.few, length-append xs (x ∷ ys), length-append xs ys) }) in
            let T₂ : Tree = relinked key₂ count x l.T in
            let res : Result t₂ t₃ moved T₂ (x ∷ rows l.T) = link.done l.T shape₂ l.high copied good in
            let ex : Exchanged count x (rows l.T) (rows T₂) = relinked_finds key₂ count x l.T (rw l.is asc₂) (rw l.is my) in
            let was : xs ++ ys ≡ ex.front ++ count ∷ ex.back = sym l.is ∙ ex.old in
            let len₃ : length t₃ ≡ length t = res.only.len ∙ copy.len ∙ l.len in
            let big : 8 ≤ length t₃ = omega (arith, r.dense.room, len₃) in
            let value : (j c : ℕ) → 0 < j → c < row_width → (piece_left ≤ c → c ≤ piece_depth → ⊥) → column t₄ j c ≡ column t₂ j c = λ j c p h n. head.rest j c p ∙ res.only.same j c h (λ m lo hi. n lo hi) in
            let kept : (j : ℕ) → Mem j (xs ++ ys) → piece_at t₄ j ≡ piece_at t j = λ j m. piece_same t t₄ j j (λ c h n. value j c (some j m) h n ∙ copy.rest j c h (other j m) ∙ l.same j c h n) in
            let new : piece_at t₄ x ≡ piece_at t count = piece_same t t₄ count x (λ c h n. value x c vx.some h n ∙ copy.there vx₁ c h ∙ l.same count c h n) in
            let inner : (j : ℕ) → Mem j (ex.front ++ ex.back) → Mem j (xs ++ ys) = λ j m. rw was (mem_unput (put_at count ex.front ex.back) (there m)) in
            let dy : Distinct (count ∷ (ex.front ++ ex.back)) = distinct_put (put_at count ex.front ex.back) (rw was at dx.1) in
            let pieces : map (piece_at t₄) (ex.front ++ x ∷ ex.back) ≡ map (piece_at t) (xs ++ ys)
            = map-exchange (piece_at t₄) (piece_at t) count x ex.front ex.back (λ j m. kept j (inner j m)) new ∙ ap (map (piece_at t)) (sym was) in
            let bound : (j : ℕ) → Mem j (x ∷ (ex.front ++ ex.back)) → (0 < j) × (j ≤ count - 1)
            = λ j m. bounded j m (vx.some, let w : x ≤ column t 0 pieces_count = r.dense.within x (mem_unput (put_at x xs ys) (here refl)) in omega arith)
            (λ i. (some j (inner j i), let w : j ≤ column t 0 pieces_count = r.dense.within j (old j (inner j i)) in let z : j ≡ count → ⊥ = λ z. dy.0 (rw z at i) in omega arith)) in
            let all : (j : ℕ) → Mem j (ex.front ++ x ∷ ex.back) → (0 < j) × (j ≤ count - 1) = λ j m. bound j (mem_put (put_at x ex.front ex.back) m) in
            let high : AsHigh l.T T₂ = relinked_high key₂ count x l.T in
            let rep : Rep t₄ (map (piece_at t) (xs ++ ys)) = record {
              links = ex.front ++ x ∷ ex.back;
              linked = record {
                dense = record {
                  tree = T₂;
                  is = ex.new;
                  shape = rw (head.is_root big) (stays t₃ t₄ head.len moved T₂ (λ k c m lo hi. head.rest k c (all k (rw ex.new at m)).0) res.shape);
                  balanced = high.balanced l.balanced;
                  count = rw (head.is_count big) (omega (arith, r.dense.count, ec, length-append xs (x ∷ ys), length-append xs ys, ap length was, length-append ex.front (x ∷ ex.back), length-append ex.front (count ∷ ex.back)));
                  within = λ j m. rw (head.is_count big) (all j m).1;
                  once = follow_distinct (piece_at t₄) 0 (ex.front ++ x ∷ ex.back) (rw pieces (order xs ys r));
                  room = rw (head.is_count big) (omega (arith, r.dense.room, head.len, len₃));
                };
                few = omega (arith, r.few, head.len, len₃);
                order = rw pieces (order xs ys r);
              };
              pieces = pieces;
            } in
            record { rep = rep; len = head.len ∙ len₃ }
          where
            rest : (xs ys : List ℕ) → Mem count (x ∷ (xs ++ ys)) → Mem count (xs ++ ys)
            rest xs ys (here z) = absurd (ne (sym z))
            rest xs ys (there m) = m

            bounded : {zs : List ℕ} (j : ℕ) → Mem j (x ∷ zs) → (0 < x) × (x ≤ count - 1) → (Mem j zs → (0 < j) × (j ≤ count - 1)) → (0 < j) × (j ≤ count - 1)
            bounded j (here z) p f = rw z p
            bounded j (there m) p f = f m

            order : (xs ys : List ℕ) → Linked t (xs ++ x ∷ ys) → Follow 0 (map (piece_at t) (xs ++ ys))
            order xs ys r = rw (map-append (piece_at t) xs ys) (follow_without 0 (map (piece_at t) xs) (piece_at t x) (map (piece_at t) ys) (rw (map-append (piece_at t) xs (x ∷ ys)) at r.order))

-- the steps, one for each return
pub ruleset removing = (removes_last, removes_inner)
