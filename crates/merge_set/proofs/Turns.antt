-- The steps of update and of the rotations, put together. Assumes nothing.
use mathlib.Core.Bool.{Bool, true, false}
use mathlib.Core.List.{List, [], ◌∷◌, ◌++◌, append_assoc}
use mathlib.Core.Path.{◌≡◌, sym, ◌∙◌}
use Prim.Native.Nat.{ℕ, ◌+◌, ◌-◌}
use native.Mathlib.Omega.{arith}
use borrow.Author.Tests.{ltb-true}
use Rattle.lists.proofs.Lists.{mem_left, mem_right}
use Rattle.lists.proofs.Numbers.{suc_of}
use Rattle.lists.specs.Lists.{there}
use Rattle.tables.specs.Columns.{column, piece_right, piece_left}
use Rattle.merge_set.proofs.Frame.{only_then, only_wider, valid_keep, keep}
use Rattle.merge_set.proofs.Links.{good_left, good_right, good-apart}
use Rattle.merge_set.proofs.Order.{Orderly, updated_orderly, rotated_left_orderly, rotated_right_orderly}
use Rattle.merge_set.proofs.Ways.{goes_left, goes_right, stays_put, leans_left, leans_not_left, leans_right, leans_not_right}
use Rattle.merge_set.specs.Table.{Good, Valid, Shape, Only, Result, Made, Higher}
use Rattle.merge_set.specs.Tree.{Tree, leaf, node, height, rows, Maker, rotated_left, rotated_right, updated}

-- a first maker left of the row y, and then one at y
pub then-right : {t t₁ t₂ : List ℕ} {l x b m c y o : ℕ} {u w : Maker} → Orderly u → Made t t₁ l x b u m → Made t₁ t₂ m y c w o
    → (A B C : Tree) → Shape t l A → Shape t b B → Shape t c C → Valid t x → Valid t y → Good ((rows A ++ x ∷ rows B) ++ y ∷ rows C)
    → Result t t₂ o (w (u A x B) y C) ((rows A ++ x ∷ rows B) ++ y ∷ rows C)
then-right {t} {t₁} {t₂} {l} {x} {b} {m} {c} {y} {o} {u} {w} law p q A B C sa sb sc vx vy g =
    let xs : List ℕ = rows A ++ x ∷ rows B in
    let ys : List ℕ = y ∷ rows C in
    let one : Result t t₁ m (u A x B) xs = p.done A B sa sb vx (good_left xs ys g) in
    let sc₁ : Shape t₁ c C = keep c C one.only (λ k i j. good-apart xs ys g i (there j)) sc in
    let two : Result t₁ t₂ o (w (u A x B) y C) (rows (u A x B) ++ ys) = q.done (u A x B) C one.shape sc₁ (valid_keep one.only vy) (rw (law.order A x B) g) in
    let far : Only t₁ t₂ (xs ++ ys) = rw (law.order A x B) at two.only in
    record { shape = two.shape; only = only_then (only_wider (λ k i. mem_left xs ys i) one.only) far }

-- and a first maker right of the row y
pub then-left : {t t₁ t₂ : List ℕ} {a x b m c y o : ℕ} {u w : Maker} → Orderly u → Made t t₁ b x c u m → Made t₁ t₂ a y m w o
    → (A B C : Tree) → Shape t a A → Shape t b B → Shape t c C → Valid t x → Valid t y → Good (rows A ++ y ∷ (rows B ++ x ∷ rows C))
    → Result t t₂ o (w A y (u B x C)) (rows A ++ y ∷ (rows B ++ x ∷ rows C))
then-left {t} {t₁} {t₂} {a} {x} {b} {m} {c} {y} {o} {u} {w} law p q A B C sa sb sc vx vy g =
    let xs : List ℕ = rows B ++ x ∷ rows C in
    let one : Result t t₁ m (u B x C) xs = p.done B C sb sc vx (good_right (y ∷ []) xs (good_right (rows A) (y ∷ xs) g)) in
    let sa₁ : Shape t₁ a A = keep a A one.only (λ k i j. good-apart (rows A) (y ∷ xs) g j (there i)) sa in
    let two : Result t₁ t₂ o (w A y (u B x C)) (rows A ++ y ∷ rows (u B x C)) = q.done A (u B x C) sa₁ one.shape (valid_keep one.only vy) (rw (law.order B x C) g) in
    let far : Only t₁ t₂ (rows A ++ y ∷ xs) = rw (law.order B x C) at two.only in
    record { shape = two.shape; only = only_then (only_wider (λ k i. mem_right (rows A) (y ∷ xs) (there i)) one.only) far }

-- rotate_left: the row r has the subtrees at b and c
pub turns_left : {t t₁ t₂ : List ℕ} {l x r b c m o : ℕ} {u : Maker} → Orderly u → (r ≡ 0 → ⊥) → b ≡ column t r piece_left → c ≡ column t r piece_right
    → Made t t₁ l x b u m → Made t₁ t₂ m r c u o → Made t t₂ l x r (rotated_left u) o
unfolding Shape rows rotated_left
turns_left {t} {t₁} {t₂} {l} {x} {r} {b} {c} {m} {o} {u} law nz eb ec p q = record { done = go }
  where
    go : (A B : Tree) → Shape t l A → Shape t r B → Valid t x → Good (rows A ++ x ∷ rows B) → Result t t₂ o (rotated_left u A x B) (rows A ++ x ∷ rows B)
    go A leaf sa sb v g = absurd (nz sb)
    go A (node B y C) sa sb v g =
        let s_b : Shape t b B = rw (eb, sb.is) sb.left in
        let s_c : Shape t c C = rw (ec, sb.is) sb.right in
        let q' : Made t₁ t₂ m y c u o = rw sb.is at q in
        rw (← append_assoc (rows A) (x ∷ rows B) (y ∷ rows C))
        (then-right law p q' A B C sa s_b s_c v sb.valid (rw (append_assoc (rows A) (x ∷ rows B) (y ∷ rows C)) g))

-- rotate_right: the row l has the subtrees at a and b
pub turns_right : {t t₁ t₂ : List ℕ} {l x r a b m o : ℕ} {u : Maker} → Orderly u → (l ≡ 0 → ⊥) → a ≡ column t l piece_left → b ≡ column t l piece_right
    → Made t t₁ b x r u m → Made t₁ t₂ a l m u o → Made t t₂ l x r (rotated_right u) o
unfolding Shape rows rotated_right
turns_right {t} {t₁} {t₂} {l} {x} {r} {a} {b} {m} {o} {u} law nz ea eb p q = record { done = go }
  where
    go : (A B : Tree) → Shape t l A → Shape t r B → Valid t x → Good (rows A ++ x ∷ rows B) → Result t t₂ o (rotated_right u A x B) (rows A ++ x ∷ rows B)
    go leaf C sl sr v g = absurd (nz sl)
    go (node A y B) C sl sr v g =
        let s_a : Shape t a A = rw (ea, sl.is) sl.left in
        let s_b : Shape t b B = rw (eb, sl.is) sl.right in
        let q' : Made t₁ t₂ a y m u o = rw sl.is at q in
        rw (append_assoc (rows A) (y ∷ rows B) (x ∷ rows C))
        (then-left law p q' A B C s_a s_b sr v sl.valid (rw (← append_assoc (rows A) (y ∷ rows B) (x ∷ rows C)) g))

-- a rotation with nothing to turn
pub turns_none_left : {t t' : List ℕ} {l x r o : ℕ} (u : Maker) → r ≡ 0 → Made t t' l x r node o → Made t t' l x r (rotated_left u) o
unfolding Shape rotated_left
turns_none_left {t} {t'} {l} {x} {r} {o} u z p = record { done = go }
  where
    go : (A B : Tree) → Shape t l A → Shape t r B → Valid t x → Good (rows A ++ x ∷ rows B) → Result t t' o (rotated_left u A x B) (rows A ++ x ∷ rows B)
    go A leaf sa sb v g = p.done A leaf sa sb v g
    go A (node B y C) sa sb v g = absurd (omega (arith, sb.is, sb.valid.some))

pub turns_none_right : {t t' : List ℕ} {l x r o : ℕ} (u : Maker) → l ≡ 0 → Made t t' l x r node o → Made t t' l x r (rotated_right u) o
unfolding Shape rotated_right
turns_none_right {t} {t'} {l} {x} {r} {o} u z p = record { done = go }
  where
    go : (A B : Tree) → Shape t l A → Shape t r B → Valid t x → Good (rows A ++ x ∷ rows B) → Result t t' o (rotated_right u A x B) (rows A ++ x ∷ rows B)
    go leaf B sa sb v g = p.done leaf B sa sb v g
    go (node A y C) B sa sb v g = absurd (omega (arith, sa.is, sa.valid.some))

-- update, way by way
pub updates_none : {t t' : List ℕ} {l x r n o : ℕ} → n ≡ 0 → Made t t' l x r node o → Made t t' l x r (updated n) o
unfolding updated
updates_none z p = rw z (record { done = p.done })

module _ {t : List ℕ} {l x r n : ℕ} {q : Bool} (nz : n ≡ 0 → ⊥) (hq : Higher t l r 1 q) where
  -- no rotation
  pub updates_put : {t' : List ℕ} {q' : Bool} {o : ℕ} → Higher t r l 1 q' → q ≡ false → q' ≡ false → Made t t' l x r node o → Made t t' l x r (updated n) o
  updates_put hq' e e' p =
      record {
        done = λ A B sa sb v g.
            rw (suc_of n nz, stays_put (n - 1) A x B (sym (hq.says A B sa sb) ∙ e) (sym (hq'.says B A sb sa) ∙ e')) (p.done A B sa sb v g);
      }

  -- a left rotation, of a right subtree that does not lean left
  pub updates_left : {t' : List ℕ} {q' : Bool} {b c o : ℕ} → q ≡ true → b ≡ column t r piece_left → c ≡ column t r piece_right → Higher t c b 0 q' → q' ≡ false
      → Made t t' l x r (rotated_left (updated (n - 1))) o → Made t t' l x r (updated n) o
  unfolding Shape height
  updates_left {t'} {q'} {b} {c} {o} e eb ec hq' e' p = record { done = go }
    where
      go : (A B : Tree) → Shape t l A → Shape t r B → Valid t x → Good (rows A ++ x ∷ rows B) → Result t t' o (updated n A x B) (rows A ++ x ∷ rows B)
      go A leaf sa sb v g = absurd (omega (arith, ltb-true (height A + 1) 0 (sym (hq.says A leaf sa sb) ∙ e)))
      go A (node B y C) sa sb v g =
          let s_b : Shape t b B = rw (eb, sb.is) sb.left in
          let s_c : Shape t c C = rw (ec, sb.is) sb.right in
          rw (suc_of n nz, goes_left (n - 1) A x (node B y C) (sym (hq.says A (node B y C) sa sb) ∙ e), leans_not_left (updated (n - 1)) B y C (sym (hq'.says C B s_c s_b) ∙ e'))
          (p.done A (node B y C) sa sb v g)

  -- the same, the right subtree turned right first
  pub updates_right_left : {t₁ t₂ : List ℕ} {q' : Bool} {b c m o : ℕ} → q ≡ true → b ≡ column t r piece_left → c ≡ column t r piece_right → Higher t c b 0 q' → q' ≡ true
      → Made t t₁ b r c (rotated_right (updated (n - 1))) m → Made t₁ t₂ l x m (rotated_left (updated (n - 1))) o → Made t t₂ l x r (updated n) o
  unfolding Shape height rows
  updates_right_left {t₁} {t₂} {q'} {b} {c} {m} {o} e eb ec hq' e' p p' = record { done = go }
    where
      go : (A B : Tree) → Shape t l A → Shape t r B → Valid t x → Good (rows A ++ x ∷ rows B) → Result t t₂ o (updated n A x B) (rows A ++ x ∷ rows B)
      go A leaf sa sb v g = absurd (omega (arith, ltb-true (height A + 1) 0 (sym (hq.says A leaf sa sb) ∙ e)))
      go A (node B y C) sa sb v g =
          let s_b : Shape t b B = rw (eb, sb.is) sb.left in
          let s_c : Shape t c C = rw (ec, sb.is) sb.right in
          let law : Orderly (rotated_right (updated (n - 1))) = rotated_right_orderly (updated (n - 1)) (updated_orderly (n - 1)) in
          let py : Made t t₁ b y c (rotated_right (updated (n - 1))) m = rw sb.is at p in
          rw (suc_of n nz, goes_left (n - 1) A x (node B y C) (sym (hq.says A (node B y C) sa sb) ∙ e), leans_left (updated (n - 1)) B y C (sym (hq'.says C B s_c s_b) ∙ e'))
          (then-left law py p' A B C sa s_b s_c sb.valid v g)

  -- a right rotation, of a left subtree that does not lean right
  module _ {q₂ : Bool} (e₁ : q ≡ false) (hq₂ : Higher t r l 1 q₂) (e : q₂ ≡ true) where
    pub updates_right : {t' : List ℕ} {q' : Bool} {a b o : ℕ} → a ≡ column t l piece_left → b ≡ column t l piece_right → Higher t a b 0 q' → q' ≡ false
        → Made t t' l x r (rotated_right (updated (n - 1))) o → Made t t' l x r (updated n) o
    unfolding Shape height
    updates_right {t'} {q'} {a} {b} {o} ea eb hq' e' p = record { done = go }
      where
        go : (A B : Tree) → Shape t l A → Shape t r B → Valid t x → Good (rows A ++ x ∷ rows B) → Result t t' o (updated n A x B) (rows A ++ x ∷ rows B)
        go leaf C sl sr v g = absurd (omega (arith, ltb-true (height C + 1) 0 (sym (hq₂.says C leaf sr sl) ∙ e)))
        go (node A y B) C sl sr v g =
            let s_a : Shape t a A = rw (ea, sl.is) sl.left in
            let s_b : Shape t b B = rw (eb, sl.is) sl.right in
            rw (suc_of n nz, goes_right (n - 1) (node A y B) x C (sym (hq.says (node A y B) C sl sr) ∙ e₁) (sym (hq₂.says C (node A y B) sr sl) ∙ e), leans_not_right (updated (n - 1)) A y B (sym (hq'.says A B s_a s_b) ∙ e'))
            (p.done (node A y B) C sl sr v g)

    pub updates_left_right : {t₁ t₂ : List ℕ} {q' : Bool} {a b m o : ℕ} → a ≡ column t l piece_left → b ≡ column t l piece_right → Higher t a b 0 q' → q' ≡ true
        → Made t t₁ a l b (rotated_left (updated (n - 1))) m → Made t₁ t₂ m x r (rotated_right (updated (n - 1))) o → Made t t₂ l x r (updated n) o
    unfolding Shape height rows
    updates_left_right {t₁} {t₂} {q'} {a} {b} {m} {o} ea eb hq' e' p p' = record { done = go }
      where
        go : (A B : Tree) → Shape t l A → Shape t r B → Valid t x → Good (rows A ++ x ∷ rows B) → Result t t₂ o (updated n A x B) (rows A ++ x ∷ rows B)
        go leaf C sl sr v g = absurd (omega (arith, ltb-true (height C + 1) 0 (sym (hq₂.says C leaf sr sl) ∙ e)))
        go (node A y B) C sl sr v g =
            let s_a : Shape t a A = rw (ea, sl.is) sl.left in
            let s_b : Shape t b B = rw (eb, sl.is) sl.right in
            let law : Orderly (rotated_left (updated (n - 1))) = rotated_left_orderly (updated (n - 1)) (updated_orderly (n - 1)) in
            let py : Made t t₁ a y b (rotated_left (updated (n - 1))) m = rw sl.is at p in
            rw (suc_of n nz, goes_right (n - 1) (node A y B) x C (sym (hq.says (node A y B) C sl sr) ∙ e₁) (sym (hq₂.says C (node A y B) sr sl) ∙ e), leans_right (updated (n - 1)) A y B (sym (hq'.says A B s_a s_b) ∙ e'))
            (then-right law py p' A B C s_a s_b sr sl.valid v g)

-- the steps, one for each return
pub ruleset turning = (updated_orderly, turns_left, turns_right, turns_none_left, turns_none_right, updates_none, updates_put, updates_left, updates_right_left, updates_right, updates_left_right)
