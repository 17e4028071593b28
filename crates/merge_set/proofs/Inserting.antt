-- `insert`: one step for each return. Assumes nothing.
use mathlib.Core.Bool.{Bool, true, false}
use mathlib.Core.List.{List, [], ◌∷◌, ◌++◌, append_assoc}
use mathlib.Core.Path.{◌≡◌, refl, sym, ◌∙◌}
use Prim.Native.Nat.{ℕ, ◌-◌, ◌≤◌}
use native.Mathlib.Omega.{arith}
use lib.Dec.{ltb}
use Rattle.lists.proofs.Lists.{mem_left, mem_right}
use Rattle.lists.specs.Lists.{there}
use Rattle.tables.specs.Columns.{column, piece_right, piece_left}
use Rattle.merge_set.proofs.Frame.{only_then, only_wider, valid_keep, keep}
use Rattle.merge_set.proofs.Links.{good_left, good_right, good-apart, Put, put_left, put_right, mem_put, good_put}
use Rattle.merge_set.proofs.Order.{inserted_put}
use Rattle.merge_set.specs.Table.{StartsBefore, Good, Valid, Shape, Result, Made, Inserted, first_at}
use Rattle.merge_set.specs.Tree.{Tree, leaf, node, height, rows, updated, inserted}

-- an empty tree; no fuel, which cannot be; left, right
pub inserts_first : {t t' : List ℕ} {k x n : ℕ} → k ≡ 0 → Made t t' 0 x 0 node x → Inserted t t' k x n x
unfolding Shape inserted rows
inserts_first {t} {t'} {k} {x} {n} z p = record { done = go }
  where
    go : (T : Tree) → Shape t k T → height T ≤ n → Valid t x → Good (x ∷ rows T) → Result t t' x (inserted (first_at t) x T) (x ∷ rows T)
    go leaf s h v g = p.done leaf leaf refl refl v g
    go (node a y b) s h v g = absurd (omega (arith, s.is, s.valid.some))

pub inserts_none : {t : List ℕ} {k x n : ℕ} → (k ≡ 0 → ⊥) → n ≡ 0 → Inserted t t k x n k
unfolding Shape height
inserts_none {t} {k} {x} {n} nz z = record { done = go }
  where
    go : (T : Tree) → Shape t k T → height T ≤ n → Valid t x → Good (x ∷ rows T) → Result t t k (inserted (first_at t) x T) (x ∷ rows T)
    go leaf s h v g = absurd (nz s)
    go (node a y b) s h v g = absurd (omega arith)

module _ {t t₁ t₂ : List ℕ} {k x n l r m o : ℕ} {before : Bool} (nz : k ≡ 0 → ⊥) (el : l ≡ column t k piece_left) (er : r ≡ column t k piece_right) (tested : StartsBefore t x k before) where
  pub inserts_left : before ≡ true → Inserted t t₁ l x (n - 1) m → Made t₁ t₂ m k r (updated 1) o → Inserted t t₂ k x n o
  unfolding Shape height rows inserted
  inserts_left low p q = record { done = go }
    where
      go : (T : Tree) → Shape t k T → height T ≤ n → Valid t x → Good (x ∷ rows T) → Result t t₂ o (inserted (first_at t) x T) (x ∷ rows T)
      go leaf s h v g = absurd (nz s)
      go (node A y B) s h v g =
          let I : Tree = inserted (first_at t) x A in
          let s_a : Shape t l A = rw (el, s.is) s.left in
          let s_b : Shape t r B = rw (er, s.is) s.right in
          let test : ltb (first_at t x) (first_at t y) ≡ true = rw (← s.is) (sym tested.is ∙ low) in
          let put : Put x (rows A ++ y ∷ rows B) (rows I ++ y ∷ rows B) = put_left (y ∷ rows B) (inserted_put (first_at t) x A) in
          let one : Result t t₁ m I (x ∷ rows A) = p.done A s_a (omega arith) v (good_left (x ∷ rows A) (y ∷ rows B) g) in
          let s_b₁ : Shape t₁ r B = keep r B one.only (λ j i i'. good-apart (x ∷ rows A) (y ∷ rows B) g i (there i')) s_b in
          let q' : Made t₁ t₂ m y r (updated 1) o = rw s.is at q in
          let two : Result t₁ t₂ o (updated 1 I y B) (rows I ++ y ∷ rows B) = q'.done I B one.shape s_b₁ (valid_keep one.only s.valid) (good_put put g) in
          rw test
          (record {
            shape = two.shape;
            only = only_then (only_wider (λ j i. mem_left (x ∷ rows A) (y ∷ rows B) i) one.only) (only_wider (λ j i. mem_put put i) two.only);
          })

  pub inserts_right : before ≡ false → Inserted t t₁ r x (n - 1) m → Made t₁ t₂ l k m (updated 1) o → Inserted t t₂ k x n o
  unfolding Shape height rows inserted
  inserts_right high p q = record { done = go }
    where
      go : (T : Tree) → Shape t k T → height T ≤ n → Valid t x → Good (x ∷ rows T) → Result t t₂ o (inserted (first_at t) x T) (x ∷ rows T)
      go leaf s h v g = absurd (nz s)
      go (node A y B) s h v g =
          let I : Tree = inserted (first_at t) x B in
          let s_a : Shape t l A = rw (el, s.is) s.left in
          let s_b : Shape t r B = rw (er, s.is) s.right in
          let test : ltb (first_at t x) (first_at t y) ≡ false = rw (← s.is) (sym tested.is ∙ high) in
          let swap : Put x (rows A ++ y ∷ rows B) ((rows A ++ y ∷ []) ++ x ∷ rows B) = record { front = rows A ++ y ∷ []; back = rows B; without = sym (append_assoc (rows A) (y ∷ []) (rows B)); with_it = refl } in
          let gs : Good ((rows A ++ y ∷ []) ++ x ∷ rows B) = good_put swap g in
          let put : Put x (rows A ++ y ∷ rows B) (rows A ++ y ∷ rows I) = put_right (rows A) (put_right (y ∷ []) (inserted_put (first_at t) x B)) in
          let one : Result t t₁ m I (x ∷ rows B) = p.done B s_b (omega arith) v (good_right (rows A ++ y ∷ []) (x ∷ rows B) gs) in
          let s_a₁ : Shape t₁ l A = keep l A one.only (λ j i i'. good-apart (rows A ++ y ∷ []) (x ∷ rows B) gs (mem_left (rows A) (y ∷ []) i') i) s_a in
          let q' : Made t₁ t₂ l y m (updated 1) o = rw s.is at q in
          let two : Result t₁ t₂ o (updated 1 A y I) (rows A ++ y ∷ rows I) = q'.done A I s_a₁ one.shape (valid_keep one.only s.valid) (good_put put g) in
          rw test
          (record {
            shape = two.shape;
            only = only_then (only_wider (λ j i. mem_put swap (mem_right (rows A ++ y ∷ []) (x ∷ rows B) i)) one.only) (only_wider (λ j i. mem_put put i) two.only);
          })

-- the steps, one for each return
pub ruleset inserting = (inserts_first, inserts_none, inserts_left, inserts_right)
