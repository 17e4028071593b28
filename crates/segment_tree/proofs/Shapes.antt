-- The counts of a kind's tree do not depend on which blocks are added, nor on their order: adding goes with `shape`. Assumes nothing.
use mathlib.Core.Path.{◌≡◌, refl, ap, sym, ◌∙◌}
use mathlib.Core.Logic.{inl, inr}
use mathlib.Core.Bool.{Bool, true, false, cond, ◌&&◌}
use mathlib.Core.List.{List, [], ◌∷◌, ◌++◌, map}
use Prim.Native.Nat.{ℕ, zero, suc, ◌<◌}
use native.Mathlib.Omega.{arith}
use lib.ListN.{length, replicate, length-replicate}
use lib.Dec.{ltb, eqb}
use Rattle.lists.specs.Lists.{count}
use Rattle.lists.proofs.Numbers.{bool_cases}
use Rattle.lists.proofs.Maps.{map-cond}
use Rattle.history.specs.Words.{Block, a_block, of_kind}
use Rattle.history.specs.Tree.{Tree, hole, node, mid, halves, covers, entries_of, left_of, right_of, insert, add_location, add_all, key_in, tree_of, node_count, entry_count}
use Rattle.history.proofs.TreeInserting.{insert_nil, insert-on, insert-length}
use Rattle.history.proofs.TreeAdding.{made, listed, add_here, add_last, add_below}
use Rattle.history.proofs.TreeOrder.{add_each, each_order}
use Rattle.segment_table.specs.Closed.{left_at, right_at}
use Rattle.segment_tree.specs.Count.{CountAt, Life}
use Rattle.segment_tree.specs.Lives.{Owned, owned_of, shape, add_life}
use Rattle.segment_tree.proofs.ByKind.{add_to, lives_of, own, count-own}

-- ── parts ──

shape_entries : (T : Tree) → entries_of (shape T) ≡ replicate (length (entries_of T)) 0
unfolding shape
shape_entries hole = refl
shape_entries (node xs l r) = refl

shape_left : (T : Tree) → left_of (shape T) ≡ shape (left_of T)
unfolding shape
shape_left hole = refl
shape_left (node xs l r) = refl

shape_right : (T : Tree) → right_of (shape T) ≡ shape (right_of T)
unfolding shape
shape_right hole = refl
shape_right (node xs l r) = refl

shape-cond : (u : Bool) (X Y : Tree) → shape (cond u X Y) ≡ cond u (shape X) (shape Y)
shape-cond true X Y = refl
shape-cond false X Y = refl

insert_zero : (n : ℕ) → insert (λ _. 0) 0 (replicate n 0) ≡ replicate (suc n) 0
insert_zero zero = insert_nil (λ _. 0) 0
insert_zero (suc n) = insert-on (λ _. 0) 0 0 (replicate n 0) (omega arith) ∙ ap (λ (l : List ℕ). 0 ∷ l) (insert_zero n)

-- ── adding ──

module _ (key : ℕ → ℕ) (b c d : ℕ) where
  shape-made : (T : Tree) → shape (made T) ≡ made (shape T)
  unfolding shape
  shape-made T = rw (shape_entries T, shape_left T, shape_right T)

  shape-listed : (T : Tree) → shape (listed key b T) ≡ listed (λ _. 0) 0 (shape T)
  unfolding shape
  shape-listed T = rw (shape_entries T, shape_left T, shape_right T, insert_zero (length (entries_of T)), insert-length key b (entries_of T))

  pub shape_add : (n lo hi : ℕ) (T : Tree) → shape (add_location key n b c d lo hi T) ≡ add_location (λ _. 0) n 0 c d lo hi (shape T)
  unfolding shape
  shape_add zero lo hi T =
      elim (bool_cases (covers c d lo hi)) [
        | inl e ↦ rw (add_here key b c d lo hi T 0 e, add_here (λ _. 0) 0 c d lo hi (shape T) 0 e) (shape-listed T)
        | inr e ↦ rw (add_last key b c d lo hi T e, add_last (λ _. 0) 0 c d lo hi (shape T) e) (shape-made T)
      ]
  shape_add (suc n) lo hi T =
      elim (bool_cases (covers c d lo hi)) [
        | inl e ↦ rw (add_here key b c d lo hi T (suc n) e, add_here (λ _. 0) 0 c d lo hi (shape T) (suc n) e) (shape-listed T)
        | inr e ↦
            let left = shape-cond (halves lo hi && ltb c (mid lo hi)) (add_location key n b c d lo (mid lo hi) (left_of T)) (left_of T) in
            let right = shape-cond (halves lo hi && ltb (mid lo hi) d) (add_location key n b c d (mid lo hi) hi (right_of T)) (right_of T) in
            rw (
              add_below key b c d lo hi T n e,
              add_below (λ _. 0) 0 c d lo hi (shape T) n e,
              left,
              right,
              shape_add n lo (mid lo hi) (left_of T),
              shape_add n (mid lo hi) hi (right_of T),
              shape_entries T,
              shape_left T,
              shape_right T,
            )
      ]

pub shape_all : (key : ℕ → ℕ) (kind e n : ℕ) (bs : List Block) (T : Tree) → shape (add_all key kind e n bs T) ≡ add_to e (lives_of kind (map owned_of bs)) (shape T)
unfolding add_all add_to lives_of
shape_all key kind e n [] T = refl
shape_all key kind e n (b ∷ bs) T = go (of_kind kind b) (λ X. shape_all key kind e (suc n) bs X)
  where
    go : (u : Bool) → ((X : Tree) → shape (add_all key kind e (suc n) bs X) ≡ add_to e (lives_of kind (map owned_of bs)) (shape X))
        → shape (add_all key kind e (suc n) bs (cond u (add_location key 63 n b.created b.destroyed 0 e T) T))
        ≡ add_to e (cond u ((owned_of b).life ∷ lives_of kind (map owned_of bs)) (lives_of kind (map owned_of bs))) (shape T)
    go true rest = rest _ ∙ ap (add_to e (lives_of kind (map owned_of bs))) (shape_add key n b.created b.destroyed 63 0 e T)
    go false rest = rest T

-- the tree of a kind's blocks has the counts that their lives make
pub shape_tree : (kind e : ℕ) (bs : List Block) → shape (tree_of kind e bs) ≡ add_to e (lives_of kind (map owned_of bs)) hole
unfolding tree_of shape
shape_tree kind e bs = shape_all (key_in bs) kind e 0 bs hole

-- ── any order ──

pub lives-append : (e : ℕ) (xs ys : List Life) (T : Tree) → add_to e (xs ++ ys) T ≡ add_to e ys (add_to e xs T)
unfolding add_to
lives-append e [] ys T = refl
lives-append e (x ∷ xs) ys T = lives-append e xs ys (add_life e x T)

pub shape-lives : (e : ℕ) (xs : List Life) (T : Tree) → shape (add_to e xs T) ≡ add_to e xs (shape T)
unfolding add_to
shape-lives e [] T = refl
shape-lives e (x ∷ xs) T = shape-lives e xs (add_life e x T) ∙ ap (add_to e xs) (shape_add (λ _. 0) 0 x.created x.destroyed 63 0 e T)

module _ (row : ℕ → Owned) (kind e : ℕ) where
  life_at : ℕ → Life
  life_at k = (row k).life

  -- rows as blocks, whose numbers are their keys: no two of them are alike
  row_block : ℕ → Block
  row_block k = a_block 0 0 [] (row k).life.created (row k).life.destroyed

  shape_each : (ks : List ℕ) (T : Tree) → shape (add_each row_block (λ k. k) e ks T) ≡ add_to e (map life_at ks) (shape T)
  unfolding add_each add_to row_block life_at
  shape_each [] T = refl
  shape_each (k ∷ ks) T =
      shape_each ks (add_location (λ k. k) 63 k (row k).life.created (row k).life.destroyed 0 e T)
      ∙ ap (add_to e (map life_at ks)) (shape_add (λ k. k) k (row k).life.created (row k).life.destroyed 63 0 e T)

  -- the rows of the kind
  own_rows : List ℕ → List ℕ
  own_rows ks = own (λ k. (row k).kind) kind ks

  lives-rows : (ks : List ℕ) → lives_of kind (map row ks) ≡ map life_at (own_rows ks)
  unfolding lives_of own own_rows life_at
  lives-rows [] = refl
  lives-rows (k ∷ ks) = rw (lives-rows ks) (sym (map-cond life_at (eqb (row k).kind kind) (k ∷ own_rows ks) (own_rows ks)))

  -- rows in another order give the same counts
  pub lives_order : (xs ys : List ℕ) (T : Tree) → 0 < e → shape T ≡ T → ((k : ℕ) → count k xs ≡ count k ys)
      → add_to e (lives_of kind (map row xs)) T ≡ add_to e (lives_of kind (map row ys)) T
  unfolding own_rows
  lives_order xs ys T some same counts =
      let alike : (k : ℕ) → count k (own_rows xs) ≡ count k (own_rows ys) =
      λ k. count-own (λ k. (row k).kind) kind k xs ∙ ap (λ (n : ℕ). cond (eqb (row k).kind kind) n 0) (counts k) ∙ sym (count-own (λ k. (row k).kind) kind k ys) in
      let sum : add_each row_block (λ k. k) e (own_rows xs) T ≡ add_each row_block (λ k. k) e (own_rows ys) T =
      each_order row_block (λ k. k) e some (λ i j n _. n) (own_rows xs) (own_rows ys) T alike in
      let left : shape (add_each row_block (λ k. k) e (own_rows xs) T) ≡ add_to e (map life_at (own_rows xs)) T = rw same at (shape_each (own_rows xs) T) in
      let right : shape (add_each row_block (λ k. k) e (own_rows ys) T) ≡ add_to e (map life_at (own_rows ys)) T = rw same at (shape_each (own_rows ys) T) in
      rw (lives-rows xs, lives-rows ys) (sym left ∙ ap shape sum ∙ right)

-- ── what the counts say ──

pub shape_nodes : (T : Tree) → node_count (shape T) ≡ node_count T
unfolding node_count shape
shape_nodes hole = refl
shape_nodes (node xs l r) = omega (arith, shape_nodes l, shape_nodes r)

pub shape_entry_count : (T : Tree) → entry_count (shape T) ≡ entry_count T
unfolding entry_count shape
shape_entry_count hole = refl
shape_entry_count (node xs l r) = omega (arith, length-replicate {A = ℕ} (length xs) 0, shape_entry_count l, shape_entry_count r)

-- a table that holds the counts holds the tree's
pub shape_stands : (t : List ℕ) (kind link lo hi : ℕ) (T : Tree) → CountAt t kind link lo hi (shape T) → CountAt t kind link lo hi T
unfolding CountAt shape
shape_stands t kind link lo hi hole g = g
shape_stands t kind link lo hi (node xs l r) g = (
  rw (length-replicate {A = ℕ} (length xs) 0) at g.0,
  shape_stands t kind (left_at t link) lo (mid lo hi) l g.1,
  shape_stands t kind (right_at t link) (mid lo hi) hi r g.2,
)
