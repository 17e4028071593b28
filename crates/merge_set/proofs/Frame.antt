-- What a change of the table leaves of a tree in it. Assumes nothing.
use mathlib.Core.Bool.{Bool, true, false}
use mathlib.Core.List.{List, [], ◌∷◌, ◌++◌}
use mathlib.Core.Path.{◌≡◌, refl, sym, ◌∙◌}
use Prim.Native.Nat.{ℕ, suc, ◌+◌, ◌-◌, ◌*◌, ◌<◌, ◌≤◌, ◌^◌, max}
use native.Mathlib.Omega.{arith}
use lib.ListN.{length, set, length-set, length-append}
use lib.Seq.{get_or-set_same, get_or-set_other}
use lib.Dec.{ltb}
use borrow.Author.Tests.{lt-ltb, le-ltb, ltb-true, ltb-false, eq-eqb, ne_eqb}
use Rattle.lists.proofs.Lists.{mem_left, mem_right}
use Rattle.lists.specs.Lists.{Mem, here, there}
use Rattle.history.specs.Lent.{row_width}
use Rattle.tables.specs.Columns.{column, piece_depth, piece_right, piece_left}
use Rattle.tables.specs.Sums.{plus_up_to}
use Rattle.merge_set.proofs.Links.{mem_one, good_right, good-apart}
use Rattle.merge_set.specs.Table.{Good, Valid, Shape, Only, Result, Made, Deep, Higher, deep_at}
use Rattle.merge_set.specs.Tree.{Tree, leaf, node, height, rows, Maker}

-- two cells are one only where the row and the column are
pub column_eq : (k c x d : ℕ) → c < row_width → d < row_width → row_width * k + c ≡ row_width * x + d → (k ≡ x) × (c ≡ d)
column_eq k c x d hc hd e = omega arith

-- ── what changed ──

-- nothing, or less than is said, or one change after the other
pub only_refl : (t : List ℕ) (xs : List ℕ) → Only t t xs
only_refl t xs = record { len = refl; same = λ k c h n. refl }

pub only_wider : {t t' : List ℕ} {xs ys : List ℕ} → ((k : ℕ) → Mem k xs → Mem k ys) → Only t t' xs → Only t t' ys
only_wider f o = record { len = o.len; same = λ k c h n. o.same k c h (λ m. n (f k m)) }

pub only_then : {t t' t'' : List ℕ} {xs : List ℕ} → Only t t' xs → Only t' t'' xs → Only t t'' xs
only_then o p = record { len = p.len ∙ o.len; same = λ k c h n. p.same k c h n ∙ o.same k c h n }

-- one store to a tree column
pub only_set : (t : List ℕ) (x d v : ℕ) → 4 ≤ d → d ≤ 6 → Only t (set t (row_width * x + d) v) (x ∷ [])
only_set t x d v lo hi =
    record {
      len = length-set t (row_width * x + d) v;
      same = λ k c h n.
          get_or-set_other t (row_width * x + d) (row_width * k + c) v 0
          (λ e. let s : (k ≡ x) × (c ≡ d) = column_eq k c x d h (omega arith) e in n (here s.0) (omega arith) (omega arith));
    }

-- rows stay rows
pub valid_keep : {t t' : List ℕ} {k : ℕ} {xs : List ℕ} → Only t t' xs → Valid t k → Valid t' k
valid_keep o v = record { some = v.some; room = omega (arith, o.len) }

-- a tree stays where the tree columns of its rows do
pub stays : (t t' : List ℕ) → length t' ≡ length t → (r : ℕ) (T : Tree)
    → ((k c : ℕ) → Mem k (rows T) → piece_left ≤ c → c ≤ piece_depth → column t' k c ≡ column t k c) → Shape t r T → Shape t' r T
unfolding Shape rows height
stays t t' len r leaf f s = s
stays t t' len r (node a x b) f s =
    let me : Mem x (rows a ++ x ∷ rows b) = mem_right (rows a) (x ∷ rows b) (here refl) in
    let u : Shape t' (column t x piece_left) a = stays t t' len (column t x piece_left) a (λ k c m. f k c (mem_left (rows a) (x ∷ rows b) m)) s.left in
    let v : Shape t' (column t x piece_right) b = stays t t' len (column t x piece_right) b (λ k c m. f k c (mem_right (rows a) (x ∷ rows b) (there m))) s.right in
    record {
      is = s.is;
      valid = record { some = s.valid.some; room = omega (arith, s.valid.room) };
      left = rw (f x 4 me (omega arith) (omega arith)) u;
      right = rw (f x 5 me (omega arith) (omega arith)) v;
      deep = f x 6 me (omega arith) (omega arith) ∙ s.deep;
    }

-- the frame: a change of the rows xs leaves a tree that has none of them
pub keep : {t t' : List ℕ} {xs : List ℕ} (r : ℕ) (T : Tree) → Only t t' xs → ((k : ℕ) → Mem k xs → Mem k (rows T) → ⊥) → Shape t r T → Shape t' r T
keep {t} {t'} r T o apart s = stays t t' o.len r T (λ k c m lo hi. o.same k c (omega arith) (λ n _ _. apart k n m)) s

-- ── depths ──

-- a tree is no higher than it has links
pub height-rows : (T : Tree) → height T ≤ length (rows T)
unfolding height rows
height-rows leaf = omega arith
height-rows (node a x b) = omega (arith, height-rows a, height-rows b, length-append (rows a) (x ∷ rows b))

-- the depth that the table says is the height
pub deep_at_lem : {t : List ℕ} {k d : ℕ} → d ≡ deep_at t k → Deep t k d
unfolding Shape height
deep_at_lem {t} {k} {d} e = rw e (record { says = go })
  where
    go : (A : Tree) → Shape t k A → deep_at t k ≡ height A
    go leaf s = rw (eq-eqb k 0 s)
    go (node a x b) s = rw (ne_eqb k 0 (λ z. omega (arith, s.is, s.valid.some)), s.is) s.deep

-- `higher`, by the depths that were read
pub higher_by : (t : List ℕ) (l r n d e : ℕ) → d ≡ deep_at t l → e ≡ deep_at t r → Higher t l r n (ltb n (e - d))
higher_by t l r n d e ed ee = record { says = λ A B sa sb. go (height A) (height B) ((deep_at_lem ed).says A sa) ((deep_at_lem ee).says B sb) (ltb n (e - d)) refl }
  where
    go : (a b : ℕ) → d ≡ a → e ≡ b → (q : Bool) → ltb n (e - d) ≡ q → ltb n (e - d) ≡ ltb (a + n) b
    go a b ha hb true h = h ∙ sym (lt-ltb (a + n) b (omega (arith, ltb-true n (e - d) h)))
    go a b ha hb false h = h ∙ sym (le-ltb (a + n) b (omega (arith, ltb-false n (e - d) h)))

-- ── `join` ──

-- a store, read in its own column and in an earlier one
pub column_put : (t : List ℕ) (x d v : ℕ) → d < row_width → Valid t x → column (set t (row_width * x + d) v) x d ≡ v
column_put t x d v h w = get_or-set_same t (row_width * x + d) v 0 (omega arith)

column-past : (t : List ℕ) (x c d v : ℕ) → c < d → column (set t (row_width * x + d) v) x c ≡ column t x c
column-past t x c d v h = get_or-set_other t (row_width * x + d) (row_width * x + c) v 0 (omega arith)

-- three stores make the row x the root over two trees that do not have it
module _ (t : List ℕ) (l x r d dl dr : ℕ) (el : dl ≡ deep_at t l) (er : dr ≡ deep_at t r) (ed : d ≡ plus_up_to (max dl dr) 1) where
  hl : Deep t l dl
  hl = deep_at_lem el

  hr : Deep t r dr
  hr = deep_at_lem er

  pub joined : (t₁ t₂ t₃ : List ℕ) → t₁ ≡ set t (row_width * x + 4) l → t₂ ≡ set t₁ (row_width * x + 5) r → t₃ ≡ set t₂ (row_width * x + 6) d → Made t t₃ l x r node x
  unfolding Shape height
  joined t₁ t₂ t₃ e₁ e₂ e₃ = record { done = go }
    where
      one : Only t t₁ (x ∷ [])
      one = rw e₁ (only_set t x 4 l (omega arith) (omega arith))

      two : Only t₁ t₂ (x ∷ [])
      two = rw e₂ (only_set t₁ x 5 r (omega arith) (omega arith))

      three : Only t₂ t₃ (x ∷ [])
      three = rw e₃ (only_set t₂ x 6 d (omega arith) (omega arith))

      all : Only t t₃ (x ∷ [])
      all = only_then one (only_then two three)

      go : (A B : Tree) → Shape t l A → Shape t r B → Valid t x → Good (rows A ++ x ∷ rows B) → Result t t₃ x (node A x B) (rows A ++ x ∷ rows B)
      go A B sa sb v g =
          let four : column t₃ x piece_left ≡ l = rw (e₃, column-past t₂ x 4 6 d (omega arith), e₂, column-past t₁ x 4 5 r (omega arith), e₁) (column_put t x 4 l (omega arith) v) in
          let five : column t₃ x piece_right ≡ r = rw (e₃, column-past t₂ x 5 6 d (omega arith), e₂) (column_put t₁ x 5 r (omega arith) (valid_keep one v)) in
          let six : column t₃ x piece_depth ≡ d = rw e₃ (column_put t₂ x 6 d (omega arith) (valid_keep two (valid_keep one v))) in
          let n : length (rows A ++ x ∷ rows B) ≡ length (rows A) + suc (length (rows B)) = length-append (rows A) (x ∷ rows B) in
          let pa : dl < 2 ^ 63 = omega (arith, hl.says A sa, height-rows A, g.few) in
          let pb : dr < 2 ^ 63 = omega (arith, hr.says B sb, height-rows B, g.few) in
          let h : d ≡ suc (max (height A) (height B)) = rw (← hl.says A sa, ← hr.says B sb) (omega (arith, ed)) in
          record {
            shape = record {
              is = refl;
              valid = valid_keep all v;
              left = rw four (keep l A all (λ k m n. good-apart (rows A) (x ∷ rows B) g n (mem_one (rows B) m)) sa);
              right = rw five (keep r B all (λ k m n. good-apart (x ∷ []) (rows B) (good_right (rows A) (x ∷ rows B) g) m n) sb);
              deep = six ∙ h;
            };
            only = only_wider (λ k m. mem_right (rows A) (x ∷ rows B) (mem_one (rows B) m)) all;
          }

-- the left tree was changed to I within xs; then the root is made
pub on_left : {t t₁ t₂ : List ℕ} {m y r o : ℕ} {w : Maker} {xs zs : List ℕ} {I : Tree} (B : Tree) → Result t t₁ m I xs → Made t₁ t₂ m y r w o
    → Shape t r B → Valid t y → ((j : ℕ) → Mem j xs → Mem j (rows B) → ⊥) → Good (rows I ++ y ∷ rows B)
    → ((j : ℕ) → Mem j xs → Mem j zs) → ((j : ℕ) → Mem j (rows I ++ y ∷ rows B) → Mem j zs) → Result t t₂ o (w I y B) zs
on_left {t} {t₁} {t₂} {m} {y} {r} {o} {w} {xs} {zs} {I} B one q s_b v apart g f h =
    let two : Result t₁ t₂ o (w I y B) (rows I ++ y ∷ rows B) = q.done I B one.shape (keep r B one.only apart s_b) (valid_keep one.only v) g in
    record { shape = two.shape; only = only_then (only_wider f one.only) (only_wider h two.only) }

-- and the right one
pub on_right : {t t₁ t₂ : List ℕ} {m y l o : ℕ} {w : Maker} {xs zs : List ℕ} {I : Tree} (A : Tree) → Result t t₁ m I xs → Made t₁ t₂ l y m w o
    → Shape t l A → Valid t y → ((j : ℕ) → Mem j xs → Mem j (rows A) → ⊥) → Good (rows A ++ y ∷ rows I)
    → ((j : ℕ) → Mem j xs → Mem j zs) → ((j : ℕ) → Mem j (rows A ++ y ∷ rows I) → Mem j zs) → Result t t₂ o (w A y I) zs
on_right {t} {t₁} {t₂} {m} {y} {l} {o} {w} {xs} {zs} {I} A one q s_a v apart g f h =
    let two : Result t₁ t₂ o (w A y I) (rows A ++ y ∷ rows I) = q.done A I (keep l A one.only apart s_a) one.shape (valid_keep one.only v) g in
    record { shape = two.shape; only = only_then (only_wider f one.only) (only_wider h two.only) }
