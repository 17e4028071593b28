-- Which tree stands in the piece table, and what each function leaves of it: `t` is the table at entry, `t'` at exit. The functions below `insert` are
-- stated over the tree that they are given; which pieces a table stands for is said one crate above. Definitions alone.
use Rattle.std.specs.Prelude.{◌≡◌, Bool, cond, List, ◌∷◌, ◌++◌, ℕ, ◌+◌, ◌*◌, ◌≤◌, ◌<◌, ◌^◌, length, ltb, eqb}
use Rattle.lists.specs.Lists.{Mem, Distinct}
use Rattle.history.specs.Words.{cell_place}
use Rattle.history.specs.Lent.{row_width}
use Rattle.tables.specs.Columns.{column, piece_first, piece_left, piece_right, piece_depth, piece_owner}
use Rattle.merge_set.specs.Tree.{Tree, leaf, node, height, rows, Maker, inserted, least, without_least, glued, removed, relinked}

-- ── rows and trees ──

-- the key by which links are ordered: the place of the first cell, by kind and cell
abbrev pub first_at : (t : List ℕ) (link : ℕ) → ℕ
first_at t link = cell_place (column t link piece_owner) (column t link piece_first)

-- `starts_below`: the piece of a link starts before a kind's cell
pub record StartsBelow (t : List ℕ) (link kind cell : ℕ) (out : Bool) : Type 0 where
  pub is : out ≡ ltb (first_at t link) (cell_place kind cell)

-- `starts_before`: the piece of `one` starts before that of `other`
pub record StartsBefore (t : List ℕ) (one other : ℕ) (out : Bool) : Type 0 where
  pub is : out ≡ ltb (first_at t one) (first_at t other)

-- the depth that a link says
abbrev pub deep_at : (t : List ℕ) (link : ℕ) → ℕ
deep_at t link = cond (eqb link 0) 0 (column t link piece_depth)

-- the link of a row of the table
pub record Valid (t : List ℕ) (link : ℕ) : Type 0 where
  pub some : 0 < link
  pub room : row_width * link + row_width ≤ length t

-- the link leads to the row x, whose subtrees are as L and R say and whose depth is h
pub record Row (t : List ℕ) (link x h : ℕ) (L R : Type 0) : Type 0 where
  pub is : link ≡ x
  pub valid : Valid t x
  pub left : L
  pub right : R
  pub deep : column t x piece_depth ≡ h

-- the link leads to the tree
unfoldable pub Shape : (t : List ℕ) (link : ℕ) → Tree → Type 0
unfolding height
Shape t link leaf = link ≡ 0
Shape t link (node a x b) = Row t link x (height (node a x b)) (Shape t (column t x piece_left) a) (Shape t (column t x piece_right) b)

-- the links of a tree: no repetition, and few enough to count
pub record Good (links : List ℕ) : Type 0 where
  pub distinct : Distinct links
  pub few : length links < 2 ^ 63

-- ── what a call leaves ──

-- nothing changed but the columns left, right and depth of the rows xs
pub record Only (t t' : List ℕ) (xs : List ℕ) : Type 0 where
  pub len : length t' ≡ length t
  pub same : (k c : ℕ) → c < row_width → (Mem k xs → piece_left ≤ c → c ≤ piece_depth → ⊥) → column t' k c ≡ column t k c

-- the link leads to the tree T now, and only the tree columns of xs changed
pub record Result (t t' : List ℕ) (link : ℕ) (T : Tree) (xs : List ℕ) : Type 0 where
  pub shape : Shape t' link T
  pub only : Only t t' xs

-- `join`, `update`, `rotate_left`, `rotate_right`: of the trees left and right of a row, the tree that the maker makes
pub record Made (t t' : List ℕ) (left row right : ℕ) (make : Maker) (out : ℕ) : Type 0 where
  pub done : (A B : Tree) → Shape t left A → Shape t right B → Valid t row → Good (rows A ++ row ∷ rows B)
      → Result t t' out (make A row B) (rows A ++ row ∷ rows B)

-- `depth`: the height of the tree at the link
pub record Deep (t : List ℕ) (link d : ℕ) : Type 0 where
  pub says : (A : Tree) → Shape t link A → d ≡ height A

-- `higher`: whether the tree at `right` is higher than the tree at `left` by more than n
pub record Higher (t : List ℕ) (left right n : ℕ) (answer : Bool) : Type 0 where
  pub says : (A B : Tree) → Shape t left A → Shape t right B → answer ≡ ltb (height A + n) (height B)

-- `insert`: the row is put into the tree at the link, by its place
pub record Inserted (t t' : List ℕ) (link row fuel out : ℕ) : Type 0 where
  pub done : (T : Tree) → Shape t link T → height T ≤ fuel → Valid t row → Good (row ∷ rows T)
      → Result t t' out (inserted (first_at t) row T) (row ∷ rows T)

-- `least` and `without_least`: the first link of the tree at the link, and the tree without it
pub record Least (t : List ℕ) (link fuel out : ℕ) : Type 0 where
  pub says : (T : Tree) → Shape t link T → (link ≡ 0 → ⊥) → height T ≤ fuel → out ≡ least T

pub record WithoutLeast (t t' : List ℕ) (link fuel out : ℕ) : Type 0 where
  pub done : (T : Tree) → Shape t link T → (link ≡ 0 → ⊥) → height T ≤ fuel → Good (rows T) → Result t t' out (without_least T) (rows T)

-- `glue`: two trees as one
pub record Glued (t t' : List ℕ) (left right fuel out : ℕ) : Type 0 where
  pub done : (A B : Tree) → Shape t left A → Shape t right B → height B ≤ fuel → Good (rows A ++ rows B) → Result t t' out (glued A B) (rows A ++ rows B)

-- `remove`: the row is taken out of the tree at the link
pub record Removed (t t' : List ℕ) (link row fuel out : ℕ) : Type 0 where
  pub done : (T : Tree) → Shape t link T → height T ≤ fuel → Good (rows T) → Result t t' out (removed (first_at t) row T) (rows T)

-- the row `new` is a copy of the row `old`
pub record CopyOf (t : List ℕ) (old new : ℕ) : Type 0 where
  pub valid : Valid t new
  pub same : (c : ℕ) → c < row_width → column t new c ≡ column t old c

-- `copy_row`: one row is a copy of another, and every other row is as it was
pub record CopiedRow (t t' : List ℕ) (old new : ℕ) : Type 0 where
  pub len : length t' ≡ length t
  pub there : Valid t new → (c : ℕ) → c < row_width → column t' new c ≡ column t old c
  pub rest : (k c : ℕ) → c < row_width → (k ≡ new → ⊥) → column t' k c ≡ column t k c

-- `relink`: the row `new`, a copy of `old`, stands in its place in the tree at the link
pub record Relinked (t t' : List ℕ) (link old new fuel out : ℕ) : Type 0 where
  pub done : (T : Tree) → Shape t link T → height T ≤ fuel → CopyOf t old new → Good (new ∷ rows T)
      → Result t t' out (relinked (first_at t) old new T) (new ∷ rows T)
