-- The model: trees of links, and what each operation makes of them. Definitions alone: their laws stand in proofs/.
use Rattle.std.specs.Prelude.{cond, List, [], ◌∷◌, ◌++◌, ℕ, zero, suc, ◌+◌, ◌≤◌, max, ltb, eqb}

-- ── trees ──

pub data Tree : Type 0 where
  leaf : Tree
  node : Tree → ℕ → Tree → Tree

unfoldable pub height : Tree → ℕ
height leaf = 0
height (node a x b) = suc (max (height a) (height b))

-- the links, in order
unfoldable pub rows : Tree → List ℕ
rows leaf = []
rows (node a x b) = rows a ++ x ∷ rows b

-- the balance of Adelson-Velsky and Landis: at every node the heights of the two subtrees differ by one at most
unfoldable pub Balanced : Tree → Type 0
Balanced leaf = Unit {0}
Balanced (node a x b) = Balanced a × Balanced b × (height a ≤ height b + 1) × (height b ≤ height a + 1)

-- the fewest links of a balanced tree of height n, and of one of height n + 1: 0, 1, 2, 4, 7, 12, ..
unfoldable pub fewest_two : ℕ → ℕ × ℕ
fewest_two zero = (0, 1)
fewest_two (suc n) = let two = fewest_two n in (two.1, suc (two.0 + two.1))

abbrev pub fewest : ℕ → ℕ
fewest n = (fewest_two n).0

-- ── update and the rotations ──

-- a way to make one tree of a link and the trees left and right of it
abbrev pub Maker : Type 0
Maker = Tree → ℕ → Tree → Tree

unfoldable pub rotated_left : Maker → Maker
rotated_left u a x leaf = node a x leaf
rotated_left u a x (node b y c) = u (u a x b) y c

unfoldable pub rotated_right : Maker → Maker
rotated_right u leaf x c = node leaf x c
rotated_right u (node a y b) x c = u a y (u b x c)

-- a right subtree that leans left is turned right first, and a left one that leans right is turned left
unfoldable pub straight_right : Maker → Tree → Tree
straight_right u leaf = leaf
straight_right u (node b y c) = cond (ltb (height c + 0) (height b)) (rotated_right u b y c) (node b y c)

unfoldable pub straight_left : Maker → Tree → Tree
straight_left u leaf = leaf
straight_left u (node b y c) = cond (ltb (height b + 0) (height c)) (rotated_left u b y c) (node b y c)

-- update with a number of rotations left
unfoldable pub updated : (turns : ℕ) → Maker
updated zero a x b = node a x b
updated (suc turns) a x b =
    cond (ltb (height a + 1) (height b)) (rotated_left (updated turns) a x (straight_right (updated turns) b))
    (cond (ltb (height b + 1) (height a)) (rotated_right (updated turns) (straight_left (updated turns) a) x b) (node a x b))

-- ── insertion and removal ──

-- insertion of a link by its key
unfoldable pub inserted : (key : ℕ → ℕ) (link : ℕ) → Tree → Tree
inserted key link leaf = node leaf link leaf
inserted key link (node a x b) = cond (ltb (key link) (key x)) (updated 1 (inserted key link a) x b) (updated 1 a x (inserted key link b))

-- the same on the list of links
unfoldable pub in_order : (key : ℕ → ℕ) (link : ℕ) → List ℕ → List ℕ
in_order key link [] = link ∷ []
in_order key link (x ∷ xs) = cond (ltb (key link) (key x)) (link ∷ x ∷ xs) (x ∷ in_order key link xs)

-- the first link of a tree, and the tree without it
unfoldable pub least : Tree → ℕ
least leaf = 0
least (node leaf x b) = x
least (node (node a y c) x b) = least (node a y c)

unfoldable pub without_least : Tree → Tree
without_least leaf = leaf
without_least (node leaf x b) = b
without_least (node (node a y c) x b) = updated 1 (without_least (node a y c)) x b

-- two trees as one: the first link of the second stands between them
unfoldable pub glued : Tree → Tree → Tree
glued a leaf = a
glued a (node b x c) = updated 1 a (least (node b x c)) (without_least (node b x c))

-- removal of the link with the key of `link`
unfoldable pub removed : (key : ℕ → ℕ) (link : ℕ) → Tree → Tree
removed key link leaf = leaf
removed key link (node a y b) =
    cond (ltb (key link) (key y)) (updated 1 (removed key link a) y b)
    (cond (ltb (key y) (key link)) (updated 1 a y (removed key link b)) (glued a b))

-- the link `old`, found by its key, becomes the link `new`
unfoldable pub relinked : (key : ℕ → ℕ) (old new : ℕ) → Tree → Tree
relinked key old new leaf = leaf
relinked key old new (node a z b) =
    cond (eqb z old) (node a new b) (cond (ltb (key old) (key z)) (node (relinked key old new a) z b) (node a z (relinked key old new b)))
