-- What find lists, and how many nodes it visits (01, "segment_tree.rs", Find).
use Rattle.std.specs.Prelude.{Bool, cond, List, [], ◌∷◌, ◌++◌, ℕ, zero, suc, ltb}
use Rattle.history.specs.Words.{within, Block}
use Rattle.history.specs.Tree.{Tree, hole, node, mid, halves, covers, key_in}

-- ── the way down ──

-- The entries met on the way down to tick t: one child at each node, left if the tick is below mid; root first.
unfoldable pub path : (t lo hi : ℕ) → Tree → List ℕ
path t lo hi hole = []
path t lo hi (node es l r) =
    let a = path t lo (mid lo hi) l in
    let b = path t (mid lo hi) hi r in
    let below = cond (ltb t (mid lo hi)) a b in
    es ++ cond (halves lo hi) below []

-- the number of nodes visited on that way
unfoldable pub visited : (t lo hi : ℕ) → Tree → ℕ
visited t lo hi hole = 0
visited t lo hi (node es l r) =
    let a = visited t lo (mid lo hi) l in
    let b = visited t (mid lo hi) hi r in
    let below = cond (ltb t (mid lo hi)) a b in
    suc (cond (halves lo hi) below 0)

-- a node's interval [from, to)
pub record Interval : Type 0 where
  pub from : ℕ
  pub to : ℕ

-- the interval of the node at a depth on that way, the root's [lo, hi) at depth 0: the half that has the tick follows
unfoldable pub way_to : (t lo hi depth : ℕ) → Interval
way_to t lo hi zero = record { from = lo; to = hi }
way_to t lo hi (suc depth) =
    let a = way_to t lo (mid lo hi) depth in
    let b = way_to t (mid lo hi) hi depth in
    cond (ltb t (mid lo hi)) a b

-- the block's life covers the node
abbrev pub covers_at : Interval → Block → Bool
covers_at n b = covers b.created b.destroyed n.from n.to

-- ── what is listed ──

-- those of the block numbers whose first cell is in [start, stop)
unfoldable pub window : (key : ℕ → ℕ) (start stop : ℕ) → List ℕ → List ℕ
window key s e [] = []
window key s e (k ∷ ks) =
    let rest = window key s e ks in
    cond (within s e (key k)) (k ∷ rest) rest

-- At each node it lists the entries with first cell in [start, stop), ascending within a node.
unfoldable pub find : (end : ℕ) → List Block → Tree → (t start stop : ℕ) → List ℕ
find e bs tree t s n = window (key_in bs) s n (path t 0 e tree)
