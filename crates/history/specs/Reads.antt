-- What the reads of a closed index give: block by number, find, read cells (01, "segment_tree.rs" and "Added: cells and clock"); touching, next and
-- last (02, Item 1).
use Rattle.std.specs.Prelude.{Bool, cond, ◌&&◌, ℕ, suc, ◌-◌, ◌+◌, ◌*◌, ◌/◌, ◌%◌, min, max, leb, ltb, length, get_or}
use Rattle.std.proofs.Math.Option.{Option, none, some}
use mathlib.Core.List.{List, [], ◌∷◌, map, filter_map, head?}
use Rattle.lists.specs.Lists.{count_from}
use Rattle.history.specs.Words.{Block, cell_place, first_cell, end_cell, live, live_of, byte_at}
use Rattle.history.specs.Tree.{Tree, tree_at, insert, block_at, key_in}
use Rattle.history.specs.Find.{find, visited}
use Rattle.history.specs.Days.{Day, minute_of, label_minute}
use Rattle.history.specs.Ledger.{Ledger}

-- the trees of a closed index, and that of a kind
abbrev pub trees_or_none : Option (List Tree) → List Tree
trees_or_none none = []
trees_or_none (some trees) = trees

abbrev pub tree_in : Ledger → (kind : ℕ) → Tree
tree_in l kind = tree_at (trees_or_none l.trees) kind

-- ── block by number ──

abbrev pub block_by : Ledger → (k : ℕ) → Block
block_by l k = block_at l.now.blocks k

-- ── find ──

-- the block numbers listed, and the number of nodes visited; the result carries how many they are
pub record Found : Type 0 where
  pub numbers : List ℕ
  pub visited : ℕ

unfoldable pub find_by : Ledger → (kind t start stop : ℕ) → Found
find_by l kind t s n =
    record {
      numbers = find l.opening.end l.now.blocks (tree_in l kind) t s n;
      visited = visited t 0 l.opening.end (tree_in l kind);
    }

-- ── touching, next, last ──

-- the numbers of the blocks of which the test holds, the first block being number n, ascending by key: each goes to its place among the later ones
unfoldable pub ascending_from : (key : ℕ → ℕ) (test : Block → Bool) (n : ℕ) → List Block → List ℕ
ascending_from key test n [] = []
ascending_from key test n (b ∷ bs) =
    let later = ascending_from key test (suc n) bs in
    cond (test b) (insert key n later) later

-- the numbers of the blocks of the kind that are live at t and of which the test holds, ascending by first cell
unfoldable pub live_by : Ledger → (kind t : ℕ) → (test : Block → Bool) → List ℕ
live_by l kind t test = ascending_from (key_in l.now.blocks) (λ b. live_of kind t b && test b) 0 l.now.blocks

-- the block holds a cell of [start, stop)
abbrev pub touches : (start stop : ℕ) → Block → Bool
touches s n b = ltb (max s (first_cell b)) (min n (end_cell b))

-- it starts at the cell or after it; all its cells are below the cell
abbrev pub starts_from : (cell : ℕ) → Block → Bool
starts_from c b = leb c (first_cell b)

abbrev pub ends_by : (cell : ℕ) → Block → Bool
ends_by c b = leb (end_cell b) c

-- the last of a list
unfoldable pub last_in : List ℕ → Option ℕ
last_in [] = none
last_in (k ∷ []) = some k
last_in (k ∷ j ∷ ks) = last_in (j ∷ ks)

-- of the kind all live blocks that hold any cell of [start, stop); the first that starts at or after a cell; the last whose cells are all below it
abbrev pub touching_by : Ledger → (kind t start stop : ℕ) → List ℕ
touching_by l kind t s n = live_by l kind t (touches s n)

abbrev pub next_by : Ledger → (kind t cell : ℕ) → Option ℕ
next_by l kind t c = head? (live_by l kind t (starts_from c))

abbrev pub last_by : Ledger → (kind t cell : ℕ) → Option ℕ
last_by l kind t c = last_in (live_by l kind t (ends_by c))

-- ── cells ──

-- the byte that a block gives a place at tick t, if it is live then and holds the place
unfoldable pub shows : (t place : ℕ) → Block → Option ℕ
shows t c b = cond (live t b) (byte_at c b.stretch) none

-- the bytes that the blocks live at t have for a place, one from each block that holds it
unfoldable pub seen : (t place : ℕ) → List Block → List ℕ
seen t c bs = filter_map (shows t c) bs

-- The byte, and 1 where a live block holds the cell. An unheld cell gives 0 and 0.
pub record Cells : Type 0 where
  pub bytes : List ℕ
  pub held : List ℕ

unfoldable pub cells_by : Ledger → (kind t start stop : ℕ) → Cells
cells_by l kind t s n =
    record {
      bytes = map (λ c. get_or (seen t (cell_place kind c) l.now.blocks) 0 0) (count_from s (n - s));
      held = map (λ c. min 1 (length (seen t (cell_place kind c) l.now.blocks))) (count_from s (n - s));
    }

-- ── the clock ──

-- hours times 100 plus minutes, at minute mod 1,440; the minute is the lower 32 bits of the cell
unfoldable pub label_of : (minute_of_day : ℕ) → ℕ
label_of m = m / 60 * 100 + m % 60

-- of a cell, by the list of days
unfoldable pub clock_label : List Day → (cell : ℕ) → ℕ
clock_label days c = label_of (label_minute days (minute_of c))

abbrev pub clock_by : Ledger → (cell : ℕ) → ℕ
clock_by l c = clock_label l.days c
