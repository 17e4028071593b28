-- A table for every list of pieces: a balanced tree of the links 1 to n, and the rows that it stands in. Assumes nothing.
use mathlib.Core.Path.{◌≡◌, refl, ap, ap₂, sym, ◌∙◌}
use mathlib.Core.Bool.{Bool, true, false, cond}
use mathlib.Core.List.{List, [], ◌∷◌, ◌++◌, map}
use Prim.Native.Nat.{ℕ, zero, suc, ◌+◌, ◌*◌, ◌^◌, ◌≤◌, ◌<◌}
use native.Mathlib.Omega.{arith}
use lib.Dec.{ltb, eqb}
use lib.ListN.{length, get_or}
use borrow.Author.Tests.{eq-eqb, ne_eqb, lt-ltb, le-ltb}
use Rattle.merge_set.proofs.Frame.{height-rows}
use Rattle.lists.specs.Lists.{All, all_nil, all_cons, Mem, here, there, Ascending, count_from}
use Rattle.lists.proofs.Lists.{all_left, all_right, all_mem, all_at, mem_left, mem_right, count_from_length, ascending_distinct}
use Rattle.lists.proofs.Counting.{map_from_at, all_count_from}
use Rattle.history.specs.Lent.{row_width}
use Rattle.history.specs.Words.{Piece, size, line_of, cell_place, cell_of}
use Rattle.history.specs.Ledger.{Moment}
use Rattle.history.specs.Sound as sound
use Rattle.tables.specs.Columns.{column, piece_first, piece_length, piece_written, piece_offset, piece_left, piece_right, piece_depth, piece_owner, pieces_root, pieces_count}
use Rattle.merge_set.specs.Tree.{Tree, leaf, node, height, rows, Balanced, inserted, in_order}
use Rattle.merge_set.specs.Table.{Valid, Shape}
use Rattle.merge_set.proofs.Order.{ascending_left, ascending_right, ascending_tail, ascending_across, ascending_head, inserted-rows}
use Rattle.merge_set.proofs.Balance.{inserted_balanced}
use Rattle.piece_table.specs.Piece.{PieceRow, piece_at}
use Rattle.piece_table.specs.Rep.{Links}
use Rattle.piece_table.specs.Shown.{shown}
use Rattle.layout.specs.Law.{Word}
use Rattle.layout.proofs.ExistsTable.{count_from_ascending, table_by, table_by_length, table_by_at, part_in, all_get, table_by_words}

-- ── a balanced tree ──

-- the links 1 to n, inserted one after the other
unfoldable pub tree_to : (n : ℕ) → Tree
tree_to zero = leaf
tree_to (suc n) = inserted (λ k. k) (suc n) (tree_to n)

-- a link above all others stands behind them
in-order-last : (n many : ℕ) → in_order (λ k. k) (n + many) (count_from n many) ≡ count_from n (suc many)
unfolding in_order count_from
in-order-last n zero = let z : n + 0 ≡ n = omega arith in rw z
in-order-last n (suc many) =
    let z : n + suc many ≡ suc n + many = omega arith in
    let behind : ltb (n + suc many) n ≡ false = le-ltb (n + suc many) n (omega arith) in
    ap (λ (b : Bool). cond b ((n + suc many) ∷ n ∷ count_from (suc n) many) (n ∷ in_order (λ k. k) (n + suc many) (count_from (suc n) many))) behind
    ∙ ap (λ (k : ℕ). n ∷ in_order (λ k. k) k (count_from (suc n) many)) z
    ∙ ap (λ (r : List ℕ). n ∷ r) (in-order-last (suc n) many)

-- its links in order
pub tree_to_rows : (n : ℕ) → rows (tree_to n) ≡ count_from 1 n
unfolding tree_to rows count_from
tree_to_rows zero = refl
tree_to_rows (suc n) =
    let ih = tree_to_rows n in
    let z : suc n ≡ 1 + n = omega arith in
    inserted-rows (λ k. k) (suc n) (tree_to n) (rw ih (count_from_ascending 1 n))
    ∙ rw (ih, z) (in-order-last 1 n)

-- insertion keeps the balance
pub tree_to_balanced : (n : ℕ) → Balanced (tree_to n)
unfolding tree_to Balanced
tree_to_balanced zero = tt
tree_to_balanced (suc n) = (inserted_balanced (λ k. k) (suc n) (tree_to n) (tree_to_balanced n)).balanced

-- ── its rows ──

-- the root of a tree, 0 if it has none, and its two subtrees
unfoldable pub root_of : Tree → ℕ
root_of leaf = 0
root_of (node a x b) = x

unfoldable pub left_of : Tree → Tree
left_of leaf = leaf
left_of (node a x b) = a

unfoldable pub right_of : Tree → Tree
right_of leaf = leaf
right_of (node a x b) = b

-- the part of a tree of ascending links that has the link at its root
unfoldable pub part_at : (link : ℕ) → Tree → Tree
part_at link leaf = leaf
part_at link (node a x b) = cond (eqb link x) (node a x b) (cond (ltb link x) (part_at link a) (part_at link b))

part_here : (a : Tree) (x : ℕ) (b : Tree) → part_at x (node a x b) ≡ node a x b
unfolding part_at
part_here a x b = rw (eq-eqb x x refl)

part_left : (link : ℕ) (a : Tree) (x : ℕ) (b : Tree) → link < x → part_at link (node a x b) ≡ part_at link a
unfolding part_at
part_left link a x b h = rw (ne_eqb link x (λ e. omega arith), lt-ltb link x h)

part_right : (link : ℕ) (a : Tree) (x : ℕ) (b : Tree) → x < link → part_at link (node a x b) ≡ part_at link b
unfolding part_at
part_right link a x b h = rw (ne_eqb link x (λ e. omega arith), le-ltb link x (omega arith))

-- the row of a link says the part of the tree that it is the root of
pub record Says (t : List ℕ) (link : ℕ) (part : Tree) : Type 0 where
  pub valid : Valid t link
  pub left : column t link piece_left ≡ root_of (left_of part)
  pub right : column t link piece_right ≡ root_of (right_of part)
  pub deep : column t link piece_depth ≡ height part

-- rows that say a tree of ascending links, each its part, are in its shape
pub says_shape : (t : List ℕ) (T : Tree) → Ascending (λ k. k) (rows T) → ((link : ℕ) → Mem link (rows T) → Says t link (part_at link T))
    → Shape t (root_of T) T
unfolding Shape rows root_of left_of right_of
says_shape t leaf o f = refl
says_shape t (node a x b) o f =
    let h : Says t x (node a x b) = rw (part_here a x b) at (f x (mem_right (rows a) (x ∷ rows b) (here refl))) in
    let tail = ascending_right (λ k. k) (rows a) (x ∷ rows b) o in
    record {
      is = refl;
      valid = h.valid;
      left =
          left_shape h
          (says_shape t a (ascending_left (λ k. k) (rows a) (x ∷ rows b) o)
          (λ link m.
          let less : link < x = ascending_across (λ k. k) (rows a) (x ∷ rows b) o link x m (here refl) in
          rw (part_left link a x b less) at (f link (mem_left (rows a) (x ∷ rows b) m))));
      right =
          right_shape h
          (says_shape t b (ascending_tail (λ k. k) tail)
          (λ link m.
          let more : x < link = ascending_head (λ k. k) tail link m in
          rw (part_right link a x b more) at (f link (mem_right (rows a) (x ∷ rows b) (there m)))));
      deep = h.deep;
    }
  where
    left_shape : Says t x (node a x b) → Shape t (root_of a) a → Shape t (column t x piece_left) a
    left_shape h s = rw h.left s

    right_shape : Says t x (node a x b) → Shape t (root_of b) b → Shape t (column t x piece_right) b
    right_shape h s = rw h.right s

-- a table whose rows say the tree has the links 1 to n
pub says_links : (t : List ℕ) (n : ℕ) → column t 0 pieces_root ≡ root_of (tree_to n) → column t 0 pieces_count ≡ n → row_width * n + row_width ≤ length t
    → ((link : ℕ) → 0 < link → link ≤ n → Says t link (part_at link (tree_to n))) → Links t (count_from 1 n)
says_links t n root count room f =
    record {
      tree = tree_to n;
      is = tree_to_rows n;
      shape =
          rw root
          (says_shape t (tree_to n) (rw (tree_to_rows n) (count_from_ascending 1 n))
          (λ link m. let r = inside link (rw (tree_to_rows n) at m) in f link r.0 r.1));
      balanced = tree_to_balanced n;
      count = count_from_length 1 n ∙ sym count;
      within = λ link m. rw count (inside link m).1;
      once = ascending_distinct (λ k. k) (count_from_ascending 1 n);
      room = rw count room;
    }
  where
    inside : (link : ℕ) → Mem link (count_from 1 n) → (0 < link) × (link ≤ n)
    inside link m = all_mem (all_count_from {P = λ k. (0 < k) × (k ≤ n)} 1 n (λ k h l. (omega arith, omega arith))) m

-- ── the table ──

-- the piece starts on the line of its kind
pub record OnLine (p : PieceRow) : Type 0 where
  pub from : line_of p.owner ≤ p.first

-- the rows of pieces whose bytes lie in the first `used` bytes of a store
pub record PieceRows (store : List ℕ) (used : ℕ) (ps : List Piece) : Type 0 where
  pub rows : List PieceRow
  pub shows : map (shown store) rows ≡ ps
  pub inside : All (λ (p : PieceRow). p.offset + p.size ≤ used) rows
  pub lines : All OnLine rows

-- every sound piece has a row; the store may go on behind the used part
pub piece-rows : (kinds : List ℕ) (m : Moment) (rest : List ℕ) (ps : List Piece) → All (sound.SoundPiece kinds m) ps → PieceRows (m.store ++ rest) (length m.store) ps
piece-rows kinds m rest [] all_nil = record { rows = []; shows = refl; inside = all_nil; lines = all_nil }
piece-rows kinds m rest (p ∷ ps) (all_cons h hs) =
    let stored = h.stretch.stored in
    let more = piece-rows kinds m rest ps hs in
    let row : PieceRow = record { first = p.stretch.first; size = size p.stretch; written = p.written; offset = stored.offset; owner = p.kind } in
    let is : shown (m.store ++ rest) row ≡ p =
    λ i. record { kind = p.kind; stretch = record { first = p.stretch.first; bytes = part_in m.store rest p.stretch stored i }; written = p.written } in
    record {
      rows = row ∷ more.rows;
      shows = ap₂ (λ (q : Piece) (qs : List Piece). q ∷ qs) is more.shows;
      inside = all_cons stored.inside more.inside;
      lines = all_cons {x = row} (record { from = omega (arith, h.stretch.from_line) }) more.lines;
    }

abbrev pub no_piece : PieceRow
no_piece = record { first = 0; size = 0; written = 0; offset = 0; owner = 0 }

-- the head says the root and the count
unfoldable pub piece_row : (ps : List PieceRow) (link : ℕ) → List ℕ
piece_row ps zero = root_of (tree_to (length ps)) ∷ length ps ∷ []
piece_row ps (suc k) =
    let p = get_or ps k no_piece in
    let part = part_at (suc k) (tree_to (length ps)) in
    cell_of p.owner p.first ∷ p.size ∷ p.written ∷ p.offset ∷ root_of (left_of part) ∷ root_of (right_of part) ∷ height part ∷ p.owner ∷ []

-- as long as it is lent
unfoldable pub piece_table : (many : ℕ) (ps : List PieceRow) → List ℕ
piece_table many ps = table_by 0 many (piece_row ps)

pub piece_table_length : (many : ℕ) (ps : List PieceRow) → length (piece_table many ps) ≡ many
unfolding piece_table
piece_table_length many ps = table_by_length 0 many (piece_row ps)

module _ (many : ℕ) (ps : List PieceRow) (room : row_width * length ps + row_width ≤ many) where
  -- a column in use reads as the row says
  piece-column : (link c : ℕ) → link ≤ length ps → c < row_width → column (piece_table many ps) link (0 + c) ≡ get_or (piece_row ps link) c 0
  unfolding piece_table
  piece-column link c h k = table_by_at 0 many (piece_row ps) link c k (omega arith)

  piece_says : (link : ℕ) → 0 < link → link ≤ length ps → Says (piece_table many ps) link (part_at link (tree_to (length ps)))
  unfolding piece_row
  piece_says zero p h = absurd (omega arith)
  piece_says (suc k) p h =
      record {
        valid = record { some = omega arith; room = omega (arith, piece_table_length many ps) };
        left = piece-column (suc k) piece_left h (omega arith);
        right = piece-column (suc k) piece_right h (omega arith);
        deep = piece-column (suc k) piece_depth h (omega arith);
      }

  -- so the links 1 to n stand in it, and the row of each is its piece
  pub piece_links : Links (piece_table many ps) (count_from 1 (length ps))
  unfolding piece_row
  piece_links =
      says_links (piece_table many ps) (length ps) (piece-column 0 pieces_root (omega arith) (omega arith)) (piece-column 0 pieces_count (omega arith) (omega arith))
      (omega (arith, piece_table_length many ps)) piece_says

  pub piece_at_lem : All OnLine ps → (k : ℕ) → k < length ps → piece_at (piece_table many ps) (suc k) ≡ get_or ps k no_piece
  unfolding piece_row
  piece_at_lem lines k h = λ i. record {
    first = first i;
    size = piece-column (suc k) piece_length h (omega arith) i;
    written = piece-column (suc k) piece_written h (omega arith) i;
    offset = piece-column (suc k) piece_offset h (omega arith) i;
    owner = piece-column (suc k) piece_owner h (omega arith) i;
  }
    where
      first : cell_place (column (piece_table many ps) (suc k) piece_owner) (column (piece_table many ps) (suc k) piece_first) ≡ (get_or ps k no_piece).first
      first =
          rw (piece-column (suc k) piece_owner h (omega arith), piece-column (suc k) piece_first h (omega arith))
          (let on = all_at no_piece lines k h in omega (arith, on.from))

  -- all pieces are shown, and their bytes are inside the used part
  pub pieces_shown : All OnLine ps → (store : List ℕ) → map (λ link. shown store (piece_at (piece_table many ps) link)) (count_from 1 (length ps)) ≡ map (shown store) ps
  pieces_shown lines store =
      map_from_at (shown store) (piece_at (piece_table many ps)) no_piece 1 ps (λ k p. let z : 1 + k ≡ suc k = omega arith in rw z (piece_at_lem lines k p))

  pub pieces_inside : All OnLine ps → (used : ℕ) → All (λ (p : PieceRow). p.offset + p.size ≤ used) ps
      → All (λ link. (piece_at (piece_table many ps) link).offset + (piece_at (piece_table many ps) link).size ≤ used) (count_from 1 (length ps))
  pieces_inside lines used a = all_count_from 1 (length ps) inside
    where
      inside : (link : ℕ) → 1 ≤ link → link < 1 + length ps → (piece_at (piece_table many ps) link).offset + (piece_at (piece_table many ps) link).size ≤ used
      inside zero p q = absurd (omega arith)
      inside (suc k) p q =
          let same = piece_at_lem lines k (omega arith) in
          let off : (piece_at (piece_table many ps) (suc k)).offset ≡ (get_or ps k no_piece).offset = ap (λ (r : PieceRow). r.offset) same in
          let long : (piece_at (piece_table many ps) (suc k)).size ≡ (get_or ps k no_piece).size = ap (λ (r : PieceRow). r.size) same in
          rw (off, long) (all_at no_piece a k (omega arith))

-- ── its numbers ──

-- the links of a part are links of the tree, and it is no higher
part_all : {P : ℕ → Type 0} (link : ℕ) (T : Tree) → All P (rows T) → All P (rows (part_at link T))
unfolding rows part_at
part_all link leaf a = all_nil
part_all {P} link (node l x r) a =
    choose (eqb link x) (ltb link x) (part_all link l (all_left (rows l) (x ∷ rows r) a)) (part_all link r (tail (all_right (rows l) (x ∷ rows r) a)))
  where
    tail : All P (x ∷ rows r) → All P (rows r)
    tail (all_cons p ps) = ps

    choose : (c d : Bool) → All P (rows (part_at link l)) → All P (rows (part_at link r)) → All P (rows (cond c (node l x r) (cond d (part_at link l) (part_at link r))))
    choose true d p q = a
    choose false true p q = p
    choose false false p q = q

part-height : (link : ℕ) (T : Tree) → height (part_at link T) ≤ height T
unfolding height part_at
part-height link leaf = omega arith
part-height link (node l x r) = choose (eqb link x) (ltb link x) (part-height link l) (part-height link r)
  where
    choose : (c d : Bool) → height (part_at link l) ≤ height l → height (part_at link r) ≤ height r
        → height (cond c (node l x r) (cond d (part_at link l) (part_at link r))) ≤ height (node l x r)
    choose true d p q = omega arith
    choose false true p q = omega arith
    choose false false p q = omega arith

root_word : (T : Tree) → All Word (rows T) → root_of T < 2 ^ 64
unfolding rows root_of
root_word leaf a = omega arith
root_word (node l x r) a = head (all_right (rows l) (x ∷ rows r) a)
  where
    head : All Word (x ∷ rows r) → x < 2 ^ 64
    head (all_cons p ps) = p

left_all : {P : ℕ → Type 0} (T : Tree) → All P (rows T) → All P (rows (left_of T))
unfolding rows left_of
left_all leaf a = all_nil
left_all (node l x r) a = all_left (rows l) (x ∷ rows r) a

right_all : {P : ℕ → Type 0} (T : Tree) → All P (rows T) → All P (rows (right_of T))
unfolding rows right_of
right_all leaf a = all_nil
right_all {P} (node l x r) a = tail (all_right (rows l) (x ∷ rows r) a)
  where
    tail : All P (x ∷ rows r) → All P (rows r)
    tail (all_cons p ps) = ps

-- the numbers of a piece are words
pub record PieceWords (p : PieceRow) : Type 0 where
  pub first : cell_of p.owner p.first < 2 ^ 64
  pub size : p.size < 2 ^ 64
  pub written : p.written < 2 ^ 64
  pub offset : p.offset < 2 ^ 64
  pub owner : p.owner < 2 ^ 64

-- and so are all numbers of the table: links are up to n, depths too
pub piece_table_words : (many : ℕ) (ps : List PieceRow) → length ps < 2 ^ 64 → All PieceWords ps → All Word (piece_table many ps)
unfolding piece_table piece_row
piece_table_words many ps few a = table_by_words 0 many (piece_row ps) words
  where
    links : All Word (rows (tree_to (length ps)))
    links = rw (tree_to_rows (length ps)) (all_count_from 1 (length ps) (λ k h l. omega arith))

    low : height (tree_to (length ps)) ≤ length ps
    low = omega (arith, height-rows (tree_to (length ps)), ap length (tree_to_rows (length ps)), count_from_length 1 (length ps))

    none : PieceWords no_piece
    none = record { first = omega arith; size = omega arith; written = omega arith; offset = omega arith; owner = omega arith }

    words : (link : ℕ) → All Word (piece_row ps link)
    words zero = all_cons (root_word (tree_to (length ps)) links) (all_cons few all_nil)
    words (suc k) =
        let p : PieceWords (get_or ps k no_piece) = all_get no_piece none a k in
        let part = part_at (suc k) (tree_to (length ps)) in
        let inner : All Word (rows part) = part_all (suc k) (tree_to (length ps)) links in
        let deep : height part < 2 ^ 64 = omega (arith, part-height (suc k) (tree_to (length ps)), low) in
        all_cons p.first
        (all_cons p.size
        (all_cons p.written
        (all_cons p.offset
        (all_cons (root_word (left_of part) (left_all part inner))
        (all_cons (root_word (right_of part) (right_all part inner)) (all_cons deep (all_cons p.owner all_nil)))))))
