-- A table that reads as before at every place and is no shorter: what stood in it stands there still. Assumes nothing.
use mathlib.Core.Path.{◌≡◌, refl, ap, ap₂, sym, ◌∙◌}
use mathlib.Core.List.{List, [], ◌∷◌, map}
use Prim.Native.Nat.{ℕ, zero, suc, ◌+◌, ◌*◌, ◌≤◌}
use native.Mathlib.Omega.{arith}
use lib.ListN.{length, get_or, take, drop, length-append, length-replicate}
use Rattle.lists.specs.Lists.{All}
use Rattle.lists.proofs.Lists.{all_map}
use Rattle.lists.proofs.Maps.{map_all}
use Rattle.history.specs.Words.{cell_place}
use Rattle.history.specs.Lent.{row_width}
use Rattle.history.specs.Tree as segment
use Rattle.tables.specs.Columns.{column, entry_column, pieces_root, pieces_count, piece_length, piece_offset, piece_left, piece_right, piece_depth, entry_key}
use Rattle.merge_set.specs.Tree.{Tree, leaf, node, height}
use Rattle.merge_set.specs.Table.{Shape}
use Rattle.piece_table.specs.Piece.{piece_at}
use Rattle.piece_table.specs.Rep.{Links}
use Rattle.piece_table.specs.Shown.{shown}
use Rattle.block_table.specs.Blocks.{length_at, offset_at, blocks_of, Stored}
use Rattle.block_table.proofs.Blocks.{part_kept, blocks_same, blocks_store}
use Rattle.ordering.specs.Order.{Unordered}
use Rattle.segment_table.specs.Closed.{Tables, nodes_used, left_at, right_at, first_at, count_at, block_in, first_cell_in, run, Keyed, NodeRow, TreeAt, Consecutive, Closed}
use Rattle.layout.proofs.Opening.{get_d_zeros}
use Rattle.growth.specs.Longer.{zeros_behind}

pub record Extends (t t' : List ℕ) : Type 0 where
  pub same : (i : ℕ) → get_or t' i 0 ≡ get_or t i 0
  pub long : length t ≤ length t'

-- ── zeros behind a table ──

pub zeros-length : (more : ℕ) (t : List ℕ) → length (zeros_behind more t) ≡ length t + more
zeros-length more t = length-append t _ ∙ ap (λ (n : ℕ). length t + n) (length-replicate more _)

pub zeros_extend : (more : ℕ) (t : List ℕ) → Extends t (zeros_behind more t)
zeros_extend more t = record { same = same t; long = omega (arith, zeros-length more t) }
  where
    same : (l : List ℕ) (i : ℕ) → get_or (zeros_behind more l) i 0 ≡ get_or l i 0
    same [] i = get_d_zeros more i
    same (x ∷ xs) zero = refl
    same (x ∷ xs) (suc i) = same xs i

-- ── pieces ──

module _ {t t' : List ℕ} (x : Extends t t') where
  pub shape_kept : (link : ℕ) (T : Tree) → Shape t link T → Shape t' link T
  unfolding Shape height
  shape_kept link leaf s = s
  shape_kept link (node a y b) s =
      let l : column t' y piece_left ≡ column t y piece_left = x.same _ in
      let r : column t' y piece_right ≡ column t y piece_right = x.same _ in
      record {
        is = s.is;
        valid = record { some = s.valid.some; room = omega (arith, s.valid.room, x.long) };
        left = rw l (shape_kept (column t y piece_left) a s.left);
        right = rw r (shape_kept (column t y piece_right) b s.right);
        deep = x.same (row_width * y + piece_depth) ∙ s.deep;
      }

  pub links_kept : {links : List ℕ} → Links t links → Links t' links
  links_kept h =
      let root : column t' 0 pieces_root ≡ column t 0 pieces_root = x.same _ in
      let count : column t' 0 pieces_count ≡ column t 0 pieces_count = x.same _ in
      record {
        tree = h.tree;
        is = h.is;
        shape = rw root (shape_kept (column t 0 pieces_root) h.tree h.shape);
        balanced = h.balanced;
        count = h.count ∙ sym count;
        within = λ link m. omega (arith, count, h.within link m);
        once = h.once;
        room = omega (arith, count, h.room, x.long);
      }

  pub piece_kept : (link : ℕ) → piece_at t' link ≡ piece_at t link
  piece_kept link = λ i. record {
    first = ap₂ cell_place (x.same (row_width * link + 7)) (x.same (row_width * link + 0)) i;
    size = x.same (row_width * link + 1) i;
    written = x.same (row_width * link + 2) i;
    offset = x.same (row_width * link + 3) i;
    owner = x.same (row_width * link + 7) i;
  }

  -- the bytes of a piece lie in the used part
  abbrev Inside : (pieces : List ℕ) (used link : ℕ) → Type 0
  Inside pieces used link = (piece_at pieces link).offset + (piece_at pieces link).size ≤ used

  pub inside_kept : (used : ℕ) {links : List ℕ} → All (Inside t used) links → All (Inside t' used) links
  inside_kept used h = all_map (λ link p. one link p) h
    where
      one : (link : ℕ) → Inside t used link → Inside t' used link
      one link p =
          let offset : column t' link piece_offset ≡ column t link piece_offset = x.same _ in
          let size : column t' link piece_length ≡ column t link piece_length = x.same _ in
          omega (arith, offset, size, p)

  pub pieces_kept : (store store' : List ℕ) (used : ℕ) → take used store' ≡ take used store → {links : List ℕ} → All (Inside t used) links
      → map (λ link. shown store' (piece_at t' link)) links ≡ map (λ link. shown store (piece_at t link)) links
  pieces_kept store store' used same h =
      map_all (λ link. shown store' (piece_at t' link)) (λ link. shown store (piece_at t link)) (all_map (λ link p. one link p) h)
    where
      one : (link : ℕ) → Inside t used link → shown store' (piece_at t' link) ≡ shown store (piece_at t link)
      one link p =
          let row = piece_at t link in
          let bytes : take row.size (drop row.offset store') ≡ take row.size (drop row.offset store) = part_kept row.offset row.size used store store' same p in
          ap (shown store') (piece_kept link) ∙ rw bytes

-- ── blocks ──

module _ {t t' : List ℕ} (x : Extends t t') where
  pub blocks_kept : (store store' : List ℕ) (n used : ℕ) → Stored used t n → take used store' ≡ take used store → blocks_of store' t' n ≡ blocks_of store t n
  blocks_kept store store' n used inside same =
      blocks_same store' t t' n (λ link c a b h. x.same _) ∙ blocks_store store store' t n used inside same

  pub stored_kept : {n used : ℕ} → Stored used t n → Stored used t' n
  stored_kept h = record { inside = λ link a b. omega (arith, offset link, size link, h.inside link a b) }
    where
      offset : (link : ℕ) → offset_at t' link ≡ offset_at t link
      offset link = x.same _

      size : (link : ℕ) → length_at t' link ≡ length_at t link
      size link = x.same _

  pub unordered_kept : {n : ℕ} → Unordered t n → Unordered t' n
  unordered_kept h = record { none = λ k l. x.same _ ∙ h.none k l }

-- ── the trees of a closed index ──

module _ {t t' : Tables} (xb : Extends t.blocks t'.blocks) (xn : Extends t.nodes t'.nodes) (xe : Extends t.entries t'.entries) where
  run_kept : (row n : ℕ) → run t'.entries row n ≡ run t.entries row n
  unfolding run
  run_kept row zero = refl
  run_kept row (suc n) = ap₂ (λ (k : ℕ) (ks : List ℕ). k ∷ ks) (xe.same _) (run_kept (suc row) n)

  keyed_kept : {row n : ℕ} → Keyed t.blocks t.entries row n → Keyed t'.blocks t'.entries row n
  keyed_kept {row} h = record { key = λ j l. one j ∙ h.key j l ∙ first j }
    where
      one : (j : ℕ) → entry_column t'.entries (row + j) entry_key ≡ entry_column t.entries (row + j) entry_key
      one j = xe.same _

      first : (j : ℕ) → first_cell_in t.blocks (block_in t.entries (row + j)) ≡ first_cell_in t'.blocks (block_in t'.entries (row + j))
      first j =
          let k : block_in t'.entries (row + j) ≡ block_in t.entries (row + j) = xe.same _ in
          rw k (sym (xb.same _))

  used_kept : nodes_used t'.nodes ≡ nodes_used t.nodes
  used_kept = xn.same _

  row_kept : {kind link lo hi : ℕ} {xs : List ℕ} → NodeRow t kind link lo hi xs → NodeRow t' kind link lo hi xs
  row_kept {link} h =
      let from : first_at t'.nodes link ≡ first_at t.nodes link = xn.same _ in
      let many : count_at t'.nodes link ≡ count_at t.nodes link = xn.same _ in
      record {
        some = h.some;
        used = omega (arith, used_kept, h.used);
        low = xn.same _ ∙ h.low;
        high = xn.same _ ∙ h.high;
        own_kind = xn.same _ ∙ h.own_kind;
        narrow = λ w. (xn.same _ ∙ (h.narrow w).0, xn.same _ ∙ (h.narrow w).1);
        inside = omega (arith, from, many, h.inside, xe.long);
        listed = rw (from, many) (run_kept (first_at t.nodes link) (count_at t.nodes link) ∙ h.listed);
        keyed = rw (from, many) (keyed_kept h.keyed);
      }

  tree_kept : (kind link lo hi : ℕ) (T : segment.Tree) → TreeAt t kind link lo hi T → TreeAt t' kind link lo hi T
  unfolding TreeAt
  tree_kept kind link lo hi segment.hole h = h
  tree_kept kind link lo hi (segment.node es l r) h =
      let left : left_at t'.nodes link ≡ left_at t.nodes link = xn.same _ in
      let right : right_at t'.nodes link ≡ right_at t.nodes link = xn.same _ in
      (row_kept h.0, rw left (tree_kept kind (left_at t.nodes link) lo (segment.mid lo hi) l h.1), rw right (tree_kept kind (right_at t.nodes link) (segment.mid lo hi) hi r h.2))

  consecutive_kept : Consecutive t.nodes → Consecutive t'.nodes
  consecutive_kept h =
      record {
        begins = λ p. xn.same _ ∙ h.begins (omega (arith, used_kept));
        follows = λ link p q. follow link (h.follows link p (omega (arith, used_kept)));
      }
    where
      follow : (link : ℕ) → first_at t.nodes (suc link) ≡ first_at t.nodes link + count_at t.nodes link
          → first_at t'.nodes (suc link) ≡ first_at t'.nodes link + count_at t'.nodes link
      follow link e =
          let next : first_at t'.nodes (suc link) ≡ first_at t.nodes (suc link) = xn.same _ in
          let from : first_at t'.nodes link ≡ first_at t.nodes link = xn.same _ in
          let many : count_at t'.nodes link ≡ count_at t.nodes link = xn.same _ in
          rw (next, from, many) e

  pub closed_kept : {e : ℕ} {trees : List segment.Tree} → Closed t e trees → Closed t' e trees
  closed_kept {e} {trees} h =
      record {
        five = h.five;
        stands = λ kind low.
            let root : column t'.nodes 0 kind ≡ column t.nodes 0 kind = xn.same _ in
            rw root (tree_kept kind (column t.nodes 0 kind) 0 e (segment.tree_at trees kind) (h.stands kind low));
        all_rows_lem = used_kept ∙ h.all_rows_lem;
        room = omega (arith, used_kept, h.room, xn.long);
        all_entries_lem = xe.same _ ∙ h.all_entries_lem;
        consecutive = consecutive_kept h.consecutive;
      }
