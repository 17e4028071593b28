-- The test of a piece table decides whether it is well formed: rows, then the walk, one step for each return, then the whole. Assumes nothing.
use mathlib.Core.Path.{◌≡◌, refl, sym, ap, subst, ◌∙◌}
use mathlib.Core.Logic.{⊎_elim}
use mathlib.Core.Bool.{Bool, true, false}
use mathlib.Core.List.{List, [], ◌∷◌, ◌++◌, map}
use Prim.Native.Nat.{ℕ, suc, ◌+◌, ◌-◌, ◌*◌, ◌/◌, ◌≤◌, ◌<◌, ◌^◌}
use native.Mathlib.Omega.{arith}
use lib.ListN.{length, length-append}
use lib.Dec.{eqb}
use Rattle.lists.specs.Lists.{Mem, here, there, All, all_nil, all_cons}
use Rattle.lists.specs.Tests.{Decides}
use Rattle.lists.proofs.Lists.{mem_left, mem_right, mem_split, all_left, all_right, all_append, all_head, all_tail}
use Rattle.lists.proofs.Maps.{map-append}
use Rattle.lists.proofs.Numbers.{refute, decides_iff, decides_eqb}
use Rattle.history.specs.Words.{cell_place}
use Rattle.history.specs.Lent.{row_width}
use Rattle.tables.specs.Sums.{plus_up_to}
use Rattle.tables.proofs.Places.{place_zero}
use Rattle.tables.specs.Columns.{column, piece_left, piece_right, piece_owner, pieces_root, pieces_count}
use Rattle.merge_set.specs.Tree.{Tree, leaf, node, height, rows, Balanced}
use Rattle.merge_set.specs.Table.{deep_at, Shape}
use Rattle.merge_set.proofs.Frame.{deep_at_lem}
use Rattle.piece_table.specs.Piece.{PieceRow, row_end, read_at, piece_at, Follow}
use Rattle.piece_table.specs.Rep.{Linked}
use Rattle.piece_table.specs.Test.{Allowed, WellFormed, RowStands, RowFits, last_end, Stands, Found, Outcome, Walked}
use Rattle.piece_table.specs.declared.Piece.{Piece}
use Rattle.piece_table.specs.declared.test.Limits.{Limits}
use Rattle.piece_table.specs.declared.test.Walk.{Walk}
use Rattle.std.specs.Prelude.{Option, Some, None}
use Rattle.piece_table.proofs.Order.{follow_distinct}
use Rattle.piece_table.proofs.Removing.{linked_depth}

-- ── pieces that follow one another ──

follow_front : (low : ℕ) (ps qs : List PieceRow) → Follow low (ps ++ qs) → Follow low ps
follow_front low [] qs f = tt
follow_front low (p ∷ ps) qs f = (f.0, f.1, follow_front (row_end p) ps qs f.2)

follow_back : (low : ℕ) (ps qs : List PieceRow) → Follow low (ps ++ qs) → Follow (last_end low ps) qs
follow_back low [] qs f = f
follow_back low (p ∷ ps) qs f = follow_back (row_end p) ps qs f.2

follow_join : (low : ℕ) (ps qs : List PieceRow) → Follow low ps → Follow (last_end low ps) qs → Follow low (ps ++ qs)
follow_join low [] qs f g = g
follow_join low (p ∷ ps) qs f g = (f.0, f.1, follow_join (row_end p) ps qs f.2 g)

last_end_append : (low : ℕ) (ps qs : List PieceRow) → last_end low (ps ++ qs) ≡ last_end (last_end low ps) qs
last_end_append low [] qs = refl
last_end_append low (p ∷ ps) qs = last_end_append (row_end p) ps qs

-- ── trees ──

-- a table has one tree at a link
pub shape_one : (t : List ℕ) (k : ℕ) (T T' : Tree) → Shape t k T → Shape t k T' → T ≡ T'
unfolding Shape
shape_one t k leaf leaf s s' = refl
shape_one t k leaf (node a x b) s s' = absurd (omega (arith, s'.is, s'.valid.some))
shape_one t k (node a x b) leaf s s' = absurd (omega (arith, s.is, s.valid.some))
shape_one t k (node a x b) (node a' x' b') s s' =
    let e : x' ≡ x = sym s'.is ∙ s.is in
    let l : a ≡ a' = shape_one t (column t x piece_left) a a' s.left (rw (← e) s'.left) in
    let r : b ≡ b' = shape_one t (column t x piece_right) b b' s.right (rw (← e) s'.right) in
    rw (l, e, r)

-- what of a tree that stands its root says, and its subtrees
module _ {t : List ℕ} {limits : Limits} {link low seen fuel x : ℕ} (A B : Tree) (s : Stands t limits link low seen fuel (node A x B)) where
  at : ℕ → PieceRow
  at = piece_at t

  split : map (piece_at t) (rows (node A x B)) ≡ map (piece_at t) (rows A) ++ piece_at t x ∷ map (piece_at t) (rows B)
  unfolding rows
  split = map-append (piece_at t) (rows A) (x ∷ rows B)

  order : Follow low (map (piece_at t) (rows A) ++ piece_at t x ∷ map (piece_at t) (rows B))
  order = rw split at s.order

  allowed : All (Allowed limits.kinds limits.used limits.last) (map (piece_at t) (rows A) ++ piece_at t x ∷ map (piece_at t) (rows B))
  allowed = rw split at s.allowed

  many : length (rows (node A x B)) ≡ length (rows A) + suc (length (rows B))
  unfolding rows
  many = length-append (rows A) (x ∷ rows B)

  stands_is : link ≡ x
  unfolding Shape
  stands_is = s.shape.is

  stands_row : RowStands t limits.count link fuel
  unfolding Shape Balanced height rows
  stands_row =
      let dl : deep_at t (column t x piece_left) ≡ height A = (deep_at_lem {t = t} {k = column t x piece_left} refl).says A s.shape.left in
      let dr : deep_at t (column t x piece_right) ≡ height B = (deep_at_lem {t = t} {k = column t x piece_right} refl).says B s.shape.right in
      rw stands_is
      (record {
        within = s.within x (mem_right (rows A) (x ∷ rows B) (here refl));
        high = omega (arith, s.shape.deep, s.high);
        deep = omega (arith, s.shape.deep, dl, dr);
        left = omega (arith, s.balanced.2, dl, dr);
        right = omega (arith, s.balanced.3, dl, dr);
      })

  stands_left : Stands t limits (column t link piece_left) low seen (fuel - 1) A
  unfolding Shape Balanced height rows
  stands_left =
      rw stands_is
      (record {
        shape = s.shape.left;
        balanced = s.balanced.0;
        high = omega (arith, s.high);
        within = λ j m. s.within j (mem_left (rows A) (x ∷ rows B) m);
        few = omega (arith, s.few, many);
        order = follow_front low (map (piece_at t) (rows A)) (piece_at t x ∷ map (piece_at t) (rows B)) order;
        allowed = all_left (map (piece_at t) (rows A)) (piece_at t x ∷ map (piece_at t) (rows B)) allowed;
      })

  stands_few : seen + length (rows A) < limits.count
  stands_few = omega (arith, s.few, many)

  stands_fits : RowFits t link (last_end low (map (piece_at t) (rows A))) limits
  stands_fits =
      let f : Follow (last_end low (map (piece_at t) (rows A))) (piece_at t x ∷ map (piece_at t) (rows B)) = follow_back low (map (piece_at t) (rows A)) (piece_at t x ∷ map (piece_at t) (rows B)) order in
      rw stands_is
      (record { from = f.0; filled = f.1; allowed = all_head (all_right (map (piece_at t) (rows A)) (piece_at t x ∷ map (piece_at t) (rows B)) allowed) })

  stands_right : Stands t limits (column t link piece_right) (row_end (piece_at t link)) (seen + length (rows A) + 1) (fuel - 1) B
  unfolding Shape Balanced height rows
  stands_right =
      rw stands_is
      (record {
        shape = s.shape.right;
        balanced = s.balanced.1;
        high = omega (arith, s.high);
        within = λ j m. s.within j (mem_right (rows A) (x ∷ rows B) (there m));
        few = omega (arith, s.few, many);
        order = (follow_back low (map (piece_at t) (rows A)) (piece_at t x ∷ map (piece_at t) (rows B)) order).2;
        allowed = all_tail (all_right (map (piece_at t) (rows A)) (piece_at t x ∷ map (piece_at t) (rows B)) allowed);
      })

-- and a tree stands where its root and its subtrees do
stands_node : {t : List ℕ} {limits : Limits} {link low seen fuel : ℕ} (A B : Tree) → row_width * limits.count + row_width ≤ length t → (link ≡ 0 → ⊥) → RowStands t limits.count link fuel
    → Stands t limits (column t link piece_left) low seen (fuel - 1) A → seen + length (rows A) < limits.count
    → RowFits t link (last_end low (map (piece_at t) (rows A))) limits
    → Stands t limits (column t link piece_right) (row_end (piece_at t link)) (seen + length (rows A) + 1) (fuel - 1) B → Stands t limits link low seen fuel (node A link B)
unfolding Shape Balanced height rows
stands_node {t} {limits} {link} {low} {seen} {fuel} A B room nz row s_a few fits s_b =
    let dl : deep_at t (column t link piece_left) ≡ height A = (deep_at_lem {t = t} {k = column t link piece_left} refl).says A s_a.shape in
    let dr : deep_at t (column t link piece_right) ≡ height B = (deep_at_lem {t = t} {k = column t link piece_right} refl).says B s_b.shape in
    let split : map (piece_at t) (rows A ++ link ∷ rows B) ≡ map (piece_at t) (rows A) ++ piece_at t link ∷ map (piece_at t) (rows B) = map-append (piece_at t) (rows A) (link ∷ rows B) in
    record {
      shape = record {
        is = refl;
        valid = record { some = omega arith; room = omega (arith, row.within) };
        left = s_a.shape;
        right = s_b.shape;
        deep = omega (arith, row.deep, dl, dr);
      };
      balanced = (s_a.balanced, s_b.balanced, omega (arith, row.left, dl, dr), omega (arith, row.right, dl, dr));
      high = omega (arith, row.high, row.deep, dl, dr);
      within = λ j m. ⊎_elim (λ i. s_a.within j i) (λ i. among j i) (mem_split (rows A) (link ∷ rows B) m);
      few = omega (arith, s_b.few, length-append (rows A) (link ∷ rows B));
      order = rw split (follow_join low (map (piece_at t) (rows A)) (piece_at t link ∷ map (piece_at t) (rows B)) s_a.order (fits.from, fits.filled, s_b.order));
      allowed = rw split (all_append s_a.allowed (all_cons fits.allowed s_b.allowed));
    }
  where
    among : (j : ℕ) → Mem j (link ∷ rows B) → j ≤ limits.count
    among j (here e) = omega (arith, row.within)
    among j (there m) = s_b.within j m

-- ── `walk_tree` ──

-- the place where the last piece that the walk has seen ends
abbrev place : Walk → ℕ
place walk = cell_place walk.kind walk.end

pub walk_leaf : {t : List ℕ} {limits : Limits} {link fuel : ℕ} {walk : Walk} → link ≡ 0 → Walked t limits link walk fuel (Some walk)
unfolding Shape Balanced height rows
walk_leaf z =
    record {
      is = λ room.
          record {
            tree = leaf;
            stands = record { shape = z; balanced = tt; high = omega arith; within = λ j. elim [ ]; few = omega arith; order = tt; allowed = all_nil };
            many = omega arith;
            ends = refl;
          };
    }

module _ {t : List ℕ} {limits : Limits} {link fuel : ℕ} {walk : Walk} (nz : link ≡ 0 → ⊥) where
  -- no tree stands: a leaf does not, and a node would have to be as said
  bad : ((A B : Tree) (x : ℕ) → Stands t limits link (place walk) walk.seen fuel (node A x B) → ⊥) → Walked t limits link walk fuel None
  unfolding Shape
  bad f = record { is = λ room. go }
    where
      go : (T : Tree) → Stands t limits link (place walk) walk.seen fuel T → ⊥
      go leaf s = nz s.shape
      go (node A x B) s = f A B x s

  pub walk_stop : fuel ≡ 0 → Walked t limits link walk fuel None
  unfolding height
  walk_stop z = bad (λ A B x s. omega (arith, s.high))

  module _ {q : Bool} (row : Decides q (RowStands t limits.count link fuel)) where
    pub walk_misplaced : q ≡ false → Walked t limits link walk fuel None
    walk_misplaced e = bad (λ A B x s. row.not e (stands_row A B s))

    module _ (ok : q ≡ true) {l : ℕ} {w : Option Walk} (el : l ≡ column t link piece_left) (left : Walked t limits l walk (fuel - 1) w) where
      at_left : Walked t limits (column t link piece_left) walk (fuel - 1) w
      at_left = rw el at left

      pub walk_left_bad : w ≡ None → Walked t limits link walk fuel None
      unfolding Shape
      walk_left_bad e =
          record {
            is = λ room. go (subst (Outcome t limits (column t link piece_left) (place walk) walk.seen (fuel - 1)) e (at_left.is room));
          }
        where
          go : ((A : Tree) → Stands t limits (column t link piece_left) (place walk) walk.seen (fuel - 1) A → ⊥) → (T : Tree) → Stands t limits link (place walk) walk.seen fuel T → ⊥
          go f leaf s = nz s.shape
          go f (node A x B) s = f A (stands_left A B s)

      module _ {so : Walk} (fine : w ≡ Some so) where
        found : row_width * limits.count + row_width ≤ length t → Found t limits (column t link piece_left) (place walk) walk.seen (fuel - 1) so.seen (place so)
        found room = subst (Outcome t limits (column t link piece_left) (place walk) walk.seen (fuel - 1)) fine (at_left.is room)

        -- the left subtree of a tree that stands is the one that was found
        same_left : (f : Found t limits (column t link piece_left) (place walk) walk.seen (fuel - 1) so.seen (place so)) (A B : Tree) {x : ℕ} → Stands t limits link (place walk) walk.seen fuel (node A x B) → A ≡ f.tree
        same_left f A B s = shape_one t (column t link piece_left) A f.tree (stands_left A B s).shape f.stands.shape

        pub walk_full : limits.count ≤ so.seen → Walked t limits link walk fuel None
        unfolding Shape
        walk_full h = record { is = λ room. go (found room) }
          where
            go : Found t limits (column t link piece_left) (place walk) walk.seen (fuel - 1) so.seen (place so) → (T : Tree) → Stands t limits link (place walk) walk.seen fuel T → ⊥
            go f leaf s = nz s.shape
            go f (node A x B) s = omega (arith, stands_few A B s, ap (λ (T : Tree). length (rows T)) (same_left f A B s), f.many)

        module _ {q' : Bool} (fits : Decides q' (RowFits t link (place so) limits)) where
          pub walk_misfit : q' ≡ false → Walked t limits link walk fuel None
          unfolding Shape
          walk_misfit e = record { is = λ room. go (found room) }
            where
              go : Found t limits (column t link piece_left) (place walk) walk.seen (fuel - 1) so.seen (place so) → (T : Tree) → Stands t limits link (place walk) walk.seen fuel T → ⊥
              go f leaf s = nz s.shape
              go f (node A x B) s =
                  let z : last_end (place walk) (map (piece_at t) (rows A)) ≡ (place so) = ap (λ (T : Tree). last_end (place walk) (map (piece_at t) (rows T))) (same_left f A B s) ∙ f.ends in
                  fits.not e (subst (λ (k : ℕ). RowFits t link k limits) z (stands_fits A B s))

          pub walk_right : {r z : ℕ} {p : Piece} {w' : Option Walk} → so.seen < limits.count → q' ≡ true → r ≡ column t link piece_right → p ≡ read_at t link → z ≡ plus_up_to p.first p.size
              → Walked t limits r (record { seen = so.seen + 1; kind = p.owner; end = z }) (fuel - 1) w' → Walked t limits link walk fuel w'
          unfolding Shape rows
          walk_right {r} {z} {p} {w'} few y er ep ez right = record { is = λ room. go room (found room) w' (after room) }
            where
              whole : cell_place (column t link piece_owner) z ≡ row_end (piece_at t link)
              whole = let e : z ≡ plus_up_to (read_at t link).first (read_at t link).size = rw ep at ez in omega (arith, e, (fits.yes y).filled.near)

              at_right : Walked t limits (column t link piece_right) (record { seen = so.seen + 1; kind = column t link piece_owner; end = z }) (fuel - 1) w'
              at_right = rw (er, ep) at right

              after : row_width * limits.count + row_width ≤ length t → Outcome t limits (column t link piece_right) (row_end (piece_at t link)) (so.seen + 1) (fuel - 1) w'
              after room = subst (λ (k : ℕ). Outcome t limits (column t link piece_right) k (so.seen + 1) (fuel - 1) w') whole (at_right.is room)

              go : row_width * limits.count + row_width ≤ length t → Found t limits (column t link piece_left) (place walk) walk.seen (fuel - 1) so.seen (place so) → (w : Option Walk)
                  → Outcome t limits (column t link piece_right) (row_end (piece_at t link)) (so.seen + 1) (fuel - 1) w → Outcome t limits link (place walk) walk.seen fuel w
              go room f None o = none
                where
                  none : (T : Tree) → Stands t limits link (place walk) walk.seen fuel T → ⊥
                  none leaf s = nz s.shape
                  none (node A x B) s =
                      let e : walk.seen + length (rows A) ≡ so.seen = ap (λ (T : Tree). walk.seen + length (rows T)) (same_left f A B s) ∙ f.many in
                      o B (subst (λ (k : ℕ). Stands t limits (column t link piece_right) (row_end (piece_at t link)) (k + 1) (fuel - 1) B) e (stands_right A B s))
              go room f (Some so') o =
                  let A : Tree = f.tree in
                  let B : Tree = o.tree in
                  let s_b : Stands t limits (column t link piece_right) (row_end (piece_at t link)) (walk.seen + length (rows A) + 1) (fuel - 1) B
                  = subst (λ (k : ℕ). Stands t limits (column t link piece_right) (row_end (piece_at t link)) (k + 1) (fuel - 1) B) (sym f.many) o.stands in
                  let fit : RowFits t link (last_end (place walk) (map (piece_at t) (rows A))) limits
                  = subst (λ (k : ℕ). RowFits t link k limits) (sym f.ends) (fits.yes y) in
                  record {
                    tree = node A link B;
                    stands = stands_node A B room nz (row.yes ok) f.stands (omega (arith, f.many)) fit s_b;
                    many = omega (arith, length-append (rows A) (link ∷ rows B), f.many, o.many);
                    ends = ap (last_end (place walk)) (map-append (piece_at t) (rows A) (link ∷ rows B)) ∙ last_end_append (place walk) (map (piece_at t) (rows A)) (piece_at t link ∷ map (piece_at t) (rows B)) ∙ o.ends;
                  }

-- ── `test_pieces` ──

abbrev limits_of : (count kinds used last : ℕ) → Limits
limits_of count kinds used last = record { count = count; kinds = kinds; used = used; last = last }

module _ {t : List ℕ} {kinds used last count : ℕ} (ec : count ≡ column t 0 pieces_count) where
  pub test_small : {many : ℕ} → many ≡ (length t - 0) / row_width → many ≤ count → Decides false (WellFormed t kinds used last)
  test_small em h = refute (λ w. omega (arith, w.rep.linked.dense.room))

  module _ {root many : ℕ} {w : Option Walk} (em : many ≡ (length t - 0) / row_width) (room : count < many) (er : root ≡ column t 0 pieces_root)
      (walked : Walked t (limits_of count kinds used last) root (record { seen = 0; kind = 0; end = 0 }) 92 w) where
    outcome : Outcome t (limits_of count kinds used last) root 0 0 92 w
    outcome = subst (λ (k : ℕ). Outcome t (limits_of count kinds used last) root k 0 92 w) place_zero (walked.is (omega arith))

    fits : row_width * count + row_width ≤ length t
    fits = omega arith

    -- the tree of a well-formed table stands at its root
    stands_whole : (r : WellFormed t kinds used last) → Stands t (limits_of count kinds used last) root 0 0 92 r.rep.linked.dense.tree
    stands_whole r =
        let l : Linked t r.rep.links = r.rep.linked in
        let is : map (piece_at t) (rows l.dense.tree) ≡ r.pieces = ap (map (piece_at t)) l.dense.is ∙ r.rep.pieces in
        record {
          shape = rw er l.dense.shape;
          balanced = l.dense.balanced;
          high = linked_depth l;
          within = λ j m. omega (arith, l.dense.within j (rw l.dense.is at m));
          few = omega (arith, ap length l.dense.is, l.dense.count);
          order = rw l.dense.is l.order;
          allowed = rw is r.allowed;
        }

    pub test_bad : w ≡ None → Decides false (WellFormed t kinds used last)
    test_bad e = refute (λ r. none (subst (Outcome t (limits_of count kinds used last) root 0 0 92) e outcome) r.rep.linked.dense.tree (stands_whole r))
      where
        none : Outcome t (limits_of count kinds used last) root 0 0 92 None → (T : Tree) → Stands t (limits_of count kinds used last) root 0 0 92 T → ⊥
        none f = f

    pub test_fine : {so : Walk} → length t < 2 ^ 64 → w ≡ Some so → Decides (eqb so.seen count) (WellFormed t kinds used last)
    test_fine {so} small e = decides_iff (eqb n count) yes no (decides_eqb n count)
      where
        n : ℕ
        n = so.seen

        f : Found t (limits_of count kinds used last) root 0 0 92 n (place so)
        f = subst (Outcome t (limits_of count kinds used last) root 0 0 92) e outcome

        s : Stands t (limits_of count kinds used last) root 0 0 92 f.tree
        s = f.stands

        yes : n ≡ count → WellFormed t kinds used last
        yes h =
            record {
              pieces = map (piece_at t) (rows f.tree);
              rep = record {
                links = rows f.tree;
                linked = record {
                  dense = record {
                    tree = f.tree;
                    is = refl;
                    shape = rw (← er) s.shape;
                    balanced = s.balanced;
                    count = omega (arith, f.many);
                    within = λ j m. omega (arith, s.within j m);
                    once = follow_distinct (piece_at t) 0 (rows f.tree) s.order;
                    room = omega (arith, fits);
                  };
                  few = small;
                  order = s.order;
                };
                pieces = refl;
              };
              allowed = s.allowed;
            }

        no : WellFormed t kinds used last → n ≡ count
        no r =
            let one : r.rep.linked.dense.tree ≡ f.tree = shape_one t root r.rep.linked.dense.tree f.tree (stands_whole r).shape s.shape in
            omega (arith, f.many, ap (λ (T : Tree). length (rows T)) one, ap length r.rep.linked.dense.is, r.rep.linked.dense.count)

-- the steps, one for each return
pub ruleset walking = (walk_leaf, walk_stop, walk_misplaced, walk_left_bad, walk_full, walk_misfit, walk_right)

pub ruleset testing = (test_small, test_bad, test_fine)
