-- A node and its halves: a step for each return of `hold_node` and `hold_tree`. Assumes nothing.
use mathlib.Core.Path.{◌≡◌, refl, subst}
use mathlib.Core.Bool.{Bool, true, false, cond}
use mathlib.Core.Logic.{inl, inr}
use mathlib.Core.List.{List, [], ◌∷◌, ◌++◌, append-nil, append_assoc}
use Prim.Native.Nat.{ℕ, ◌+◌, ◌-◌, ◌/◌, ◌≤◌, ◌<◌}
use native.Mathlib.Omega.{arith}
use lib.Dec.{leb, eqb}
use borrow.Author.Tests.{eqb-true, leb-true, lt-ltb, le-ltb}
use Rattle.lists.specs.Tests.{Decides}
use Rattle.lists.proofs.Numbers.{and_right}
use Rattle.lists.specs.Lists.{All, Mem, here, there, pairs_nil, pairs_cons, Ascending}
use Rattle.lists.proofs.Lists.{mem_right, mem_split, all_mem, all_of_mem}
use Rattle.lists.proofs.Counting.{not_mem_nil}
use Rattle.history.specs.Tree.{Tree, hole, node, mid, node_count}
use Rattle.history.proofs.RulesLaws.{sorted_left, sorted_right, sorted_here, ascends_decides}
use Rattle.history.proofs.TreePath.{path_node, path-below_left, path-below_right}
use Rattle.apart_laws.specs.RightFirst.{HeldAll, RunApart, RightFirst, right_hole, right_narrow, right_wide}
use Rattle.slots.specs.declared.Slots.{Slots}
use Rattle.slots.specs.Steps.{slots_of, Unused}
use Rattle.segment_table.specs.Closed.{Tables, TreeAt, left_at, right_at, first_at, count_at, first_cell_in, block_in, run}
use Rattle.segment_walk.specs.declared.walk.Node.{Node}
use Rattle.segment_walk.specs.Walking.{left_half, right_half, half_at}
use Rattle.segment_walk.specs.Rowing.{rows_at, RunOf}
use Rattle.segment_walk.proofs.Rowing.{run_of}
use Rattle.segment_clear.specs.Above.{Chained, behind, Above, above-none, above_next}
use Rattle.segment_test.specs.Test.{lent, owner_in, destroyed_in}
use Rattle.segment_test.specs.Parts.{own_created, own_destroyed, Inside, RunRows, RowStands, NodeStands, TreeStands}
use Rattle.segment_test.proofs.Ruling.{run-every}
use Rattle.std.specs.Prelude.{Option, Some}
use Rattle.segment_handed.specs.Rows.{row_blocks, Known}
use Rattle.segment_handed.specs.declared.run.Spine.{Spine}
use Rattle.segment_handed.specs.Tree.{Standing, Place, Entered, Below, OpenAt, RunStood, RunHeld, NodeStood, TreeStood, TreeHeld}
use Rattle.segment_handed.proofs.Owing.{aside_disjoint}

-- ── a node's rows ──

-- a block that has a life for the kind is of the kind, and has that life
pub lives-own : (blocks : List ℕ) (kind k : ℕ) → 0 < own_destroyed blocks kind k → (owner_in blocks k ≡ kind) × (own_destroyed blocks kind k ≡ destroyed_in blocks k)
lives-own blocks kind k h = go (eqb (owner_in blocks k) kind) refl h
  where
    go : (u : Bool) → eqb (owner_in blocks k) kind ≡ u → 0 < cond u (destroyed_in blocks k) 0 → (owner_in blocks k ≡ kind) × (cond u (destroyed_in blocks k) 0 ≡ destroyed_in blocks k)
    go true e l = (eqb-true (owner_in blocks k) kind e, refl)
    go false e l = absurd (omega arith)

rows_entered : {blocks nodes entries : List ℕ} {n kind link lo hi from to : ℕ} → lo < hi → NodeStands (lent blocks nodes entries) n kind link lo hi from to
    → Entered blocks entries n kind (first_at nodes link) (count_at nodes link) lo
rows_entered {blocks} {nodes} {entries} {n} {kind} {link} {lo} {hi} {from} {to} some s = record {
  known = λ j h. record { low = (s.rows.each j h).known; own = (lives-own blocks kind (block_in entries (first_at nodes link + j)) (omega (arith, own-lives j h))).0 };
  alive = λ j h.
      let k : ℕ = block_in entries (first_at nodes link + j) in
      omega (arith, own-lives j h, (lives-own blocks kind k (omega (arith, own-lives j h))).1);
}
  where
    -- what covers a node has a life, and so is of the kind
    own-lives : (j : ℕ) → j < count_at nodes link → hi ≤ own_destroyed blocks kind (block_in entries (first_at nodes link + j))
    own-lives j h =
        let k : ℕ = block_in entries (first_at nodes link + j) in
        leb-true hi (own_destroyed blocks kind k) (and_right (leb (own_created blocks kind k) lo) (leb hi (own_destroyed blocks kind k)) (s.rows.each j h).covering)

-- ── no node ──

-- at no link
none_there : (t : Tables) (n kind link lo hi from to : ℕ) (tree : Tree) → link ≡ 0 → TreeStands t n kind link lo hi from to tree → tree ≡ hole
unfolding TreeStands
none_there t n kind link lo hi from to hole z s = refl
none_there t n kind link lo hi from to (node xs l r) z s = absurd (omega (arith, s.1.row.some))

-- the tick before max leads to the right half, which is the way that a spine takes
last_right : (nodes : List ℕ) (at : Node) → 1 < at.max - at.min → half_at nodes (at.max - 1) at ≡ right_half nodes at
unfolding half_at
last_right nodes at h = rw (lt-ltb (at.min + 1) at.max (omega arith), le-ltb (at.max - 1) (mid at.min at.max) (omega arith))

-- what stands at a node stands at its halves
module _ {blocks nodes entries : List ℕ} {n kind : ℕ} {at : Node} {xs : List ℕ} {l r : Tree} (wide : 1 < at.max - at.min)
    (s : Standing blocks nodes entries n kind at (node xs l r)) where
  left_stands : Standing blocks nodes entries n kind (left_half nodes at) l
  unfolding TreeAt
  left_stands = record {
    fits = s.fits;
    stands = record { stood = s.stands.stood.1; ascend = sorted_left (first_cell_in blocks) xs l r s.stands.ascend; wide = λ _. omega arith };
    known = λ tick k from below m.
        s.known tick k from (omega arith)
        (rw (path_node tick at.min at.max xs l r, path-below_left tick at.min at.max l r (omega arith) below) (mem_right xs _ m));
  }

  right_stands : Standing blocks nodes entries n kind (right_half nodes at) r
  unfolding TreeAt
  right_stands = record {
    fits = s.fits;
    stands = record { stood = s.stands.stood.2; ascend = sorted_right (first_cell_in blocks) xs l r s.stands.ascend; wide = λ _. omega arith };
    known = λ tick k from below m.
        s.known tick k (omega arith) below
        (rw (path_node tick at.min at.max xs l r, path-below_right tick at.min at.max l r (omega arith) from) (mem_right xs _ m));
  }

-- the nodes above the right half are those above the node, and the node
above_more : {blocks nodes entries : List ℕ} {tick : ℕ} {at right from : Node} {above es : List ℕ} → Above blocks nodes entries tick at from above → at.min < right.min
    → 0 < at.link → at.min < at.max → RunOf blocks entries (rows_at nodes entries at.link) es → Ascending (first_cell_in blocks) es → Chained blocks es
    → half_at nodes tick at ≡ right → Above blocks nodes entries tick right from (above ++ es)
above_more {blocks} {nodes} {entries} {tick} {at} {right} {es = es} above-none lower some wide ran up chained half =
    let here : Above blocks nodes entries tick right (half_at nodes tick at) [] = rw half above-none in
    subst (λ (xs : List ℕ). Above blocks nodes entries tick right at xs) (append-nil es) (above_next lower some wide ran up chained here)
above_more {right = right} {from = from} {es = es} (above_next {es = xs} {rest = rest} a b c d e f more) lower some wide ran up chained half =
    let higher : from.min < right.min = omega arith in
    rw (append_assoc xs rest es) (above_next higher b c d e f (above_more more lower some wide ran up chained half))

-- blocks that follow one another share no cell
chained_apart : (blocks : List ℕ) (n kind : ℕ) (xs : List ℕ) → ((j : ℕ) → Mem j xs → Known blocks n kind j) → Chained blocks xs → RunApart (row_blocks blocks n kind) xs
chained_apart blocks n kind [] known pairs_nil = pairs_nil
chained_apart blocks n kind (x ∷ xs) known (pairs_cons a r) =
    pairs_cons (all_of_mem xs (λ j m. aside_disjoint blocks n kind x j (known x (here refl)) (known j (there m)) (behind (all_mem a m))))
    (chained_apart blocks n kind xs (λ j m. known j (there m)) r)

-- ── the returns of `hold_node` ──

pub node_standing : {blocks nodes entries : List ℕ} {n first many : ℕ} {spine : Spine} {at : Node} {q i r : Bool} → at.min < at.max
    → Decides q (RowStands nodes spine.kind at.link at.min at.max) → q ≡ true → first ≡ first_at nodes at.link → many ≡ count_at nodes at.link
    → Decides i (Inside entries first many) → i ≡ true → RunStood blocks entries n spine.kind first many at.min at.max spine.parent.min spine.parent.max r
    → NodeStood blocks nodes entries n spine at r
node_standing {blocks} {nodes} {entries} {n} {first} {many} {spine} {at} {r = r} some d e ef em di ei run-stood = record { stands = go; wide = λ z. some }
  where
    go : r ≡ true → NodeStands (lent blocks nodes entries) n spine.kind at.link at.min at.max spine.parent.min spine.parent.max
    go z =
        let row = d.yes e in
        let rows : RunRows blocks entries n spine.kind (first_at nodes at.link) (count_at nodes at.link) at.min at.max spine.parent.min spine.parent.max =
        rw (ef, em) at (run-stood.shown z) in
        record {
          row = record {
            some = row.some;
            used = row.used;
            low = row.low;
            high = row.high;
            own_kind = row.own_kind;
            narrow = row.narrow;
            inside = rw (ef, em) at (di.yes ei).fits;
            listed = refl;
            keyed = record { key = λ j h. (rows.each j h).keyed };
          };
          rows = rows;
        }

-- ── the returns of `hold_tree` ──

module _ {blocks nodes entries : List ℕ} {n : ℕ} {spine : Spine} {at : Node} where
  pub stood_hole : {rows : ℕ} → at.link ≡ 0 → TreeStood blocks nodes entries n spine at rows (Some rows)
  unfolding TreeStands node_count
  stood_hole {rows} z = record { shown = λ rest e. let same : rows ≡ rest = cc in (hole, z, omega arith) }

  module _ {rows : ℕ} {r : Bool} (enough : rows ≡ 0 → ⊥) (stood : NodeStood blocks nodes entries n spine at r) (y : r ≡ true) where
    pub stood_narrow : at.max - at.min ≤ 1 → TreeStood blocks nodes entries n spine at rows (Some (rows - 1))
    unfolding TreeStands node_count
    stood_narrow w =
        let here = stood.stands y in
        let none = here.row.narrow (omega arith) in
        record { shown = λ rest e. let same : rows - 1 ≡ rest = cc in (node _ hole hole, (refl, here, none.0, none.1), omega arith) }

    pub stood_wide : {r' l' m : ℕ} {over under : Spine} {mids : ℕ} {higher out : Option ℕ} → 1 < at.max - at.min → m ≡ at.min + (at.max - at.min) / 2 → r' ≡ right_at nodes at.link → l' ≡ left_at nodes at.link
        → over.kind ≡ spine.kind → over.parent ≡ at → under.kind ≡ spine.kind → under.parent ≡ at
        → TreeStood blocks nodes entries n over (record { link = r'; min = m; max = at.max }) (rows - 1) higher → higher ≡ Some mids
        → TreeStood blocks nodes entries n under (record { link = l'; min = at.min; max = m }) mids out → TreeStood blocks nodes entries n spine at rows out
    unfolding TreeStands node_count
    stood_wide {m = m} {mids = mids} h em er el eo po ek pk higher z low = record {
      shown = λ rest e.
          let here = stood.stands y in
          let half : m ≡ mid at.min at.max = omega (arith, em, h) in
          let r = rw (er, half, eo, po) at (higher.shown mids z) in
          let l = rw (el, half, ek, pk) at (low.shown rest e) in
          (node _ l.0 r.0, (refl, here, l.1, r.1), omega (arith, l.2, r.2));
    }

module _ {blocks nodes entries : List ℕ} {root top at : Node} {after : Slots} where
  pub tree_hole : {born : Slots} {left : Option ℕ} → at.link ≡ 0 → TreeHeld blocks nodes entries root top at after born born left
  tree_hole e = record {
    shown = λ rest z n kind whole tree above w st b.
        rw (none_there (lent blocks nodes entries) n kind at.link at.min at.max b.from b.to tree e b.stood) right_hole;
  }

  module _ {r : Bool} {born own : Slots} (some : at.link ≡ 0 → ⊥) (some-tick : at.min < at.max)
      (held : RunHeld blocks nodes entries root top (first_at nodes at.link) (count_at nodes at.link) at.min at.max after born own r) (y : r ≡ true) where
    abbrev Held : (n kind : ℕ) (whole tree : Tree) (above : List ℕ) (slots : Slots) → Type 0
    Held n kind whole tree above slots =
        RightFirst (row_blocks blocks n kind) root.max (OpenAt blocks n kind root whole) at.min at.max tree above (slots_of after) (slots_of born) (slots_of slots)

    module _ (n kind : ℕ) (whole : Tree) (above xs : List ℕ) (from to : ℕ) (w : Place blocks nodes entries n kind root top at whole above)
        (listed : run entries (first_at nodes at.link) (count_at nodes at.link) ≡ xs) (s : NodeStands (lent blocks nodes entries) n kind at.link at.min at.max from to) where
      entered : Entered blocks entries n kind (first_at nodes at.link) (count_at nodes at.link) at.min
      entered = rows_entered some-tick s

      -- the node's own entries are held
      own_held : HeldAll (row_blocks blocks n kind) root.max (OpenAt blocks n kind root whole) at.min at.max above (slots_of after) xs (slots_of born) (slots_of own)
      own_held = rw listed at (held.shown y n kind at whole above refl refl w some-tick entered)

      own_chained : Chained blocks xs
      own_chained = rw listed at (held.chained y n kind w.all.fits entered)

      own_known : (j : ℕ) → Mem j xs → Known blocks n kind j
      own_known j m =
          let all : All (Known blocks n kind) (run entries (first_at nodes at.link) (count_at nodes at.link)) = run-every entries (first_at nodes at.link) (count_at nodes at.link) entered.known in
          all_mem (rw listed at all) m

      own_apart : RunApart (row_blocks blocks n kind) xs
      own_apart = chained_apart blocks n kind xs own_known own_chained

    pub tree_narrow : {left : Option ℕ} → at.max - at.min ≤ 1 → TreeHeld blocks nodes entries root top at after born own left
    unfolding TreeStands
    tree_narrow h = record { shown = λ rest z n kind whole tree above w st b. go n kind whole tree above w st b }
      where
        go : (n kind : ℕ) (whole tree : Tree) (above : List ℕ) → Place blocks nodes entries n kind root top at whole above
            → Standing blocks nodes entries n kind at tree → Below blocks nodes entries n kind at tree → Held n kind whole tree above own
        go n kind whole hole above w st b = absurd (some b.stood)
        go n kind whole (node xs l r) above w st b =
            let s = b.stood.1 in
            let none = s.row.narrow (omega arith) in
            rw (
              none_there (lent blocks nodes entries) n kind (left_at nodes at.link) at.min (mid at.min at.max) at.min at.max l none.0 b.stood.2,
              none_there (lent blocks nodes entries) n kind (right_at nodes at.link) (mid at.min at.max) at.max at.min at.max r none.1 b.stood.3,
            )
            (right_narrow {lo = at.min} {hi = at.max} (omega arith) (own_apart n kind whole above xs b.from b.to w b.stood.0 s)
            (own_held n kind whole above xs b.from b.to w b.stood.0 s))

    -- both halves, and the slots for mid between them
    tree_both : {fresh mids slots : Slots} {rows : ℕ} {right under : Option ℕ} → 1 < at.max - at.min → Unused fresh
        → TreeHeld blocks nodes entries root top (right_half nodes at) after fresh mids right → right ≡ Some rows
        → TreeHeld blocks nodes entries root (left_half nodes at) (left_half nodes at) mids own slots under → TreeHeld blocks nodes entries root top at after born slots under
    unfolding TreeStands
    tree_both {slots = slots} {rows = rows} {under = under} h unused higher z lower = record { shown = go }
      where
        go : (rest : ℕ) → under ≡ Some rest → (n kind : ℕ) (whole tree : Tree) (above : List ℕ) → Place blocks nodes entries n kind root top at whole above
            → Standing blocks nodes entries n kind at tree → Below blocks nodes entries n kind at tree → Held n kind whole tree above slots
        go rest x n kind whole hole above w st b = absurd (some b.stood)
        go rest x n kind whole (node xs l r) above w st b =
            let s = b.stood.1 in
            let chained = own_chained n kind whole above xs b.from b.to w b.stood.0 s in
            let known = own_known n kind whole above xs b.from b.to w b.stood.0 s in
            right_wide {lo = at.min} {hi = at.max} (omega arith) (own_apart n kind whole above xs b.from b.to w b.stood.0 s)
            (own_held n kind whole above xs b.from b.to w b.stood.0 s) unused.all
            (higher.shown rows z n kind whole r (above ++ xs)
            (record {
              all = w.all;
              inside = omega (arith, w.inside);
              nodes_above = above_more w.nodes_above (omega arith) s.row.some (omega arith) (run_of blocks nodes entries kind at xs l r st.stands)
                  ((ascends_decides (first_cell_in blocks) xs).yes (sorted_here (first_cell_in blocks) xs l r st.stands.ascend)) chained (last_right nodes at h);
              known = λ j m. elim (mem_split above xs m) [ inl o ↦ w.known j o | inr o ↦ known j o ];
            })
            (right_stands h st) (record { from = at.min; to = at.max; stood = b.stood.3; wide = λ _. omega arith }))
            (lower.shown rest x n kind whole l []
            (record { all = w.all; inside = w.inside; nodes_above = above-none; known = λ j m. absurd (not_mem_nil m) }) (left_stands h st)
            (record { from = at.min; to = at.max; stood = b.stood.2; wide = λ _. omega arith }))

    pub tree_wide : {r' l' m : ℕ} {fresh mids slots : Slots} {rows : ℕ} {above under : Option ℕ} → 1 < at.max - at.min → m ≡ at.min + (at.max - at.min) / 2 → r' ≡ right_at nodes at.link
        → l' ≡ left_at nodes at.link → Unused fresh → TreeHeld blocks nodes entries root top (record { link = r'; min = m; max = at.max }) after fresh mids above → above ≡ Some rows
        → TreeHeld blocks nodes entries root (record { link = l'; min = at.min; max = m }) (record { link = l'; min = at.min; max = m }) mids own slots under → TreeHeld blocks nodes entries root top at after born slots under
    tree_wide {m = m} h em er el unused upper z low = let half : m ≡ mid at.min at.max = omega (arith, em, h) in tree_both h unused (rw (er, half) at upper) z (rw (el, half) at low)
