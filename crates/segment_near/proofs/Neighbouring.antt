-- Neighbours of a place: in a run, in two lists, on the way down. One step for each return. Assumes nothing.
use Rattle.std.specs.Prelude.{Option, Some, None}
use mathlib.Core.Path.{◌≡◌, refl}
use mathlib.Core.Logic.{⊎_elim}
use mathlib.Core.Bool.{Bool, true}
use mathlib.Core.List.{List, [], ◌++◌, append_assoc, append-nil}
use Prim.Native.Nat.{ℕ, ◌-◌, ◌≤◌, ◌<◌}
use native.Mathlib.Omega.{arith}
use Rattle.lists.specs.Lists.{All, all_nil}
use Rattle.lists.proofs.Lists.{all_append, all_map, mem_left, mem_right}
use Rattle.lists.specs.Tests.{Decides}
use Rattle.lists.proofs.Numbers.{le_or_lt}
use Rattle.history.specs.Tree.{Tree, hole, node}
use Rattle.history.specs.Find.{path}
use Rattle.segment_table.specs.Closed.{TreeAt, block_in, first_cell_in}
use Rattle.segment_table.proofs.Closed.{run_all, run_mem}
use Rattle.segment_walk.specs.declared.walk.Node.{Node}
use Rattle.segment_walk.specs.declared.rows.Rows.{Rows}
use Rattle.segment_near.specs.declared.Side.{Side}
use Rattle.segment_near.specs.declared.Side.TheVariants.{From, Before}
use Rattle.segment_near.specs.declared.Neighbour.{Neighbour}
use Rattle.segment_walk.specs.Walking.{Stands, root_at, Absent, half_at}
use Rattle.segment_walk.specs.Rowing.{rows_at, key_at, RunOf, Lower}
use Rattle.segment_near.specs.Neighbours.{Beside, AsNear, Nearest, Neighbours, OwnNeighbour, Nearer, NearestBelow, NearestLive}
use Rattle.segment_walk.proofs.Halving.{Present, absent_hole, Down, down}
use Rattle.segment_walk.proofs.Rowing.{run_of}

-- ── answers ──

module _ {side : Side} {key : ℕ → ℕ} {place : ℕ} {list : List ℕ} where
  some_block : {b : Neighbour} {r : Option Neighbour} → r ≡ Some b → Nearest side key place list b.number b.first → Neighbours side key place list r
  some_block {b} {r} e n =
      record {
        block = λ b' e'. let same : b ≡ b' = cc in rw (← same) n;
        nothing = λ z. let no : ◌≡◌ {A = ℕ} 0 1 = cc in absurd (omega arith);
      }

  no_block_lem : All (λ j. Beside side key place j → ⊥) list → Neighbours side key place list None
  no_block_lem none = record { block = λ b e. let no : ◌≡◌ {A = ℕ} 0 1 = cc in absurd (omega arith); nothing = λ _. none }

-- ── the returns of `own_neighbour` ──

module _ {entries : List ℕ} {rows : Rows} {place row : ℕ} (l : Lower entries rows place row) where
  own_from : {r : Option Neighbour} → row < rows.to → r ≡ Some (record { number = block_in entries row; first = key_at entries row }) → OwnNeighbour entries rows From place r
  own_from {r} inside e = record { of_run = go }
    where
      go : (blocks xs : List ℕ) → RunOf blocks entries rows xs → Neighbours From (first_cell_in blocks) place xs r
      go blocks xs own =
          let low : rows.from ≤ row = (l.inside own.order).0 in
          let p = l.parts own.room own.ordered in
          let key : key_at entries row ≡ first_cell_in blocks (block_in entries row) = own.keyed row low inside in
          rw (← own.lists)
          (some_block e
          (record {
            listed = run_mem entries rows.from (rows.to - rows.from) row low (omega arith);
            starts = key;
            beside = rw key at (p.above row (omega arith) inside);
            nearest = run_all entries rows.from (rows.to - rows.from)
                (λ i a b from.
                ⊎_elim (λ (h : row ≤ i). omega (arith, key, own.keyed i a (omega arith), own.ordered.order row i low h (omega arith)))
                (λ (h : i < row). absurd (omega (arith, own.keyed i a (omega arith), p.below i a h)))
                (le_or_lt row i));
          }))

  own_from_none : rows.to ≤ row → OwnNeighbour entries rows From place None
  own_from_none past =
      record {
        of_run = λ blocks xs own.
            let p = l.parts own.room own.ordered in
            rw (← own.lists)
            (no_block_lem (run_all entries rows.from (rows.to - rows.from) (λ i a b from. omega (arith, own.keyed i a (omega arith), p.below i a (omega arith)))));
      }

  own_before : {r : Option Neighbour} → rows.from < row → r ≡ Some (record { number = block_in entries (row - 1); first = key_at entries (row - 1) }) → OwnNeighbour entries rows Before place r
  own_before {r} inside e = record { of_run = go }
    where
      go : (blocks xs : List ℕ) → RunOf blocks entries rows xs → Neighbours Before (first_cell_in blocks) place xs r
      go blocks xs own =
          let high : row ≤ rows.to = (l.inside own.order).1 in
          let p = l.parts own.room own.ordered in
          let key : key_at entries (row - 1) ≡ first_cell_in blocks (block_in entries (row - 1)) = own.keyed (row - 1) (omega arith) (omega arith) in
          rw (← own.lists)
          (some_block e
          (record {
            listed = run_mem entries rows.from (rows.to - rows.from) (row - 1) (omega arith) (omega arith);
            starts = key;
            beside = rw key at (p.below (row - 1) (omega arith) (omega arith));
            nearest = run_all entries rows.from (rows.to - rows.from)
                (λ i a b before.
                ⊎_elim (λ (h : row ≤ i). absurd (omega (arith, own.keyed i a (omega arith), p.above i h (omega arith))))
                (λ (h : i < row). omega (arith, key, own.keyed i a (omega arith), own.ordered.order i (row - 1) a (omega arith) (omega arith)))
                (le_or_lt row i));
          }))

  own_before_none : row ≤ rows.from → OwnNeighbour entries rows Before place None
  own_before_none first =
      record {
        of_run = λ blocks xs own.
            let p = l.parts own.room own.ordered in
            rw (← own.lists)
            (no_block_lem
            (run_all entries rows.from (rows.to - rows.from) (λ i a b before. omega (arith, own.keyed i a (omega arith), p.above i (omega arith) (omega arith)))));
      }

  pub own_is_from : {side : Side} {r : Option Neighbour} → side ≡ From → row < rows.to → r ≡ Some (record { number = block_in entries row; first = key_at entries row })
      → OwnNeighbour entries rows side place r
  own_is_from s h e = rw s (own_from h e)

  pub own_none_from : {side : Side} → side ≡ From → rows.to ≤ row → OwnNeighbour entries rows side place None
  own_none_from s h = rw s (own_from_none h)

  pub own_is_before : {side : Side} {r : Option Neighbour} → side ≡ Before → rows.from < row → r ≡ Some (record { number = block_in entries (row - 1); first = key_at entries (row - 1) })
      → OwnNeighbour entries rows side place r
  own_is_before s h e = rw s (own_before h e)

  pub own_none_before : {side : Side} → side ≡ Before → row ≤ rows.from → OwnNeighbour entries rows side place None
  own_none_before s h = rw s (own_before_none h)

pub ruleset owning = (own_is_from, own_none_from, own_is_before, own_none_before)

-- ── the returns of `nearer` ──

as_near_trans : (side : Side) (key : ℕ → ℕ) (i j k : ℕ) → AsNear side key i j → AsNear side key j k → AsNear side key i k
as_near_trans From key i j k p q = omega arith
as_near_trans Before key i j k p q = omega arith

module _ {side : Side} {key : ℕ → ℕ} {place : ℕ} (xs ys : List ℕ) {k first : ℕ} where
  -- a neighbour in one list, to which nothing in the other is nearer
  keep_left : Nearest side key place xs k first → All (λ j. Beside side key place j → AsNear side key k j) ys → Nearest side key place (xs ++ ys) k first
  keep_left n others = record { listed = mem_left xs ys n.listed; starts = n.starts; beside = n.beside; nearest = all_append n.nearest others }

  keep_right : Nearest side key place ys k first → All (λ j. Beside side key place j → AsNear side key k j) xs → Nearest side key place (xs ++ ys) k first
  keep_right n others = record { listed = mem_right xs ys n.listed; starts = n.starts; beside = n.beside; nearest = all_append others n.nearest }

module _ {side : Side} {own below : Option Neighbour} where
  pub nearer_below : own ≡ None → Nearer side own below below
  nearer_below e =
      record {
        of_both = λ key place xs ys a b.
            let none = a.nothing e in
            record {
              block = λ n z. keep_right xs ys (b.block n z) (all_map (λ j no beside. absurd (no beside)) none);
              nothing = λ z. all_append none (b.nothing z);
            };
      }

  pub nearer_own : {n : Neighbour} → own ≡ Some n → below ≡ None → Nearer side own below (Some n)
  nearer_own {n} e z =
      record {
        of_both = λ key place xs ys a b.
            some_block refl (keep_left xs ys (a.block n e) (all_map (λ j no beside. absurd (no beside)) (b.nothing z)));
      }

  module _ {here there : Neighbour} (e : own ≡ Some here) (e' : below ≡ Some there) where
    closer_own : ((key : ℕ → ℕ) → here.first ≡ key here.number → there.first ≡ key there.number → AsNear side key here.number there.number) → Nearer side own below (Some here)
    closer_own near =
        record {
          of_both = λ key place xs ys a b.
              let n = a.block here e in
              let m = b.block there e' in
              some_block refl
              (keep_left xs ys n
              (all_map (λ j far beside. as_near_trans side key here.number there.number j (near key n.starts m.starts) (far beside)) m.nearest));
        }

    closer_below : ((key : ℕ → ℕ) → here.first ≡ key here.number → there.first ≡ key there.number → AsNear side key there.number here.number)
        → Nearer side own below (Some there)
    closer_below near =
        record {
          of_both = λ key place xs ys a b.
              let n = a.block here e in
              let m = b.block there e' in
              some_block refl
              (keep_right xs ys m
              (all_map (λ j far beside. as_near_trans side key there.number here.number j (near key n.starts m.starts) (far beside)) n.nearest));
        }

    pub nearer_from_below : side ≡ From → there.first < here.first → Nearer side own below (Some there)
    nearer_from_below s h = closer_below (λ key p q. rw s (omega arith))

    pub nearer_from_own : side ≡ From → here.first ≤ there.first → Nearer side own below (Some here)
    nearer_from_own s h = closer_own (λ key p q. rw s (omega arith))

    pub nearer_before_below : side ≡ Before → here.first < there.first → Nearer side own below (Some there)
    nearer_before_below s h = closer_below (λ key p q. rw s (omega arith))

    pub nearer_before_own : side ≡ Before → there.first ≤ here.first → Nearer side own below (Some here)
    nearer_before_own s h = closer_own (λ key p q. rw s (omega arith))

pub ruleset nearing = (nearer_below, nearer_own, nearer_from_below, nearer_from_own, nearer_before_below, nearer_before_own)

-- ── the returns of `nearest` ──

module _ {nodes entries : List ℕ} {n : Node} {tick : ℕ} {side : Side} {place : ℕ} where
  pub nearest_none : {t : Bool} {best : Option Neighbour} → Decides t (Absent n) → t ≡ true → NearestBelow nodes entries n tick side place best best
  unfolding path
  nearest_none d e = record { of_way = λ blocks kind tree list s b. rw (absent_hole (d.yes e) s, append-nil) b }

  -- what is nearest so far, then a node's own neighbour, then the way down from its half
  pub nearest_both : {rows : Rows} {h : Node} {best own near r : Option Neighbour} → Present n → rows ≡ rows_at nodes entries n.link
      → OwnNeighbour entries rows side place own → h ≡ half_at nodes tick n → Nearer side best own near → NearestBelow nodes entries h tick side place near r
      → NearestBelow nodes entries n tick side place best r
  unfolding TreeAt
  nearest_both {rows} {h} {best} {own} {near} {r} at e here half both there = record { of_way = go }
    where
      go : (blocks : List ℕ) (kind : ℕ) (tree : Tree) (list : List ℕ) → Stands blocks nodes entries kind n tree
          → Neighbours side (first_cell_in blocks) place list best → Neighbours side (first_cell_in blocks) place (list ++ path tick n.min n.max tree) r
      go blocks kind hole list s b = absurd (at.row s.stood)
      go blocks kind (node xs l r') list s b =
          let d : Down blocks nodes entries kind tick n h xs (node xs l r') = down blocks nodes entries kind tick n xs l r' s h half in
          let run : RunOf blocks entries rows xs = rw e (run_of blocks nodes entries kind n xs l r' s) in
          rw (d.way, ← append_assoc list xs (path tick h.min h.max d.below))
          (there.of_way blocks kind d.below (list ++ xs) d.stands
          (both.of_both (first_cell_in blocks) place list xs b (here.of_run blocks xs run)))

-- ── the whole tree ──

pub nearest_live : {nodes entries : List ℕ} {kind end tick : ℕ} {side : Side} {place : ℕ} {root : Node} {r : Option Neighbour} → root ≡ root_at nodes kind end
    → NearestBelow nodes entries root tick side place None r → NearestLive nodes entries kind end tick side place r
nearest_live {nodes} {entries} {kind} {end} {tick} {side} {place} {root} {r} e below =
    record {
      of_tree = λ blocks tree s.
          let st : Stands blocks nodes entries kind root tree = rw e s in
          rw e at (below.of_way blocks kind tree [] st (no_block_lem all_nil));
    }
