-- The whole of find: the way from the root, its rows, and what is written of them. Assumes nothing.
use Rattle.std.specs.Prelude.{Option, Some, None}
use mathlib.Core.Path.{◌≡◌}
use mathlib.Core.List.{List}
use Prim.Native.Nat.{ℕ, ◌+◌, ◌≤◌, ◌<◌}
use native.Mathlib.Omega.{arith}
use lib.ListN.{length}
use borrow.Author.Tests.{le-leb, lt-leb}
use Rattle.history.specs.Tree.{Tree}
use Rattle.history.specs.Find.{path, visited, window}
use Rattle.segment_table.specs.Closed.{first_cell_in}
use Rattle.segment_walk.specs.declared.rows.Rows.{Rows}
use Rattle.segment_walk.specs.declared.walk.Node.{Node}
use Rattle.segment_walk.specs.Walking.{Stands, Rooted, root_at}
use Rattle.segment_find.specs.Notes.{most, Deep, Searched, noted, Fitting, Links, Windowed, Written}
use Rattle.segment_find.specs.Listing.{Fills, Finds}
use Rattle.segment_find.proofs.Noting.{links_in}
use Rattle.segment_find.proofs.Searching.{deep_root}

-- the links noted are those of the way
links : {nodes : List ℕ} {notes notes₁ : List Rows} {link min max tick v : ℕ} → length notes ≡ most → (down : Searched nodes link min max tick notes 0 notes₁ v)
    → Links notes₁ v down.way
links {notes = notes} all down =
    record {
      many = omega (arith, down.count);
      same = λ i h.
          let z : 0 + i ≡ i = omega arith in
          rw down.written (rw z at (links_in down.way notes 0 i (omega (arith, down.count, down.room)) (omega (arith, down.count))));
    }

module _ {nodes entries answer : List ℕ} {notes notes₁ notes₂ : List Rows} {kind end tick start stop v : ℕ} {root : Node} {found : Option ℕ}
    (at_root : root ≡ root_at nodes kind end) (all : length notes ≡ most)
    (down : Searched nodes root.link root.min root.max tick notes 0 notes₁ v)
    (rows : Windowed nodes entries notes₁ v start stop (length answer) notes₂ found) where
  pub find-listed : {answer' : List ℕ} {count listed : ℕ} → found ≡ Some count → Written entries notes₂ count answer answer' listed
      → Finds nodes entries kind end tick start stop answer answer' (Some (record { count = listed; visited = v }))
  find-listed {answer'} {count} {listed} e put = record { lists = go }
    where
      go : (blocks : List ℕ) (tree : Tree) → Rooted blocks nodes entries kind end tree
          → Fills (window (first_cell_in blocks) start stop (path tick 0 end tree)) (visited tick 0 end tree) answer answer' (Some (record { count = listed; visited = v }))
      go blocks tree r =
          let list : List ℕ = window (first_cell_in blocks) start stop (path tick 0 end tree) in
          let s : Stands blocks nodes entries kind root tree = rw at_root r in
          let on = rw at_root at (down.leads blocks entries kind tree s) in
          let whole : noted entries notes₂ count ≡ list = rows.whole blocks down.way (path tick 0 end tree) (links all down) on.0 count e in
          let fits : length list ≤ length answer = rw whole at (rows.fitting count e).fits in
          let many : listed ≡ length list = rw whole at put.many in
          let steps : v ≡ visited tick 0 end tree = omega (arith, down.count, on.1) in
          record { result = rw (le-leb (length list) (length answer) fits, many, steps); left = rw (le-leb (length list) (length answer) fits) (rw whole at put.left) }

  pub find_small : found ≡ None → Finds nodes entries kind end tick start stop answer answer None
  find_small e = record { lists = go }
    where
      go : (blocks : List ℕ) (tree : Tree) → Rooted blocks nodes entries kind end tree
          → Fills (window (first_cell_in blocks) start stop (path tick 0 end tree)) (visited tick 0 end tree) answer answer None
      go blocks tree r =
          let list : List ℕ = window (first_cell_in blocks) start stop (path tick 0 end tree) in
          let s : Stands blocks nodes entries kind root tree = rw at_root r in
          let on = rw at_root at (down.leads blocks entries kind tree s) in
          let long : length answer < length list = rows.over blocks down.way (path tick 0 end tree) (links all down) on.0 e in
          record { result = rw (lt-leb (length list) (length answer) long); left = rw (lt-leb (length list) (length answer) long) }

-- ── between the calls ──

pub find_deep : {link end : ℕ} {root : Node} → root ≡ record { link = link; min = 0; max = end } → end < 18446744073709551616
    → Deep root.min root.max 0
find_deep e h = rw e (deep_root h)

pub find_fitting : {nodes entries : List ℕ} {notes notes₁ : List Rows} {depth start stop places count : ℕ} {found : Option ℕ}
    → Windowed nodes entries notes depth start stop places notes₁ found → found ≡ Some count → Fitting entries notes₁ count places
find_fitting rows e = rows.fitting _ e
