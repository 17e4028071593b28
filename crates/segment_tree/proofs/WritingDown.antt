-- Writing a block at a node, by where its life begins and ends there: the way of add_location through nodes that are all there. Assumes nothing.
use mathlib.Core.Path.{◌≡◌, refl, ◌∙◌}
use mathlib.Core.Logic.{inr}
use mathlib.Core.Bool.{Bool, true, false, cond, not, ◌&&◌}
use mathlib.Core.List.{List}
use Prim.Native.Nat.{ℕ, suc, ◌+◌, ◌-◌, ◌^◌, ◌≤◌, ◌<◌}
use native.Mathlib.Omega.{arith}
use lib.ListN.{length}
use lib.Dec.{ltb}
use borrow.Author.Tests.{lt-ltb, le-ltb}
use Rattle.lists.proofs.Numbers.{and_both}
use Rattle.history.specs.Tree.{Tree, hole, node, mid, halves, covers, insert, add_location}
use Rattle.history.proofs.TreeInserting.{insert-length}
use Rattle.history.proofs.TreeAdding.{add_here, add_narrow}
use Rattle.history.proofs.TreeCounts.{new_nodes}
use Rattle.tables.specs.Columns.{column, node_left, node_right}
use Rattle.segment_table.specs.Closed.{nodes_used, left_at, right_at, count_at, first_cell_in}
use Rattle.segment_tree.specs.declared.Span.{Span}
use Rattle.segment_tree.specs.declared.Place.{Place}
use Rattle.segment_tree.specs.Count.{rows_in, Life, spot, half_on, Outside}
use Rattle.segment_tree.specs.Runs.{LikeButRuns}
use Rattle.segment_tree.specs.Fill.{Fillable, FillAt, Roomy, FindsNodes, Filled, Written, PutEntry, put, no_place, HalfRead}
use Rattle.segment_tree.proofs.Adding.{Deeper, deeper_of, Goes, Stays, joined}
use Rattle.segment_tree.proofs.Presence.{new_hole, none_new, new_none-count, Below, new_below}
use Rattle.segment_tree.proofs.Writing.{run_fits, untouched_all, beyond_all, like_self, like_trans, fillable_like, wrote_like, wrote_long, filled_entry, filled_left, filled_right, filled_trans}

-- ── by the tree: there is a node, for the block finds it ──

-- what is to be shown at a node
abbrev Done : (t es t' es' : List ℕ) (link lo hi : ℕ) (life : Life) (b cell : ℕ) → Type 0
Done t es t' es' link lo hi life b cell =
    (blocks s : List ℕ) (kind n : ℕ) (xs : List ℕ) (l r : Tree) → hi - lo ≤ 2 ^ n → Fillable s t es → first_cell_in blocks b ≡ cell
    → FillAt blocks s t es kind link lo hi (node xs l r) → new_nodes n life.created life.destroyed lo hi (node xs l r) ≡ 0
    → Roomy s link (add_location (λ _. 0) n b life.created life.destroyed lo hi (node xs l r))
    → Filled blocks s t es t' es' kind link lo hi (node xs l r) (add_location (λ _. 0) n b life.created life.destroyed lo hi (node xs l r))

written : (t es t' es' : List ℕ) (link lo hi : ℕ) (life : Life) (b cell : ℕ) → LikeButRuns t t' → length t' ≡ length t → length es' ≡ length es
    → Done t es t' es' link lo hi life b cell → Written t es t' es' link lo hi life b cell
written t es t' es' link lo hi life b cell like long long-e step = record { like = like; nodes_long = long; entries_long = long-e; done = go }
  where
    go : (blocks s : List ℕ) (kind n : ℕ) (T : Tree) → hi - lo ≤ 2 ^ n → Fillable s t es → first_cell_in blocks b ≡ cell
        → FillAt blocks s t es kind link lo hi T → FindsNodes n b life lo hi T
        → Roomy s link (add_location (λ _. 0) n b life.created life.destroyed lo hi T)
        → Filled blocks s t es t' es' kind link lo hi T (add_location (λ _. 0) n b life.created life.destroyed lo hi T)
    go blocks s kind n hole w f is g finds room =
        absurd (omega (arith, none_new b n life.created life.destroyed lo hi hole finds, new_hole n life.created life.destroyed lo hi))
    go blocks s kind n (node xs l r) w f is g finds room =
        step blocks s kind n xs l r w f is g (none_new b n life.created life.destroyed lo hi (node xs l r) finds) room

-- nothing is written, and nothing was to be
pub unchanged : (blocks s t es : List ℕ) (kind link lo hi : ℕ) (T T' : Tree) → T' ≡ T → FillAt blocks s t es kind link lo hi T → Filled blocks s t es t es kind link lo hi T T'
unchanged blocks s t es kind link lo hi T T' e g = rw e (record { here = g; rest = untouched_all s t es (Outside s (spot kind 0 0 lo hi)); beyond = beyond_all s t es })

-- ── the node itself ──

module _ {t es : List ℕ} {link lo hi b cell : ℕ} {life : Life} where
  pub write_none : link ≡ 0 → Written t es t es link lo hi life b cell
  unfolding FillAt
  write_none z =
      written t es t es link lo hi life b cell (like_self t) refl refl (λ blocks s kind n xs l r w f is g none room. absurd (omega (arith, g.0.row.some)))

  module _ (some : link ≡ 0 → ⊥) where
    pub write_covered : {t' es' : List ℕ} → covers life.created life.destroyed lo hi ≡ true → PutEntry t es t' es' link b cell → Written t es t' es' link lo hi life b cell
    unfolding Roomy FillAt
    write_covered {t'} {es'} covered (no_place a same same-e) =
        rw (same, same-e)
        (written t es t es link lo hi life b cell (like_self t) refl refl
        (λ blocks s kind n xs l r w f is g none room.
        let here : add_location (λ _. 0) n b life.created life.destroyed lo hi (node xs l r) ≡ node (insert (λ _. 0) b xs) l r =
        add_here (λ _. 0) b life.created life.destroyed lo hi (node xs l r) n covered in
        let fits : Roomy s link (node (insert (λ _. 0) b xs) l r) = rw here at room in
        let more : suc (length xs) ≤ count_at s link = omega (arith, insert-length (λ _. 0) b xs, fits.0) in
        let row = g.0.row in
        let full = a row.some (omega (arith, row.used, f.inside, f.long)) in
        absurd (omega (arith, full, more, g.0.next, run_fits s link row.some row.used, f.space))))
    write_covered {t'} {es'} covered (put wrote) =
        let long : (length t' ≡ length t) × (length es' ≡ length es) = wrote_long t es t' es' link b cell some wrote in
        written t es t' es' link lo hi life b cell (wrote_like t es t' es' link b cell some wrote) long.0 long.1
        (λ blocks s kind n xs l r w f is g none room.
        let here : add_location (λ _. 0) n b life.created life.destroyed lo hi (node xs l r) ≡ node (insert (λ _. 0) b xs) l r =
        add_here (λ _. 0) b life.created life.destroyed lo hi (node xs l r) n covered in
        let fits : Roomy s link (node (insert (λ _. 0) b xs) l r) = rw here at room in
        rw here (filled_entry t es t' es' link b cell some wrote blocks s kind lo hi xs l r f g (omega (arith, insert-length (λ _. 0) b xs, fits.0)) is))

    pub write_narrow : covers life.created life.destroyed lo hi ≡ false → hi ≤ lo + 1 → Written t es t es link lo hi life b cell
    write_narrow misses small =
        written t es t es link lo hi life b cell (like_self t) refl refl
        (λ blocks s kind n xs l r w f is g none room.
        unchanged blocks s t es kind link lo hi (node xs l r) _ (add_narrow (λ _. 0) b life.created life.destroyed lo hi (node xs l r) n misses small) g)

-- ── its halves ──

-- the link at a place in the row of `link`
abbrev pub half_at : (t : List ℕ) (link : ℕ) (p : Place) → ℕ
half_at t link p = column t link p.col

-- the node has halves, and is not covered
pub record Split (link lo hi : ℕ) (life : Life) : Type 0 where
  pub uncovered : covers life.created life.destroyed lo hi ≡ false
  pub wide : lo + 1 < hi

module _ (link lo hi : ℕ) (life : Life) (b cell : ℕ) (p : Split link lo hi life) (blocks s : List ℕ) (kind n : ℕ) (xs : List ℕ) (l r : Tree) (w : hi - lo ≤ 2 ^ n)
    (is : first_cell_in blocks b ≡ cell) (none : new_nodes n life.created life.destroyed lo hi (node xs l r) ≡ 0) where
  abbrev c : ℕ
  c = life.created

  abbrev d : ℕ
  d = life.destroyed

  abbrev m : ℕ
  m = mid lo hi

  wider : lo + 1 < hi
  wider = p.wide

  deep : Deeper (λ _. 0) n b c d lo hi (node xs l r)
  deep = deeper_of (λ _. 0) n b c d lo hi (node xs l r) p.uncovered wider w

  there : Below deep.less c d lo hi (node xs l r)
  there = new_below deep.less c d lo hi (node xs l r) p.uncovered (rw deep.levels_are at none)

  abbrev half_tree : (right : Bool) → Tree
  half_tree right = cond right r l

  new_half : (right : Bool) → Tree
  new_half true = add_location (λ _. 0) deep.less b c d m hi r
  new_half false = add_location (λ _. 0) deep.less b c d lo m l

  abbrev place : (right : Bool) → Place
  place right = half_on right (record { lo = lo; hi = hi })

  -- a link in use is one of the table's
  in_table : {t es : List ℕ} → Fillable s t es → link ≤ nodes_used s → link ≤ rows_in t
  in_table f used = omega (arith, used, f.inside, f.long)

  -- a half, whatever the other one is by then
  half_filled : (right : Bool) (t es t₁ es₁ : List ℕ) (X : Tree) (q : ℕ) → Fillable s t es → FillAt blocks s t es kind link lo hi (joined right xs (half_tree right) X)
      → HalfRead t link (place right) q → Goes right life m → Written t es t₁ es₁ q (place right).span.lo (place right).span.hi life b cell
      → Roomy s (half_at s link (place right)) (new_half right)
      → Filled blocks s t es t₁ es₁ kind link lo hi (joined right xs (half_tree right) X) (joined right xs (new_half right) X)
  unfolding new_half FillAt
  half_filled false t es t₁ es₁ X q f g read go a room =
      let at : q ≡ left_at s link = read.is g.0.row.some (in_table f g.0.row.used) (omega arith) ∙ f.like.same link node_left (omega arith) (inr (omega arith)) in
      let both : (halves lo hi && ltb c m) ≡ true = and_both (halves lo hi) (ltb c m) (lt-ltb (lo + 1) hi wider) (lt-ltb c m go) in
      let done : Filled blocks s t es t₁ es₁ kind q lo m l (new_half false) =
      a.done blocks s kind deep.less l deep.left_width f is (rw at g.1) (new_none-count b deep.less c d lo m l (there.left both)) (rw at room) in
      filled_left blocks s t es t₁ es₁ kind link lo hi xs l X wider g (new_half false) (rw at at done)
  half_filled true t es t₁ es₁ X q f g read go a room =
      let at : q ≡ right_at s link = read.is g.0.row.some (in_table f g.0.row.used) (omega arith) ∙ f.like.same link node_right (omega arith) (inr (omega arith)) in
      let both : (halves lo hi && ltb m d) ≡ true = and_both (halves lo hi) (ltb m d) (lt-ltb (lo + 1) hi wider) (lt-ltb m d go) in
      let done : Filled blocks s t es t₁ es₁ kind q m hi r (new_half true) =
      a.done blocks s kind deep.less r deep.right_width f is (rw at g.2) (new_none-count b deep.less c d m hi r (there.right both)) (rw at room) in
      filled_right blocks s t es t₁ es₁ kind link lo hi xs X r wider g (new_half true) (rw at at done)

  -- one half of the node
  first_filled : (right : Bool) (t es t₁ es₁ : List ℕ) (q : ℕ) → Fillable s t es → FillAt blocks s t es kind link lo hi (node xs l r)
      → HalfRead t link (place right) q → Goes right life m → Written t es t₁ es₁ q (place right).span.lo (place right).span.hi life b cell
      → Roomy s (half_at s link (place right)) (new_half right)
      → Filled blocks s t es t₁ es₁ kind link lo hi (node xs l r) (joined right xs (new_half right) (half_tree (not right)))
  first_filled true t es t₁ es₁ q f g read go a room = half_filled true t es t₁ es₁ l q f g read go a room
  first_filled false t es t₁ es₁ q f g read go a room = half_filled false t es t₁ es₁ r q f g read go a room

  -- and the other one after it
  other_filled : (right : Bool) (t es t₁ es₁ : List ℕ) (q : ℕ) → Fillable s t es
      → FillAt blocks s t es kind link lo hi (joined right xs (new_half right) (half_tree (not right))) → HalfRead t link (place (not right)) q
      → Goes (not right) life m → Written t es t₁ es₁ q (place (not right)).span.lo (place (not right)).span.hi life b cell
      → Roomy s (half_at s link (place (not right))) (new_half (not right))
      → Filled blocks s t es t₁ es₁ kind link lo hi (joined right xs (new_half right) (half_tree (not right))) (joined right xs (new_half right) (new_half (not right)))
  other_filled true t es t₁ es₁ q f g read go a room = half_filled false t es t₁ es₁ (new_half true) q f g read go a room
  other_filled false t es t₁ es₁ q f g read go a room = half_filled true t es t₁ es₁ (new_half false) q f g read go a room

  -- there is room in each
  roomy_halves : (right : Bool) (X Y : Tree) → Roomy s link (joined right xs X Y) → Roomy s (half_at s link (place right)) X × Roomy s (half_at s link (place (not right))) Y
  unfolding Roomy
  roomy_halves true X Y z = (z.2, z.1)
  roomy_halves false X Y z = (z.1, z.2)

  -- what the model makes of the node
  is_neither : m ≤ c → d ≤ m → add_location (λ _. 0) n b c d lo hi (node xs l r) ≡ node xs l r
  is_neither x y = deep.is ∙ rw (le-ltb c m x, le-ltb m d y)

  is_one : (right : Bool) → Goes right life m → Stays (not right) life m
      → add_location (λ _. 0) n b c d lo hi (node xs l r) ≡ joined right xs (new_half right) (half_tree (not right))
  unfolding new_half
  is_one true y x = deep.is ∙ rw (le-ltb c m x, lt-ltb m d y)
  is_one false x y = deep.is ∙ rw (lt-ltb c m x, le-ltb m d y)

  is_both : (right : Bool) → Goes right life m → Goes (not right) life m
      → add_location (λ _. 0) n b c d lo hi (node xs l r) ≡ joined right xs (new_half right) (new_half (not right))
  unfolding new_half
  is_both true y x = deep.is ∙ rw (lt-ltb c m x, lt-ltb m d y)
  is_both false x y = deep.is ∙ rw (lt-ltb c m x, lt-ltb m d y)

module _ {t es : List ℕ} {link b cell : ℕ} {span : Span} {life : Life} (p : Split link span.lo span.hi life) where
  pub write_neither : mid span.lo span.hi ≤ life.created → life.destroyed ≤ mid span.lo span.hi → Written t es t es link span.lo span.hi life b cell
  write_neither x y =
      written t es t es link span.lo span.hi life b cell (like_self t) refl refl
      (λ blocks s kind n xs l r w f is g none room.
      unchanged blocks s t es kind link span.lo span.hi (node xs l r) _ (is_neither link span.lo span.hi life b cell p blocks s kind n xs l r w is none x y) g)

  module _ (right : Bool) (x : Goes right life (mid span.lo span.hi)) {t₁ es₁ : List ℕ} {q : ℕ} (read : HalfRead t link (half_on right span) q)
      (a : Written t es t₁ es₁ q (half_on right span).span.lo (half_on right span).span.hi life b cell) where
    pub write_one : Stays (not right) life (mid span.lo span.hi) → Written t es t₁ es₁ link span.lo span.hi life b cell
    write_one y =
        written t es t₁ es₁ link span.lo span.hi life b cell a.like a.nodes_long a.entries_long
        (λ blocks s kind n xs l r w f is g none room.
        let z = is_one link span.lo span.hi life b cell p blocks s kind n xs l r w is none right x y in
        let rooms = roomy_halves link span.lo span.hi life b cell p blocks s kind n xs l r w is none right _ _ (rw z at room) in
        rw z (first_filled link span.lo span.hi life b cell p blocks s kind n xs l r w is none right t es t₁ es₁ q f g read x a rooms.0))

    pub write_two : Goes (not right) life (mid span.lo span.hi) → {t₂ es₂ : List ℕ} {u : ℕ} → HalfRead t₁ link (half_on (not right) span) u
        → Written t₁ es₁ t₂ es₂ u (half_on (not right) span).span.lo (half_on (not right) span).span.hi life b cell → Written t es t₂ es₂ link span.lo span.hi life b cell
    write_two y {t₂} {es₂} {u} read₂ a₂ =
        written t es t₂ es₂ link span.lo span.hi life b cell (like_trans t t₁ t₂ a.like a₂.like) (a₂.nodes_long ∙ a.nodes_long) (a₂.entries_long ∙ a.entries_long)
        (λ blocks s kind n xs l r w f is g none room.
        let z = is_both link span.lo span.hi life b cell p blocks s kind n xs l r w is none right x y in
        let rooms = roomy_halves link span.lo span.hi life b cell p blocks s kind n xs l r w is none right _ _ (rw z at room) in
        let first = first_filled link span.lo span.hi life b cell p blocks s kind n xs l r w is none right t es t₁ es₁ q f g read x a rooms.0 in
        let f₁ : Fillable s t₁ es₁ = fillable_like s t es t₁ es₁ f a.like a.nodes_long a.entries_long in
        rw z
        (filled_trans blocks s t es t₁ es₁ t₂ es₂ kind link span.lo span.hi _ _ _ first
        (other_filled link span.lo span.hi life b cell p blocks s kind n xs l r w is none right t₁ es₁ t₂ es₂ u f₁ first.here read₂ y a₂ rooms.1)))
