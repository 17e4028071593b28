-- Adding a life at a node, by where it begins and ends there: the model's add_location, or the rows are spent. Assumes nothing.
use mathlib.Core.Path.{◌≡◌, refl, sym, ◌∙◌}
use mathlib.Core.Logic.{◌⊎◌, inl, inr, ⊎_elim}
use mathlib.Core.Bool.{Bool, true, false, true≢false, false≢true, cond, not}
use mathlib.Core.List.{List, []}
use Prim.Native.Nat.{ℕ, zero, suc, ◌+◌, ◌-◌, ◌^◌, ◌≤◌, ◌<◌}
use native.Mathlib.Omega.{arith}
use lib.ListN.{length}
use lib.Dec.{ltb}
use borrow.Author.Tests.{lt-ltb, le-ltb}
use Rattle.lists.proofs.Numbers.{lt_or_le}
use Rattle.history.specs.Lent.{row_width, node_head}
use Rattle.history.specs.Tree.{Tree, hole, node, mid, covers, entries_of, left_of, right_of, insert, add_location, node_count}
use Rattle.history.proofs.TreeAdding.{made, listed, half_left, half_right, add_here, add_below, add_narrow, Half, went, kept, add_by}
use Rattle.history.proofs.TreeInserting.{insert-length}
use Rattle.history.proofs.TreeCounts.{node_count_add}
use Rattle.tables.specs.Columns.{node_left, node_right}
use Rattle.tables.specs.Sums.{most}
use Rattle.segment_table.specs.Closed.{nodes_used}
use Rattle.segment_tree.specs.Count.{rows_in, fullest, CountAt, Life, Spot, spot, spot_in, half_on, link_at, Standing, Grown, Outcome, Added, Bumped, Reached, was_there, new_row, no_parent, no_row_lem}
use Rattle.segment_tree.proofs.Presence.{new_hole}
use Rattle.segment_tree.proofs.Growing.{grown-none, standing_grown, grown_trans, made_link, grown_new, grown_entry, left_stands, right_stands, grown_left, grown_right}

-- ── numbers of the model ──

-- adding takes no node away ..
nodes_kept : (key : ℕ → ℕ) (b c d n lo hi : ℕ) (T : Tree) → node_count T ≤ node_count (add_location key n b c d lo hi T)
nodes_kept key b c d n lo hi T = omega (arith, node_count_add key n b c d lo hi T)

-- .. and there is one then
nodes_some : (key : ℕ → ℕ) (b c d n lo hi : ℕ) → 0 < node_count (add_location key n b c d lo hi hole)
nodes_some key b c d n lo hi = omega (arith, node_count_add key n b c d lo hi hole, new_hole n c d lo hi)

-- no part of a tree is fuller
pub record FewerIn (T : Tree) : Type 0 where
  pub own : length (entries_of T) ≤ fullest T
  pub left : fullest (left_of T) ≤ fullest T
  pub right : fullest (right_of T) ≤ fullest T

pub fewer_in : (T : Tree) → FewerIn T
unfolding fullest
fewer_in hole = record { own = omega arith; left = omega arith; right = omega arith }
fewer_in (node xs l r) = record { own = omega arith; left = omega arith; right = omega arith }

-- one life adds one entry to a node at most
pub fullest_grows : (key : ℕ → ℕ) (b c d n lo hi : ℕ) (T : Tree) → lo ≤ hi → hi - lo ≤ 2 ^ n → fullest (add_location key n b c d lo hi T) ≤ suc (fullest T)
unfolding fullest
fullest_grows key b c d =
    add_by key b c d (λ lo hi T T'. fullest T' ≤ suc (fullest T)) (λ lo hi T w p q e. let f = fewer_in T in omega (arith, insert-length key b (entries_of T)))
    (λ lo hi T w n o. let f = fewer_in T in omega arith)
    (λ lo hi T L R w e left right. let f = fewer_in T in omega (arith, most_half left, most_half right))
  where
    most_half : {goes stays : Type 0} {T L : Tree} → Half goes stays (λ X Y. fullest Y ≤ suc (fullest X)) T L → fullest L ≤ suc (fullest T)
    most_half (went g p) = p
    most_half (kept g) = omega arith

-- the model at a node with halves that the life does not cover
pub record Deeper (key : ℕ → ℕ) (levels b c d lo hi : ℕ) (T : Tree) : Type 0 where
  pub less : ℕ
  pub levels_are : levels ≡ suc less
  pub left_width : mid lo hi - lo ≤ 2 ^ less
  pub right_width : hi - mid lo hi ≤ 2 ^ less
  pub is : add_location key levels b c d lo hi T
      ≡ node (entries_of T) (cond (ltb c (mid lo hi)) (add_location key less b c d lo (mid lo hi) (left_of T)) (left_of T))
      (cond (ltb (mid lo hi) d) (add_location key less b c d (mid lo hi) hi (right_of T)) (right_of T))

pub deeper_of : (key : ℕ → ℕ) (levels b c d lo hi : ℕ) (T : Tree) → covers c d lo hi ≡ false → lo + 1 < hi → hi - lo ≤ 2 ^ levels → Deeper key levels b c d lo hi T
deeper_of key zero b c d lo hi T e w n = absurd (omega arith)
deeper_of key (suc m) b c d lo hi T e w n = record {
  less = m;
  levels_are = refl;
  left_width = half_left lo hi m n;
  right_width = half_right lo hi m n;
  is = add_below key b c d lo hi T m e ∙ rw (lt-ltb (lo + 1) hi w);
}

-- ── outcomes ──

enough : {t t' : List ℕ} {s : Spot} {T T' : Tree} → Grown t t' s T T' → Outcome t t' s true T T'
enough g = record { added = λ _. g; spent = λ e. absurd (true≢false e) }

short : {t t' : List ℕ} {s : Spot} {T T' : Tree} → rows_in t + node_count T < nodes_used t + node_count T' → Outcome t t' s false T T'
short h = record { added = λ e. absurd (false≢true e); spent = λ _. h }

-- ── the node is reached ──

pub record Entered (t t₁ : List ℕ) (s : Spot) (link : ℕ) (T : Tree) : Type 0 where
  pub grown : Grown t t₁ s T (made T)
  pub it : link_at t₁ s ≡ link
  pub stands : Standing t₁ s (made T)

entered : (t t₁ : List ℕ) (s : Spot) (link : ℕ) (T : Tree) → (link ≡ 0 → ⊥) → Reached t t₁ s link → Standing t s T → Entered t t₁ s link T
unfolding CountAt
entered t t₁ s link hole some (was_there a b e) stands = absurd (some (b ∙ stands.here))
entered t t₁ s link hole some (new_row z room is e) stands =
    let g : Grown t t₁ s hole (node [] hole hole) = rw e (grown_new t s stands room) in
    record { grown = g; it = rw e (made_link t s stands room ∙ sym is); stands = standing_grown t s hole stands t₁ (node [] hole hole) g }
entered t t₁ s link hole some (no_row_lem a b z e) stands = absurd (some z)
entered t t₁ s link hole some (no_parent a z e) stands = absurd (some z)
entered t t₁ s link (node xs l r) some (was_there a b e) stands = rw e (record { grown = grown-none t s (node xs l r) stands; it = sym b; stands = stands })
entered t t₁ s link (node xs l r) some (new_row z room is e) stands = absurd (omega (arith, stands.here.0.some))
entered t t₁ s link (node xs l r) some (no_row_lem a b z e) stands = absurd (some z)
entered t t₁ s link (node xs l r) some (no_parent a z e) stands = absurd (some z)

pub add_spent : {t t₁ : List ℕ} {s : Spot} {life : Life} {link : ℕ} → Reached t t₁ s link → link ≡ 0 → Added t t₁ s life false
unfolding CountAt node_count
add_spent {t} {t₁} {s} {life} (was_there a b e) z = absurd (a z)
add_spent {t} {t₁} {s} {life} (new_row a b c e) z = absurd (omega arith)
add_spent {t} {t₁} {s} {life} (no_row_lem a b c e) z = record { done = λ key n x T w few stands. go key n x T w stands }
  where
    go : (key : ℕ → ℕ) (n x : ℕ) (T : Tree) → s.hi - s.lo ≤ 2 ^ n → Standing t s T
        → Outcome t t₁ s false T (add_location key n x life.created life.destroyed s.lo s.hi T)
    go key n x hole w stands = short (omega (arith, nodes_some key x life.created life.destroyed n s.lo s.hi))
    go key n x (node xs l r) w stands = absurd (omega (arith, stands.here.0.some))
add_spent {t} {t₁} {s} {life} (no_parent a c e) z = record { done = λ key n x T w few stands. go key n x T stands (lt_or_le (length t) node_head) }
  where
    low : {T : Tree} → Standing t s T → s.col < row_width
    low stands = ⊎_elim (λ h. omega (arith, stands.at_root (omega arith))) (λ h. omega (arith, (stands.at_half h).1)) (lt_or_le s.parent 1)

    go : (key : ℕ → ℕ) (n x : ℕ) (T : Tree) → Standing t s T → (length t < node_head) ⊎ (node_head ≤ length t)
        → Outcome t t₁ s false T (add_location key n x life.created life.destroyed s.lo s.hi T)
    go key n x hole stands (inl h) = short (omega (arith, stands.inside, nodes_some key x life.created life.destroyed n s.lo s.hi))
    go key n x (node xs l r) stands (inl h) = absurd (omega (arith, stands.inside, stands.here.0.some, stands.here.0.used))
    go key n x T stands (inr h) = absurd (omega (arith, a h (low stands), stands.parent_used, stands.inside))

-- ── one step after another ──

-- what comes after what was added
pub outcome_after : (t t₁ t₂ : List ℕ) (s : Spot) (T X Y : Tree) (r : Bool) → Standing t s T → Grown t t₁ s T X → Outcome t₁ t₂ s r X Y → Outcome t t₂ s r T Y
outcome_after t t₁ t₂ s T X Y r stands g o = record {
  added = λ e. grown_trans t s T stands t₁ X g t₂ Y (o.added e);
  spent = λ e. omega (arith, o.spent e, g.rows, g.long);
}

-- ── the node itself ──

pub add_covered : {t t₁ t₂ : List ℕ} {s : Spot} {life : Life} {link : ℕ} → Reached t t₁ s link → (link ≡ 0 → ⊥)
    → covers life.created life.destroyed s.lo s.hi ≡ true → Bumped t₁ t₂ link → Added t t₂ s life true
unfolding CountAt
add_covered {t} {t₁} {t₂} {s} {life} {link} reached some covered bumped = record {
  done = λ key n b T w few stands.
      let e = entered t t₁ s link T some reached stands in
      let own : length (entries_of T) < most = omega (arith, fewer_in T) in
      let is = bumped.is (omega arith) (omega (arith, e.it, e.stands.here.0.used, e.stands.inside)) in
      rw (add_here key b life.created life.destroyed s.lo s.hi T n covered)
      (enough (grown_trans t s T stands t₁ (made T) e.grown t₂ (listed key b T)
      (grown_entry t₁ s link (entries_of T) (insert key b (entries_of T)) (left_of T) (right_of T) e.stands e.it own (insert-length key b (entries_of T)) t₂ is)));
}

pub add_narrowest : {t t₁ : List ℕ} {s : Spot} {life : Life} {link : ℕ} → Reached t t₁ s link → (link ≡ 0 → ⊥)
    → covers life.created life.destroyed s.lo s.hi ≡ false → s.hi ≤ s.lo + 1 → Added t t₁ s life true
add_narrowest {t} {t₁} {s} {life} {link} reached some uncovered small = record {
  done = λ key n b T w few stands.
      rw (add_narrow key b life.created life.destroyed s.lo s.hi T n uncovered small)
      (enough (entered t t₁ s link T some reached stands).grown);
}

-- a node that was made there counts for nothing in the model
add_made : (key : ℕ → ℕ) (b c d n lo hi : ℕ) (T : Tree) → add_location key n b c d lo hi (made T) ≡ add_location key n b c d lo hi T
unfolding add_location
add_made key b c d n lo hi (node xs l r) = refl
add_made key b c d zero lo hi hole = refl
add_made key b c d (suc n) lo hi hole = refl

made-fullest : (T : Tree) → fullest (made T) ≤ fullest T
unfolding fullest
made-fullest hole = omega arith
made-fullest (node xs l r) = omega arith

-- so that it may be reached before
pub add_reached : {t t₁ t₂ : List ℕ} {s : Spot} {life : Life} {link : ℕ} {r : Bool} → Reached t t₁ s link → (link ≡ 0 → ⊥) → Added t₁ t₂ s life r → Added t t₂ s life r
add_reached {t} {t₁} {t₂} {s} {life} {link} {r} reached some a = record {
  done = λ key n b T w few stands.
      let e = entered t t₁ s link T some reached stands in
      rw (sym (add_made key b life.created life.destroyed n s.lo s.hi T))
      (outcome_after t t₁ t₂ s T (made T) _ r stands e.grown (a.done key n b (made T) w (omega (arith, made-fullest T)) e.stands));
}

-- ── its halves ──

-- the node is reached, has halves, and is not covered
pub record Parted (t t₁ : List ℕ) (s : Spot) (life : Life) (link : ℕ) : Type 0 where
  pub reached : Reached t t₁ s link
  pub some : link ≡ 0 → ⊥
  pub uncovered : covers life.created life.destroyed s.lo s.hi ≡ false
  pub wide : s.lo + 1 < s.hi

-- whether a life goes to the half on that side of m, or stays out of it
abbrev pub Goes : (right : Bool) (life : Life) (m : ℕ) → Type 0
Goes right life m = cond right (m < life.destroyed) (life.created < m)

abbrev pub Stays : (right : Bool) (life : Life) (m : ℕ) → Type 0
Stays right life m = cond right (life.destroyed ≤ m) (m ≤ life.created)

-- a node by the half on that side and the other one
abbrev pub joined : (right : Bool) (xs : List ℕ) (half other : Tree) → Tree
joined right xs half other = cond right (node xs other half) (node xs half other)

abbrev half_of : (right : Bool) → Tree → Tree
half_of right T = cond right (right_of T) (left_of T)

-- the half of the node at a spot on that side
abbrev half_spot : (right : Bool) (s : Spot) (link : ℕ) → Spot
half_spot right s link = spot_in s.kind link (half_on right (record { lo = s.lo; hi = s.hi }))

module _ (t t₁ : List ℕ) (s : Spot) (life : Life) (link : ℕ) (p : Parted t t₁ s life link) (key : ℕ → ℕ) (n b : ℕ) (T : Tree) (w : s.hi - s.lo ≤ 2 ^ n)
    (few : fullest T < most) (stands : Standing t s T) where
  abbrev c : ℕ
  c = life.created

  abbrev d : ℕ
  d = life.destroyed

  abbrev m : ℕ
  m = mid s.lo s.hi

  wider : s.lo + 1 < s.hi
  wider = p.wide

  deep : Deeper key n b c d s.lo s.hi T
  deep = deeper_of key n b c d s.lo s.hi T p.uncovered wider w

  node_reached : Entered t t₁ s link T
  node_reached = entered t t₁ s link T p.some p.reached stands

  new_half : (right : Bool) → Tree
  new_half true = add_location key deep.less b c d m s.hi (right_of T)
  new_half false = add_location key deep.less b c d s.lo m (left_of T)

  -- a half, whatever the other one is by then
  half_outcome : (right : Bool) (t₂ t₃ : List ℕ) (O : Tree) (r : Bool) → Standing t₂ s (joined right (entries_of T) (half_of right T) O) → link_at t₂ s ≡ link
      → Added t₂ t₃ (half_spot right s link) life r
      → (r ≡ true → link_at t₃ s ≡ link) × Outcome t₂ t₃ s r (joined right (entries_of T) (half_of right T) O) (joined right (entries_of T) (new_half right) O)
  unfolding new_half node_count
  half_outcome false t₂ t₃ R r there it a =
      let o : Outcome t₂ t₃ (spot s.kind link node_left s.lo m) r (left_of T) (new_half false) =
      a.done key deep.less b (left_of T) deep.left_width (omega (arith, fewer_in T))
      (left_stands t₂ t₃ s link (entries_of T) (left_of T) R there it wider) in (
        λ y. (grown_left t₂ t₃ s link (entries_of T) (left_of T) R there it wider (new_half false) (o.added y)).0,
        record {
          added = λ y. (grown_left t₂ t₃ s link (entries_of T) (left_of T) R there it wider (new_half false) (o.added y)).1;
          spent = λ z. omega (arith, o.spent z);
        },
      )
  half_outcome true t₂ t₃ L r there it a =
      let o : Outcome t₂ t₃ (spot s.kind link node_right m s.hi) r (right_of T) (new_half true) =
      a.done key deep.less b (right_of T) deep.right_width (omega (arith, fewer_in T))
      (right_stands t₂ t₃ s link (entries_of T) L (right_of T) there it wider) in (
        λ y. (grown_right t₂ t₃ s link (entries_of T) L (right_of T) there it wider (new_half true) (o.added y)).0,
        record {
          added = λ y. (grown_right t₂ t₃ s link (entries_of T) L (right_of T) there it wider (new_half true) (o.added y)).1;
          spent = λ z. omega (arith, o.spent z);
        },
      )

  -- the other half after that one
  other_outcome : (right : Bool) (t₂ t₃ : List ℕ) (r : Bool) → Standing t₂ s (joined right (entries_of T) (new_half right) (half_of (not right) T)) → link_at t₂ s ≡ link
      → Added t₂ t₃ (half_spot (not right) s link) life r
      → Outcome t₂ t₃ s r (joined right (entries_of T) (new_half right) (half_of (not right) T)) (joined right (entries_of T) (new_half right) (new_half (not right)))
  other_outcome true t₂ t₃ r there it a = (half_outcome false t₂ t₃ (new_half true) r there it a).1
  other_outcome false t₂ t₃ r there it a = (half_outcome true t₂ t₃ (new_half false) r there it a).1

  -- what the model makes of the node, by where the life begins and ends
  added_neither : m ≤ c → d ≤ m → add_location key n b c d s.lo s.hi T ≡ made T
  added_neither x y = deep.is ∙ rw (le-ltb c m x, le-ltb m d y)

  added_one : (right : Bool) → Goes right life m → Stays (not right) life m
      → add_location key n b c d s.lo s.hi T ≡ joined right (entries_of T) (new_half right) (half_of (not right) T)
  unfolding new_half
  added_one true y x = deep.is ∙ rw (le-ltb c m x, lt-ltb m d y)
  added_one false x y = deep.is ∙ rw (lt-ltb c m x, le-ltb m d y)

  added_both : (right : Bool) → Goes right life m → Goes (not right) life m
      → add_location key n b c d s.lo s.hi T ≡ joined right (entries_of T) (new_half right) (new_half (not right))
  unfolding new_half
  added_both true y x = deep.is ∙ rw (lt-ltb c m x, lt-ltb m d y)
  added_both false x y = deep.is ∙ rw (lt-ltb c m x, lt-ltb m d y)

  -- the nodes of either half are needed, whatever the other one needs
  nodes_half : (right : Bool) → Goes right life m → Goes (not right) life m
      → node_count (joined right (entries_of T) (new_half right) (half_of (not right) T)) ≤ node_count (add_location key n b c d s.lo s.hi T)
  unfolding node_count new_half
  nodes_half true y x = rw (added_both true y x) (omega (arith, nodes_kept key b c d deep.less s.lo m (left_of T)))
  nodes_half false x y = rw (added_both false x y) (omega (arith, nodes_kept key b c d deep.less m s.hi (right_of T)))

  -- the node as it was reached
  made_there : (right : Bool) → Grown t t₁ s T (joined right (entries_of T) (half_of right T) (half_of (not right) T))
      × Standing t₁ s (joined right (entries_of T) (half_of right T) (half_of (not right) T))
  made_there true = (node_reached.grown, node_reached.stands)
  made_there false = (node_reached.grown, node_reached.stands)

  half_first : (right : Bool) (t₂ : List ℕ) (r : Bool) → Added t₁ t₂ (half_spot right s link) life r
      → (r ≡ true → link_at t₂ s ≡ link) × Outcome t t₂ s r T (joined right (entries_of T) (new_half right) (half_of (not right) T))
  half_first right t₂ r a =
      let e = made_there right in
      let o = half_outcome right t₁ t₂ (half_of (not right) T) r e.1 node_reached.it a in (o.0, outcome_after t t₁ t₂ s T _ _ r stands e.0 o.1)

  done_neither : m ≤ c → d ≤ m → Outcome t t₁ s true T (add_location key n b c d s.lo s.hi T)
  done_neither x y = rw (added_neither x y) (enough node_reached.grown)

  done_one : (right : Bool) (t₂ : List ℕ) (r : Bool) → Goes right life m → Stays (not right) life m → Added t₁ t₂ (half_spot right s link) life r
      → Outcome t t₂ s r T (add_location key n b c d s.lo s.hi T)
  done_one right t₂ r x y a = rw (added_one right x y) (half_first right t₂ r a).1

  -- both halves: the first one takes the rows that are left, or the second follows
  done_spent : (right : Bool) (t₂ : List ℕ) → Goes right life m → Goes (not right) life m → Added t₁ t₂ (half_spot right s link) life false
      → Outcome t t₂ s false T (add_location key n b c d s.lo s.hi T)
  done_spent right t₂ x y a = short (omega (arith, (half_first right t₂ false a).1.spent refl, nodes_half right x y))

  done_both : (right : Bool) (t₂ t₃ : List ℕ) (r : Bool) → Goes right life m → Goes (not right) life m → Added t₁ t₂ (half_spot right s link) life true
      → Added t₂ t₃ (half_spot (not right) s link) life r → Outcome t t₃ s r T (add_location key n b c d s.lo s.hi T)
  done_both right t₂ t₃ r x y a z =
      let l = half_first right t₂ true a in
      let one : Tree = joined right (entries_of T) (new_half right) (half_of (not right) T) in
      let g : Grown t t₂ s T one = l.1.added refl in
      rw (added_both right x y)
      (outcome_after t t₂ t₃ s T one _ r stands g (other_outcome right t₂ t₃ r (standing_grown t s T stands t₂ one g) (l.0 refl) z))

-- ── below the node ──

module _ {t t₁ : List ℕ} {s : Spot} {life : Life} {link : ℕ} (p : Parted t t₁ s life link) where
  pub add_neither : mid s.lo s.hi ≤ life.created → life.destroyed ≤ mid s.lo s.hi → Added t t₁ s life true
  add_neither x y = record {
    done = λ key n b T w few stands. done_neither t t₁ s life link p key n b T w few stands x y;
  }

  module _ (right : Bool) (x : Goes right life (mid s.lo s.hi)) {t₂ : List ℕ} {q : Bool} (a : Added t₁ t₂ (half_spot right s link) life q) where
    pub add_one : Stays (not right) life (mid s.lo s.hi) → Added t t₂ s life q
    add_one y = record {
      done = λ key n b T w few stands. done_one t t₁ s life link p key n b T w few stands right t₂ q x y a;
    }

    module _ (y : Goes (not right) life (mid s.lo s.hi)) where
      pub add_one_spent : q ≡ false → Added t t₂ s life false
      add_one_spent e = record {
        done = λ key n b T w few stands. done_spent t t₁ s life link p key n b T w few stands right t₂ x y (rw e at a);
      }

      pub add_both : q ≡ true → {t₃ : List ℕ} {r : Bool} → Added t₂ t₃ (half_spot (not right) s link) life r → Added t t₃ s life r
      add_both e {t₃} {r} z = record {
        done = λ key n b T w few stands. done_both t t₁ s life link p key n b T w few stands right t₂ t₃ r x y (rw e at a) z;
      }
