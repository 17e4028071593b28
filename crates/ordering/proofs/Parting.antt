-- Rule 24 by order: pairs that share a cell are met. One step for each return and turn of its tests. Assumes nothing.
use mathlib.Core.Path.{◌≡◌, refl, sym, ap, ◌∙◌}
use mathlib.Core.Logic.{◌⊎◌, inl, inr}
use mathlib.Core.Bool.{Bool, true, false, not}
use mathlib.Core.List.{List, [], ◌∷◌}
use Prim.Native.Nat.{ℕ, ◌+◌, ◌-◌, ◌≤◌, ◌<◌, max, ◌^◌}
use native.Mathlib.Omega.{arith}
use borrow.Author.Tests.{ltb-false, leb-true, leb-false, not-true, not-false}
use lib.Dec.{leb, ltb}
use lib.ListN.{length}
use Rattle.lists.specs.Lists.{all_nil, all_cons, pairs_nil, pairs_cons, Mem, here, there}
use Rattle.lists.specs.Tests.{Decides}
use Rattle.lists.proofs.Lists.{all_mem, all_of_mem}
use Rattle.lists.proofs.Numbers.{lt_or_le, confirm, refute, decides_iff}
use Rattle.history.specs.Words.{line_of}
use Rattle.history.proofs.ByKind.{line_next}
use Rattle.block_table.specs.Blocks.{first_cell_at, owner_at, place_at, length_at, created_at, destroyed_at, Filled}
use Rattle.ordering.specs.Order.{next_at, rank, Trail, end, link}
use Rattle.ordering.specs.Apart.{Clash, Unshared, StartsWithin, Comparable, AllComparable, StartsIn, LivesMeet, Clear, AllClear, FollowersApart, RowsApart, TestedApart}
use Rattle.ordering.proofs.Rank.{rank_first}
use Rattle.ordering.proofs.Trail.{trail_wider}
use Rattle.ordering.proofs.Dense.{Met, trail_met, trail_distinct, order_dense}

-- ── the answer of `starts_within` ──

module _ {t : List ℕ} {j k first start own other : ℕ} (ef : first ≡ first_cell_at t j) (es : start ≡ first_cell_at t k) (eo : own ≡ owner_at t j) (ek : other ≡ owner_at t k) where
  -- of another kind
  pub starts_apart : (own ≡ other → ⊥) → start < 2 ^ 64 → StartsIn t j k false
  starts_apart n small = record {
    decides = λ z. elim z [
      | inl e ↦ absurd (n (eo ∙ e ∙ sym ek))
      | inr fits ↦ refute (λ w. go fits w (lt_or_le (owner_at t j) (owner_at t k)))
    ];
  }
    where
      go : first_cell_at t j + length_at t j ≤ 2 ^ 64 → StartsWithin t j k → (owner_at t j < owner_at t k) ⊎ (owner_at t k ≤ owner_at t j) → ⊥
      go fits w (inl h) = omega (arith, line_next (owner_at t j) (owner_at t k) h, w.below)
      go fits w (inr h) = omega (arith, line_next (owner_at t k) (owner_at t j) (omega (arith, eo, ek, n)), w.after, es)

  module _ (same : own ≡ other) where
    pub starts_before : start < first → StartsIn t j k false
    starts_before less = record { decides = λ fits. refute (λ w. omega (arith, w.after, ap line_of (sym eo ∙ same ∙ ek))) }

    pub starts_after : {n : ℕ} {by : Bool} → first ≤ start → n ≡ length_at t j → by ≡ leb (first + n) start → StartsIn t j k (not by)
    starts_after {n} {by} le en ends =
        let line : line_of (owner_at t j) ≡ line_of (owner_at t k) = ap line_of (sym eo ∙ same ∙ ek) in
        record {
          decides = λ fits. record {
            yes = λ e. record { after = omega arith; below = omega (arith, leb-false (first + n) start (sym ends ∙ not-true by e)) };
            not = λ e w. omega (arith, leb-true (first + n) start (sym ends ∙ not-false by e), w.below);
          };
        }

pub ruleset meeting = (starts_apart, starts_before, starts_after)

-- ── two blocks ──

-- blocks that share a cell at a tick live together
clash_lives : {t : List ℕ} {j k : ℕ} → Clash t j k → LivesMeet t j k
clash_lives c =
    record {
      first = omega (arith, c.one.born, c.one.alive);
      second = omega (arith, c.other.born, c.other.alive);
      across = omega (arith, c.one.born, c.other.alive);
      back = omega (arith, c.other.born, c.one.alive);
    }

-- a block that starts in another while both live shares its own first cell with it
meets_clash : {t : List ℕ} {j k : ℕ} → 0 < length_at t k → StartsWithin t j k → LivesMeet t j k → Clash t j k
meets_clash {t} {j} {k} f w l =
    record {
      cell = place_at t k;
      tick = max (created_at t j) (created_at t k);
      one = record { from = w.after; below = w.below; born = omega arith; alive = omega (arith, l.first, l.back) };
      other = record { from = omega arith; below = omega arith; born = omega arith; alive = omega (arith, l.across, l.second) };
    }

pub clash_turned : {t : List ℕ} {j k : ℕ} → Clash t j k → Clash t k j
clash_turned c = record { cell = c.cell; tick = c.tick; one = c.other; other = c.one }

-- of two blocks in order that share a cell, the later one starts in the earlier one; and so does each between them
clash_starts : {t : List ℕ} {j x k : ℕ} → place_at t j ≤ place_at t x → place_at t x ≤ place_at t k → Clash t j k → StartsWithin t j x
clash_starts p q c = record { after = p; below = omega (arith, c.other.from, c.one.below) }

-- no first cell of the rest lies before that of its first row
trail_first : {t : List ℕ} {n x y k : ℕ} {xs : List ℕ} → n < 2 ^ 64 → Trail t 0 n (rank t x) k xs → Mem y (x ∷ xs) → place_at t x ≤ place_at t y
trail_first small r (here e) = rw e (omega arith)
trail_first {t} {n} {x} {y} small r (there m) =
    let i : Met t 0 n (rank t x) y = trail_met r m in
    rank_first (place_at t x) x (place_at t y) y i.later (omega (arith, i.within))

-- ── the returns of `followers_apart` ──

module _ {t : List ℕ} {j k fuel : ℕ} where
  pub followers_spent : fuel ≡ 0 → FollowersApart t j k fuel true
  followers_spent z = record { decides = λ n links small whole f tr fits. go links fits }
    where
      go : (xs : List ℕ) → length xs ≤ fuel → Decides true (Clear t j xs)
      go [] h = confirm all_nil
      go (x ∷ xs) h = absurd (omega arith)

  pub followers_lifeless : {c d : ℕ} {l : Bool} → c ≡ created_at t j → d ≡ destroyed_at t j → l ≡ ltb c d → l ≡ false → FollowersApart t j k fuel true
  followers_lifeless {c} {d} ec ed el h = record {
    decides = λ n links small whole f tr fits.
        let ended : d ≤ c = ltb-false c d (sym el ∙ h) in
        confirm (all_of_mem links (λ y m x. omega (arith, x.one.born, x.one.alive)));
  }

  pub followers_none : k ≡ 0 → FollowersApart t j k fuel true
  followers_none z = record { decides = λ n links small whole f tr fits. go n links tr }
    where
      go : (n : ℕ) (xs : List ℕ) → Trail t 0 n (rank t j) k xs → Decides true (Clear t j xs)
      go n [] (end e) = confirm all_nil
      go n (x ∷ xs) (link e a b up r) = absurd (omega arith)

  -- the first that starts behind the block's end: all that follow do
  pub followers_past : {q : Bool} → StartsIn t j k q → q ≡ false → FollowersApart t j k fuel true
  followers_past d f = record { decides = λ n links small whole fill tr fits. go n links small whole tr }
    where
      go : (n : ℕ) (xs : List ℕ) → n < 2 ^ 64 → ((y : ℕ) → 0 < y → y ≤ n → Comparable t j y) → Trail t 0 n (rank t j) k xs → Decides true (Clear t j xs)
      go n [] small whole (end e) = confirm all_nil
      go n (x ∷ xs) small whole (link e a b up r) =
          let p : place_at t j ≤ place_at t x = rank_first (place_at t j) j (place_at t x) x up (omega arith) in
          confirm (all_of_mem (x ∷ xs) (λ y m c. (d.decides (rw e (whole x a b))).not f (rw e (clash_starts p (trail_first small r m) c))))

  pub followers_clash : {q s : Bool} → (k ≡ 0 → ⊥) → StartsIn t j k q → q ≡ true → Decides s (LivesMeet t j k) → s ≡ true
      → FollowersApart t j k fuel false
  followers_clash nz d f e g = record { decides = λ n links small whole fill tr fits. go n links whole fill tr }
    where
      first : {x : ℕ} {xs : List ℕ} → Clear t j (x ∷ xs) → Clash t j x → ⊥
      first (all_cons p ps) = p

      go : (n : ℕ) (xs : List ℕ) → ((y : ℕ) → 0 < y → y ≤ n → Comparable t j y) → AllComparable t n → Trail t 0 n (rank t j) k xs → Decides false (Clear t j xs)
      go n [] whole fill (end z) = absurd (nz z)
      go n (x ∷ xs) whole fill (link ex a b up r) =
          let starts : StartsWithin t j x = rw ex at ((d.decides (rw ex (whole x a b))).yes f) in
          let meet : LivesMeet t j x = rw ex at (e.yes g) in
          refute (λ c. first c (meets_clash (fill.filled x a b) starts meet))

  pub followers_more : {s r : Bool} {next : ℕ} → (k ≡ 0 → ⊥) → Decides s (LivesMeet t j k) → s ≡ false → next ≡ next_at t k
      → FollowersApart t j next (fuel - 1) r → FollowersApart t j k fuel r
  followers_more {s} {r} {next} nz e g en rest = record { decides = go }
    where
      later : {x : ℕ} {xs : List ℕ} → Clear t j (x ∷ xs) → Clear t j xs
      later (all_cons p ps) = ps

      go : (n : ℕ) (xs : List ℕ) → n < 2 ^ 64 → ((y : ℕ) → 0 < y → y ≤ n → Comparable t j y) → AllComparable t n → Trail t 0 n (rank t j) k xs → length xs ≤ fuel → Decides r (Clear t j xs)
      go n [] small whole fill (end z) fits = absurd (nz z)
      go n (x ∷ xs) small whole fill (link ex a b up tr) fits =
          let apart : Clash t j x → ⊥ = λ c. e.not g (rw ex (clash_lives c)) in
          let tail : Trail t 0 n (rank t j) next xs = rw (en, ex) (trail_wider (omega arith) (omega arith) (omega arith) tr) in
          decides_iff r (λ c. all_cons apart c) later (rest.decides n xs small whole fill tail (omega arith))

-- ── the loop of `followers_apart` ──

-- what the test of the rest says, is said of all
pub record FollowersAhead (t : List ℕ) (j k₀ fuel₀ k fuel : ℕ) : Type 0 where
  pub whole : (r : Bool) → FollowersApart t j k fuel r → FollowersApart t j k₀ fuel₀ r

pub followers_start : {t : List ℕ} {j k fuel left : ℕ} → left ≡ fuel → FollowersAhead t j k fuel k left
followers_start e = record { whole = λ r a. rw e at a }

pub followers_turn : {t : List ℕ} {j k₀ fuel₀ k fuel next : ℕ} {s : Bool} → FollowersAhead t j k₀ fuel₀ k fuel → (k ≡ 0 → ⊥)
    → Decides s (LivesMeet t j k) → s ≡ false → next ≡ next_at t k → {left : ℕ} → left ≡ fuel - 1 → FollowersAhead t j k₀ fuel₀ next left
followers_turn a nz e g en f = record { whole = λ r rest. a.whole r (followers_more nz e g en (rw f at rest)) }

pub followers_end : {t : List ℕ} {j k₀ fuel₀ k fuel : ℕ} {r : Bool} → FollowersAhead t j k₀ fuel₀ k fuel → FollowersApart t j k fuel r
    → FollowersApart t j k₀ fuel₀ r
followers_end {r = r} a b = a.whole r b

pub ruleset following = (followers_start, followers_turn, followers_end, followers_lifeless, followers_spent, followers_none, followers_past, followers_clash, not-true, not-false)

-- ── the returns of `rows_apart` ──

module _ {t : List ℕ} {k fuel : ℕ} where
  pub rows_spent : fuel ≡ 0 → RowsApart t k fuel true
  rows_spent z = record { decides = λ n low links small f tr fits. go links fits }
    where
      go : (xs : List ℕ) → length xs ≤ fuel → Decides true (AllClear t xs)
      go [] h = confirm pairs_nil
      go (x ∷ xs) h = absurd (omega arith)

  pub rows_none : k ≡ 0 → RowsApart t k fuel true
  rows_none z = record { decides = λ n low links small f tr fits. go n low links tr }
    where
      go : (n low : ℕ) (xs : List ℕ) → Trail t 0 n low k xs → Decides true (AllClear t xs)
      go n low [] (end e) = confirm pairs_nil
      go n low (x ∷ xs) (link e a b up r) = absurd (omega arith)

  pub rows_clash : {next left : ℕ} {q : Bool} → (k ≡ 0 → ⊥) → next ≡ next_at t k → FollowersApart t k next left q → q ≡ false → left ≡ fuel - 1 → RowsApart t k fuel false
  rows_clash {next} {left} {q} nz en d f is = record { decides = go }
    where
      go : (n low : ℕ) (xs : List ℕ) → n < 2 ^ 64 → AllComparable t n → Trail t 0 n low k xs → length xs ≤ fuel → Decides false (AllClear t xs)
      go n low [] small fill (end z) fits = absurd (nz z)
      go n low (x ∷ xs) small fill (link ex a b up tr) fits =
          let tail : Trail t 0 n (rank t k) next xs = rw (en, ex) tr in
          let whole : (y : ℕ) → 0 < y → y ≤ n → Comparable t k y = rw ex (λ y c d. fill.two x y a b c d) in
          refute (λ p. (d.decides n xs small whole fill tail (omega arith)).not f (rw ex (head p)))
        where
          head : AllClear t (x ∷ xs) → Clear t x xs
          head (pairs_cons c p) = c

  pub rows_more : {next : ℕ} {q r : Bool} → (k ≡ 0 → ⊥) → next ≡ next_at t k → FollowersApart t k next (fuel - 1) q → q ≡ true
      → RowsApart t next (fuel - 1) r → RowsApart t k fuel r
  rows_more {next} {q} {r} nz en d f rest = record { decides = go }
    where
      go : (n low : ℕ) (xs : List ℕ) → n < 2 ^ 64 → AllComparable t n → Trail t 0 n low k xs → length xs ≤ fuel → Decides r (AllClear t xs)
      go n low [] small fill (end z) fits = absurd (nz z)
      go n low (x ∷ xs) small fill (link ex a b up tr) fits =
          let tail : Trail t 0 n (rank t k) next xs = rw (en, ex) tr in
          let whole : (y : ℕ) → 0 < y → y ≤ n → Comparable t k y = rw ex (λ y c d. fill.two x y a b c d) in
          let clear : Clear t x xs = rw ex at ((d.decides n xs small whole fill tail (omega arith)).yes f) in
          decides_iff r (λ p. pairs_cons clear p) after (rest.decides n (rank t k) xs small fill tail (omega arith))
        where
          after : AllClear t (x ∷ xs) → AllClear t xs
          after (pairs_cons c p) = p

-- ── the loop of `rows_apart` ──

pub record RowsAhead (t : List ℕ) (k₀ fuel₀ k fuel : ℕ) : Type 0 where
  pub whole : (r : Bool) → RowsApart t k fuel r → RowsApart t k₀ fuel₀ r

pub rows_start : {t : List ℕ} {k fuel left : ℕ} → left ≡ fuel → RowsAhead t k fuel k left
rows_start e = record { whole = λ r a. rw e at a }

pub rows_turn : {t : List ℕ} {k₀ fuel₀ k fuel next : ℕ} {q : Bool} → RowsAhead t k₀ fuel₀ k fuel → (k ≡ 0 → ⊥) → next ≡ next_at t k
    → {left : ℕ} → FollowersApart t k next left q → q ≡ true → left ≡ fuel - 1 → RowsAhead t k₀ fuel₀ next left
rows_turn a nz en d f e = record { whole = λ r rest. a.whole r (rows_more nz en (rw e at d) f (rw e at rest)) }

pub rows_end : {t : List ℕ} {k₀ fuel₀ k fuel : ℕ} {r : Bool} → RowsAhead t k₀ fuel₀ k fuel → RowsApart t k fuel r → RowsApart t k₀ fuel₀ r
rows_end {r = r} a b = a.whole r b

pub ruleset parting = (rows_start, rows_turn, rows_end, rows_spent, rows_none, rows_clash, not-true, not-false)

-- ── pairs of an order, and all blocks ──

pairs-apart : {t : List ℕ} {j k : ℕ} {xs : List ℕ} → AllClear t xs → Mem j xs → Mem k xs → (j ≡ k → ⊥) → Clash t j k → ⊥
pairs-apart {t = t} {j = j} {k = k} pairs_nil x9 _ ne h = elim x9 [ ]
pairs-apart (pairs_cons c p) (here e) (here f) ne h = ne (e ∙ sym f)
pairs-apart {t} {j} {k} (pairs_cons c p) (here e) (there m) ne h = all_mem c m (rw e at h)
pairs-apart {t} {j} {k} (pairs_cons c p) (there m) (here e) ne h = all_mem c m (clash_turned (rw e at h))
pairs-apart (pairs_cons c p) (there m) (there i) ne h = pairs-apart p m i ne h

apart-pairs : {t : List ℕ} {n low k : ℕ} {xs : List ℕ} → Unshared t n → Trail t 0 n low k xs → AllClear t xs
apart-pairs a (end z) = pairs_nil
apart-pairs {t} {n} a (link {x = x} {xs = xs} e l u up r) = pairs_cons (all_of_mem xs clear) (apart-pairs a r)
  where
    clear : (y : ℕ) → Mem y xs → Clash t x y → ⊥
    clear y m =
        let i : Met t 0 n (rank t x) y = trail_met r m in
        a.apart x y l u i.above i.within (λ z. (trail_distinct (link {k = x} refl l u up r)).0 (rw z m))

pub apart_tested : {t : List ℕ} {head n : ℕ} {r : Bool} → n < 2 ^ 64 → head ≡ next_at t 0 → RowsApart t head n r → TestedApart t n r
apart_tested {t} {head} {n} {r} small e d = record {
  decides = λ o f.
      decides_iff r
      (λ p. record { apart = λ j k lj hj lk hk ne h. pairs-apart p (order_dense o j lj hj) (order_dense o k lk hk) ne h })
      (λ a. apart-pairs a o.trail)
      (d.decides n 0 o.links small f (rw e o.trail) (omega (arith, o.many)));
}

pub ruleset apartness = (apart_tested)

-- ── tables without blocks that wrap, and those of one kind ──

pub comparable_whole : {t : List ℕ} {n : ℕ} → Filled t n → AllComparable t n
comparable_whole f = record { filled = f.filled; two = λ j k a b c d. inr (f.no_wrap j a b) }
