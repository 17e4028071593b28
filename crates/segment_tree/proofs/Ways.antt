-- Steps of the loops of `build`: a life's way down the node table. What adding at the node that is reached leaves, adding at the first one leaves.
-- Assumes nothing.
use mathlib.Core.Path.{◌≡◌, refl, ap, sym, ◌∙◌}
use mathlib.Core.Logic.{◌⊎◌, inl, inr}
use mathlib.Core.Bool.{Bool, true, false, true≢false, cond, not}
use mathlib.Core.List.{List}
use Prim.Native.Nat.{ℕ, ◌+◌, ◌≤◌, ◌<◌}
use native.Mathlib.Omega.{arith}
use borrow.Author.Tests.{ltb-true, ltb-false}
use Rattle.lists.proofs.Numbers.{bool_cases}
use Rattle.history.specs.Tree.{mid, halves, covers}
use Rattle.history.proofs.TreeAdding.{covers_yes, covering, all, part}
use Rattle.tables.specs.Columns.{node_left}
use Rattle.segment_tree.specs.Count.{Bumped, Life, spot, spot_in, left_half, right_half, half_on, meets, Added, AddedAt, Whole, Lasts, Splits, Reached}
use Rattle.segment_tree.specs.declared.Span.{Span}
use Rattle.segment_tree.specs.declared.Place.{Place}
use Rattle.segment_tree.proofs.Adding.{Parted, Goes, Stays, add_spent, add_covered, add_reached, add_narrowest, add_neither, add_one, add_one_spent, add_both}

-- ── lives and nodes ──

-- what the test of halves tells
pub wide_of : {h : Bool} (lo hi : ℕ) → h ≡ halves lo hi → h ≡ true → lo + 1 < hi
wide_of {h} lo hi asked split = ltb-true (lo + 1) hi (sym asked ∙ split)

pub narrow_of : {h : Bool} (lo hi : ℕ) → h ≡ halves lo hi → h ≡ false → hi ≤ lo + 1
narrow_of {h} lo hi asked none = ltb-false (lo + 1) hi (sym asked ∙ none)

-- and its halves
module _ {span : Span} {pair : Place × Place} (in_two : pair ≡ (left_half span, right_half span)) where
  pub middle_is : pair.1.span.lo ≡ mid span.lo span.hi
  middle_is = ap (λ (p : Place × Place). p.1.span.lo) in_two

  pub half_is : (right : Bool) → cond right pair.1 pair.0 ≡ half_on right span
  half_is true = ap (λ (p : Place × Place). p.1) in_two
  half_is false = ap (λ (p : Place × Place). p.0) in_two

-- ── the node that is reached ──

module _ {t : List ℕ} {kind link : ℕ} {span : Span} {life : Life} where
  pub at_spent : link ≡ 0 → AddedAt t t kind link span.lo span.hi life false
  at_spent z = record { from = λ before parent col r. add_spent r z }

  module _ (some : link ≡ 0 → ⊥) where
    pub at_covered : {t₂ : List ℕ} → covers life.created life.destroyed span.lo span.hi ≡ true → Bumped t t₂ link
        → AddedAt t t₂ kind link span.lo span.hi life true
    at_covered e is = record { from = λ before parent col r. add_covered r some e is }

    module _ (e : covers life.created life.destroyed span.lo span.hi ≡ false) where
      pub at_narrow : span.hi ≤ span.lo + 1 → AddedAt t t kind link span.lo span.hi life true
      at_narrow w = record { from = λ before parent col r. add_narrowest r some e w }

      module _ (w : span.lo + 1 < span.hi) where
        here : {before : List ℕ} {parent col : ℕ} → Reached before t (spot kind parent col span.lo span.hi) link → Parted before t (spot kind parent col span.lo span.hi) life link
        here r = record { reached = r; some = some; uncovered = e; wide = w }

        pub at_neither : mid span.lo span.hi ≤ life.created → life.destroyed ≤ mid span.lo span.hi → AddedAt t t kind link span.lo span.hi life true
        at_neither x y = record { from = λ before parent col r. add_neither (here r) x y }

        -- one half, or both
        module _ (right : Bool) (x : Goes right life (mid span.lo span.hi)) where
          pub at_half : Stays (not right) life (mid span.lo span.hi) → {t₂ : List ℕ} {room : Bool} → Added t t₂ (spot_in kind link (half_on right span)) life room
              → AddedAt t t₂ kind link span.lo span.hi life room
          at_half y a = record { from = λ before parent col r. add_one (here r) right x a y }

          pub at_one : Stays (not right) life (mid span.lo span.hi) → {t₂ t₃ : List ℕ} {next : ℕ} {room : Bool} → Reached t t₂ (spot_in kind link (half_on right span)) next
              → AddedAt t₂ t₃ kind next (half_on right span).span.lo (half_on right span).span.hi life room → AddedAt t t₃ kind link span.lo span.hi life room
          at_one y z a = at_half y (a.from t link (half_on right span).col z)

          module _ (y : Goes (not right) life (mid span.lo span.hi)) {t₂ : List ℕ} {q : Bool} (a : Added t t₂ (spot_in kind link (half_on right span)) life q) where
            pub at_one_spent : q ≡ false → AddedAt t t₂ kind link span.lo span.hi life false
            at_one_spent z = record { from = λ before parent col r. add_one_spent (here r) right x a y z }

            pub at_both : q ≡ true → {t₃ t₄ : List ℕ} {next : ℕ} {room : Bool} → Reached t₂ t₃ (spot_in kind link (half_on (not right) span)) next
                → AddedAt t₃ t₄ kind next (half_on (not right) span).span.lo (half_on (not right) span).span.hi life room → AddedAt t t₄ kind link span.lo span.hi life room
            at_both n z b = record { from = λ before parent col r. add_both (here r) right x a y n (b.from t₂ link (half_on (not right) span).col z) }

-- ── the way down ──

-- From the node [lo₀, hi₀) of `top` the way led to the node [lo, hi) of `link`: what adding here leaves, adding there leaves.
pub record Down (t₀ t : List ℕ) (kind top lo₀ hi₀ link lo hi : ℕ) (life : Life) : Type 0 where
  pub rest : (t' : List ℕ) (room : Bool) → AddedAt t t' kind link lo hi life room → AddedAt t₀ t' kind top lo₀ hi₀ life room

module _ {t₀ t : List ℕ} {kind top lo₀ hi₀ link : ℕ} {span : Span} {life : Life} (u : Down t₀ t kind top lo₀ hi₀ link span.lo span.hi life) where
  pub down_none : link ≡ 0 → AddedAt t₀ t kind top lo₀ hi₀ life false
  down_none z = u.rest t false (at_spent z)

  module _ (some : link ≡ 0 → ⊥) {q : Bool} (asked : q ≡ covers life.created life.destroyed span.lo span.hi) where
    pub down_covered : q ≡ true → {t₂ : List ℕ} → Bumped t t₂ link → AddedAt t₀ t₂ kind top lo₀ hi₀ life true
    down_covered e {t₂} is = u.rest t₂ true (at_covered some (sym asked ∙ e) is)

    module _ (misses : q ≡ false) {h : Bool} (split : h ≡ halves span.lo span.hi) where
      pub down_narrow : h ≡ false → AddedAt t₀ t kind top lo₀ hi₀ life true
      down_narrow n = u.rest t true (at_narrow some (sym asked ∙ misses) (narrow_of span.lo span.hi split n))

      module _ (halved : h ≡ true) {pair : Place × Place} (in_two : pair ≡ (left_half span, right_half span)) where
        parted : span.lo + 1 < span.hi
        parted = wide_of span.lo span.hi split halved

        pub down_both : life.created < pair.1.span.lo → pair.1.span.lo < life.destroyed → {t' : List ℕ} {room : Bool} → AddedAt t t' kind link span.lo span.hi life room
            → AddedAt t₀ t' kind top lo₀ hi₀ life room
        down_both x y {t'} {room} a = u.rest t' room a

        pub down_one : (right : Bool) → Goes right life pair.1.span.lo → Stays (not right) life pair.1.span.lo → {t₂ : List ℕ} {next : ℕ}
            → Reached t t₂ (spot_in kind link (cond right pair.1 pair.0)) next
            → Down t₀ t₂ kind top lo₀ hi₀ next (cond right pair.1 pair.0).span.lo (cond right pair.1 pair.0).span.hi life
        down_one right x y r = rw (half_is in_two right) (record {
          rest = λ t' room a.
              u.rest t' room
              (at_one some (sym asked ∙ misses) parted right (rw (middle_is in_two) at x) (rw (middle_is in_two) at y) (rw (half_is in_two right) at r) a);
        })

        pub down_neither : pair.1.span.lo ≤ life.created → life.destroyed ≤ pair.1.span.lo → AddedAt t₀ t kind top lo₀ hi₀ life true
        down_neither x y = u.rest t true (at_neither some (sym asked ∙ misses) parted (rw (middle_is in_two) at x) (rw (middle_is in_two) at y))

pub ruleset way_down = (down_none, down_covered, down_narrow, down_both)

-- ── a life that lasts over one end of the node ──

-- a node of which it covers a part has halves
pub part_wide : {to_end q : Bool} {lo hi : ℕ} {life : Life} → Lasts to_end lo hi life → q ≡ covers life.created life.destroyed lo hi → q ≡ false → lo + 1 < hi
part_wide {to_end} {q} {lo} {hi} {life} l asked misses =
    elim (covering life.created life.destroyed lo hi) [
      | all _ _ e ↦ absurd (true≢false (sym e ∙ sym asked ∙ misses))
      | part o _ ↦ late to_end l o
    ]
  where
    late : (to_end : Bool) → Lasts to_end lo hi life → (lo < life.created) ⊎ (life.destroyed < hi) → lo + 1 < hi
    late true l (inl h) = omega (arith, l.begins)
    late true l (inr h) = absurd (omega (arith, l.over))
    late false l (inl h) = absurd (omega (arith, l.over))
    late false l (inr h) = omega (arith, l.ends)

-- what it goes to and what it covers
pub other_goes : (to_end : Bool) (life : Life) (span : Span) → meets to_end life (half_on (not to_end) span).span ≡ true → Goes (not to_end) life (mid span.lo span.hi)
other_goes true life span m = ltb-true life.created (mid span.lo span.hi) m
other_goes false life span m = ltb-true (mid span.lo span.hi) life.destroyed m

pub other_stays : (to_end : Bool) (life : Life) (span : Span) → meets to_end life (half_on (not to_end) span).span ≡ false → Stays (not to_end) life (mid span.lo span.hi)
other_stays true life span m = ltb-false life.created (mid span.lo span.hi) m
other_stays false life span m = ltb-false (mid span.lo span.hi) life.destroyed m

module _ {span : Span} {life : Life} where
  pub sure_goes : (to_end : Bool) → Lasts to_end span.lo span.hi life → span.lo + 1 < span.hi → Goes to_end life (mid span.lo span.hi)
  sure_goes true l w = omega (arith, l.over)
  sure_goes false l w = omega (arith, l.over)

  pub sure_whole : (to_end : Bool) → Lasts to_end span.lo span.hi life → Goes (not to_end) life (mid span.lo span.hi)
      → Whole (half_on to_end span).span.lo (half_on to_end span).span.hi life
  sure_whole true l g = record { from = omega (arith, g); to = l.over }
  sure_whole false l g = record { from = l.over; to = omega (arith, g) }

  pub lasts_sure : (to_end : Bool) → Lasts to_end span.lo span.hi life → span.lo + 1 < span.hi
      → Lasts to_end (half_on to_end span).span.lo (half_on to_end span).span.hi life
  lasts_sure true l w = record { wide = omega arith; begins = l.begins; ends = omega (arith, l.over); over = l.over }
  lasts_sure false l w = record { wide = omega arith; begins = omega (arith, l.over); ends = l.ends; over = l.over }

  pub lasts_other : (to_end : Bool) → Lasts to_end span.lo span.hi life → span.lo + 1 < span.hi → Goes (not to_end) life (mid span.lo span.hi)
      → Lasts to_end (half_on (not to_end) span).span.lo (half_on (not to_end) span).span.hi life
  lasts_other true l w g = record { wide = omega arith; begins = g; ends = l.ends; over = omega (arith, l.over) }
  lasts_other false l w g = record { wide = omega arith; begins = l.begins; ends = g; over = omega (arith, l.over) }

-- The way stands at a node that the life meets, lasting over that end.
pub record OneWay (to_end : Bool) (t₀ t : List ℕ) (kind top : ℕ) (whole : Span) (link : ℕ) (span : Span) (life : Life) : Type 0 where
  pub lasts : Lasts to_end span.lo span.hi life
  pub down : Down t₀ t kind top whole.lo whole.hi link span.lo span.hi life

module _ {to_end : Bool} {t₀ t : List ℕ} {kind top : ℕ} {whole : Span} {link : ℕ} {span : Span} {life : Life} (u : OneWay to_end t₀ t kind top whole link span life) where
  pub way_none : link ≡ 0 → AddedAt t₀ t kind top whole.lo whole.hi life false
  way_none z = u.down.rest t false (at_spent z)

  module _ (some : link ≡ 0 → ⊥) {q : Bool} (asked : q ≡ covers life.created life.destroyed span.lo span.hi) where
    pub way_covered : q ≡ true → {t₂ : List ℕ} → Bumped t t₂ link → AddedAt t₀ t₂ kind top whole.lo whole.hi life true
    way_covered e {t₂} is = u.down.rest t₂ true (at_covered some (sym asked ∙ e) is)

    module _ (misses : q ≡ false) {pair : Place × Place} (halved : pair ≡ (half_on to_end span, half_on (not to_end) span)) {t₂ : List ℕ} {next : ℕ}
        (reached : Reached t t₂ (spot_in kind link pair.0) next) where
      uncovers : covers life.created life.destroyed span.lo span.hi ≡ false
      uncovers = sym asked ∙ misses

      wide : span.lo + 1 < span.hi
      wide = part_wide u.lasts asked misses

      sure_is : pair.0 ≡ half_on to_end span
      sure_is = ap (λ (p : Place × Place). p.0) halved

      other_is : pair.1 ≡ half_on (not to_end) span
      other_is = ap (λ (p : Place × Place). p.1) halved

      sure_reached : Reached t t₂ (spot_in kind link (half_on to_end span)) next
      sure_reached = rw sure_is at reached

      goes : Goes to_end life (mid span.lo span.hi)
      goes = sure_goes to_end u.lasts wide

      pub way_spent : next ≡ 0 → AddedAt t₀ t₂ kind top whole.lo whole.hi life false
      way_spent z =
          u.down.rest t₂ false
          (elim (bool_cases (meets to_end life (half_on (not to_end) span).span)) [
            | inl y ↦ at_one_spent some uncovers wide to_end goes (other_goes to_end life span y) (add_spent sure_reached z) refl
            | inr y ↦ at_half some uncovers wide to_end goes (other_stays to_end life span y) (add_spent sure_reached z)
          ])

      -- the node of the sure half is there: the way goes on to the other half if that is met too, and the life covers the sure one then
      module _ (there : next ≡ 0 → ⊥) {m : Bool} (meet : m ≡ meets to_end life pair.1.span) {t₃ : List ℕ} (more : m ≡ true → Bumped t₂ t₃ next)
          (same : m ≡ false → t₃ ≡ t₂) {way : Place} (chosen : way ≡ cond m pair.1 pair.0) {t₄ : List ℕ} {last : ℕ} (on : Reached t₃ t₄ (spot_in kind link way) last) where
        met : {v : Bool} → m ≡ v → meets to_end life (half_on (not to_end) span).span ≡ v
        met y = rw other_is at (sym meet ∙ y)

        way_is : {v : Bool} → m ≡ v → way ≡ cond v (half_on (not to_end) span) (half_on to_end span)
        way_is y = rw (y, other_is, sure_is) at chosen

        to_other : m ≡ true → OneWay to_end t₀ t₄ kind top whole last (half_on (not to_end) span).span life
        to_other y = record {
          lasts = lasts_other to_end u.lasts wide (other_goes to_end life span (met y));
          down = record {
            rest = λ t' room b.
                u.down.rest t' room
                (at_both some uncovers wide to_end goes (other_goes to_end life span (met y))
                (add_covered sure_reached there
                (covers_yes life.created life.destroyed _ _ (sure_whole to_end u.lasts (other_goes to_end life span (met y))).from (sure_whole to_end u.lasts (other_goes to_end life span (met y))).to)
                (more y)) refl (rw (way_is y) at on) b);
          };
        }

        to_sure : m ≡ false → OneWay to_end t₀ t₄ kind top whole last (half_on to_end span).span life
        to_sure y = record {
          lasts = lasts_sure to_end u.lasts wide;
          down = record {
            rest = λ t' room b.
                u.down.rest t' room
                (at_half some uncovers wide to_end goes (other_stays to_end life span (met y))
                (add_reached sure_reached there (b.from t₂ link (half_on to_end span).col (rw (same y, way_is y) at on))));
          };
        }

        pub way_on : OneWay to_end t₀ t₄ kind top whole last way.span life
        way_on = elim (bool_cases m) [ inl y ↦ rw (way_is y) (to_other y) | inr y ↦ rw (way_is y) (to_sure y) ]

pub ruleset one_way = (way_none, way_covered)

-- ── both halves ──

module _ {t t₁ t₂ : List ℕ} {kind link first : ℕ} {span : Span} {life : Life} {q : Bool} {pair : Place × Place} (p : Splits link span.lo span.hi life)
    (in_two : pair ≡ (left_half span, right_half span)) (reached : Reached t t₁ (spot_in kind link pair.0) first)
    (a : AddedAt t₁ t₂ kind first pair.0.span.lo pair.0.span.hi life q) where
  left_is : pair.0 ≡ left_half span
  left_is = half_is in_two false

  right_is : pair.1 ≡ right_half span
  right_is = half_is in_two true

  left_added : Added t t₂ (spot_in kind link (left_half span)) life q
  left_added = (rw left_is at a).from t link node_left (rw left_is at reached)

  pub both_spent : q ≡ false → AddedAt t t₂ kind link span.lo span.hi life false
  both_spent z = at_one_spent p.some p.uncovered p.wide false p.begins p.ends left_added z

  pub both_done : q ≡ true → {t₃ t₄ : List ℕ} {second : ℕ} {r : Bool} → Reached t₂ t₃ (spot_in kind link pair.1) second
      → AddedAt t₃ t₄ kind second pair.1.span.lo pair.1.span.hi life r → AddedAt t t₄ kind link span.lo span.hi life r
  both_done z reached₂ b = at_both p.some p.uncovered p.wide false p.begins p.ends left_added z (rw right_is at reached₂) (rw right_is at b)

pub ruleset both_halves = (both_spent, both_done)
