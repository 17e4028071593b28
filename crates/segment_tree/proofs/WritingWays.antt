-- Steps of the loops of `close`: a block's way down the tree. What writing at the node that is reached leaves, writing at the first one leaves. Assumes
-- nothing.
use mathlib.Core.Path.{◌≡◌, ap, sym, ◌∙◌}
use mathlib.Core.Bool.{Bool, true, false, cond, not}
use mathlib.Core.List.{List}
use Prim.Native.Nat.{ℕ, ◌+◌, ◌≤◌, ◌<◌}
use Rattle.history.specs.Tree.{mid, halves, covers}
use Rattle.history.proofs.TreeAdding.{covers_yes}
use Rattle.segment_tree.specs.declared.Span.{Span}
use Rattle.segment_tree.specs.declared.Place.{Place}
use Rattle.segment_tree.specs.Count.{Life, left_half, right_half, half_on, Lasts, meets, Splits}
use Rattle.segment_tree.specs.Fill.{Written, WrittenWhole, PutEntry, HalfRead}
use Rattle.segment_tree.proofs.Ways.{wide_of, narrow_of, middle_is, half_is, part_wide, sure_goes, other_goes, other_stays, sure_whole, lasts_sure, lasts_other}
use Rattle.segment_tree.proofs.Adding.{Goes, Stays}
use Rattle.segment_tree.proofs.WritingDown.{Split, write_none, write_covered, write_narrow, write_neither, write_one, write_two}

-- From the node [lo₀, hi₀) of `top` the way led to the node [lo, hi) of `link`.
pub record Onto (t₀ es₀ t es : List ℕ) (top lo₀ hi₀ link lo hi : ℕ) (life : Life) (b cell : ℕ) : Type 0 where
  pub rest : (t' es' : List ℕ) → Written t es t' es' link lo hi life b cell → Written t₀ es₀ t' es' top lo₀ hi₀ life b cell

module _ {t₀ es₀ t es : List ℕ} {top lo₀ hi₀ link b cell : ℕ} {span : Span} {life : Life} (o : Onto t₀ es₀ t es top lo₀ hi₀ link span.lo span.hi life b cell) where
  pub onto_none : link ≡ 0 → Written t₀ es₀ t es top lo₀ hi₀ life b cell
  onto_none z = o.rest t es (write_none z)

  module _ (some : link ≡ 0 → ⊥) {q : Bool} (asked : q ≡ covers life.created life.destroyed span.lo span.hi) where
    pub onto_covered : q ≡ true → {t' es' : List ℕ} → PutEntry t es t' es' link b cell → Written t₀ es₀ t' es' top lo₀ hi₀ life b cell
    onto_covered e {t'} {es'} wrote = o.rest t' es' (write_covered some (sym asked ∙ e) wrote)

    module _ (misses : q ≡ false) {h : Bool} (split : h ≡ halves span.lo span.hi) where
      pub onto_narrow : h ≡ false → Written t₀ es₀ t es top lo₀ hi₀ life b cell
      onto_narrow n = o.rest t es (write_narrow some (sym asked ∙ misses) (narrow_of span.lo span.hi split n))

      module _ (halved : h ≡ true) {pair : Place × Place} (in_two : pair ≡ (left_half span, right_half span)) where
        here : Split link span.lo span.hi life
        here = record { uncovered = sym asked ∙ misses; wide = wide_of span.lo span.hi split halved }

        pub onto_one : (right : Bool) → Goes right life pair.1.span.lo → Stays (not right) life pair.1.span.lo → {next : ℕ} → HalfRead t link (cond right pair.1 pair.0) next
            → Onto t₀ es₀ t es top lo₀ hi₀ next (cond right pair.1 pair.0).span.lo (cond right pair.1 pair.0).span.hi life b cell
        onto_one right x y read = rw (half_is in_two right) (record {
          rest = λ t' es' a.
              o.rest t' es' (write_one here right (rw (middle_is in_two) at x) (rw (half_is in_two right) at read) a (rw (middle_is in_two) at y));
        })

        pub onto_neither : pair.1.span.lo ≤ life.created → life.destroyed ≤ pair.1.span.lo → Written t₀ es₀ t es top lo₀ hi₀ life b cell
        onto_neither x y = o.rest t es (write_neither here (rw (middle_is in_two) at x) (rw (middle_is in_two) at y))

pub ruleset way_onto = (onto_none, onto_narrow)

-- ── a node that the life covers ──

pub whole_none : {t es : List ℕ} {link b cell : ℕ} → link ≡ 0 → WrittenWhole t es t es link b cell
whole_none z = record { each = λ lo hi life w. write_none z }

pub whole_wrote : {t es t' es' : List ℕ} {link b cell : ℕ} → (link ≡ 0 → ⊥) → PutEntry t es t' es' link b cell → WrittenWhole t es t' es' link b cell
whole_wrote some wrote = record {
  each = λ lo hi life w. write_covered some (covers_yes life.created life.destroyed lo hi w.from w.to) wrote;
}

pub ruleset whole_node = (whole_none, whole_wrote)

-- ── a life that lasts over one end of the node ──

-- The way stands at a node that the life meets, lasting over that end.
pub record OntoWay (to_end : Bool) (t₀ es₀ t es : List ℕ) (top : ℕ) (whole : Span) (link : ℕ) (span : Span) (life : Life) (b cell : ℕ) : Type 0 where
  pub lasts : Lasts to_end span.lo span.hi life
  pub onto : Onto t₀ es₀ t es top whole.lo whole.hi link span.lo span.hi life b cell

module _ {to_end : Bool} {t₀ es₀ t es : List ℕ} {top : ℕ} {whole : Span} {link : ℕ} {span : Span} {life : Life} {b cell : ℕ} (u : OntoWay to_end t₀ es₀ t es top whole link span life b cell) where
  pub onto_way_none : link ≡ 0 → Written t₀ es₀ t es top whole.lo whole.hi life b cell
  onto_way_none z = u.onto.rest t es (write_none z)

  module _ {q : Bool} (asked : q ≡ covers life.created life.destroyed span.lo span.hi) where
    pub onto_way_covered : (link ≡ 0 → ⊥) → q ≡ true → {t' es' : List ℕ} → PutEntry t es t' es' link b cell → Written t₀ es₀ t' es' top whole.lo whole.hi life b cell
    onto_way_covered some e {t'} {es'} wrote = u.onto.rest t' es' (write_covered some (sym asked ∙ e) wrote)

    module _ (misses : q ≡ false) {pair : Place × Place} (halved : pair ≡ (half_on to_end span, half_on (not to_end) span)) {m : Bool} (meet : m ≡ meets to_end life pair.1.span)
        {first : ℕ} (read : HalfRead t link pair.0 first) where
      halves_there : span.lo + 1 < span.hi
      halves_there = part_wide u.lasts asked misses

      parted : Split link span.lo span.hi life
      parted = record { uncovered = sym asked ∙ misses; wide = halves_there }

      sure_is : pair.0 ≡ half_on to_end span
      sure_is = ap (λ (p : Place × Place). p.0) halved

      other_is : pair.1 ≡ half_on (not to_end) span
      other_is = ap (λ (p : Place × Place). p.1) halved

      met : {v : Bool} → m ≡ v → meets to_end life (half_on (not to_end) span).span ≡ v
      met y = rw other_is at (sym meet ∙ y)

      sure_read : HalfRead t link (half_on to_end span) first
      sure_read = rw sure_is at read

      goes_there : Goes to_end life (mid span.lo span.hi)
      goes_there = sure_goes to_end u.lasts halves_there

      pub onto_way_sure : m ≡ false → OntoWay to_end t₀ es₀ t es top whole first pair.0.span life b cell
      onto_way_sure y = rw sure_is (record {
        lasts = lasts_sure to_end u.lasts halves_there;
        onto = record { rest = λ t' es' a. u.onto.rest t' es' (write_one parted to_end goes_there sure_read a (other_stays to_end life span (met y))) };
      })

      pub onto_way_other : m ≡ true → {t₁ es₁ : List ℕ} {next : ℕ} → WrittenWhole t es t₁ es₁ first b cell → HalfRead t₁ link pair.1 next
          → OntoWay to_end t₀ es₀ t₁ es₁ top whole next pair.1.span life b cell
      onto_way_other y {t₁} {es₁} a read₂ =
          let goes = other_goes to_end life span (met y) in
          let wrote : Written t es t₁ es₁ first (half_on to_end span).span.lo (half_on to_end span).span.hi life b cell = a.each _ _ life (sure_whole to_end u.lasts goes) in
          rw other_is (record {
            lasts = lasts_other to_end u.lasts halves_there goes;
            onto = record { rest = λ t' es' z. u.onto.rest t' es' (write_two parted to_end goes_there sure_read wrote goes (rw other_is at read₂) z) };
          })

-- ── both halves ──

pub both_wrote : {t es t₁ es₁ t₂ es₂ : List ℕ} {link first second b cell : ℕ} {span : Span} {life : Life} {pair : Place × Place} → Splits link span.lo span.hi life
    → pair ≡ (left_half span, right_half span) → HalfRead t link pair.0 first → Written t es t₁ es₁ first pair.0.span.lo pair.0.span.hi life b cell
    → HalfRead t₁ link pair.1 second → Written t₁ es₁ t₂ es₂ second pair.1.span.lo pair.1.span.hi life b cell
    → Written t es t₂ es₂ link span.lo span.hi life b cell
both_wrote {span} {pair} p in_two read a read₂ b =
    let left : pair.0 ≡ left_half span = half_is in_two false in
    let right : pair.1 ≡ right_half span = half_is in_two true in
    write_two (record { uncovered = p.uncovered; wide = p.wide }) false p.begins (rw left at read) (rw left at a) p.ends (rw right at read₂) (rw right at b)
