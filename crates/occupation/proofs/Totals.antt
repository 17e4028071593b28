-- The returns of `are_forward` and `total_cells`: one step for each.
use mathlib.Core.Path.{◌≡◌, refl, sym, ap, ◌∙◌}
use mathlib.Core.Bool.{true, false, ◌&&◌}
use mathlib.Core.List.{List}
use Prim.Native.Nat.{ℕ, ◌+◌, ◌-◌, ◌*◌, ◌^◌, ◌≤◌, ◌<◌}
use native.Mathlib.Omega.{arith}
use lib.ListN.{length, drop}
use lib.Dec.{leb}
use borrow.Author.Tests.{le-ltb, lt-leb, le-leb, ne_eqb}
use Rattle.std.specs.List.{list_all}
use Rattle.lists.specs.Lists.{sum_of}
use Rattle.history.specs.Occupation.{windows_of, most_cells, forward, given_by, unreported}
use Rattle.history.proofs.OccupationLaws.{nothing, too_many, too_long}
use Rattle.occupation.specs.Windows.{window_at}
use Rattle.occupation.proofs.Pairs.{windows_count, windows_next, windows_end}

-- ── `are_forward` ──

-- the windows from k on decide
pub record Turning (l : List ℕ) (k : ℕ) : Type 0 where
  pub below : k ≤ length (windows_of l)
  pub rest : list_all forward (windows_of l) ≡ list_all forward (windows_of (drop (2 * k) l))
  pub short : 2 * length (windows_of l) ≤ 2 ^ 64

pub turning_start : (l : List ℕ) → length l < 2 ^ 64 → Turning l 0
turning_start l h = record { below = omega arith; rest = refl; short = omega (arith, windows_count l) }

pub turning_place : (l : List ℕ) (k n : ℕ) → Turning l k → n ≡ length (windows_of l) → k < n → k < 2 ^ 63
turning_place l k n s e more = omega (arith, s.short)

module _ (l : List ℕ) (k n start stop : ℕ) (s : Turning l k) (e : n ≡ length (windows_of l)) (more : k < n) (a : start ≡ (window_at l k).start) (b : stop ≡ (window_at l k).stop) where
  turning_here : list_all forward (windows_of l) ≡ (leb start stop && list_all forward (windows_of (drop (2 * (k + 1)) l)))
  turning_here = s.rest ∙ rw (windows_next l k (omega arith), a, b)

  pub turning_found : stop < start → false ≡ list_all forward (windows_of l)
  turning_found h = sym (turning_here ∙ rw (lt-leb start stop h))

  pub turning_more : start ≤ stop → Turning l (k + 1)
  turning_more h = record { below = omega arith; rest = turning_here ∙ rw (le-leb start stop h); short = s.short }

pub turning_done : (l : List ℕ) (k n : ℕ) → Turning l k → n ≡ length (windows_of l) → n ≤ k → true ≡ list_all forward (windows_of l)
turning_done l k n s e h = sym (s.rest ∙ rw (windows_end l k (omega arith)))

pub ruleset turning = (turning_start, turning_place, turning_found, turning_more, turning_done)

-- ── `total_cells` ──

-- the cells so far, and those of the windows from k on
pub record Adding (l : List ℕ) (k cells : ℕ) : Type 0 where
  pub below : k ≤ length (windows_of l)
  pub rest : cells + given_by (windows_of (drop (2 * k) l)) ≡ given_by (windows_of l)
  pub fits : cells ≤ most_cells
  pub few : length (windows_of l) ≤ 256

pub adding_start : (l : List ℕ) (n : ℕ) → n ≡ length (windows_of l) → n ≤ 256 → Adding l 0 0
adding_start l n e h = record { below = omega arith; rest = omega arith; fits = omega arith; few = omega arith }

pub adding_many : (l : List ℕ) (n : ℕ) → n ≡ length (windows_of l) → 256 < n → unreported (windows_of l) ≡ true
adding_many l n e h = too_many (windows_of l) (omega arith)

module _ (l : List ℕ) (k n cells start stop long : ℕ) (s : Adding l k cells) (e : n ≡ length (windows_of l)) (more : k < n) (a : start ≡ (window_at l k).start)
    (b : stop ≡ (window_at l k).stop) (c : long ≡ stop - start) where
  adding_here : cells + (long + given_by (windows_of (drop (2 * (k + 1)) l))) ≡ given_by (windows_of l)
  unfolding given_by sum_of
  adding_here = ap (λ (x : ℕ). cells + x) (rw (c, a, b, windows_next l k (omega arith))) ∙ s.rest

  pub adding_over : most_cells < cells + long → unreported (windows_of l) ≡ true
  adding_over h = too_long (windows_of l) (omega (arith, adding_here))

  pub adding_more : (sum : ℕ) → sum ≡ cells + long → sum ≤ most_cells → Adding l (k + 1) sum
  adding_more sum h fits = record { below = omega arith; rest = omega (arith, adding_here); fits = fits; few = s.few }

module _ (l : List ℕ) (k n cells : ℕ) (s : Adding l k cells) (e : n ≡ length (windows_of l)) (done : n ≤ k) where
  adding_all : cells ≡ given_by (windows_of l)
  unfolding given_by sum_of
  adding_all = omega (arith, rw (windows_end l k (omega arith)) at s.rest)

  pub adding_none : cells ≡ 0 → unreported (windows_of l) ≡ true
  adding_none h = nothing (windows_of l) (sym adding_all ∙ h)

  pub adding_some : (cells ≡ 0 → ⊥) → (unreported (windows_of l) ≡ false) × (cells ≡ given_by (windows_of l))
  unfolding unreported
  adding_some h = (
    rw (
      ne_eqb (given_by (windows_of l)) 0 (λ z. h (adding_all ∙ z)),
      le-ltb 256 (length (windows_of l)) s.few,
      le-ltb most_cells (given_by (windows_of l)) (omega (arith, adding_all, s.fits)),
    ),
    adding_all,
  )

pub ruleset adding = (adding_start, adding_many, adding_over, adding_more, adding_none, adding_some)
