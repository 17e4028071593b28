-- The windows one after another: what is counted so far, and what those from k on have.
use mathlib.Core.Path.{◌≡◌}
use mathlib.Core.Bool.{false}
use mathlib.Core.List.{List}
use Prim.Native.Nat.{ℕ, ◌+◌, ◌-◌, ◌*◌, ◌^◌, ◌≤◌, ◌<◌, min}
use native.Mathlib.Omega.{arith}
use lib.ListN.{length, drop}
use Rattle.lists.specs.Lists.{sum_of}
use Rattle.history.specs.Ledger.{Ledger}
use Rattle.history.specs.Occupation.{windows_of, given_by, occupied_in, occupied_by, unreported}
use Rattle.history.proofs.OccupationLaws.{occupied_most, reported}
use Rattle.live_blocks.specs.Live.{ClosedAt}
use Rattle.occupation.specs.Windows.{window_at}
use Rattle.occupation.proofs.Pairs.{windows_next, windows_end}
use Rattle.busy_sum.specs.declared.Weight.TheVariants.{One}
use Rattle.busy_sum.specs.Summing.{SumOfLedger}

pub record Counting (blocks store nodes entries : List ℕ) (kind tick : ℕ) (ns : List ℕ) (k occupied : ℕ) : Type 0 where
  pub below : k ≤ length (windows_of ns)
  pub within : occupied + given_by (windows_of (drop (2 * k) ns)) ≤ given_by (windows_of ns)
  pub counted : (l : Ledger) → ClosedAt blocks store nodes entries kind tick l
      → occupied + occupied_by l kind tick (windows_of (drop (2 * k) ns)) ≡ occupied_by l kind tick (windows_of ns)
  pub few : length (windows_of ns) ≤ 256
  pub fits : given_by (windows_of ns) ≤ 2 ^ 32

module _ {blocks store nodes entries : List ℕ} {kind tick : ℕ} {ns : List ℕ} where
  pub counting_start : unreported (windows_of ns) ≡ false → Counting blocks store nodes entries kind tick ns 0 0
  counting_start h =
      let r = reported (windows_of ns) h in
      record { below = omega arith; within = omega arith; counted = λ l c. omega arith; few = r.2; fits = r.1 }

  module _ {k n occupied : ℕ} (s : Counting blocks store nodes entries kind tick ns k occupied) (e : n ≡ length (windows_of ns)) where
    pub counting_place : k < n → k < 2 ^ 63
    counting_place more = omega (arith, s.few)

    module _ {start stop long : ℕ} (more : k < n) (a : start ≡ (window_at ns k).start) (b : stop ≡ (window_at ns k).stop) (c : long ≡ stop - start) where
      -- the cells of this window and of those behind it
      given_here : given_by (windows_of (drop (2 * k) ns)) ≡ long + given_by (windows_of (drop (2 * (k + 1)) ns))
      unfolding given_by sum_of
      given_here = rw (windows_next ns k (omega arith), c, a, b)

      pub counting_fits : (busy counted : ℕ) → counted ≡ min busy long → occupied + counted < 2 ^ 64
      counting_fits busy counted m = omega (arith, s.within, s.fits, given_here)

      occupied_here : (l : Ledger) → occupied_by l kind tick (windows_of (drop (2 * k) ns))
          ≡ occupied_in l kind tick (record { start = start; stop = stop }) + occupied_by l kind tick (windows_of (drop (2 * (k + 1)) ns))
      unfolding occupied_by sum_of
      occupied_here l = rw (windows_next ns k (omega arith), a, b)

      pub counting_more : {busy counted : ℕ} → counted ≡ min busy long → SumOfLedger blocks nodes entries store kind tick start stop One busy
          → Counting blocks store nodes entries kind tick ns (k + 1) (occupied + counted)
      counting_more m sum = record {
        below = omega arith;
        within = omega (arith, s.within, given_here);
        counted = λ l at.
            omega (arith, s.counted l at, occupied_here l, sum.of_ledger l at tt, occupied_most l kind tick (record { start = start; stop = stop }));
        few = s.few;
        fits = s.fits;
      }

    module _ (done : n ≤ k) where
      pub counting_within : occupied ≤ given_by (windows_of ns)
      counting_within = omega (arith, s.within)

      pub counting_done : (l : Ledger) → ClosedAt blocks store nodes entries kind tick l → occupied ≡ occupied_by l kind tick (windows_of ns)
      unfolding occupied_by sum_of
      counting_done l at = omega (arith, rw (windows_end ns k (omega arith)) at (s.counted l at))

pub ruleset counting = (counting_start, counting_place, counting_fits, counting_more, counting_within, counting_done)
