-- What is proved of the occupation report. The proofs stand in proofs/OccupationLaws.antt.
use Rattle.std.specs.Prelude.{◌≡◌, true, false, List, ◌++◌, map, ℕ, ◌+◌, ◌-◌, ◌*◌, ◌%◌, ◌^◌, ◌≤◌, ◌<◌, max, min, length, if◌then◌else◌}
use Prim.Native.Nat.{◌∣◌}
use Rattle.lists.specs.Lists.{All, sum_of}
use Rattle.history.specs.Words.{Operation}
use Rattle.history.specs.Ledger.{Ledger, finished}
use Rattle.history.specs.Calls.{value_at}
use Rattle.history.specs.Law.{LedgerLaw}
use Rattle.history.specs.Sums.{sum_over, byte_of, byte_now, busy_by}
use Rattle.history.specs.Occupation.{Window, given_by, occupied_by, reduced, tenths_of, unreported}

-- ── the counts ──

-- the occupied cells of all windows by the history, repeats counted
unfoldable pub occupied_of : List Operation → (kind t : ℕ) → List Window → ℕ
occupied_of h kind t ws = sum_of (map (λ w. sum_over (λ c. if busy_by h kind t c then 1 else 0) w.start w.stop) ws)

pub record LawOfCounts : Type 0 where
  -- an occupied cell is one whose value by the history is a non-zero byte
  pub value : (l : Ledger) (h : List Operation) → LedgerLaw l h → finished l ≡ true → (kind t cell : ℕ) → t < l.opening.end → cell < 2 ^ 64
      → byte_now l kind t cell ≡ byte_of (value_at h kind t cell)
  -- so as many are occupied as the history says
  pub by_history : (l : Ledger) (h : List Operation) → LedgerLaw l h → finished l ≡ true → (kind t : ℕ) → t < l.opening.end
      → (ws : List Window) → All (λ (w : Window). w.stop ≤ 2 ^ 64) ws → occupied_by l kind t ws ≡ occupied_of h kind t ws
  -- no more are occupied than given
  pub at_most : (l : Ledger) (kind t : ℕ) (ws : List Window) → occupied_by l kind t ws ≤ given_by ws
  -- repeats count: what two lists of windows have is added up
  pub occupied_added : (l : Ledger) (kind t : ℕ) (ws vs : List Window) → occupied_by l kind t (ws ++ vs) ≡ occupied_by l kind t ws + occupied_by l kind t vs
  pub given_added : (ws vs : List Window) → given_by (ws ++ vs) ≡ given_by ws + given_by vs

-- ── the fraction ──

pub record IsReduced (part whole part' whole' : ℕ) : Type 0 where
  pub same : part' * whole ≡ part * whole'
  pub some_whole : 0 < whole'
  -- no number above 1 divides both
  pub lowest : (d : ℕ) → 1 < d → d ∣ part' → d ∣ whole' → ⊥

-- ── tenths ──

-- how far n tenths are from the part of the whole, in thousandths of it
abbrev pub distance : (part whole n : ℕ) → ℕ
distance p w n = max (1000 * p) (n * w) - min (1000 * p) (n * w)

pub record IsNearest (part whole tenths : ℕ) : Type 0 where
  -- no other number of tenths is nearer
  pub nearest : (n : ℕ) → distance part whole tenths ≤ distance part whole n
  -- and where another is as near, these are even
  pub even : (n : ℕ) → (n ≡ tenths → ⊥) → distance part whole n ≡ distance part whole tenths → tenths % 2 ≡ 0

pub record LawOfOccupation : Type 0 where
  pub counts : LawOfCounts
  pub fraction : (p w : ℕ) → 0 < w → IsReduced p w (reduced p w).part (reduced p w).whole
  pub tenths : (p w : ℕ) → 0 < w → IsNearest p w (tenths_of p w)
  -- a fraction from 0 to 1 is told by 0 to 1,000
  pub at_most : (p w : ℕ) → 0 < w → p ≤ w → tenths_of p w ≤ 1000
  -- 37, fact by fact
  pub reported : (ws : List Window) → unreported ws ≡ false → (0 < given_by ws) × (given_by ws ≤ 2 ^ 32) × (length ws ≤ 256)
  pub nothing : (ws : List Window) → given_by ws ≡ 0 → unreported ws ≡ true
  pub windows : (ws : List Window) → 256 < length ws → unreported ws ≡ true
  pub cells : (ws : List Window) → 2 ^ 32 < given_by ws → unreported ws ≡ true
