-- Blocks of which each, when it is created, is parted from the live ones, never share a cell. Assumes nothing.
--
-- By ticks: at a tick only blocks that are created then can share a cell that was not shared before. Let k be created at t and share a cell with j. A
-- live block m parts them: it starts where j does or behind and ends before k, so it lies in j. If m is created at t, the pair j, m is one like it
-- further down the board. If j is, m starts before its end, so one parts m from j: it would end before j and start behind it. Else j and m were
-- live before and shared a cell then.
use mathlib.Core.Path.{◌≡◌, ap}
use mathlib.Core.Logic.{inl, inr}
use Prim.Native.Nat.{ℕ, zero, suc, ◌≤◌, ◌<◌}
use native.Mathlib.Omega.{arith}
use Rattle.lists.proofs.Numbers.{lt_or_le}

module _ (first end born dies : ℕ → ℕ) (n : ℕ) where
  -- block k is one of the n and live at tick t
  pub record Alive (t k : ℕ) : Type 0 where
    pub known : k < n
    pub from : born k ≤ t
    pub to : t < dies k

  -- two blocks have a cell in common
  pub record Meet (j k : ℕ) : Type 0 where
    pub one : first j < end k
    pub other : first k < end j

  -- a live block lies between j and k
  pub record Between (t k j : ℕ) : Type 0 where
    pub by : ℕ
    pub live : Alive t by
    pub from : first j ≤ first by
    pub ends : end by ≤ first k

  -- whenever a block is created, every other live one that starts before its end is parted from it
  pub record Born : Type 0 where
    pub filled : (k : ℕ) → k < n → first k < end k
    pub parted : (t k j : ℕ) → born k ≡ t → Alive t k → Alive t j → (j ≡ k → ⊥) → first j < end k → Between t k j

  module _ (all : Born) where
    -- those created before t share nothing at t
    Old : (t : ℕ) → Type 0
    Old t = (j k : ℕ) → Alive t j → Alive t k → born j < t → born k < t → (j ≡ k → ⊥) → Meet j k → ⊥

    new : (t : ℕ) → Old t → (below k j : ℕ) → first k < below → born k ≡ t → Alive t k → Alive t j → (j ≡ k → ⊥) → Meet j k → ⊥
    unfolding Old
    new t old zero k j h e lk lj ne m = omega arith
    new t old (suc below) k j h e lk lj ne m =
        let p : Between t k j = all.parted t k j e lk lj ne m.one in
        let b : ℕ = p.by in
        let some : first b < end b = all.filled b p.live.known in
        let away : j ≡ b → ⊥ = λ q. omega (arith, p.ends, m.other, ap end q) in
        let met : Meet j b = record { one = omega (arith, p.from); other = omega (arith, p.ends, m.other) } in
        elim (lt_or_le (born b) t) [
          | inr new-b ↦ new t old below b j (omega (arith, p.ends)) (omega (arith, p.live.from)) p.live lj away met
          | inl old-b ↦ elim (lt_or_le (born j) t) [
            | inl old-j ↦ old j b lj p.live old-j old-b away met
            | inr new-j ↦
                let q : Between t j b = all.parted t j b (omega (arith, lj.from)) lj p.live (λ z. away (omega arith)) met.other in
                omega (arith, q.from, q.ends, all.filled q.by q.live.known, p.from)
          ]
        ]

    -- at no tick do two live blocks share a cell
    pub born_apart : (t j k : ℕ) → Alive t j → Alive t k → (j ≡ k → ⊥) → Meet j k → ⊥
    unfolding Old
    born_apart zero j k lj lk ne m = new 0 (λ a b la lb x y. absurd (omega arith)) (suc (first k)) k j (omega arith) (omega (arith, lk.from)) lk lj ne m
    born_apart (suc t) j k lj lk ne m =
        let old : Old (suc t) = λ a b la lb x y. born_apart t a b (before a la x) (before b lb y) in
        elim (lt_or_le (born k) (suc t)) [
          | inr new-k ↦ new (suc t) old (suc (first k)) k j (omega arith) (omega (arith, lk.from)) lk lj ne m
          | inl old-k ↦ elim (lt_or_le (born j) (suc t)) [
            | inr new-j ↦ new (suc t) old (suc (first j)) j k (omega arith) (omega (arith, lj.from)) lj lk (λ z. ne (omega arith)) (record { one = m.other; other = m.one })
            | inl old-j ↦ born_apart t j k (before j lj old-j) (before k lk old-k) ne m
          ]
        ]
      where
        before : (i : ℕ) → Alive (suc t) i → born i < suc t → Alive t i
        before i l h = record { known = l.known; from = omega arith; to = omega (arith, l.to) }
