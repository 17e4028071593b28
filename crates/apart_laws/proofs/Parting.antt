-- A tick decided by the tree. Assumes nothing.
--
-- Say that k is destroyed at t and shares a cell with j, which lives on. Then j starts before k's end, so one of the list lies between: it starts in j, and
-- ends where k starts or before. It is no j, which reaches into k. If it lives on, it shares a cell with j at t, against rule 24 at t. If it is destroyed
-- at t, it shares a cell with j and starts before k: so the first one that does has none before it.
use mathlib.Core.Path.{◌≡◌, subst, sym, ap}
use mathlib.Core.Logic.{◌⊎◌, inl, inr}
use mathlib.Core.List.{List, []}
use Prim.Native.Nat.{ℕ, zero, suc, ◌-◌, ◌≤◌, ◌<◌}
use native.Mathlib.Omega.{arith}
use Rattle.lists.specs.Lists.{Mem}
use Rattle.lists.proofs.Numbers.{lt_or_le, eq_or_ne}
use Rattle.lists.proofs.Lists.{all_at, all_mem, mem_at, pairs_of_at}
use Rattle.history.specs.Words.{Block, size, ends, HasCell}
use Rattle.history.specs.Tree.{Tree, no_block, block_at}
use Rattle.history.specs.Find.{path}
use Rattle.history.specs.Rules.{Apart}
use Rattle.apart_laws.specs.Ticks.{Lives, Disjoint, ApartAt, EndsApartAt, ClearOf, ClearAt, Settled}
use Rattle.apart_laws.specs.Ruled.{Ruled, NoneEmpty}
use Rattle.apart_laws.specs.Slots.{stretch_at, Slot}
use Rattle.apart_laws.specs.Parted.{PartedBy, PartedIn}
use Rattle.apart_laws.specs.RightFirst.{RightFirst}
use Rattle.apart_laws.specs.Law.{RightLaw}
use Rattle.apart_laws.proofs.Downward.{pairs_mem, apart_stepwise}
use Rattle.apart_laws.proofs.Numbers.{number-below, by_number, apart_numbers}
use Rattle.apart_laws.proofs.Ways.{way_has, way_live}
use Rattle.apart_laws.proofs.Handing.{EndsIn, handed_at, clear_or_open}
use Rattle.apart_laws.proofs.RightFirst.{right_ends, right_handed}

-- the list has the blocks that are live at the tick before t, and no others
pub record LiveBefore (bs : List Block) (t : ℕ) (list : List ℕ) : Type 0 where
  pub lives : (k : ℕ) → Mem k list → ((block_at bs k).created < t) × (t ≤ (block_at bs k).destroyed)
  pub has : (k : ℕ) → (block_at bs k).created < t → t ≤ (block_at bs k).destroyed → Mem k list

module _ (bs : List Block) (t : ℕ) (list : List ℕ) (filled : NoneEmpty bs) (before : LiveBefore bs t list)
    (clear : (k : ℕ) → Mem k list → (block_at bs k).destroyed ≡ t → ClearOf t (block_at bs k) bs ⊎ PartedIn bs list k) (apart : ApartAt t bs) where
  -- block k, destroyed at t, shares no cell with what lives on; `most` bounds where k starts
  unshared : (most k : ℕ) → (stretch_at bs k).first < most → Mem k list → (block_at bs k).destroyed ≡ t → (j : ℕ) → Mem j list → t < (block_at bs j).destroyed
      → Disjoint (stretch_at bs k) (stretch_at bs j)
  unshared zero k low m dies j n stays cell p q = omega arith
  unshared (suc most) k low m dies j n stays cell p q =
      elim (clear k m dies) [
        | inl c ↦ c (block_at bs j) (mem_at no_block bs j (number-below bs t j stays)) (before.lives j n).0 stays cell p q
        | inr parted ↦ between (λ i l o d. unshared most i l o d j n stays)
            (all_mem parted n (λ e. omega (arith, ap (λ x. (block_at bs x).destroyed) e)) (omega (arith, p.below, q.from)))
      ]
    where
      between : ((i : ℕ) → (stretch_at bs i).first < most → Mem i list → (block_at bs i).destroyed ≡ t → Disjoint (stretch_at bs i) (stretch_at bs j)) → PartedBy bs list k j → ⊥
      between earlier w =
          elim (eq_or_ne w.by j) [
            | inl e ↦ (let to : ends (stretch_at bs j) ≤ (stretch_at bs k).first = subst (λ x. ends (stretch_at bs x) ≤ (stretch_at bs k).first) e w.to in omega (arith, p.from, q.below))
            | inr ne ↦ elim (lt_or_le t (block_at bs w.by).destroyed) [
              | inl on ↦
                  apart_numbers bs t apart w.by j ne (stretch_at bs w.by).first (record { born = omega (arith, lives_by.0); alive = on; has = has_by })
                  (record { born = omega (arith, (before.lives j n).0); alive = stays; has = has_j })
              | inr dies-too ↦ earlier w.by (omega (arith, some, w.to)) w.listed (omega (arith, lives_by.1)) (stretch_at bs w.by).first has_by has_j
            ]
          ]
        where
          lives_by : ((block_at bs w.by).created < t) × (t ≤ (block_at bs w.by).destroyed)
          lives_by = before.lives w.by w.listed

          some : 0 < size (stretch_at bs w.by)
          some = all_at no_block filled w.by (number-below bs (block_at bs w.by).created w.by (omega (arith, lives_by)))

          has_by : HasCell (stretch_at bs w.by) (stretch_at bs w.by).first
          has_by = record { from = omega arith; below = omega (arith, some) }

          has_j : HasCell (stretch_at bs j) (stretch_at bs w.by).first
          has_j = record { from = w.from; below = omega (arith, some, w.to, p.from, q.below) }

  pub parted_clear : ClearAt t bs
  parted_clear =
      by_number (λ (a : Block). Lives a → a.destroyed ≡ t → ClearOf t a bs) bs
      (λ k h lives dies. by_number (λ (b : Block). b.created < t → t < b.destroyed → Disjoint (stretch_at bs k) b.stretch) bs
      (λ j g born stays. unshared (suc (stretch_at bs k).first) k (omega arith) (before.has k (omega arith) (omega arith)) dies j (before.has j born (omega arith)) stays))

-- ── in a tree ──

module _ (end : ℕ) (bs : List Block) (tree : Tree) (ruled : Ruled end bs tree) (filled : NoneEmpty bs) where
  -- the way to the tick before has those
  way_before : (t : ℕ) → 0 < t → t ≤ end → LiveBefore bs t (path (t - 1) 0 end tree)
  way_before t p q = record {
    lives = λ k m. let z = way_live end bs tree ruled (t - 1) (omega arith) k m in (omega (arith, z.0), omega (arith, z.1));
    has = λ k born alive. way_has end bs tree ruled (t - 1) (omega arith) k (omega arith) (omega arith);
  }

  -- left open, block by block: to be parted from the others on the way to the tick before
  abbrev PartedOn : (t k : ℕ) → Type 0
  PartedOn t k = PartedIn bs (path (t - 1) 0 end tree) k

  -- those that are destroyed at t all stand on the way to the tick before
  way_ends : (t : ℕ) → 0 < t → t ≤ end → EndsIn bs t (path (t - 1) 0 end tree) → EndsApartAt t bs
  way_ends t p q ends =
      let before = way_before t p q in
      pairs_of_at no_block bs
      (λ j k h l lives lives-too d e.
      pairs_mem (λ a b f ne x y cell m n. f (λ same. ne (sym same)) y x cell n m) ends (before.has j (omega arith) (omega arith)) (before.has k (omega arith) (omega arith)) (λ same. omega arith)
      (λ same. omega arith) d e)

  module _ (after born born' : List Slot) (walked : RightFirst bs end PartedOn 0 end tree [] after born born') where
    settle : (t : ℕ) → 0 < t → t ≤ end → ApartAt t bs → Settled end t bs
    settle t p q apart =
        elim (lt_or_le t end) [
          | inl below ↦
              (let handed = right_handed bs end PartedOn (omega arith) walked in
              record {
                ends = way_ends t p q (handed_at bs PartedOn end tree ruled handed t p below).ends;
                clear = λ _. parted_clear bs t (path (t - 1) 0 end tree) filled (way_before t p q) (clear_or_open bs PartedOn end tree ruled handed t p below apart) apart;
              })
          | inr last ↦
              (let same : t ≡ end = omega arith in
              record {
                ends = way_ends t p q (rw same (right_ends bs end PartedOn walked));
                clear = λ h. absurd (omega arith);
              })
        ]

    pub right_apart : Apart bs
    right_apart = apart_stepwise end bs ruled.by_end settle

pub right_law : RightLaw
right_law = record { apart = λ end bs tree ruled filled after born born' walked. right_apart end bs tree ruled filled after born born' walked }
