-- The returns of `open`: each condition of refusal 1, and the opened tables. Assumes nothing.
use mathlib.Core.Path.{◌≡◌, refl, sym}
use mathlib.Core.Bool.{Bool, true, false, ◌||◌, not}
use mathlib.Core.List.{List}
use Prim.Native.Nat.{ℕ, ◌≤◌, ◌<◌}
use native.Mathlib.Omega.{arith}
use lib.Dec.{leb, eqb}
use lib.ListN.{length, set, replicate}
use borrow.Author.Tests.{eq-eqb, ne_eqb, lt-ltb, le-ltb, eqb-false}
use Rattle.lists.proofs.Numbers.{decides_leb}
use Rattle.history.specs.Rules.{every}
use Rattle.history.specs.Refusals.{accepted, refused, first_of, max_end_tick, open_refusals}
use Rattle.history.proofs.RulesLaws.{every_decides}
use Rattle.tables.specs.Columns.{head_state, head_end, head_kinds}
use Rattle.kind_mask.specs.Masks.{mask_of, Taken, MaskGiven}
use Rattle.block_table.specs.Blocks.{head_place}
use Rattle.layout.specs.Tables.{Tables, tables}
use Rattle.layout.specs.Encodes.{open_state}
use Rattle.layout.specs.Relations.{opening_of, opened_tables, left_by, OpenedBy}
use Rattle.layout.proofs.Opening.{open_accepted}

-- kinds that have no mask are refused
kinds_refused : (kinds : List ℕ) → (Taken kinds → ⊥) → (eqb (length kinds) 0 || not (every (λ kind. leb kind 4) kinds)) ≡ true
kinds_refused kinds n = go (eqb (length kinds) 0) (every (λ kind. leb kind 4) kinds) refl refl
  where
    go : (u v : Bool) → eqb (length kinds) 0 ≡ u → every (λ kind. leb kind 4) kinds ≡ v → (u || not v) ≡ true
    go true v e f = refl
    go false false e f = refl
    go false true e f =
        let known = (every_decides (λ kind. leb kind 4) (λ kind. decides_leb kind 4) kinds).yes f in
        let some : length kinds ≡ 0 → ⊥ = eqb-false (length kinds) 0 e in
        absurd (n (record { some_kind = above some; known = known }))
      where
        above : (length kinds ≡ 0 → ⊥) → 0 < length kinds
        above h = omega arith

module _ (end : ℕ) (kinds : List ℕ) (t : Tables) where
  pub open_zero : end ≡ 0 → OpenedBy end kinds t t (refused 1)
  unfolding open_refusals first_of left_by
  open_zero e = record { answered = simp (eq-eqb end 0 e); left = refl }

  pub open_above : (end ≡ 0 → ⊥) → max_end_tick < end → OpenedBy end kinds t t (refused 1)
  unfolding open_refusals first_of left_by
  open_above n h = record { answered = simp (ne_eqb end 0 n, lt-ltb max_end_tick end h); left = refl }

  pub open_kinds : {mask : ℕ} → (end ≡ 0 → ⊥) → end ≤ max_end_tick → MaskGiven kinds mask → mask ≡ 0 → OpenedBy end kinds t t (refused 1)
  unfolding open_refusals first_of left_by
  open_kinds n h m z = record { answered = rw (ne_eqb end 0 n, le-ltb max_end_tick end h, kinds_refused kinds (m.none z)); left = refl }

  pub open_done : {p b b₁ b₂ b₃ n e : List ℕ} {mask : ℕ} → b ≡ set b₃ (head_place head_kinds) mask → b₃ ≡ set b₂ (head_place head_end) end → b₂ ≡ set b₁ (head_place head_state) open_state
      → b₁ ≡ replicate (length t.blocks) 0 → p ≡ replicate (length t.pieces) 0 → n ≡ replicate (length t.nodes) 0 → e ≡ replicate (length t.entries) 0
      → MaskGiven kinds mask → (mask ≡ 0 → ⊥) → (end ≡ 0 → ⊥) → end ≤ max_end_tick → OpenedBy end kinds t (tables p b t.store n e) (accepted tt)
  unfolding left_by opened_tables
  open_done {b} {mask} eb e₃ e₂ e₁ ep en ee m nz some most =
      let given = m.some nz in
      let eb' : b ≡ set (set (set (replicate (length t.blocks) 0) (head_place head_state) open_state) (head_place head_end) end) (head_place head_kinds) (mask_of kinds) =
      rw (e₃, e₂, e₁, given.1) at eb in
      record {
        answered = sym (open_accepted (opening_of end kinds t) (omega arith) most given.0.some_kind given.0.known);
        left = λ i. tables (ep i) (eb' i) t.store (en i) (ee i);
      }

pub ruleset opening = (open_zero, open_above, open_kinds, arith)
