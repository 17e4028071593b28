-- Where a block ends, and the live block that reaches over a place. One step for each return. Assumes nothing.
use Rattle.std.specs.Prelude.{Option, Some, None}
use mathlib.Core.Path.{◌≡◌, ◌∙◌, subst}
use mathlib.Core.Bool.{true}
use mathlib.Core.List.{List}
use Prim.Native.Nat.{ℕ, ◌-◌, ◌^◌, ◌≤◌, ◌<◌}
use native.Mathlib.Omega.{arith}
use Rattle.lists.proofs.Lists.{all_at, all_mem}
use Rattle.history.specs.Words.{end_cell, live_of}
use Rattle.history.specs.Tree.{no_block, block_at}
use Rattle.history.specs.Ledger.{Ledger}
use Rattle.segment_table.specs.Closed.{TreeOf}
use Rattle.segment_near.specs.declared.Side.TheVariants.{Before}
use Rattle.segment_near.specs.declared.Neighbour.{Neighbour}
use Rattle.segment_near.specs.Neighbours.{NearestLive}
use Rattle.live_blocks.specs.Live.{ClosedAt}
use Rattle.live_blocks.proofs.Seeing.{live-number, passed_last, passed_first}
use Rattle.live_blocks.proofs.Living.{near_in, living}
use Rattle.touching_read.specs.Reads.{EndOf, Reaches, OverAt}

-- the end that a live block's row has is the block's
pub end_is : {blocks store nodes entries : List ℕ} {kind tick : ℕ} {l : Ledger} → ClosedAt blocks store nodes entries kind tick l → (k r : ℕ)
    → live_of kind tick (block_at l.now.blocks k) ≡ true → EndOf blocks k r → r ≡ end_cell (block_at l.now.blocks k)
end_is {kind = kind} {tick} {l} c k r lives e =
    let v = living c in
    let n = live-number l.now.blocks kind tick v.apart v.used v.lies k lives in
    let row = v.row k n in
    let whole = (all_at no_block c.sound.board.blocks k n).stretch in
    let most : end_cell (block_at l.now.blocks k) ≤ 2 ^ 64 - 1 = omega (arith, whole.no_wrap, whole.from_line) in
    e.ended row.known ∙ omega (arith, row.ended)

-- ── the returns of `over` ──

module _ {blocks nodes entries ns es : List ℕ} {kind own last tick place : ℕ} {found : Option Neighbour} (t : TreeOf blocks nodes entries kind ns es own last)
    (n : NearestLive ns es own last tick Before place found) where
  pub over_none : found ≡ None → OverAt blocks nodes entries kind tick place None
  over_none is = record {
    block = λ x z. let no : ◌≡◌ {A = ℕ} 0 1 = cc in absurd (omega arith);
    nothing = λ _ store l c.
        let v = living c in
        let without = (v.near Before place (near_in t n)).nothing is in
        passed_first l.now.blocks kind tick v.apart v.used v.lies place (λ j b g. all_mem without (v.met j b) g);
  }

  module _ {b : Neighbour} {end : ℕ} (is : found ≡ Some b) (at : EndOf blocks b.number end) where
    pub over_ended : end ≤ place → OverAt blocks nodes entries kind tick place None
    over_ended h = record {
      block = λ x z. let no : ◌≡◌ {A = ℕ} 0 1 = cc in absurd (omega arith);
      nothing = λ _ store l c.
          let v = living c in
          let m = (v.near Before place (near_in t n)).block b is in
          let a = v.lives b.number m.listed in
          passed_last l.now.blocks kind tick v.apart v.used v.lies b.number place a (λ j y g. all_mem m.nearest (v.met j y) g) (omega (arith, end_is c b.number end a at));
    }

    pub over_block : place < end → OverAt blocks nodes entries kind tick place (Some b)
    over_block h = record {
      block = λ x z store l c.
          let v = living c in
          let m = (v.near Before place (near_in t n)).block b is in
          let a = v.lives b.number m.listed in
          let same : b ≡ x = cc in
          subst (λ (y : Neighbour). Reaches l.now.blocks kind tick place y.number) same
          (record { lives = a; before = m.beside; beyond = omega (arith, end_is c b.number end a at) });
      nothing = λ z. let no : ◌≡◌ {A = ℕ} 0 1 = cc in absurd (omega arith);
    }
