-- The roots: what a search over the blocks and one over the kinds say. Assumes nothing.
use mathlib.Core.Path.{◌≡◌, refl}
use mathlib.Core.Bool.{Bool, true, false}
use mathlib.Core.List.{List}
use Prim.Native.Nat.{ℕ, ◌<◌}
use native.Mathlib.Omega.{arith}
use lib.ListN.{length, get_or}
use Rattle.std.specs.Bool.{MatchBool}
use Rattle.std.specs.List.{AllWithin, HoldsAt, range_with_len}
use Rattle.std.proofs.lemmas.List.FromFn.{length-range_with_len, get_or-range_with_len}
use Rattle.lists.specs.Tests.{Decides}
use Rattle.lists.proofs.Numbers.{confirm, refute}
use Rattle.segment_test.specs.Test.{owner_in}
use Rattle.segment_test.specs.Parts.{HasBlock, RootOwned, RootsOwned}

range_at : (n k : ℕ) → k < n → get_or (range_with_len 0 n) k 0 ≡ k
range_at n k h = omega (arith, get_or-range_with_len 0 n k 0 h)

-- block k is of the kind, or not
abbrev pub Owns : (blocks : List ℕ) (kind k : ℕ) → Type 0
Owns blocks kind k = owner_in blocks k ≡ kind

abbrev pub OwnsNot : (blocks : List ℕ) (kind k : ℕ) → Type 0
OwnsNot blocks kind k = owner_in blocks k ≡ kind → ⊥

pub has_told : {blocks : List ℕ} {n kind : ℕ} {r : Bool}
    → MatchBool r ((k : ℕ) × (k < length (range_with_len 0 n)) × HoldsAt (Owns blocks kind) (range_with_len 0 n) k)
    (AllWithin (OwnsNot blocks kind) (range_with_len 0 n) 0 (length (range_with_len 0 n))) → Decides r (HasBlock blocks n kind)
has_told {blocks} {n} {kind} {r = true} (k, h, one) =
    let low : k < n = omega (arith, length-range_with_len 0 n) in
    confirm (record { number = k; low = low; is = rw (range_at n k low) at (one 0) })
has_told {blocks} {n} {kind} {r = false} none =
    refute (λ b. (rw (range_at n b.number b.low) at (none b.number 0 (omega arith) (omega (arith, b.low, length-range_with_len 0 n)))) b.is)

-- a kind's root is that of a kind with blocks, or not
abbrev pub Rooted : (blocks nodes : List ℕ) (n : ℕ) → Bool → ℕ → Type 0
Rooted blocks nodes n r kind = Decides r (RootOwned blocks nodes n kind)

pub roots_told : {blocks nodes : List ℕ} {n many : ℕ} {r : Bool}
    → MatchBool r (AllWithin (Rooted blocks nodes n true) (range_with_len 0 many) 0 (length (range_with_len 0 many)))
    ((k : ℕ) × (k < length (range_with_len 0 many)) × HoldsAt (Rooted blocks nodes n false) (range_with_len 0 many) k)
    → Decides r (RootsOwned blocks nodes n many)
roots_told {many = many} {r = true} all =
    confirm (record { each = λ k h. (rw (range_at many k h) at (all k 0 (omega arith) (omega (arith, length-range_with_len 0 many)))).yes refl })
roots_told {many = many} {r = false} (k, h, one) =
    let low : k < many = omega (arith, length-range_with_len 0 many) in
    refute (λ o. (rw (range_at many k low) at (one 0)).not refl (o.each k low))
