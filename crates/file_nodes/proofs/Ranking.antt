-- A block's place in the list by binary search: the list's numbers as chunks of bytes, which ascend. Assumes nothing.
use mathlib.Core.Path.{◌≡◌, refl, sym, ◌∙◌, ap}
use mathlib.Core.Logic.{⊎_elim}
use mathlib.Core.Bool.{Bool, true, false}
use mathlib.Core.List.{List, []}
use Prim.Native.Nat.{ℕ, zero, suc, ◌+◌, ◌*◌, ◌-◌, ◌/◌, ◌≤◌, ◌<◌}
use native.Mathlib.Omega.{arith}
use denote.Param.Members.{Mut}
use denote.Ref.{Bor}
use lib.Dec.{ltb}
use lib.ListN.{length, get_or, take, drop}
use borrow.Author.Tests.{lt-ltb, ltb-true, ltb-false}
use Rattle.std.proofs.lemmas.List.{drop-drop, take_rest, get_or-take, length-drop, length-take-le}
use Rattle.std.proofs.lemmas.List.Sorted.{IsPartitionPoint-from_clause}
use Rattle.std.specs.Fn.{Called, ComputesKey}
use Rattle.std.specs.Int.{w64, from_le_bytes}
use Rattle.std.specs.List.{slice_range}
use Rattle.std.specs.List.Sorted.{IsPartitionedBy, IsPartitionPoint}
use Rattle.std.specs.Simd.{first_chunks}
use Rattle.lists.specs.Lists.{has}
use Rattle.lists.proofs.Lists.{pairs_at}
use Rattle.lists.proofs.Numbers.{le_or_lt, eq_or_ne}
use Rattle.history.specs.File.{number_of, place_in}
use Rattle.history.proofs.FilePlaces.{place_in-inside, place_in_found}
use Rattle.history.proofs.FileReads.{number_read}
use Rattle.fields.proofs.Reading.{number_at_got}
use Rattle.file_nodes.specs.Numbering.{Numbering, NewNumber}

-- ── a number of the list ──

-- a chunk as a part of the bytes
chunk_at : (n j : ℕ) (xs d : List ℕ) → j < n → get_or (first_chunks 8 n xs) j d ≡ take 8 (drop (8 * j) xs)
chunk_at zero j xs d h = absurd (omega arith)
chunk_at (suc n) zero xs d h = refl
chunk_at (suc n) (suc j) xs d h =
    let past : 8 + 8 * j ≡ 8 * suc j = omega arith in
    chunk_at n j (drop 8 xs) d (omega arith) ∙ ap (take 8) (drop-drop (8 * j) 8 xs ∙ ap (λ (i : ℕ). drop i xs) past)

-- the two readings of eight bytes
same_number : (out bytes : List ℕ) (at : ℕ) → at + 8 ≤ length out → bytes ≡ take 8 (drop at out) → length bytes ≡ 8
    → from_le_bytes w64 bytes ≡ number_of (take 8 (drop at out))
same_number out bytes at room e n =
    let same = sym (number_at_got out at bytes room e n) ∙ number_read 8 out at room in
    cc

-- ── its place ──

module _ (out behind : List ℕ) (all list : List (List ℕ)) (listed k p : ℕ) (some : listed ≡ 0 → ⊥)
    (tail : behind ≡ slice_range out 9 (length out)) (long : length behind + 9 ≡ length out)
    (chunks : all ≡ first_chunks 8 (length behind / 8) behind)
    (cut : list ≡ slice_range all 0 listed) (many : length list + 0 ≡ listed) (held : listed ≤ length all)
    (front : length all ≡ length behind / 8) where
  bytes_in : (j : ℕ) (d : List ℕ) → j < length list → get_or list j d ≡ take 8 (drop (9 + 8 * j) out)
  bytes_in j d h =
      let inner : get_or list j d ≡ get_or all j d = rw cut (get_or-take (listed - 0) all j d (omega arith)) in
      let rest : behind ≡ drop 9 out = tail ∙ take_rest out 9 in
      inner ∙ rw chunks (chunk_at (length behind / 8) j behind d (omega arith)) ∙ ap (take 8) (ap (drop (8 * j)) rest ∙ drop-drop (8 * j) 9 out)

  module _ (at : ℕ) (ks : List ℕ) (n : Numbering out at listed ks) where
    number_in : (j : ℕ) (d : List ℕ) → j < length list → from_le_bytes w64 (get_or list j d) ≡ get_or ks j 0
    number_in j d h =
        let fits : 9 + 8 * j + 8 ≤ length out = omega arith in
        let left : 8 ≤ length (drop (9 + 8 * j) out) = omega (arith, length-drop (9 + 8 * j) out) in
        let bytes = bytes_in j d h in
        let eight : length (get_or list j d) ≡ 8 = ap length bytes ∙ length-take-le 8 (drop (9 + 8 * j) out) left in
        same_number out (get_or list j d) (9 + 8 * j) fits bytes eight ∙ n.stands (omega arith) j (omega arith)

    ascends : (i j : ℕ) → i ≤ j → j < length list → get_or ks i 0 ≤ get_or ks j 0
    ascends i j h less =
        ⊎_elim (λ (e : i ≡ j). omega (arith, ap (λ (m : ℕ). get_or ks m 0) e))
        (λ (e : i ≡ j → ⊥). omega (arith, pairs_at 0 n.ascend i j (omega arith) (omega (arith, n.many (omega arith))))) (eq_or_ne i j)

    list_parted : IsPartitionedBy (λ (y : List ℕ). ltb (from_le_bytes w64 y) k) list
    list_parted i j d l m up =
        let low = ltb-true _ _ up in
        lt-ltb _ _ (omega (arith, low, number_in i d (omega arith), number_in j d m, ascends i j l m))

    -- the numbers in front of p are below k, the others are not
    place_parts : has k ks ≡ true → p ≤ length list
        → IsPartitionPoint (λ (y : List ℕ). ltb (from_le_bytes w64 y) k ≡ true) (λ (y : List ℕ). ltb (from_le_bytes w64 y) k ≡ false) list p → p ≡ place_in ks k
    place_parts z bound point =
        let there = place_in_found ks k z in
        let inside = place_in-inside ks k z in
        let long = n.many (omega arith) in
        let least : p ≤ place_in ks k =
        ⊎_elim (λ (g : p ≤ place_in ks k). g)
        (λ (g : place_in ks k < p).
        let low = ltb-true _ _ (point.0 (place_in ks k) [] (omega arith) g) in
        absurd (omega (arith, low, there, number_in (place_in ks k) [] (omega arith))))
        (le_or_lt p (place_in ks k)) in
        let most : place_in ks k ≤ p =
        ⊎_elim (λ (g : place_in ks k ≤ p). g)
        (λ (g : p < place_in ks k).
        let high = ltb-false _ _ (point.1 p [] (omega arith) (omega arith)) in
        absurd (omega (arith, high, there, number_in p [] (omega arith), pairs_at 0 n.ascend p (place_in ks k) g inside)))
        (le_or_lt (place_in ks k) p) in
        omega arith

  -- by the clause of `partition_point`
  pub list_place : p ≤ length list → {F : Type 0} {g : Mut F (Bor (List ℕ) × Unit {0}) Bool} {f : F}
      → ((q : List ℕ → Bool) → ComputesKey g q f → IsPartitionedBy q list → IsPartitionPoint (λ y. q y ≡ true) (λ y. q y ≡ false) list p)
      → ((a : Bor (List ℕ) × Unit {0}) (r : Bool) (f' : F) → Called g f a r f' → (r ≡ ltb (from_le_bytes w64 a.0.now) k) × (f' ≡ f)) → NewNumber out listed k p
  list_place bound parted calls =
      record {
        new = λ at ks n z.
            place_parts at ks n z bound (IsPartitionPoint-from_clause (λ (y : List ℕ). ltb (from_le_bytes w64 y) k) list p parted (list_parted at ks n) calls);
      }
