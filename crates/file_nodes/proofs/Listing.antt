-- The list of the blocks that have a life: the returns of `list`, what is listed, and that it numbers the blocks. Assumes nothing.
use mathlib.Core.Path.{◌≡◌, refl, sym, ◌∙◌, ap}
use mathlib.Core.Logic.{⊎_elim}
use mathlib.Core.Bool.{Bool, true, false, cond, false≢true}
use mathlib.Core.List.{List, [], ◌∷◌, ◌++◌, flat_map, append_assoc, append-nil}
use Prim.Native.Nat.{ℕ, zero, suc, ◌+◌, ◌*◌, ◌^◌, ◌≤◌, ◌<◌}
use native.Mathlib.Numerals.{add-one}
use native.Mathlib.Omega.{arith}
use lib.ListN.{length, get_or, take, drop, length-append}
use lib.Seq.{sets, sets-eq, length-sets, length-take-le, drop-append-add, take_at}
use borrow.Author.Tests.{eq-eqb, ne_eqb}
use Rattle.lists.specs.Lists.{All, all_nil, all_cons, Pairs, pairs_nil, pairs_cons, Ascending, has, count_from}
use Rattle.lists.proofs.Lists.{all_append, all_map, all_mem, all_at, pairs-append}
use Rattle.lists.proofs.Numbers.{eq_or_ne}
use Rattle.lists.proofs.Counting.{has_decides, count_from_below, count_from_append}
use Rattle.history.specs.File.{bytes_of, number_of, place_in}
use Rattle.history.proofs.FileNumbers.{bytes_of-length, number_of-bytes_of}
use Rattle.history.proofs.FilePlaces.{place_in-count_from}
use Rattle.lists.specs.Puts.{Put}
use Rattle.file_put.specs.Living.{lives, living, blocks_at}
use Rattle.file_nodes.specs.Numbering.{Numbering, Listed}

-- ── the returns of `list` ──

pub list_not : (blocks : List ℕ) (kind n many : ℕ) (out : List ℕ) → many ≡ n → n < 2 ^ 64 → Listed blocks kind n many out out 0
list_not blocks kind n many out e h = record { stands = rw (eq-eqb many n e) refl; count = rw (eq-eqb many n e) refl; few = h }

pub list_put : (blocks : List ℕ) (kind n many : ℕ) (out out' : List ℕ) (next : ℕ) → (many ≡ n → ⊥) → n < 2 ^ 64
    → Put out 9 (flat_map (bytes_of 8) (living blocks kind n)) out' next → Listed blocks kind n many out out' many
list_put blocks kind n many out out' next e h p = record { stands = p.stands ∙ rw (ne_eqb many n e) refl; count = rw (ne_eqb many n e) refl; few = h }

pub ruleset telling = (list_not, list_put, arith)

-- ── what is listed ──

-- the last one, if it has a life
last_all : {P : ℕ → Type 0} (n : ℕ) (t : Bool) → P n → All P (cond t (n ∷ []) [])
last_all n true p = all_cons p all_nil
last_all n false p = all_nil

last_pairs : {R : ℕ → ℕ → Type 0} (n : ℕ) (t : Bool) → Pairs R (cond t (n ∷ []) [])
last_pairs n true = pairs_cons all_nil pairs_nil
last_pairs n false = pairs_nil

module _ (blocks : List ℕ) (kind : ℕ) where
  pub living-below : (n : ℕ) → All (λ k. k < n) (living blocks kind n)
  unfolding living
  living-below zero = all_nil
  living-below (suc n) = all_append (all_map (λ k h. omega arith) (living-below n)) (last_all n (lives blocks kind n) (omega arith))

  pub living-ascends : (n : ℕ) → Ascending (λ k. k) (living blocks kind n)
  unfolding living
  living-ascends zero = pairs_nil
  living-ascends (suc n) =
      pairs-append (living-ascends n) (last_pairs n (lives blocks kind n)) (all_map (λ k h. last_all n (lives blocks kind n) h) (living-below n))

  living_few : (n : ℕ) → length (living blocks kind n) ≤ n
  unfolding living
  living_few zero = omega arith
  living_few (suc n) = go (lives blocks kind n) (living_few n)
    where
      go : (t : Bool) → length (living blocks kind n) ≤ n → length (living blocks kind n ++ cond t (n ∷ []) []) ≤ suc n
      go true h = rw (length-append (living blocks kind n) (n ∷ [])) (omega arith)
      go false h = rw (append-nil (living blocks kind n)) (omega arith)

  -- where as many have a life as there are, all have one
  living_all : (n : ℕ) → length (living blocks kind n) ≡ n → living blocks kind n ≡ count_from 0 n
  unfolding living count_from
  living_all zero e = refl
  living_all (suc n) e = go (lives blocks kind n) e (living_all n)
    where
      go : (t : Bool) → length (living blocks kind n ++ cond t (n ∷ []) []) ≡ suc n → (length (living blocks kind n) ≡ n → living blocks kind n ≡ count_from 0 n)
          → living blocks kind n ++ cond t (n ∷ []) [] ≡ count_from 0 (suc n)
      go true q all =
          let less : length (living blocks kind n) ≡ n = omega (arith, length-append (living blocks kind n) (n ∷ [])) in
          let more = rw (add-one n) at (count_from_append 0 n 1) in
          let zero : 0 + n ≡ n = omega arith in
          ap (λ (l : List ℕ). l ++ n ∷ []) (all less) ∙ sym (rw zero at more)
      go false q all = absurd (omega (arith, ap length (append-nil (living blocks kind n)), living_few n))

-- ── numbers in bytes ──

pub numbers_length : (ks : List ℕ) → length (flat_map (bytes_of 8) ks) ≡ 8 * length ks
unfolding flat_map
numbers_length [] = omega arith
numbers_length (k ∷ ks) = length-append (bytes_of 8 k) (flat_map (bytes_of 8) ks) ∙ omega (arith, bytes_of-length 8 k, numbers_length ks)

numbers_at_lem : (ks rest : List ℕ) (j : ℕ) → j < length ks → take 8 (drop (8 * j) (flat_map (bytes_of 8) ks ++ rest)) ≡ bytes_of 8 (get_or ks j 0)
unfolding flat_map
numbers_at_lem [] rest j h = absurd (omega arith)
numbers_at_lem (k ∷ ks) rest zero h =
    ap (take 8) (append_assoc (bytes_of 8 k) (flat_map (bytes_of 8) ks) rest) ∙ take_at (bytes_of 8 k) (flat_map (bytes_of 8) ks ++ rest) 8 (bytes_of-length 8 k)
numbers_at_lem (k ∷ ks) rest (suc j) h =
    let place : 8 * suc j ≡ length (bytes_of 8 k) + 8 * j = omega (arith, bytes_of-length 8 k) in
    rw (place, append_assoc (bytes_of 8 k) (flat_map (bytes_of 8) ks) rest, drop-append-add (bytes_of 8 k) (flat_map (bytes_of 8) ks ++ rest) (8 * j))
    (numbers_at_lem ks rest j (omega arith))

-- the list as it was put
list_at : (ks out : List ℕ) (j : ℕ) → 9 + 8 * length ks ≤ length out → j < length ks
    → take 8 (drop (9 + 8 * j) (sets out 9 (flat_map (bytes_of 8) ks))) ≡ bytes_of 8 (get_or ks j 0)
list_at ks out j room h =
    let vs = flat_map (bytes_of 8) ks in
    let behind = drop (9 + length (flat_map (bytes_of 8) ks)) out in
    let nine : length (take 9 out) ≡ 9 = length-take-le 9 out (omega arith) in
    let cut : sets out 9 (flat_map (bytes_of 8) ks) ≡ take 9 out ++ (flat_map (bytes_of 8) ks ++ drop (9 + length (flat_map (bytes_of 8) ks)) out) =
    sets-eq vs out 9 (omega (arith, numbers_length ks)) ∙ append_assoc (take 9 out) vs behind in
    let past : drop (9 + 8 * j) (take 9 out ++ (vs ++ behind)) ≡ drop (8 * j) (vs ++ behind) = rw nine at (drop-append-add (take 9 out) (vs ++ behind) (8 * j)) in
    ap (λ (l : List ℕ). take 8 (drop (9 + 8 * j) l)) cut ∙ ap (take 8) past ∙ numbers_at_lem ks behind j h

-- ── new numbers by the list ──

module _ {blocks out out' : List ℕ} {kind n many listed at : ℕ} (l : Listed blocks kind n many out out' listed) (e : many ≡ length (living blocks kind n))
    (from : blocks_at + 8 * length (living blocks kind n) ≤ at) (room : at ≤ length out) where
  -- where all have a life
  numbering_stay : many ≡ n → Numbering out' at listed (living blocks kind n)
  numbering_stay all =
      let none : listed ≡ 0 = l.count ∙ rw (eq-eqb many n all) refl in
      record {
        ascend = living-ascends blocks kind n;
        stay = λ z k h. rw (living_all blocks kind n (sym e ∙ all)) (placed k (rw (living_all blocks kind n (sym e ∙ all)) at h));
        many = λ s. absurd (omega arith);
        before = λ s. absurd (omega arith);
        inside = λ s. absurd (omega arith);
        stands = λ s. absurd (omega arith);
      }
    where
      placed : (k : ℕ) → has k (count_from 0 n) ≡ true → place_in (count_from 0 n) k ≡ k
      placed k h =
          let low : k < 0 + n = all_mem (all_map (λ j p. p.1) (count_from_below 0 n)) ((has_decides k (count_from 0 n)).yes h) in
          place_in-count_from 0 n k (omega arith) (omega arith) ∙ omega arith

  numbering_listed : (many ≡ n → ⊥) → Numbering out' at listed (living blocks kind n)
  unfolding has
  numbering_listed some =
      let is : listed ≡ many = l.count ∙ rw (ne_eqb many n some) refl in
      let stood : out' ≡ sets out 9 (flat_map (bytes_of 8) (living blocks kind n)) = l.stands ∙ rw (ne_eqb many n some) refl in
      let same : length out' ≡ length out = ap length stood ∙ length-sets out 9 (flat_map (bytes_of 8) (living blocks kind n)) in
      let short : 9 + 8 * listed ≤ at = omega arith in
      record {
        ascend = living-ascends blocks kind n;
        stay = λ z k h. absurd (nothing (living blocks kind n) (omega arith) k h);
        many = λ s. sym (is ∙ e);
        before = λ s. short;
        inside = λ s. omega arith;
        stands = λ s j h.
            let less : j < length (living blocks kind n) = omega arith in
            let low : get_or (living blocks kind n) j 0 < n = all_at 0 (living-below blocks kind n) j less in
            ap number_of (ap (λ (o : List ℕ). take 8 (drop (9 + 8 * j) o)) stood ∙ list_at (living blocks kind n) out j (omega arith) less)
            ∙ number_of-bytes_of 8 (get_or (living blocks kind n) j 0) (omega (arith, l.few));
      }
    where
      nothing : (ks : List ℕ) → length ks ≡ 0 → (k : ℕ) → has k ks ≡ true → ⊥
      nothing [] z k h = false≢true h
      nothing (x ∷ ks) z k h = omega arith

  pub numbering : Numbering out' at listed (living blocks kind n)
  numbering = ⊎_elim numbering_stay numbering_listed (eq_or_ne many n)
