-- Block numbers in ascending order of a key: what `ascending_from` lists, its order, its first and its last; and that there is one such list.
-- Assumes nothing.
use mathlib.Core.Path.{◌≡◌, refl, sym, ap, ◌∙◌}
use mathlib.Core.Logic.{◌⊎◌, inl, inr, ◌≢◌}
use mathlib.Core.Bool.{Bool, true, false, cond}
use mathlib.Core.Option.{some}
use mathlib.Core.List.{List, [], ◌∷◌, head?}
use Prim.Native.Nat.{ℕ, zero, suc, ◌+◌, ◌≤◌, ◌<◌}
use native.Mathlib.Nat.{zero-add}
use native.Mathlib.Omega.{arith}
use lib.ListN.{length, get_or}
use borrow.Author.Tests.{eq-eqb, ne_eqb}
use Rattle.lists.specs.Lists.{All, all_nil, Mem, here, there, Ascending, pairs_nil, pairs_cons, count}
use Rattle.lists.proofs.Numbers.{bool_cases}
use Rattle.lists.proofs.Lists.{all_map, all_mem}
use Rattle.lists.proofs.Counting.{not_mem_nil}
use Rattle.history.specs.Words.{Block}
use Rattle.history.specs.Tree.{insert, no_block}
use Rattle.history.specs.Reads.{ascending_from, last_in}
use Rattle.history.proofs.TreeInserting.{count-insert, insert_all, insert_ascending}

-- ── what is listed ──

module _ (key : ℕ → ℕ) (test : Block → Bool) where
  -- a block of which the test holds, in front of the later ones; another is passed over
  from_taken : (n : ℕ) (b : Block) (bs : List Block) → test b ≡ true → ascending_from key test n (b ∷ bs) ≡ insert key n (ascending_from key test (suc n) bs)
  unfolding ascending_from
  from_taken n b bs e = rw e

  from_passed : (n : ℕ) (b : Block) (bs : List Block) → test b ≡ false → ascending_from key test n (b ∷ bs) ≡ ascending_from key test (suc n) bs
  unfolding ascending_from
  from_passed n b bs e = rw e

  -- no number below the first block's
  from_low : (k n : ℕ) (bs : List Block) → k < n → count k (ascending_from key test n bs) ≡ 0
  unfolding ascending_from count
  from_low k n [] h = refl
  from_low k n (b ∷ bs) h =
      elim (bool_cases (test b)) [
        | inl e ↦ ap (count k) (from_taken n b bs e) ∙ count-insert key k n (ascending_from key test (suc n) bs)
            ∙ rw (ne_eqb k n (λ q. omega arith), from_low k (suc n) bs (omega arith))
        | inr e ↦ ap (count k) (from_passed n b bs e) ∙ from_low k (suc n) bs (omega arith)
      ]

  -- each number once if the test holds of its block, and never else
  pub from_count : test no_block ≡ false → (j n : ℕ) (bs : List Block) → count (n + j) (ascending_from key test n bs) ≡ cond (test (get_or bs j no_block)) 1 0
  unfolding ascending_from count
  from_count unheld j n [] = rw unheld
  from_count unheld zero n (b ∷ bs) =
      let z : n + 0 ≡ n = omega arith in
      elim (bool_cases (test b)) [
        | inl e ↦ ap (count (n + 0)) (from_taken n b bs e) ∙ count-insert key (n + 0) n (ascending_from key test (suc n) bs)
            ∙ rw (z, eq-eqb n n refl, from_low n (suc n) bs (omega arith), e)
        | inr e ↦ ap (count (n + 0)) (from_passed n b bs e) ∙ rw (z, from_low n (suc n) bs (omega arith), e)
      ]
  from_count unheld (suc j) n (b ∷ bs) =
      let z : n + suc j ≡ suc n + j = omega arith in
      elim (bool_cases (test b)) [
        | inl e ↦ ap (count (n + suc j)) (from_taken n b bs e) ∙ count-insert key (n + suc j) n (ascending_from key test (suc n) bs)
            ∙ rw (ne_eqb (n + suc j) n (λ q. omega arith), zero-add, z) (from_count unheld j (suc n) bs)
        | inr e ↦ ap (count (n + suc j)) (from_passed n b bs e) ∙ rw z (from_count unheld j (suc n) bs)
      ]

  -- the keys ascend where those of two different blocks of which the test holds differ
  record Listed (P : ℕ → Type 0) (n : ℕ) (ks : List ℕ) : Type 0 where
    order : Ascending key ks
    members : All (λ k. P k × (n ≤ k)) ks

  from_listed : (P : ℕ → Type 0) → ((i j : ℕ) → P i → P j → i ≢ j → key i ≢ key j) → (n : ℕ) (bs : List Block)
      → ((j : ℕ) → j < length bs → test (get_or bs j no_block) ≡ true → P (n + j)) → Listed P n (ascending_from key test n bs)
  unfolding ascending_from
  from_listed P differ n [] holds = record { order = pairs_nil; members = all_nil }
  from_listed P differ n (b ∷ bs) holds =
      let later = from_listed P differ (suc n) bs (λ j h e. let z : n + suc j ≡ suc n + j = omega arith in rw z at (holds (suc j) (omega arith) e)) in
      let z : n + 0 ≡ n = omega arith in
      elim (bool_cases (test b)) [
        | inl e ↦
            let own : P n = rw z at (holds 0 (omega arith) e) in
            rw (from_taken n b bs e)
            (record {
              order = insert_ascending key n (all_map (λ k m. differ k n m.0 own (λ q. omega (arith, m.1))) later.members) later.order;
              members = insert_all key n (own, omega arith) (all_map (λ k m. (m.0, omega (arith, m.1))) later.members);
            })
        | inr e ↦ rw (from_passed n b bs e) (record { order = later.order; members = all_map (λ k m. (m.0, omega (arith, m.1))) later.members })
      ]

  pub from_ascending : (P : ℕ → Type 0) → ((i j : ℕ) → P i → P j → i ≢ j → key i ≢ key j) → (bs : List Block)
      → ((j : ℕ) → test (get_or bs j no_block) ≡ true → P j) → Ascending key (ascending_from key test 0 bs)
  from_ascending P differ bs holds = (from_listed P differ 0 bs (λ j h e. let z : 0 + j ≡ j = omega arith in rw z (holds j e))).order

-- ── one list ──

module _ (key : ℕ → ℕ) where
  -- a member of an ascending list is its first or has a larger key
  first_or_later : (x k : ℕ) {xs : List ℕ} → All (λ y. key x < key y) xs → Mem k (x ∷ xs) → (k ≡ x) ⊎ (key x < key k)
  first_or_later x k a (here e) = inl e
  first_or_later x k a (there m) = inr (all_mem a m)

  -- a later member is not the first
  not_first : (x k : ℕ) {xs : List ℕ} → key x < key k → Mem k (x ∷ xs) → Mem k xs
  not_first x k h (here e) = absurd (omega (arith, ap key e))
  not_first x k h (there m) = m

  -- two members with one key are one
  pub ascending_one : (j k : ℕ) {xs : List ℕ} → Ascending key xs → Mem j xs → Mem k xs → key j ≡ key k → j ≡ k
  ascending_one j k pairs_nil a b e = absurd (not_mem_nil a)
  ascending_one j k (pairs_cons {x} {xs} first rest) a b e =
      elim (first_or_later x j first a) [
        | inl p ↦ elim (first_or_later x k first b) [
          | inl q ↦ p ∙ sym q
          | inr q ↦ absurd (omega (arith, ap key p))
        ]
        | inr p ↦ ascending_one j k rest (not_first x j p a) (not_first x k (omega arith) b) e
      ]

  -- ascending lists with the same members are one list
  pub ascending_same : {xs ys : List ℕ} → Ascending key xs → Ascending key ys → ((k : ℕ) → Mem k xs → Mem k ys) → ((k : ℕ) → Mem k ys → Mem k xs) → xs ≡ ys
  ascending_same pairs_nil pairs_nil into back = refl
  ascending_same pairs_nil (pairs_cons {x = y} {xs = ys} b q) into back = absurd (not_mem_nil (back y (here refl)))
  ascending_same (pairs_cons {x} {xs} a p) pairs_nil into back = absurd (not_mem_nil (into x (here refl)))
  ascending_same (pairs_cons {x} {xs} a p) (pairs_cons {x = y} {xs = ys} b q) into back =
      let same : x ≡ y = heads (first_or_later y x b (into x (here refl))) (first_or_later x y a (back y (here refl))) in
      let rest : xs ≡ ys =
      ascending_same p q (λ k m. not_first y k (omega (arith, ap key same, all_mem a m)) (into k (there m)))
      (λ k m. not_first x k (omega (arith, ap key same, all_mem b m)) (back k (there m))) in
      rw (same, rest)
    where
      heads : (x ≡ y) ⊎ (key y < key x) → (y ≡ x) ⊎ (key x < key y) → x ≡ y
      heads (inl e) h = e
      heads (inr g) (inl e) = sym e
      heads (inr g) (inr h) = absurd (omega arith)

  -- ── its first and its last ──

  -- the first has the smallest key
  pub head_least : (k : ℕ) {xs : List ℕ} → Ascending key xs → Mem k xs → ((j : ℕ) → Mem j xs → key k ≤ key j) → head? xs ≡ some k
  head_least k pairs_nil m least = absurd (not_mem_nil m)
  head_least k (pairs_cons {x} {xs} a p) m least =
      elim (first_or_later x k a m) [
        | inl e ↦ ap some (sym e)
        | inr h ↦ absurd (omega (arith, least x (here refl)))
      ]

  pub head_member : (k : ℕ) {xs : List ℕ} → Ascending key xs → head? xs ≡ some k → Mem k xs × ((j : ℕ) → Mem j xs → key k ≤ key j)
  head_member k pairs_nil e = let no : ◌≡◌ {A = ℕ} 0 1 = cc in absurd (omega arith)
  head_member k (pairs_cons {x} {xs} a p) e =
      let same : k ≡ x = cc in
      (here same, λ j m. least j (first_or_later x j a m) same)
    where
      least : (j : ℕ) → (j ≡ x) ⊎ (key x < key j) → k ≡ x → key k ≤ key j
      least j (inl q) same = omega (arith, ap key q, ap key same)
      least j (inr h) same = omega (arith, ap key same)

  -- the last, which has the largest key
  record Greatest (xs : List ℕ) : Type 0 where
    last : ℕ
    is : last_in xs ≡ some last
    member : Mem last xs
    most : (j : ℕ) → Mem j xs → key j ≤ key last

  greatest : (x : ℕ) (xs : List ℕ) → Ascending key (x ∷ xs) → Greatest (x ∷ xs)
  unfolding last_in
  greatest x [] (pairs_cons a p) = record { last = x; is = refl; member = here refl; most = only }
    where
      only : (j : ℕ) → Mem j (x ∷ []) → key j ≤ key x
      only j (here e) = omega (arith, ap key e)
      only j (there m) = absurd (not_mem_nil m)
  greatest x (y ∷ ys) (pairs_cons a p) =
      let later = greatest y ys p in
      record {
        last = later.last;
        is = later.is;
        member = there later.member;
        most = λ j m. most later j (first_or_later x j a m) m;
      }
    where
      most : (g : Greatest (y ∷ ys)) (j : ℕ) → (j ≡ x) ⊎ (key x < key j) → Mem j (x ∷ y ∷ ys) → key j ≤ key g.last
      most g j (inl e) m = omega (arith, ap key e, all_mem a g.member)
      most g j (inr h) m = g.most j (not_first x j h m)

  pub last_greatest : (k : ℕ) {xs : List ℕ} → Ascending key xs → Mem k xs → ((j : ℕ) → Mem j xs → key j ≤ key k) → last_in xs ≡ some k
  last_greatest k {xs} order m most = go xs order m most
    where
      go : (ys : List ℕ) → Ascending key ys → Mem k ys → ((j : ℕ) → Mem j ys → key j ≤ key k) → last_in ys ≡ some k
      go [] o n g = absurd (not_mem_nil n)
      go (y ∷ ys) o n g =
          let top = greatest y ys o in
          top.is ∙ ap some (ascending_one top.last k o top.member n (omega (arith, top.most k n, g top.last top.member)))

  pub last_member : (k : ℕ) {xs : List ℕ} → Ascending key xs → last_in xs ≡ some k → Mem k xs × ((j : ℕ) → Mem j xs → key j ≤ key k)
  unfolding last_in
  last_member k {xs} order e = go xs order e
    where
      go : (ys : List ℕ) → Ascending key ys → last_in ys ≡ some k → Mem k ys × ((j : ℕ) → Mem j ys → key j ≤ key k)
      go [] o f = let no : ◌≡◌ {A = ℕ} 0 1 = cc in absurd (omega arith)
      go (y ∷ ys) o f =
          let top = greatest y ys o in
          let same : some top.last ≡ some k = sym top.is ∙ f in
          let is : top.last ≡ k = cc in
          rw (← is) (top.member, top.most)
