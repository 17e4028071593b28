-- Lists of links: good ones, one link put in, one left out, one exchanged for another. Assumes nothing.
use mathlib.Core.List.{List, [], ◌∷◌, ◌++◌, append_assoc}
use mathlib.Core.Logic.{⊎_elim}
use mathlib.Core.Path.{◌≡◌, refl, sym, ap}
use Prim.Native.Nat.{ℕ, suc}
use native.Mathlib.Omega.{arith}
use lib.ListN.{length, length-append}
use Rattle.lists.proofs.Lists.{mem_split, mem_right, distinct_apart, distinct_left, mem_left, distinct_right}
use Rattle.lists.specs.Lists.{Mem, here, there, Distinct}
use Rattle.merge_set.specs.Table.{Good}

-- ── good lists ──

-- the only member of a list of one is its head
pub mem_one : {k x : ℕ} (ys : List ℕ) → Mem k (x ∷ []) → Mem k (x ∷ ys)
mem_one {k = k} ys (there x4) = elim x4 [ ]
mem_one ys (here e) = here e

-- a part of a good list is good
pub good_left : (xs ys : List ℕ) → Good (xs ++ ys) → Good xs
good_left xs ys g = record { distinct = distinct_left xs ys g.distinct; few = omega (arith, length-append xs ys) }

pub good_right : (xs ys : List ℕ) → Good (xs ++ ys) → Good ys
good_right xs ys g = record { distinct = distinct_right xs ys g.distinct; few = omega (arith, length-append xs ys) }

-- and shares no link with the other part
pub good-apart : {k : ℕ} (xs ys : List ℕ) → Good (xs ++ ys) → Mem k xs → Mem k ys → ⊥
good-apart xs ys g m n = distinct_apart xs ys g.distinct m n

-- ── one link put in ──

-- zs is xs with n put somewhere
pub record Put (n : ℕ) (xs zs : List ℕ) : Type 0 where
  pub front : List ℕ
  pub back : List ℕ
  pub without : xs ≡ front ++ back
  pub with_it : zs ≡ front ++ n ∷ back

-- with more links behind, and in front
pub put_left : {n : ℕ} {xs zs : List ℕ} (ys : List ℕ) → Put n xs zs → Put n (xs ++ ys) (zs ++ ys)
put_left {n} ys p =
    record {
      front = p.front;
      back = p.back ++ ys;
      without = rw p.without (append_assoc p.front p.back ys);
      with_it = rw p.with_it (append_assoc p.front (n ∷ p.back) ys);
    }

pub put_right : {n : ℕ} {xs zs : List ℕ} (ws : List ℕ) → Put n xs zs → Put n (ws ++ xs) (ws ++ zs)
put_right {n} ws p =
    record {
      front = ws ++ p.front;
      back = p.back;
      without = rw p.without (sym (append_assoc ws p.front p.back));
      with_it = rw p.with_it (sym (append_assoc ws p.front (n ∷ p.back)));
    }

-- a link that is there stands somewhere
pub found : {k : ℕ} (xs : List ℕ) → Mem k xs → (ys : List ℕ) × Put k ys xs
found {k = k} [] x' = elim x' [ ]
found {k} (x ∷ xs) (here e) = (xs, record { front = []; back = xs; without = refl; with_it = ap (λ j. j ∷ xs) (sym e) })
found {k} (x ∷ xs) (there m) = let p : (ys : List ℕ) × Put k ys xs = found xs m in (x ∷ p.0, put_right (x ∷ []) p.1)

-- with one link more
pub put_length : {n : ℕ} {xs zs : List ℕ} → Put n xs zs → length zs ≡ suc (length xs)
put_length {n} p = rw (p.without, p.with_it) (omega (arith, length-append p.front (n ∷ p.back), length-append p.front p.back))

-- moving the link to the front changes neither members nor repetition
mem_move : {k : ℕ} (n : ℕ) (ps qs : List ℕ) → Mem k (ps ++ n ∷ qs) → Mem k (n ∷ (ps ++ qs))
mem_move n [] qs m = m
mem_move n (p ∷ ps) qs (here e) = there (here e)
mem_move {k} n (p ∷ ps) qs (there m) = skip (mem_move n ps qs m)
  where
    skip : Mem k (n ∷ (ps ++ qs)) → Mem k (n ∷ p ∷ (ps ++ qs))
    skip (here e) = here e
    skip (there i) = there (there i)

mem_back : {k : ℕ} (n : ℕ) (ps qs : List ℕ) → Mem k (n ∷ (ps ++ qs)) → Mem k (ps ++ n ∷ qs)
mem_back n ps qs (here e) = mem_right ps (n ∷ qs) (here e)
mem_back n ps qs (there m) = ⊎_elim (λ i. mem_left ps (n ∷ qs) i) (λ i. mem_right ps (n ∷ qs) (there i)) (mem_split ps qs m)

-- what is put in, and what was there, are the members
pub mem_put : {n k : ℕ} {xs zs : List ℕ} → Put n xs zs → Mem k zs → Mem k (n ∷ xs)
mem_put {n} p m = rw p.without (mem_move n p.front p.back (rw p.with_it at m))

pub mem_unput : {n k : ℕ} {xs zs : List ℕ} → Put n xs zs → Mem k (n ∷ xs) → Mem k zs
mem_unput {n} p m = rw p.with_it (mem_back n p.front p.back (rw p.without at m))

distinct_move : (n : ℕ) (ps qs : List ℕ) → Distinct (n ∷ (ps ++ qs)) → Distinct (ps ++ n ∷ qs)
distinct_move n [] qs d = d
distinct_move n (p ∷ ps) qs d =
    ((λ m. other (mem_move n ps qs m)), distinct_move n ps qs ((λ m. d.0 (there m)), d.1.1))
  where
    other : Mem p (n ∷ (ps ++ qs)) → ⊥
    other (here e) = d.0 (here (sym e))
    other (there i) = d.1.0 i

distinct_back : (n : ℕ) (ps qs : List ℕ) → Distinct (ps ++ n ∷ qs) → Distinct (n ∷ (ps ++ qs))
distinct_back n [] qs d = d
distinct_back n (p ∷ ps) qs d =
    let r : Distinct (n ∷ (ps ++ qs)) = distinct_back n ps qs d.1 in
    ((λ m. other r m), ((λ m. d.0 (mem_back n ps qs (there m))), r.1))
  where
    other : Distinct (n ∷ (ps ++ qs)) → Mem n (p ∷ (ps ++ qs)) → ⊥
    other r (here e) = d.0 (mem_right ps (n ∷ qs) (here (sym e)))
    other r (there i) = r.0 i

-- with it nothing stands twice: so it was not there before
pub distinct_put : {n : ℕ} {xs zs : List ℕ} → Put n xs zs → Distinct zs → Distinct (n ∷ xs)
distinct_put {n} p d = rw p.without (distinct_back n p.front p.back (rw p.with_it at d))

-- and the number of links is the same
length_move : (n : ℕ) (ps qs : List ℕ) → length (ps ++ n ∷ qs) ≡ length (n ∷ (ps ++ qs))
length_move n ps qs = omega (arith, length-append ps (n ∷ qs), length-append ps qs)

-- put in, it leaves the list good; and so does taking it to the front
pub good_put : {n : ℕ} {xs zs : List ℕ} → Put n xs zs → Good (n ∷ xs) → Good zs
good_put {n} p g =
    let h : Good (n ∷ (p.front ++ p.back)) = rw p.without at g in
    rw p.with_it (record { distinct = distinct_move n p.front p.back h.distinct; few = rw (length_move n p.front p.back) h.few })

pub good_unput : {n : ℕ} {xs zs : List ℕ} → Put n xs zs → Good zs → Good (n ∷ xs)
good_unput {n} p g =
    let h : Good (p.front ++ n ∷ p.back) = rw p.with_it at g in
    rw p.without (record { distinct = distinct_back n p.front p.back h.distinct; few = rw (length_move n p.front p.back) at h.few })

-- ── one link left out ──

-- xs is zs, or zs without one of its links
pub data Less (xs zs : List ℕ) : Type 0 where
  all : xs ≡ zs → Less xs zs
  but : (z : ℕ) → Put z xs zs → Less xs zs

-- with more links behind, and in front
pub less_left : {xs zs : List ℕ} (ys : List ℕ) → Less xs zs → Less (xs ++ ys) (zs ++ ys)
less_left ys (all e) = all (ap (λ l. l ++ ys) e)
less_left ys (but z p) = but z (put_left ys p)

pub less_right : {xs zs : List ℕ} (ws : List ℕ) → Less xs zs → Less (ws ++ xs) (ws ++ zs)
less_right ws (all e) = all (ap (λ l. ws ++ l) e)
less_right ws (but z p) = but z (put_right ws p)

-- what is left was there, and is good
pub mem_less : {xs zs : List ℕ} {k : ℕ} → Less xs zs → Mem k xs → Mem k zs
mem_less (all e) m = rw (← e) m
mem_less (but z p) m = mem_unput p (there m)

pub good_less : {xs zs : List ℕ} → Less xs zs → Good zs → Good xs
good_less (all e) g = rw e g
good_less {xs} (but z p) g = good_right (z ∷ []) xs (good_unput p g)

-- ── one link in another's place ──

-- zs is xs with x in the place of y, or xs itself
pub data Swapped (y x : ℕ) (xs zs : List ℕ) : Type 0 where
  kept : zs ≡ xs → Swapped y x xs zs
  swap : (ps qs : List ℕ) → xs ≡ ps ++ y ∷ qs → zs ≡ ps ++ x ∷ qs → Swapped y x xs zs

-- with more links behind, and in front
pub swapped_left : {y x : ℕ} {xs zs : List ℕ} (ys : List ℕ) → Swapped y x xs zs → Swapped y x (xs ++ ys) (zs ++ ys)
swapped_left ys (kept e) = kept (ap (λ l. l ++ ys) e)
swapped_left {y} {x} ys (swap ps qs e f) = swap ps (qs ++ ys) (rw e (append_assoc ps (y ∷ qs) ys)) (rw f (append_assoc ps (x ∷ qs) ys))

pub swapped_right : {y x : ℕ} {xs zs : List ℕ} (ws : List ℕ) → Swapped y x xs zs → Swapped y x (ws ++ xs) (ws ++ zs)
swapped_right ws (kept e) = kept (ap (λ l. ws ++ l) e)
swapped_right {y} {x} ws (swap ps qs e f) = swap (ws ++ ps) qs (rw e (sym (append_assoc ws ps (y ∷ qs)))) (rw f (sym (append_assoc ws ps (x ∷ qs))))

-- between two lists
pub put_at : (n : ℕ) (ps qs : List ℕ) → Put n (ps ++ qs) (ps ++ n ∷ qs)
put_at n ps qs = record { front = ps; back = qs; without = refl; with_it = refl }

-- the members are the new link and those that were there
pub mem_swapped : {y x k : ℕ} {xs zs : List ℕ} → Swapped y x xs zs → Mem k zs → Mem k (x ∷ xs)
mem_swapped {y} {x} {k} {xs} (kept e) m = there {ys = xs} (rw (← e) m)
mem_swapped {y} {x} {k} {xs} (swap ps qs e f) m = rw e (more (mem_put (put_at x ps qs) (rw f at m)))
  where
    more : Mem k (x ∷ (ps ++ qs)) → Mem k (x ∷ (ps ++ y ∷ qs))
    more (here z) = here z
    more (there i) = there (mem_unput (put_at y ps qs) (there i))

-- and the list is good
pub good_swapped : {y x : ℕ} {xs zs : List ℕ} → Swapped y x xs zs → Good (x ∷ xs) → Good zs
good_swapped {y} {x} {xs} (kept e) g = rw e (good_right (x ∷ []) xs g)
good_swapped {y} {x} {xs} (swap ps qs e f) g =
    let h : Good (x ∷ (ps ++ y ∷ qs)) = rw e at g in
    let less : Less (x ∷ (ps ++ qs)) (x ∷ (ps ++ y ∷ qs)) = less_right (x ∷ []) (but y (put_at y ps qs)) in
    rw f (good_put (put_at x ps qs) (good_less less h))

-- zs is xs with x in the place of y
pub record Exchanged (y x : ℕ) (xs zs : List ℕ) : Type 0 where
  pub front : List ℕ
  pub back : List ℕ
  pub old : xs ≡ front ++ y ∷ back
  pub new : zs ≡ front ++ x ∷ back

pub exchanged_left : {y x : ℕ} {xs zs : List ℕ} (ys : List ℕ) → Exchanged y x xs zs → Exchanged y x (xs ++ ys) (zs ++ ys)
exchanged_left {y} {x} ys p =
    record {
      front = p.front;
      back = p.back ++ ys;
      old = rw p.old (append_assoc p.front (y ∷ p.back) ys);
      new = rw p.new (append_assoc p.front (x ∷ p.back) ys);
    }

pub exchanged_right : {y x : ℕ} {xs zs : List ℕ} (ws : List ℕ) → Exchanged y x xs zs → Exchanged y x (ws ++ xs) (ws ++ zs)
exchanged_right {y} {x} ws p =
    record {
      front = ws ++ p.front;
      back = p.back;
      old = rw p.old (sym (append_assoc ws p.front (y ∷ p.back)));
      new = rw p.new (sym (append_assoc ws p.front (x ∷ p.back)));
    }
