-- The tables of an index and of what is loaded of a kind's part of its file: which block a number is of, what both are refused for, and lists that are
-- handed out of both. Assumes nothing.
use mathlib.Core.Path.{◌≡◌, refl, sym, ap, ◌∙◌}
use mathlib.Core.Bool.{Bool, true, false, cond}
use mathlib.Core.List.{List, [], ◌∷◌, map}
use Prim.Native.Nat.{ℕ, ◌≤◌, ◌<◌}
use native.Mathlib.Omega.{arith}
use lib.ListN.{length, get_or, take}
use lib.Seq.{sets}
use borrow.Author.Tests.{eq-eqb, ltb-true}
use Rattle.lists.specs.Lists.{Ascending, has, count_from}
use Rattle.lists.proofs.Lists.{all_at}
use Rattle.lists.proofs.Maps.{length_of_map}
use Rattle.lists.proofs.Counting.{count_from_pairs}
use Rattle.history.specs.Words.{only_kind, own_life}
use Rattle.history.specs.Tree.{block_at, entries_in}
use Rattle.history.specs.Lent.{Lent}
use Rattle.history.specs.Ledger.{Ledger}
use Rattle.history.specs.Reads.{tree_in, block_by}
use Rattle.history.specs.Refusals.{Answer, accepted, refused, Refusal, first_of, window_refusals, neighbour_refusals}
use Rattle.history.specs.File.{written, saved_ledger}
use Rattle.history.proofs.ByKind.{only_length, only_at, own_same, own-lives}
use Rattle.history.proofs.Passing.{Passed}
use Rattle.history.proofs.FilePlaces.{those_with-has, those_with-pairs, place_in_at}
use Rattle.history.proofs.FileKept.{written_below, written_block, living-written, entered_lives}
use Rattle.layout.specs.Tables.{Tables, lengths_of}
use Rattle.layout.specs.Encodes.{Encodes}
use Rattle.layout.specs.Reads.{values_of, HandedInto}
use Rattle.spacetime_file.specs.Law.{Lives, number_in}
use Rattle.spacetime_file.proofs.Closed.{KindIn, heads_there, take-sets}

-- ── answers ──

-- the refusals do not look at what an accepted call gives
pub first_map : {A B : Type 0} (f : A → B) (rs : List Refusal) (a : A) → first_of rs (f a) ≡ values_of f (first_of rs a)
unfolding first_of
first_map f [] a = refl
first_map {A} {B} f (r ∷ rs) a = go r.holds (first_map f rs a)
  where
    go : (x : Bool) → first_of rs (f a) ≡ values_of f (first_of rs a) → cond x (refused r.number) (first_of rs (f a)) ≡ values_of f (cond x (refused r.number) (first_of rs a))
    go true e = refl
    go false e = e

pub accepted_same : {A : Type 0} {a b : A} → ◌≡◌ {A = Answer A} (accepted a) (accepted b) → a ≡ b
accepted_same e = cc

pub accepted_refused : {A : Type 0} {a : A} {n : ℕ} → ◌≡◌ {A = Answer A} (accepted a) (refused n) → ⊥
accepted_refused e = let z : ◌≡◌ {A = ℕ} 0 1 = cc in omega arith

-- an accepted call passed every refusal
pub first_accepted : {A : Type 0} (rs : List Refusal) (a b : A) → first_of rs a ≡ accepted b → Passed rs × (b ≡ a)
unfolding first_of
first_accepted [] a b e = (tt, accepted_same (sym e))
first_accepted (r ∷ rs) a b e = go r.holds refl e (first_accepted rs a b)
  where
    go : (x : Bool) → r.holds ≡ x → cond x (refused r.number) (first_of rs a) ≡ accepted b → (first_of rs a ≡ accepted b → Passed rs × (b ≡ a)) → Passed (r ∷ rs) × (b ≡ a)
    go true q e k = absurd (accepted_refused (sym e))
    go false q e k = let z = k e in ((q, z.0), z.1)

-- Of an answer with a list of numbers, and of the same with other numbers, in slices: the same values are handed out, and the same list under the other numbers.
module _ {A B : Type 0} (values : A → B) (part : A → List ℕ) (many : B → ℕ) (f : ℕ → ℕ) (renumber : A → A) (counted : (x : A) → many (values x) ≡ length (part x))
    (same : (x : A) → values (renumber x) ≡ values x) (renumbered : (x : A) → part (renumber x) ≡ map f (part x)) (out old new : List ℕ) (a b : Answer B) where
  pub list_alike : (x : Answer A) → ((y : A) → x ≡ accepted y → length (part y) ≤ length out) → HandedInto values part out old a x
      → HandedInto values part out new b (values_of renumber x) → (b ≡ a) × ((n : B) → a ≡ accepted n → take (many n) new ≡ map f (take (many n) old))
  list_alike (accepted y) fits one two =
      (two.answered ∙ ap {B = Answer B} accepted (same y) ∙ sym one.answered, λ n n_is. listed n (accepted_same (sym n_is ∙ one.answered)))
    where
      listed : (n : B) → n ≡ values y → take (many n) new ≡ map f (take (many n) old)
      listed n is =
          let room = fits y refl in
          let put : take (length (map f (part y))) (sets out 0 (map f (part y))) ≡ map f (part y) =
          take-sets (map f (part y)) out (rw (length_of_map f (part y)) room) in
          rw (is, counted y, two.left, renumbered y, one.left, take-sets (part y) out room) (rw (length_of_map f (part y)) at put)
  list_alike (refused m) fits one two = (two.answered ∙ sym one.answered, λ n n_is. absurd (accepted_refused (sym n_is ∙ one.answered)))

-- ── the index and what is loaded of a kind's part of its file ──

-- a set of one kind has it
pub one-opened : (kind : ℕ) → has kind (kind ∷ []) ≡ true
unfolding has
one-opened kind = rw (eq-eqb kind kind refl) refl

module _ {t : Tables} {l : Ledger} {kind : ℕ} (c : KindIn t l kind) where
  abbrev kept : List ℕ
  kept = written l.now.blocks (tree_in l kind)

  -- a block of the kind is as the kind sees it
  own_block : (k : ℕ) → (block_by l k).kind ≡ kind → block_at (only_kind kind l.now.blocks) k ≡ block_by l k
  own_block k same = only_at kind l.now.blocks k ∙ own_same kind (block_by l k) same

  -- and what lives there is of the kind
  own_kind : (k : ℕ) → (block_at (only_kind kind l.now.blocks) k).created < (block_at (only_kind kind l.now.blocks) k).destroyed → (block_by l k).kind ≡ kind
  own_kind k lives = own-lives kind (block_by l k) (own_life kind (block_by l k)).created (rw (only_at kind l.now.blocks k) at lives)

  same_kept : written (only_kind kind l.now.blocks) (tree_in l kind) ≡ kept
  same_kept = rw (only_length kind l.now.blocks) refl

  -- a block of the kind with a life is written
  pub lives-written : (k : ℕ) → Lives l kind k → has k kept ≡ true
  lives-written k h =
      rw same_kept at (living-written kind l.opening.end (only_kind kind l.now.blocks) (tree_in l kind) c.can k (rw (only_length kind l.now.blocks) h.number)
      (rw (own_block k h.same_kind) (omega (arith, h.ticks))))

  -- its new number is of the same block
  pub kept_block : (n : Lent) (k : ℕ) → Lives l kind k → block_by (saved_ledger n l kind) (number_in l kind k) ≡ block_by l k
  kept_block n k h = written_block l.now.blocks (tree_in l kind) k (lives-written k h)

  pub ascending : Ascending (λ k. k) kept
  ascending = those_with-pairs (entries_in (tree_in l kind)) (count_from_pairs 0 (length l.now.blocks) (λ i j a b c. b))

  -- the block that a new number is of
  pub kept_lives : (j : ℕ) → j < length kept → (k : ℕ) × Lives l kind k × (number_in l kind k ≡ j)
  kept_lives j h =
      let k = get_or kept j 0 in
      let only = only_kind kind l.now.blocks in
      let less = all_at 0 (written_below l.now.blocks (tree_in l kind)) j h in
      let listed = all_at 0 (those_with-has (entries_in (tree_in l kind)) (count_from 0 (length l.now.blocks))) j h in
      let lives : (block_at only k).created < (block_at only k).destroyed =
      ltb-true _ _ (sym (entered_lives kind l.opening.end only (tree_in l kind) c.can k (rw (only_length kind l.now.blocks) less)) ∙ listed) in
      let same = own_kind k lives in
      let ticks : (block_by l k).created < (block_by l k).destroyed = rw (own_block k same) at lives in
      (k, record { number = less; same_kind = same; ticks = omega arith }, place_in_at ascending j h)

module _ {t u : Tables} {l : Ledger} {kind : ℕ} (c : KindIn t l kind) (e : Encodes u (saved_ledger (lengths_of u) l kind)) where
  pub same_window : (tick start stop : ℕ) (x : Bool) → window_refusals (saved_ledger (lengths_of u) l kind) kind tick start stop x ≡ window_refusals l kind tick start stop x
  unfolding window_refusals
  same_window tick start stop x = rw (e.heads, heads_there c.closed, c.closed.closed, one-opened kind, c.opens) refl

  pub same_neighbours : (tick : ℕ) → neighbour_refusals (saved_ledger (lengths_of u) l kind) kind tick ≡ neighbour_refusals l kind tick
  unfolding neighbour_refusals
  same_neighbours tick = rw (e.heads, heads_there c.closed, c.closed.closed, one-opened kind, c.opens) refl
