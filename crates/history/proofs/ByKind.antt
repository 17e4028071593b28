-- Kinds: their places on the number line, the set that opening keeps, and the blocks as one kind sees them. One proof for every kind. Assumes nothing.
use mathlib.Core.Path.{◌≡◌, refl, sym, ◌∙◌, ap, subst, fun_ext}
use mathlib.Core.Logic.{◌⊎◌, inl, inr}
use mathlib.Core.Bool.{Bool, true, false, cond, ◌&&◌, not, true≢false, false≢true}
use mathlib.Core.Option.{Option, none, some, or_else}
use mathlib.Core.List.{List, [], ◌∷◌, map, filter_map-map}
use Prim.Native.Nat.{ℕ, zero, suc, ◌+◌, ◌-◌, ◌/◌, ◌%◌, ◌^◌, ◌≤◌, ◌<◌}
use native.Mathlib.Omega.{arith}
use lib.Dec.{leb, eqb}
use lib.ListN.{length, get_or}
use borrow.Author.Tests.{eq-eqb, ne_eqb, eqb-true}
use Rattle.lists.specs.Lists.{All, all_nil, all_cons, has}
use Rattle.lists.proofs.Numbers.{bool_cases, lt_or_le, eq_or_ne, cond_same}
use Rattle.lists.proofs.Lists.{all_map, all_mem, all_at, all_of_at, pairs-map}
use Rattle.lists.proofs.Maps.{length_of_map, pairs_of_map, filter_map_all}
use Rattle.lists.proofs.Counting.{has_decides, count_from_below, has-count_from, count_from_pairs}
use Rattle.history.specs.Words.{Operation, Block, line_of, cell_place, stretch_of, cells_of, ends, byte_at, set_of, all_kinds, of_kind, own_life, only_kind, first_cell, live, life, Holds, HoldsCell}
use Rattle.history.specs.Tree.{no_block, block_at, key_in}
use Rattle.history.specs.Rules.{every, Apart}
use Rattle.history.specs.Calls.{value_at}
use Rattle.history.specs.Reads.{shows, seen}
use Rattle.history.specs.Sound.{none_of, SoundKinds, SoundStretch, SoundBlock}
use Rattle.history.proofs.RulesLaws.{every_all, all_every}
use Rattle.history.proofs.Within.{within_high}
use Rattle.history.proofs.Clip.{byte_at_in, byte_at_low, byte_at_high}
use Rattle.history.proofs.Seen.{shows-none}
use Rattle.history.proofs.FilePlaces.{those_with_all, those_with-pairs, has-those_with, those_with_ascending}

-- ── places ──

-- the places of a kind end before those of the next begin
pub line_next : (k j : ℕ) → k < j → line_of k + 2 ^ 64 ≤ line_of j
unfolding line_of
line_next k j h = omega arith

-- every place is that of a kind's cell
pub place_split : (p : ℕ) → cell_place (p / 2 ^ 64) (p % 2 ^ 64) ≡ p
unfolding line_of
place_split p = omega arith

pub cell_below : (p : ℕ) → p % 2 ^ 64 < 2 ^ 64
cell_below p = omega arith

-- the operation has a place if it is of the kind and has the cell
pub byte_place : (o : Operation) (kind c : ℕ) → o.first + length o.bytes ≤ 2 ^ 64 - 1 → c < 2 ^ 64
    → byte_at (cell_place kind c) (stretch_of o) ≡ cond (eqb o.kind kind) (byte_at c (cells_of o)) none
unfolding stretch_of
byte_place o kind c wrap low =
    elim (eq_or_ne o.kind kind) [
      | inl e ↦ rw (eq-eqb o.kind kind e) (subst (λ (k : ℕ). byte_at (cell_place k c) (stretch_of o) ≡ byte_at c (cells_of o)) e (same (lt_or_le c o.first) (lt_or_le c (ends (cells_of o)))))
      | inr e ↦ rw (ne_eqb o.kind kind e) (other e (lt_or_le kind o.kind))
    ]
  where
    same : (c < o.first) ⊎ (o.first ≤ c) → (c < ends (cells_of o)) ⊎ (ends (cells_of o) ≤ c) → byte_at (cell_place o.kind c) (stretch_of o) ≡ byte_at c (cells_of o)
    same (inl a) y = byte_at_low (cell_place o.kind c) (stretch_of o) (omega arith) ∙ sym (byte_at_low c (cells_of o) a)
    same (inr a) (inr b) = byte_at_high (cell_place o.kind c) (stretch_of o) (omega arith) ∙ sym (byte_at_high c (cells_of o) b)
    same (inr a) (inl b) =
        byte_at_in (cell_place o.kind c) (stretch_of o) (omega arith) (omega arith)
        ∙ ap (λ (i : ℕ). some (get_or o.bytes i 0)) (let z : cell_place o.kind c - cell_place o.kind o.first ≡ c - o.first = omega arith in z)
        ∙ sym (byte_at_in c (cells_of o) a b)

    other : (o.kind ≡ kind → ⊥) → (kind < o.kind) ⊎ (o.kind ≤ kind) → byte_at (cell_place kind c) (stretch_of o) ≡ none
    other n (inl a) = byte_at_low (cell_place kind c) (stretch_of o) (omega (arith, line_next kind o.kind a))
    other n (inr a) = byte_at_high (cell_place kind c) (stretch_of o) (omega (arith, line_next o.kind kind (omega arith)))

-- ── the history, by places ──

-- the byte of the newest call with a tick up to t that has the place, or none
unfoldable pub told : List Operation → (t place : ℕ) → Option ℕ
told [] t c = none
told (o ∷ h) t c = or_else (cond (leb o.tick t) (byte_at c (stretch_of o)) none) (told h t c)

-- is the value of the cell of that place, where no call wraps
pub told_value : {h : List Operation} → All (λ (o : Operation). o.first + length o.bytes ≤ 2 ^ 64 - 1) h → (kind t c : ℕ) → c < 2 ^ 64
    → told h t (cell_place kind c) ≡ value_at h kind t c
unfolding told value_at
told_value all_nil kind t c low = refl
told_value (all_cons {x = o} {xs = h} w ws) kind t c low =
    rw (byte_place o kind c w low, told_value ws kind t c low) (ap (λ (x : Option ℕ). or_else x (value_at h kind t c)) (turn (leb o.tick t) (eqb o.kind kind)))
  where
    turn : (u v : Bool) → cond u (cond v (byte_at c (cells_of o)) none) none ≡ cond (v && u) (byte_at c (cells_of o)) none
    turn u true = refl
    turn u false = cond_same u none

-- ── a block's place and its cell ──

module _ (store : List ℕ) (b : Block) (s : SoundStretch b.kind store b.stretch) (kind t c : ℕ) where
  -- a sound block that holds the place of a kind's cell is of that kind and holds the cell ..
  pub holds_cell : c < 2 ^ 64 → Holds t (cell_place kind c) b → HoldsCell kind t c b
  holds_cell low h =
      let same : b.kind ≡ kind = one_kind (eq_or_ne b.kind kind) in
      record {
        same_kind = same;
        born = h.born;
        alive = h.alive;
        from = rw same (omega (arith, h.has.from));
        below = rw same (omega (arith, h.has.below, s.from_line, ap line_of same));
      }
    where
      one_kind : (b.kind ≡ kind) ⊎ (b.kind ≡ kind → ⊥) → b.kind ≡ kind
      one_kind (inl e) = e
      one_kind (inr n) =
          elim (lt_or_le kind b.kind) [
            | inl a ↦ absurd (omega (arith, line_next kind b.kind a, s.from_line, h.has.from, h.has.below))
            | inr a ↦ absurd (omega (arith, line_next b.kind kind (omega arith), s.no_wrap, h.has.below))
          ]

  -- .. and the other way round
  pub cell_holds : HoldsCell kind t c b → Holds t (cell_place kind c) b
  cell_holds h =
      let same = ap line_of h.same_kind in
      record { born = h.born; alive = h.alive; has = record { from = omega (arith, h.from, s.from_line); below = omega (arith, h.below, s.from_line) } }

  -- it has no cell past 2^64 − 1
  pub cell_low : HoldsCell kind t c b → c < 2 ^ 64
  cell_low h = omega (arith, h.below, s.from_line, s.no_wrap)

-- ── the set of kinds ──

-- a kind that was named and is known is in the set
pub in-set : (kinds : List ℕ) (k : ℕ) → k ≤ 4 → has k kinds ≡ true → has k (set_of kinds) ≡ true
in-set kinds k low h = has-those_with kinds k all_kinds (has-count_from k 0 5 (omega arith) (omega arith)) h

pub set_sound : (kinds : List ℕ) → 0 < length kinds → All (λ kind. kind ≤ 4) kinds → SoundKinds (set_of kinds)
unfolding has
set_sound (k ∷ ks) any (all_cons p ps) = record {
  some_kind = one (set_of (k ∷ ks)) (in-set (k ∷ ks) k p (rw (eq-eqb k k refl)));
  known = those_with_all (k ∷ ks) (all_map (λ j h. omega arith) (count_from_below 0 5));
  ascending = those_with-pairs (k ∷ ks) (count_from_pairs 0 5 (λ i j a b c. b));
}
  where
    one : (xs : List ℕ) → has k xs ≡ true → 0 < length xs
    one [] h = absurd (false≢true h)
    one (x ∷ xs) h = omega arith
set_sound [] any p = absurd (omega arith)

-- the kinds of a set are known
pub kind_known : (kinds : List ℕ) (k : ℕ) → SoundKinds kinds → has k kinds ≡ true → k ≤ 4
kind_known kinds k s h = all_mem s.known ((has_decides k kinds).yes h)

-- ── the blocks as one kind sees them ──

pub own_same : (kind : ℕ) (b : Block) → b.kind ≡ kind → own_life kind b ≡ b
unfolding own_life
own_same kind b e = rw (eq-eqb b.kind kind e)

pub own-none : (kind : ℕ) → own_life kind no_block ≡ no_block
unfolding own_life
own-none kind = go (eqb 0 kind)
  where
    go : (u : Bool) → cond u no_block no_block ≡ no_block
    go true = refl
    go false = refl

-- the kind and the cells stay
pub own_kind : (kind : ℕ) (b : Block) → (own_life kind b).kind ≡ b.kind
unfolding own_life
own_kind kind b = go (of_kind kind b)
  where
    go : (u : Bool) → (cond {A = Block} u b (record { kind = b.kind; stretch = b.stretch; created = 0; destroyed = 0 })).kind ≡ b.kind
    go true = refl
    go false = refl

pub own_stretch : (kind : ℕ) (b : Block) → (own_life kind b).stretch ≡ b.stretch
unfolding own_life
own_stretch kind b = go (of_kind kind b)
  where
    go : (u : Bool) → (cond {A = Block} u b (record { kind = b.kind; stretch = b.stretch; created = 0; destroyed = 0 })).stretch ≡ b.stretch
    go true = refl
    go false = refl

-- it lives no longer
pub own-ends : (kind : ℕ) (b : Block) → (own_life kind b).destroyed ≤ b.destroyed
unfolding own_life
own-ends kind b = go (of_kind kind b)
  where
    go : (u : Bool) → (cond {A = Block} u b (record { kind = b.kind; stretch = b.stretch; created = 0; destroyed = 0 })).destroyed ≤ b.destroyed
    go true = omega arith
    go false = omega arith

-- its life goes forward
pub own_forward : (kind : ℕ) (b : Block) → b.created ≤ b.destroyed → (own_life kind b).created ≤ (own_life kind b).destroyed
unfolding own_life
own_forward kind b h = go (of_kind kind b)
  where
    dead : Block
    dead = record { kind = b.kind; stretch = b.stretch; created = 0; destroyed = 0 }

    go : (u : Bool) → (cond u b dead).created ≤ (cond u b dead).destroyed
    go true = h
    go false = omega arith

-- a block of another kind has no life
pub own_dead : (kind : ℕ) (b : Block) → of_kind kind b ≡ false → life (own_life kind b) ≡ 0
unfolding own_life
own_dead kind b e = rw e

-- what lives is of the kind
pub own-lives : (kind : ℕ) (b : Block) (t : ℕ) → t < (own_life kind b).destroyed → b.kind ≡ kind
unfolding own_life
own-lives kind b t h = go (of_kind kind b) refl h
  where
    go : (u : Bool) → of_kind kind b ≡ u → t < (cond {A = Block} u b (record { kind = b.kind; stretch = b.stretch; created = 0; destroyed = 0 })).destroyed → b.kind ≡ kind
    go true e l = eqb-true b.kind kind e
    go false e l = absurd (omega arith)

-- live for the kind: of the kind, and live
pub own-live : (kind t : ℕ) (b : Block) → live t (own_life kind b) ≡ (of_kind kind b && live t b)
unfolding own_life
own-live kind t b = go (of_kind kind b)
  where
    go : (u : Bool) → live t (cond u b (record { kind = b.kind; stretch = b.stretch; created = 0; destroyed = 0 })) ≡ (u && live t b)
    go true = refl
    go false = within_high 0 0 t (omega arith)

-- what it holds the block holds
pub own_holds : (kind t p : ℕ) (b : Block) → Holds t p (own_life kind b) → Holds t p b
own_holds kind t p b h = rw (own_same kind b (own-lives kind b t h.alive)) at h

-- the numbers stay
pub only_length : (kind : ℕ) (bs : List Block) → length (only_kind kind bs) ≡ length bs
unfolding only_kind
only_length kind bs = length_of_map (own_life kind) bs

pub only_at : (kind : ℕ) (bs : List Block) (k : ℕ) → block_at (only_kind kind bs) k ≡ own_life kind (block_at bs k)
unfolding only_kind
only_at kind bs k = go bs k
  where
    go : (bs : List Block) (k : ℕ) → get_or (map (own_life kind) bs) k no_block ≡ own_life kind (get_or bs k no_block)
    go [] k = sym (own-none kind)
    go (b ∷ bs) zero = refl
    go (b ∷ bs) (suc k) = go bs k

pub only_key : (kind : ℕ) (bs : List Block) → key_in (only_kind kind bs) ≡ key_in bs
only_key kind bs = fun_ext (λ k. ap first_cell (only_at kind bs k) ∙ rw (own_stretch kind (block_at bs k), own_kind kind (block_at bs k)))

-- where all are of the kind nothing changes
pub only_same : (kind : ℕ) {bs : List Block} → All (λ (b : Block). b.kind ≡ kind) bs → only_kind kind bs ≡ bs
unfolding only_kind
only_same kind all_nil = refl
only_same kind (all_cons {x = b} {xs = bs} p ps) = rw (own_same kind b p, only_same kind ps) refl

pub only_apart : (kind : ℕ) (bs : List Block) → Apart bs → Apart (only_kind kind bs)
unfolding only_kind
only_apart kind bs apart = pairs_of_map (own_life kind) (pairs-map (λ a b f t p x y. f t p (own_holds kind t p a x) (own_holds kind t p b y)) apart)

-- the kind's places show what they showed
pub only_seen : (kinds : List ℕ) (e : ℕ) (store : List ℕ) (kind : ℕ) {bs : List Block} → All (SoundBlock kinds e store) bs → (t c : ℕ) → c < 2 ^ 64
    → seen t (cell_place kind c) (only_kind kind bs) ≡ seen t (cell_place kind c) bs
unfolding only_kind seen
only_seen kinds e store kind {bs} sound t c low =
    filter_map-map (own_life kind) (shows t (cell_place kind c)) bs
    ∙ filter_map_all (λ b. shows t (cell_place kind c) (own_life kind b)) (shows t (cell_place kind c)) (all_map (λ b g. same b g.stretch (eq_or_ne b.kind kind)) sound)
  where
    other_line : (b : Block) → SoundStretch b.kind store b.stretch → (b.kind ≡ kind → ⊥) → c < 2 ^ 64 → byte_at (cell_place kind c) b.stretch ≡ none
    other_line b g n low =
        elim (lt_or_le kind b.kind) [
          | inl a ↦ byte_at_low (cell_place kind c) b.stretch (omega (arith, line_next kind b.kind a, g.from_line))
          | inr a ↦ byte_at_high (cell_place kind c) b.stretch (omega (arith, line_next b.kind kind (omega arith), g.no_wrap))
        ]

    same : (b : Block) → SoundStretch b.kind store b.stretch → (b.kind ≡ kind) ⊎ (b.kind ≡ kind → ⊥)
        → shows t (cell_place kind c) (own_life kind b) ≡ shows t (cell_place kind c) b
    same b g (inl e) = ap (shows t (cell_place kind c)) (own_same kind b e)
    same b g (inr n) =
        let far : byte_at (cell_place kind c) b.stretch ≡ none = other_line b g n low in
        shows-none t (cell_place kind c) (own_life kind b) (rw (own_stretch kind b) far) ∙ sym (shows-none t (cell_place kind c) b far)

-- ── one list for each set ──

-- A set is its own set, so that a set of tables stands for one ledger.
pub set_same : (kinds : List ℕ) → SoundKinds kinds → set_of kinds ≡ kinds
set_same kinds s = those_with_ascending 0 5 s.ascending (all_map (λ k h. (omega arith, omega arith)) s.known)

-- ── whether there are any ──

pub none_owned : (kind : ℕ) (bs : List Block) → ((k : ℕ) → k < length bs → (block_at bs k).kind ≡ kind → ⊥) → none_of kind bs ≡ true
none_owned kind bs other = all_every (λ b. not (of_kind kind b)) (all_of_at no_block bs (λ i h. ap not (ne_eqb (block_at bs i).kind kind (other i h))))

pub one-owned : (kind : ℕ) (bs : List Block) (k : ℕ) → k < length bs → (block_at bs k).kind ≡ kind → none_of kind bs ≡ false
one-owned kind bs k h is =
    elim (bool_cases (none_of kind bs)) [
      | inl e ↦
          let each : All (λ (b : Block). not (of_kind kind b) ≡ true) bs = every_all (λ b. not (of_kind kind b)) bs e in
          absurd (false≢true (sym (ap not (eq-eqb (block_at bs k).kind kind is)) ∙ all_at no_block each k h))
      | inr e ↦ e
    ]

pub some-owned : (kind : ℕ) (bs : List Block) → none_of kind bs ≡ false → (k : ℕ) × (k < length bs) × ((block_at bs k).kind ≡ kind)
unfolding every
some-owned kind [] e = absurd (true≢false e)
some-owned kind (b ∷ bs) e = go (of_kind kind b) refl e (some-owned kind bs)
  where
    go : (u : Bool) → of_kind kind b ≡ u → (not u && none_of kind bs) ≡ false → (none_of kind bs ≡ false → (k : ℕ) × (k < length bs) × ((block_at bs k).kind ≡ kind))
        → (k : ℕ) × (k < length (b ∷ bs)) × ((block_at (b ∷ bs) k).kind ≡ kind)
    go true q f rest = (0, omega arith, eqb-true b.kind kind q)
    go false q f rest = let r = rest f in (suc r.0, omega (arith, r.1), r.2)
