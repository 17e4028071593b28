-- What a place shows is what the history tells of it: kept by a read, by an update and by finish. Assumes nothing.
use mathlib.Core.Path.{◌≡◌, refl, sym, ◌∙◌, ap, ap₂, subst}
use mathlib.Core.Logic.{◌⊎◌, inl, inr}
use mathlib.Core.Bool.{Bool, cond, true, false, ◌&&◌, ◌||◌, false≢true}
use mathlib.Core.Option.{Option, none, some, or_else, none-ne-some}
use mathlib.Core.List.{List, [], ◌∷◌, ◌++◌, map, filter_map, filter_map-map, append-nil, Option-to_list}
use Prim.Native.Nat.{ℕ, zero, suc, ◌+◌, ◌-◌, ◌≤◌, ◌<◌}
use native.Mathlib.Omega.{arith}
use native.Mathlib.Nat.{add-zero}
use lib.Dec.{leb, eqb}
use lib.ListN.{length, get_or}
use borrow.Author.Tests.{le-leb, lt-leb, lt-ltb, eqb-true}
use Rattle.history.specs.Words.{within, Operation, Piece, Block, ends, byte_at, block_of, piece_of, stretch_of, held_at}
use Rattle.history.specs.Ledger.{Opening, Moment, settled, update_by, read_by, is_read, first_change, changed, is_none}
use Rattle.lists.specs.Lists.{has}
use Rattle.history.specs.Reads.{shows, seen}
use Rattle.lists.specs.Lists.{All, all_nil, all_cons}
use Rattle.lists.proofs.Numbers.{lt_or_le, cond_same}
use Rattle.lists.proofs.Lists.{all_map}
use Rattle.lists.proofs.Maps.{map-append, filter_map_all, filter_map_none}
use Rattle.history.proofs.Within.{within_in, within_low, within_high}
use Rattle.history.proofs.Clip.{byte_at_in, byte_at_low, byte_at_high}
use Rattle.history.proofs.ByKind.{told}
use Rattle.history.proofs.Seen.{seen-append, seen_cons, shows-none, seen_below, seen-inside, seen-above}

-- ── blocks and pieces at a tick ──

-- blocks that are all destroyed show nothing
pub seen_destroyed : (t c : ℕ) (bs : List Block) → All (λ (b : Block). b.destroyed ≤ t) bs → seen t c bs ≡ []
unfolding seen shows
seen_destroyed t c bs a =
    filter_map_all (shows t c) (λ b. none) (all_map (λ b h. ap (λ (x : Bool). cond x (byte_at c b.stretch) none) (within_high b.created b.destroyed t h)) a)
    ∙ filter_map_none bs

-- pieces that are all written show what they hold, up to the tick D
pub seen-written : (D t c : ℕ) (ps : List Piece) → t < D → All (λ (p : Piece). p.written ≤ t) ps → seen t c (map (block_of D) ps) ≡ held_at c ps
unfolding seen shows held_at
seen-written D t c ps d a =
    filter_map-map (block_of D) (shows t c) ps
    ∙ filter_map_all (λ p. shows t c (block_of D p)) (λ p. byte_at c p.stretch)
    (all_map (λ p h. ap (λ (x : Bool). cond x (byte_at c p.stretch) none) (within_in p.written D t h d)) a)

-- before the tick D it does not matter which D it is
pub seen_before : (D E t c : ℕ) (ps : List Piece) → t < D → t < E → seen t c (map (block_of D) ps) ≡ seen t c (map (block_of E) ps)
unfolding seen shows
seen_before D E t c ps d e =
    filter_map-map (block_of D) (shows t c) ps
    ∙ ap (λ (x : Bool). filter_map (λ (p : Piece). cond (leb p.written t && x) (byte_at c p.stretch) none) ps) (lt-ltb t D d ∙ sym (lt-ltb t E e))
    ∙ sym (filter_map-map (block_of E) (shows t c) ps)

-- at the tick D and after it, they show nothing
pub seen-after : (D t c : ℕ) (ps : List Piece) → D ≤ t → seen t c (map (block_of D) ps) ≡ []
seen-after D t c ps d = seen_destroyed t c (map (block_of D) ps) (go ps)
  where
    go : (qs : List Piece) → All (λ (b : Block). b.destroyed ≤ t) (map (block_of D) qs)
    go [] = all_nil
    go (q ∷ qs) = all_cons d (go qs)

-- ── an update ──

module _ (a : Opening) (m : Moment) (o : Operation) (t c : ℕ) where
  -- the operation's first cell and end; the pieces as blocks that are destroyed at D; the operation's piece
  f : ℕ
  f = (stretch_of o).first

  e : ℕ
  e = ends (stretch_of o)

  P : ℕ → List ℕ
  P D = seen t c (map (block_of D) m.pieces)

  new : Block
  new = block_of a.end (piece_of o)

  seen-settled : seen t c (settled a.end m) ≡ seen t c m.blocks ++ P a.end
  unfolding settled P
  seen-settled = seen-append t c m.blocks (map (block_of a.end) m.pieces)

  seen-updated : seen t c (settled a.end (update_by m o))
      ≡ (seen t c m.blocks ++ (cond (within f e c) (P o.tick) []))
      ++ ((cond (within 0 f c) (P a.end) []) ++ (Option-to_list (shows t c new) ++ (cond (leb e c) (P a.end) [])))
  unfolding settled update_by P f e new
  seen-updated =
      simp (
        seen-append,
        map-append,
        seen_cons,
        seen-inside o.tick t c,
        seen_below a.end t c,
        seen-above a.end t c,
      )

  -- a cell left or right of the operation shows what it showed
  updated_left : c < f → seen t c (settled a.end (update_by m o)) ≡ seen t c (settled a.end m)
  unfolding new f e Option-to_list
  updated_left h =
      seen-updated
      ∙ (simp (
        within_low f e c h,
        within_in 0 f c (omega arith) h,
        lt-leb e c (omega arith),
        shows-none t c new (byte_at_low c (stretch_of o) h),
        append-nil,
      ))
      ∙ sym seen-settled

  updated_right : e ≤ c → seen t c (settled a.end (update_by m o)) ≡ seen t c (settled a.end m)
  unfolding new f e Option-to_list
  updated_right h =
      seen-updated
      ∙ (simp (
        within_high f e c h,
        within_high 0 f c (omega arith),
        le-leb e c h,
        shows-none t c new (byte_at_high c (stretch_of o) h),
        append-nil,
      ))
      ∙ sym seen-settled

  -- a cell of the operation shows before its tick what it showed
  updated_before : f ≤ c → c < e → t < o.tick → t < a.end → seen t c (settled a.end (update_by m o)) ≡ seen t c (settled a.end m)
  unfolding new shows f e P Option-to_list
  updated_before p q h h' =
      seen-updated
      ∙ (simp (
        within_in f e c p q,
        within_high 0 f c p,
        lt-leb e c q,
        within_low o.tick a.end t h,
        append-nil,
        seen_before o.tick a.end t c m.pieces h h',
      ))
      ∙ sym seen-settled

  -- and from its tick on the operation's byte alone
  updated_now : f ≤ c → c < e → o.tick ≤ t → t < a.end → All (λ (b : Block). b.destroyed ≤ t) m.blocks
      → seen t c (settled a.end (update_by m o)) ≡ Option-to_list (byte_at c (stretch_of o))
  unfolding new shows f e P Option-to_list
  updated_now p q h h' x =
      seen-updated
      ∙ (simp (
        within_in f e c p q,
        within_high 0 f c p,
        lt-leb e c q,
        within_in o.tick a.end t h h',
        append-nil,
        seen-after o.tick t c m.pieces h,
        seen_destroyed t c m.blocks x,
      ))

-- ── the history ──

-- a call that does not cover the cell, or comes after the tick, tells nothing of it
pub told_uncovered : (o : Operation) (h : List Operation) (t c : ℕ) → byte_at c (stretch_of o) ≡ none → told (o ∷ h) t c ≡ told h t c
unfolding told or_else
told_uncovered o h t c e = rw (e, cond_same)

pub told-later : (o : Operation) (h : List Operation) (t c : ℕ) → t < o.tick → told (o ∷ h) t c ≡ told h t c
unfolding told or_else
told-later o h t c p = rw (lt-leb o.tick t p)

pub told-covered : (o : Operation) (h : List Operation) (t c b : ℕ) → o.tick ≤ t → byte_at c (stretch_of o) ≡ some b → told (o ∷ h) t c ≡ some b
unfolding told or_else
told-covered o h t c b p e = rw (le-leb o.tick t p, e)

-- ── the law of cells, kept by each call ──

-- below E the blocks and pieces show what the history tells
abbrev pub Shown : Opening → Moment → List Operation → Type 0
Shown a m h = (t c : ℕ) → t < a.end → seen t c (settled a.end m) ≡ Option-to_list (told h t c)

pub shown-updated : (a : Opening) (m : Moment) (h : List Operation) (o : Operation)
    → All (λ (b : Block). b.destroyed ≤ m.last) m.blocks → m.last ≤ o.tick → Shown a m h → Shown a (update_by m o) (o ∷ h)
unfolding update_by f e Option-to_list
shown-updated a m h o old later ih t c below_end = go (lt_or_le c (stretch_of o).first) (lt_or_le c (ends (stretch_of o))) (lt_or_le t o.tick)
  where
    go : (c < (stretch_of o).first) ⊎ ((stretch_of o).first ≤ c) → (c < ends (stretch_of o)) ⊎ (ends (stretch_of o) ≤ c) → (t < o.tick) ⊎ (o.tick ≤ t)
        → seen t c (settled a.end (update_by m o)) ≡ Option-to_list (told (o ∷ h) t c)
    go (inl x) y z = updated_left a m o t c x ∙ ih t c below_end ∙ ap Option-to_list (sym (told_uncovered o h t c (byte_at_low c (stretch_of o) x)))
    go (inr x) (inr y) z = updated_right a m o t c y ∙ ih t c below_end ∙ ap Option-to_list (sym (told_uncovered o h t c (byte_at_high c (stretch_of o) y)))
    go (inr x) (inl y) (inl z) = updated_before a m o t c x y z below_end ∙ ih t c below_end ∙ ap Option-to_list (sym (told-later o h t c z))
    go (inr x) (inl y) (inr z) =
        updated_now a m o t c x y z below_end (all_map (λ b d. omega arith) old)
        ∙ ap Option-to_list (byte_at_in c (stretch_of o) x y ∙ sym (told-covered o h t c _ z (byte_at_in c (stretch_of o) x y)))

-- ── a read ──

-- a byte that is among none or one is that one
has_to_list : (b : ℕ) (x : Option ℕ) → has b (Option-to_list x) ≡ true → x ≡ some b
unfolding has Option-to_list
has_to_list b none e = let z : ◌≡◌ {A = ℕ} 0 1 = cc in absurd (omega arith)
has_to_list b (some a) e = go (eqb b a) refl e
  where
    go : (y : Bool) → eqb b a ≡ y → (y || false) ≡ true → some a ≡ some b
    go true q r = ap {B = Option ℕ} some (sym (eqb-true b a q))
    go false q r = let z : ◌≡◌ {A = ℕ} 0 1 = cc in absurd (omega arith)

-- where there is no change each cell is held with its byte, and that is enough
pub known_at : (ps : List Piece) (c : ℕ) (bs : List ℕ) → first_change ps c bs ≡ none → (i : ℕ) → i < length bs → has (get_or bs i 0) (held_at (c + i) ps) ≡ true
unfolding first_change
known_at ps c [] k i h = absurd (omega arith)
known_at ps c (b ∷ bs) k i h = go (has b (held_at c ps)) refl k i h (known_at ps (suc c) bs)
  where
    go : (x : Bool) → has b (held_at c ps) ≡ x → cond x (first_change ps (suc c) bs) (some c) ≡ none → (i : ℕ) → i < suc (length bs)
        → (first_change ps (suc c) bs ≡ none → (i : ℕ) → i < length bs → has (get_or bs i 0) (held_at (suc c + i) ps) ≡ true)
        → has (get_or (b ∷ bs) i 0) (held_at (c + i) ps) ≡ true
    go false q r i h ih = absurd (none-ne-some c (sym r))
    go true q r zero h ih = rw add-zero q
    go true q r (suc i) h ih = subst (λ (m : ℕ). has (get_or bs i 0) (held_at m ps) ≡ true) (omega arith) (ih r i (omega arith))

-- a read is where there is no change
pub read_known : (m : Moment) (o : Operation) → is_read m o ≡ true → first_change m.pieces (stretch_of o).first (stretch_of o).bytes ≡ none
unfolding changed
read_known m o = go (first_change m.pieces (stretch_of o).first (stretch_of o).bytes)
  where
    go : (x : Option ℕ) → is_none x ≡ true → x ≡ none
    go none e = refl
    go (some c) e = absurd (false≢true e)

pub shown_read : (a : Opening) (m : Moment) (h : List Operation) (o : Operation)
    → All (λ (b : Block). b.destroyed ≤ m.last) m.blocks
    → All (λ (p : Piece). p.written ≤ m.last) m.pieces
    → m.last ≤ o.tick → is_read m o ≡ true → Shown a m h → Shown a (read_by m o) (o ∷ h)
unfolding read_by settled P
shown_read a m h o old written later known ih t c below_end = ih t c below_end ∙ ap Option-to_list (sym (go (lt_or_le c (stretch_of o).first) (lt_or_le c (ends (stretch_of o))) (lt_or_le t o.tick)))
  where
    -- from the last tick on only the pieces show
    held : o.tick ≤ t → held_at c m.pieces ≡ Option-to_list (told h t c)
    held z =
        sym (
        seen-settled a m o t c
        ∙ ap₂ {C = List ℕ} (λ x y. x ++ y) (seen_destroyed t c m.blocks (all_map (λ b d. omega arith) old)) (seen-written a.end t c m.pieces below_end (all_map (λ p d. omega arith) written))
        )
        ∙ ih t c below_end

    go : (c < (stretch_of o).first) ⊎ ((stretch_of o).first ≤ c) → (c < ends (stretch_of o)) ⊎ (ends (stretch_of o) ≤ c) → (t < o.tick) ⊎ (o.tick ≤ t)
        → told (o ∷ h) t c ≡ told h t c
    go (inl x) y z = told_uncovered o h t c (byte_at_low c (stretch_of o) x)
    go (inr x) (inr y) z = told_uncovered o h t c (byte_at_high c (stretch_of o) y)
    go (inr x) (inl y) (inl z) = told-later o h t c z
    go (inr x) (inl y) (inr z) =
        told-covered o h t c _ z (byte_at_in c (stretch_of o) x y)
        ∙ sym (has_to_list _ (told h t c)
        (subst (λ (r : List ℕ). has (get_or (stretch_of o).bytes (c - (stretch_of o).first) 0) r ≡ true) (held z)
        (subst (λ (n : ℕ). has (get_or (stretch_of o).bytes (c - (stretch_of o).first) 0) (held_at n m.pieces) ≡ true) (omega arith)
        (known_at m.pieces (stretch_of o).first (stretch_of o).bytes (read_known m o known) (c - (stretch_of o).first) (omega arith)))))
