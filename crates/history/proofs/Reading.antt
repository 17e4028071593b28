-- What `seen` says in words: a byte is seen where a block is live and has it; nothing is seen where no block holds the cell. Assumes nothing.
use mathlib.Core.Path.{◌≡◌, refl, sym, ◌∙◌, ap}
use mathlib.Core.Bool.{Bool, cond, true, false}
use mathlib.Core.Option.{Option, none, some, none-ne-some}
use mathlib.Core.List.{List, [], ◌∷◌, ◌++◌, Option-to_list, filter_map, nil≢cons, head-eq_of_cons-eq}
use Prim.Native.Nat.{ℕ, ◌-◌, ◌≤◌, ◌<◌}
use lib.ListN.{get_or}
use Rattle.history.specs.Words.{Holds, within, Block, ends, byte_at}
use Rattle.history.specs.Reads.{shows, seen}
use Rattle.lists.specs.Lists.{All, all_nil, all_cons, Mem, here, there}
use Rattle.lists.proofs.Lists.{mem_right}
use Rattle.history.proofs.Clip.{byte_at_in}
use Rattle.history.proofs.Within.{within_true}
use Rattle.history.proofs.Seen.{seen_cons, holds_shows}

-- a block that shows a byte holds the cell, and has that byte
pub shows_holds : (t c : ℕ) (k : Block) (b : ℕ) → shows t c k ≡ some b → Holds t c k × (byte_at c k.stretch ≡ some b)
unfolding shows byte_at
shows_holds t c k b e = live (within k.created k.destroyed t) refl e
  where
    inside : (x : Bool) → within k.stretch.first (ends k.stretch) c ≡ x → (cond x (some (get_or k.stretch.bytes (c - k.stretch.first) 0)) none) ≡ some b
        → (k.stretch.first ≤ c) × (c < ends k.stretch)
    inside true p q = within_true _ _ c p
    inside false p q = absurd (none-ne-some b q)

    live : (x : Bool) → within k.created k.destroyed t ≡ x → (cond x (byte_at c k.stretch) none) ≡ some b → Holds t c k × (byte_at c k.stretch ≡ some b)
    live true p q =
        let l = within_true k.created k.destroyed t p in
        let i = inside (within k.stretch.first (ends k.stretch) c) refl q in
        (record { born = l.0; alive = l.1; has = record { from = i.0; below = i.1 } }, q)
    live false p q = absurd (none-ne-some b q)

-- a byte is seen: a block of the list holds the cell, and has that byte there
pub seen-some : (t c b : ℕ) (ks : List Block) → seen t c ks ≡ b ∷ [] → (k : Block) × Mem k ks × Holds t c k × (byte_at c k.stretch ≡ some b)
unfolding seen filter_map Option-to_list
seen-some t c b [] e = absurd (nil≢cons e)
seen-some t c b (k ∷ ks) e = go (shows t c k) refl (sym (seen_cons t c k ks) ∙ e) (seen-some t c b ks)
  where
    go : (o : Option ℕ) → shows t c k ≡ o → Option-to_list o ++ seen t c ks ≡ b ∷ []
        → (seen t c ks ≡ b ∷ [] → (x : Block) × Mem x ks × Holds t c x × (byte_at c x.stretch ≡ some b))
        → (x : Block) × Mem x (k ∷ ks) × Holds t c x × (byte_at c x.stretch ≡ some b)
    go none p q ih = let r = ih q in (r.0, there r.1, r.2, r.3)
    go (some x) p q ih =
        let same : x ≡ b = head-eq_of_cons-eq q in
        let h = shows_holds t c k x p in
        (k, here refl, h.0, h.1 ∙ ap {B = Option ℕ} some same)

-- none is seen: no block of the list holds the cell
pub seen_none : (t c : ℕ) (ks : List Block) → seen t c ks ≡ [] → All (λ (k : Block). Holds t c k → ⊥) ks
unfolding Option-to_list
seen_none t c [] e = all_nil
seen_none t c (k ∷ ks) e = go (shows t c k) refl (sym (seen_cons t c k ks) ∙ e) (seen_none t c ks)
  where
    go : (o : Option ℕ) → shows t c k ≡ o → Option-to_list o ++ seen t c ks ≡ [] → (seen t c ks ≡ [] → All (λ (x : Block). Holds t c x → ⊥) ks) → All (λ (x : Block). Holds t c x → ⊥) (k ∷ ks)
    go none p q ih =
        all_cons (λ h. none-ne-some _ (sym p ∙ holds_shows t c k h)) (ih q)
    go (some x) p q ih = absurd (nil≢cons (sym q))

-- a block of the list that holds the cell has a byte that is seen
pub seen_holds : (t c : ℕ) (k : Block) (ks : List Block) → Mem k ks → Holds t c k → (x : ℕ) × (byte_at c k.stretch ≡ some x) × Mem x (seen t c ks)
unfolding Option-to_list
seen_holds t c k [] x'' h = elim x'' [ ]
seen_holds t c k (y ∷ ks) (here e) h =
    let x = get_or k.stretch.bytes (c - k.stretch.first) 0 in
    let shown : shows t c y ≡ some x = rw (← e) (holds_shows t c k h) in
    (x, byte_at_in c k.stretch h.has.from h.has.below, rw (seen_cons t c y ks, shown) (here refl))
seen_holds t c k (y ∷ ks) (there m) h =
    let r = seen_holds t c k ks m h in
    (r.0, r.1, rw (seen_cons t c y ks) (mem_right (Option-to_list (shows t c y)) (seen t c ks) r.2))
