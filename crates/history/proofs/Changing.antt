-- What an operation changes first, from its comparison with each piece. Assumes nothing.
use mathlib.Core.Path.{◌≡◌, refl, sym, ap, ◌∙◌, subst}
use mathlib.Core.Logic.{◌⊎◌, inl, inr}
use mathlib.Core.Bool.{Bool, true, false, cond}
use mathlib.Core.Option.{Option, none, some}
use mathlib.Core.List.{List, [], ◌∷◌, map, filter_map, Option-to_list}
use Prim.Native.Nat.{ℕ, zero, suc, ◌≤◌}
use native.Mathlib.Omega.{arith}
use lib.ListN.{length}
use borrow.Author.Tests.{eq-eqb, ne_eqb}
use Rattle.lists.specs.Lists.{All, all_nil, all_cons, Mem, here, there, pairs_nil, pairs_cons, has}
use Rattle.lists.proofs.Numbers.{eq_or_ne}
use Rattle.lists.proofs.Lists.{all_map, all_any, all_of_map}
use Rattle.lists.proofs.Maps.{map_all, filter_map_cons}
use Rattle.history.specs.Words.{Stretch, Piece, stretch_of, byte_at, is_other, differs_from, held_at}
use Rattle.history.specs.Ledger.{first_change, changed}
use Rattle.history.specs.Sound.{InOrder, is_empty}
use Rattle.history.specs.Law.{lower, lowest, first_unknown, LawOfChange}
use Rattle.history.proofs.Clip.{byte_at_low}
use Rattle.history.proofs.Value.{byte_cell}
use Rattle.history.proofs.Comparing.{differs_here, differs_later}

-- ── none below a cell ──

-- the cell, if there is one, is c or a later one
abbrev AtLeast : (c : ℕ) → Option ℕ → Type 0
AtLeast c none = Unit {0}
AtLeast c (some d) = c ≤ d

at_least-later : (c : ℕ) (x : Option ℕ) → AtLeast (suc c) x → AtLeast c x
at_least-later c none h = tt
at_least-later c (some d) h = omega arith

lower_left : (c : ℕ) (y : Option ℕ) → AtLeast c y → lower (some c) y ≡ some c
lower_left c none h = refl
lower_left c (some d) h = ap {B = Option ℕ} some (omega arith)

lower_right : (c : ℕ) (x : Option ℕ) → AtLeast c x → lower x (some c) ≡ some c
lower_right c none h = refl
lower_right c (some d) h = ap {B = Option ℕ} some (omega arith)

lower-least : (c : ℕ) (x y : Option ℕ) → AtLeast c x → AtLeast c y → AtLeast c (lower x y)
lower-least c none y a b = b
lower-least c (some d) none a b = a
lower-least c (some d) (some e) a b = omega arith

lowest-least : (c : ℕ) (x : Option ℕ) {ys : List (Option ℕ)} → AtLeast c x → All (AtLeast c) ys → AtLeast c (lowest x ys)
unfolding lowest
lowest-least c x a all_nil = a
lowest-least c x a (all_cons {x = y} {xs = ys} b bs) = lower-least c y (lowest x ys) b (lowest-least c x a bs)

lowest_first : (c : ℕ) {ys : List (Option ℕ)} → All (AtLeast c) ys → lowest (some c) ys ≡ some c
unfolding lowest
lowest_first c all_nil = refl
lowest_first c (all_cons {x = y} {xs = ys} b bs) = rw (lowest_first c bs) (lower_right c y b)

differs_least : (s : Stretch) (c : ℕ) (bs : List ℕ) → AtLeast c (differs_from s c bs)
unfolding differs_from
differs_least s c [] = tt
differs_least s c (b ∷ bs) = go (is_other b (byte_at c s)) (differs_least s (suc c) bs)
  where
    go : (x : Bool) → AtLeast (suc c) (differs_from s (suc c) bs) → AtLeast c (cond x (some c) (differs_from s (suc c) bs))
    go true h = omega arith
    go false h = at_least-later c (differs_from s (suc c) bs) h

unknown_least : (ps : List Piece) (c n : ℕ) → AtLeast c (first_unknown ps c n)
unfolding first_unknown
unknown_least ps c zero = tt
unknown_least ps c (suc n) = go (is_empty (held_at c ps)) (unknown_least ps (suc c) n)
  where
    go : (x : Bool) → AtLeast (suc c) (first_unknown ps (suc c) n) → AtLeast c (cond x (some c) (first_unknown ps (suc c) n))
    go true h = omega arith
    go false h = at_least-later c (first_unknown ps (suc c) n) h

-- ── who holds a cell ──

-- a piece without the cell gives no byte, one that has it gives its own
held-without : (c : ℕ) (p : Piece) (ps : List Piece) → byte_at c p.stretch ≡ none → held_at c (p ∷ ps) ≡ held_at c ps
unfolding held_at Option-to_list
held-without c p ps e = filter_map_cons (λ q. byte_at c q.stretch) p ps ∙ rw e

held_with : (c : ℕ) (p : Piece) (ps : List Piece) (x : ℕ) → byte_at c p.stretch ≡ some x → held_at c (p ∷ ps) ≡ x ∷ held_at c ps
unfolding held_at Option-to_list
held_with c p ps x e = filter_map_cons (λ q. byte_at c q.stretch) p ps ∙ rw e

held_nowhere : (c : ℕ) {ps : List Piece} → All (λ (p : Piece). byte_at c p.stretch ≡ none) ps → held_at c ps ≡ []
unfolding held_at filter_map
held_nowhere c all_nil = refl
held_nowhere c (all_cons {x = p} {xs = ps} e es) = held-without c p ps e ∙ held_nowhere c es

-- no piece has the cell, or just one, with its byte
data Held (c : ℕ) (ps : List Piece) : Type 0 where
  nobody : All (λ (p : Piece). byte_at c p.stretch ≡ none) ps → Held c ps
  holder : (x : ℕ) (q : Piece) → Mem q ps → byte_at c q.stretch ≡ some x → held_at c ps ≡ x ∷ []
      → All (λ (p : Piece). (byte_at c p.stretch ≡ none) ⊎ (byte_at c p.stretch ≡ some x)) ps → Held c ps

held : (c : ℕ) {ps : List Piece} → InOrder ps → Held c ps
held c pairs_nil = nobody all_nil
held c (pairs_cons {x = p} {xs = ps} after rest) = go (byte_at c p.stretch) refl (held c rest)
  where
    go : (x : Option ℕ) → byte_at c p.stretch ≡ x → Held c ps → Held c (p ∷ ps)
    go none e (nobody es) = nobody (all_cons e es)
    go none e (holder x q m w h es) = holder x q (there m) w (held-without c p ps e ∙ h) (all_cons (inl e) es)
    go (some x) e later =
        let cell = byte_cell c p.stretch x e in
        let others : All (λ (q : Piece). byte_at c q.stretch ≡ none) ps = all_map (λ q behind. byte_at_low c q.stretch (omega (arith, cell.below))) after in
        holder x p (here refl) e (held_with c p ps x e ∙ ap (λ (l : List ℕ). x ∷ l) (held_nowhere c others)) (all_cons (inr e) (all_map (λ q none_there. inl none_there) others))

-- ── a cell and its byte ──

-- what each piece says is c or a later cell
all_least : (c b : ℕ) (bs : List ℕ) (ps : List Piece) → All (AtLeast c) (map (λ (p : Piece). differs_from p.stretch c (b ∷ bs)) ps)
all_least c b bs ps =
    all_of_map {Q = AtLeast c} (λ (p : Piece). differs_from p.stretch c (b ∷ bs)) (all_any {P = λ (p : Piece). AtLeast c (differs_from p.stretch c (b ∷ bs))} ps (λ p. differs_least p.stretch c (b ∷ bs)))

-- one piece that differs at c makes c the lowest
lowest_differs : (c b x : ℕ) (bs : List ℕ) (z : Option ℕ) → AtLeast c z → (b ≡ x → ⊥) → {q : Piece} {ps : List Piece} → Mem q ps → byte_at c q.stretch ≡ some x
    → lowest z (map (λ (p : Piece). differs_from p.stretch c (b ∷ bs)) ps) ≡ some c
unfolding lowest
lowest_differs c b x bs z a n {q} (here {y = p} {ys = ps} same) e =
    let its : byte_at c p.stretch ≡ some x = subst (λ (y : Piece). byte_at c y.stretch ≡ some x) same e in
    rw (differs_here p.stretch c b x bs its n)
    (lower_left c (lowest z (map (λ (y : Piece). differs_from y.stretch c (b ∷ bs)) ps)) (lowest-least c z a (all_least c b bs ps)))
lowest_differs c b x bs z a n (there {y = p} {ys = ps} m) e =
    rw (lowest_differs c b x bs z a n m e) (lower_right c (differs_from p.stretch c (b ∷ bs)) (differs_least p.stretch c (b ∷ bs)))

lowest_nothing : (ps : List Piece) (c : ℕ) → lowest none (map (λ (p : Piece). differs_from p.stretch c []) ps) ≡ none
unfolding lowest differs_from
lowest_nothing [] c = refl
lowest_nothing (p ∷ ps) c = lowest_nothing ps c

-- ── all cells ──

change_lowest : (ps : List Piece) → InOrder ps → (c : ℕ) (bs : List ℕ)
    → first_change ps c bs ≡ lowest (first_unknown ps c (length bs)) (map (λ (p : Piece). differs_from p.stretch c bs) ps)
unfolding first_change first_unknown has
change_lowest ps order c [] = sym (lowest_nothing ps c)
change_lowest ps order c (b ∷ bs) = go (held c order) (change_lowest ps order (suc c) bs)
  where
    go : Held c ps
        → first_change ps (suc c) bs ≡ lowest (first_unknown ps (suc c) (length bs)) (map (λ (p : Piece). differs_from p.stretch (suc c) bs) ps)
        → cond (has b (held_at c ps)) (first_change ps (suc c) bs) (some c)
        ≡ lowest (cond (is_empty (held_at c ps)) (some c) (first_unknown ps (suc c) (length bs))) (map (λ (p : Piece). differs_from p.stretch c (b ∷ bs)) ps)
    go (nobody es) later = rw (held_nowhere c es) (sym (lowest_first c (all_least c b bs ps)))
    go (holder x q m e h es) later =
        elim (eq_or_ne b x) [
          | inl same ↦
              let alike : map (λ (p : Piece). differs_from p.stretch c (b ∷ bs)) ps ≡ map (λ (p : Piece). differs_from p.stretch (suc c) bs) ps =
              map_all (λ (p : Piece). differs_from p.stretch c (b ∷ bs)) (λ (p : Piece). differs_from p.stretch (suc c) bs)
              (all_map (λ p w. differs_later p.stretch c b bs (rw (← same) at w)) es) in
              rw (h, eq-eqb b x same, alike) later
          | inr n ↦ rw (h, ne_eqb b x n) (sym (lowest_differs c b x bs (first_unknown ps (suc c) (length bs)) (at_least-later c (first_unknown ps (suc c) (length bs)) (unknown_least ps (suc c) (length bs))) n m e))
        ]

pub change_law : LawOfChange
unfolding changed
change_law m order o = change_lowest m.pieces order (stretch_of o).first (stretch_of o).bytes
