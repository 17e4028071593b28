-- `held_bytes`: one step for each return. Assumes nothing.
use mathlib.Core.Path.{◌≡◌, sym, ap, ap₂, ◌∙◌}
use mathlib.Core.Logic.{inl, inr}
use mathlib.Core.Option.{none, some, none-ne-some}
use mathlib.Core.List.{List, [], ◌∷◌, ◌++◌, map}
use Prim.Native.Nat.{ℕ, ◌+◌, ◌-◌, ◌≤◌, ◌<◌, ◌^◌, min}
use native.Mathlib.Omega.{arith}
use lib.ListN.{length, get_or, drop}
use Rattle.lists.specs.Lists.{All, all_cons}
use Rattle.lists.proofs.Lists.{all_left, all_right, all_map, all_append, all_head, all_tail}
use Rattle.lists.proofs.Maps.{map-append}
use Rattle.lists.proofs.Numbers.{lt_or_le}
use Rattle.history.specs.Words.{Stretch, Piece, line_of, cell_place, byte_at, differs_from, held_at}
use Rattle.history.specs.Ledger.{first_change}
use Rattle.history.proofs.Value.{byte_cell}
use Rattle.history.proofs.Comparing.{Agrees, Other, agrees_byte, Comparison, alike, apart, compared}
use Rattle.tables.specs.Columns.{column, piece_offset, piece_owner}
use Rattle.tables.specs.Sums.{plus_up_to}
use Rattle.merge_set.specs.Table.{first_at}
use Rattle.piece_table.specs.Piece.{PieceRow, read_at, piece_at, Filled, Follow}
use Rattle.piece_table.specs.Rep.{Linked}
use Rattle.piece_table.specs.Calls.{end_at}
use Rattle.piece_table.specs.Shown.{shown, Stored}
use Rattle.piece_table.proofs.Order.{follow_from, follow_right}
use Rattle.piece_table.proofs.Parts.{Left}
use Rattle.piece_table.proofs.Showing.{shown-size}
use Rattle.piece_table.proofs.Cells.{Misses, byte_some}
use Rattle.piece_table.specs.declared.Piece.{Piece as CodePiece}
use Rattle.comparison.specs.Comparison.{Compared}
use Rattle.std.specs.Prelude.{Some, None}
use Rattle.survey.specs.Survey.{Matched, Lowest, HeldBytes}
use Rattle.survey.proofs.Holding.{held_none, held_one}
use Rattle.survey.proofs.Changing.{has-none, has_same, has_other, change_here, change_run, matched_moved}

-- the pieces around a link
module _ {t : List ℕ} (link : ℕ) (xs ys : List ℕ) (r : Linked t (xs ++ link ∷ ys)) where
  around : map (piece_at t) (xs ++ link ∷ ys) ≡ map (piece_at t) xs ++ piece_at t link ∷ map (piece_at t) ys
  around = map-append (piece_at t) xs (link ∷ ys)

  whole : Filled (piece_at t link)
  whole = (follow_from 0 (map (piece_at t) xs) (piece_at t link) (map (piece_at t) ys) (rw around at r.order)).0

  after : Follow (end_at t link) (map (piece_at t) ys)
  after = (follow_from 0 (map (piece_at t) xs) (piece_at t link) (map (piece_at t) ys) (rw around at r.order)).1

  -- a cell from the place on, below the end of the link's piece, is held by no other
  misses_left : (place cell : ℕ) → place ≤ cell → Left place (map (piece_at t) xs) → All (Misses cell) (map (piece_at t) xs)
  misses_left place cell h l = all_map (λ p k. inl (omega arith)) l

  misses_right : (cell : ℕ) → cell < end_at t link → All (Misses cell) (map (piece_at t) ys)
  misses_right cell h = all_map (λ p k. inr (omega arith)) (follow_right (end_at t link) (end_at t link) (map (piece_at t) ys) (omega arith) after)

-- the lowest piece that ends past the place, and the cells from there on
module _ (t store bytes : List ℕ) (link first place next same : ℕ) (at : first + same ≡ place) (xs ys : List ℕ) (low : Lowest t store bytes link first place next xs ys) where
  abbrev its : Stretch
  its = (shown store (piece_at t link)).stretch

  abbrev board : List Piece
  board = map (shown store) (map (piece_at t) (xs ++ link ∷ ys))

  others : All (Stored store) (map (piece_at t) xs ++ piece_at t link ∷ map (piece_at t) ys)
  others = rw (around link xs ys low.linked) at low.stored

  has_bytes : Stored store (piece_at t link)
  has_bytes = all_head (all_right (map (piece_at t) xs) (piece_at t link ∷ map (piece_at t) ys) others)

  -- a cell in front of the piece is held by none
  ahead : place < first_at t link → held_at (first + same) board ≡ []
  ahead h =
      held_none store (first + same) low.stored
      (rw (around link xs ys low.linked)
      (all_append (misses_left link xs ys low.linked place (first + same) (omega arith) low.left) (all_cons {x = piece_at t link} (inr (omega arith)) (misses_right link xs ys low.linked (first + same) (omega (arith, low.past))))))

  module _ (from : first_at t link ≤ place) where
    -- the byte that it has for one of its cells, which no other piece has
    abbrev byte : (k : ℕ) → ℕ
    byte k = get_or store (column t link piece_offset + (first + k - first_at t link)) 0

    its_byte : (k : ℕ) → same ≤ k → first + k < end_at t link → byte_at (first + k) its ≡ some (byte k)
    its_byte k lo hi = byte_some store (first + k) (piece_at t link) has_bytes (omega arith) hi

    held : (k : ℕ) → same ≤ k → first + k < end_at t link → held_at (first + k) board ≡ byte k ∷ []
    held k lo hi =
        ap (λ (z : List PieceRow). held_at (first + k) (map (shown store) z)) (around link xs ys low.linked)
        ∙ held_one store (first + k) (map (piece_at t) xs) (piece_at t link) (map (piece_at t) ys) (all_left (map (piece_at t) xs) (piece_at t link ∷ map (piece_at t) ys) others) has_bytes
        (all_tail (all_right (map (piece_at t) xs) (piece_at t link ∷ map (piece_at t) ys) others)) (misses_left link xs ys low.linked place (first + k) (omega arith) low.left) (misses_right link xs ys low.linked (first + k) hi) (omega arith) hi

    -- its cells with the operation's bytes are no change
    held_alike : Matched board first bytes place same → (n : ℕ) → same ≤ n → n ≤ length bytes → first + n ≤ end_at t link → ((k : ℕ) → k < n → Agrees its (first + k) (get_or bytes k 0))
        → first_change board first bytes ≡ first_change board (first + n) (drop n bytes)
    held_alike m n lo small hi f =
        let z : same + (n - same) ≡ n = omega arith in
        m.rest
        ∙ rw z at (change_run board first bytes same (n - same) (omega arith)
        (λ k h. has_same (held (same + k) (omega arith) (omega arith)) (agrees_byte its (first + (same + k)) (f (same + k) (omega arith)) (its_byte (same + k) (omega arith) (omega arith)))))

    -- a cell that differs is one from the place on
    in-piece : (n : ℕ) → Other its (first + n) (get_or bytes n 0) → (same ≤ n) × (first + n < end_at t link)
    in-piece n o =
        let c = byte_cell (first + n) its o.x o.has in
        (elim low.clean [ inl z ↦ omega arith | inr z ↦ omega (arith, c.from) ], omega (arith, c.below, shown-size store (piece_at t link) has_bytes))

    held-apart : Matched board first bytes place same → (n : ℕ) → n < length bytes → ((k : ℕ) → k < n → Agrees its (first + k) (get_or bytes k 0)) → Other its (first + n) (get_or bytes n 0)
        → Matched board first bytes next n
    held-apart m n h f o =
        let c : (same ≤ n) × (first + n < end_at t link) = in-piece n o in
        let other : get_or bytes n 0 ≡ byte n → ⊥ = λ e. o.other (e ∙ some_byte (sym (its_byte n c.0 c.1) ∙ o.has)) in
        record {
          small = omega arith;
          rest = held_alike m n c.0 (omega arith) (omega (arith, c.1)) f;
          stops = inr (inr (change_here board first bytes n h (has_other (held n c.0 c.1) other)));
        }
      where
        some_byte : {x y : ℕ} → some x ≡ some y → x ≡ y
        some_byte e = cc

    held_all : Matched board first bytes place same → (n : ℕ) → n ≡ min (next - first) (length bytes) → ((k : ℕ) → k < length bytes → Agrees its (first + k) (get_or bytes k 0)) → Matched board first bytes next n
    held_all m n e f =
        let small : n ≤ length bytes = omega arith in
        record {
          small = small;
          rest = held_alike m n (omega (arith, low.past, low.ends, low.within)) small (omega (arith, low.past, low.ends)) (λ k h. f k (omega arith));
          stops = elim (lt_or_le (next - first) (length bytes)) [ inl h ↦ inl (omega (arith, low.past, low.ends)) | inr h ↦ inr (inl (omega arith)) ];
        }

-- ── `held_bytes` ──

-- cells of one kind, and their places
at_place : (line first place same : ℕ) → first ≤ place → place - first ≡ same → line + first + same ≡ line + place
at_place line first place same from is = omega arith

distance : (line a b : ℕ) → a - b ≡ line + a - (line + b)
distance line a b = omega arith

on_one : (t : List ℕ) (link kind : ℕ) {p : CodePiece} → p ≡ read_at t link → column t link piece_owner ≡ kind → first_at t link ≡ cell_place kind p.first
on_one t link kind ep own = ap₂ cell_place own (sym (ap (λ (q : CodePiece). q.first) ep))

-- what a step is to show, where the row of the link holds the piece
abbrev Step : (store bytes : List ℕ) (p : CodePiece) (kind first place same out : ℕ) → Type 0
Step store bytes p kind first place same out =
    (t : List ℕ) (link next : ℕ) (xs ys : List ℕ) → p ≡ read_at t link → column t link piece_owner ≡ kind → first + length bytes < 2 ^ 64
    → Lowest t store bytes link (cell_place kind first) (cell_place kind place) (cell_place kind next) xs ys
    → Matched (map (shown store) (map (piece_at t) (xs ++ link ∷ ys))) (cell_place kind first) bytes (cell_place kind place) same
    → Matched (map (shown store) (map (piece_at t) (xs ++ link ∷ ys))) (cell_place kind first) bytes (cell_place kind next) out

module _ {store bytes : List ℕ} {p : CodePiece} {kind first place same : ℕ} where
  pub held_bytes_before : place < first → HeldBytes store bytes p kind first place same same
  held_bytes_before h = record { says = λ t link next xs ys ep own near low m. matched_moved m (λ e. omega arith) }

  pub held_bytes_found : (place - first ≡ same → ⊥) → HeldBytes store bytes p kind first place same same
  held_bytes_found h = record { says = λ t link next xs ys ep own near low m. matched_moved m (λ e. h (omega arith)) }

  module _ (from : first ≤ place) (told-at : place - first ≡ same) where
    pub held_bytes_ahead : place < p.first → HeldBytes store bytes p kind first place same same
    held_bytes_ahead h = record { says = go }
      where
        go : Step store bytes p kind first place same same
        go t link next xs ys ep own near low m =
            let h' : cell_place kind place < first_at t link = omega (arith, on_one t link kind ep own, h) in
            record {
              small = m.small;
              rest = m.rest;
              stops = inr (inr (change_here (board t store bytes link (cell_place kind first) (cell_place kind place) (cell_place kind next) same (at_place (line_of kind) first place same from told-at) xs ys low) (cell_place kind first) bytes same (omega (arith, at_place (line_of kind) first place same from told-at, low.within)) (has-none (get_or bytes same 0) (ahead t store bytes link (cell_place kind first) (cell_place kind place) (cell_place kind next) same (at_place (line_of kind) first place same from told-at) xs ys low h'))));
            }

    module _ (le : p.first ≤ place) where
      pub held_bytes_cell : {cell : ℕ} → Compared store p kind first bytes (Some cell) → HeldBytes store bytes p kind first place same (cell - first)
      held_bytes_cell {cell} cmp = record { says = go }
        where
          go : Step store bytes p kind first place same (cell - first)
          go t link next xs ys ep own near low m =
              let le' : first_at t link ≤ cell_place kind place = omega (arith, on_one t link kind ep own, le) in
              let cmp' : Compared store (read_at t link) kind first bytes (Some cell) = rw ep at cmp in
              let st : Stored store (piece_at t link) = has_bytes t store bytes link (cell_place kind first) (cell_place kind place) (cell_place kind next) same (at_place (line_of kind) first place same from told-at) xs ys low in
              view le' (cmp'.is (whole link xs ys low.linked) st near) (compared (shown store (piece_at t link)).stretch (cell_place kind first) bytes)
            where
              view : first_at t link ≤ cell_place kind place → some (cell_place kind cell) ≡ differs_from (shown store (piece_at t link)).stretch (cell_place kind first) bytes → Comparison (shown store (piece_at t link)).stretch (cell_place kind first) bytes
                  → Matched (map (shown store) (map (piece_at t) (xs ++ link ∷ ys))) (cell_place kind first) bytes (cell_place kind next) (cell - first)
              view le' told (alike none_there f) = absurd (none-ne-some (cell_place kind cell) (sym none_there ∙ sym told))
              view le' told (apart n is h f o) =
                  let c : cell_place kind cell ≡ cell_place kind first + n = let z = told ∙ is in cc in
                  let n_out : n ≡ cell - first = omega arith in
                  rw n_out at (held-apart t store bytes link (cell_place kind first) (cell_place kind place) (cell_place kind next) same (at_place (line_of kind) first place same from told-at) xs ys low le' m n h f o)

      pub held_bytes_nothing : {e : ℕ} → Compared store p kind first bytes None → e ≡ plus_up_to p.first p.size → HeldBytes store bytes p kind first place same (min (e - first) (length bytes))
      held_bytes_nothing {e} cmp ee = record { says = go }
        where
          go : Step store bytes p kind first place same (min (e - first) (length bytes))
          go t link next xs ys ep own near low m =
              let le' : first_at t link ≤ cell_place kind place = omega (arith, on_one t link kind ep own, le) in
              let cmp' : Compared store (read_at t link) kind first bytes None = rw ep at cmp in
              let ee' : e ≡ plus_up_to (read_at t link).first (read_at t link).size = rw ep at ee in
              let w : Filled (piece_at t link) = whole link xs ys low.linked in
              let st : Stored store (piece_at t link) = has_bytes t store bytes link (cell_place kind first) (cell_place kind place) (cell_place kind next) same (at_place (line_of kind) first place same from told-at) xs ys low in
              let line : line_of (column t link piece_owner) ≡ line_of kind = ap line_of own in
              let z : e ≡ next = omega (arith, ee', w.near, low.ends, line) in
              view le' z (cmp'.is w st near) (compared (shown store (piece_at t link)).stretch (cell_place kind first) bytes)
            where
              view : first_at t link ≤ cell_place kind place → e ≡ next → none ≡ differs_from (shown store (piece_at t link)).stretch (cell_place kind first) bytes → Comparison (shown store (piece_at t link)).stretch (cell_place kind first) bytes
                  → Matched (map (shown store) (map (piece_at t) (xs ++ link ∷ ys))) (cell_place kind first) bytes (cell_place kind next) (min (e - first) (length bytes))
              view le' z told (alike none_there f) =
                  held_all t store bytes link (cell_place kind first) (cell_place kind place) (cell_place kind next) same (at_place (line_of kind) first place same from told-at) xs ys low le' m (min (e - first) (length bytes))
                  (ap (λ (k : ℕ). min (k - first) (length bytes)) z ∙ ap (λ (k : ℕ). min k (length bytes)) (distance (line_of kind) next first)) f
              view le' z told (apart n is h f o) = absurd (none-ne-some (cell_place kind first + n) (told ∙ is))

-- the steps, one for each return
pub ruleset holding = (held_bytes_before, held_bytes_found, held_bytes_ahead, held_bytes_cell, held_bytes_nothing)
