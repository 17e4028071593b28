-- Clipping rows is clipping the ledger's pieces: cells and bytes move together. Assumes nothing.
use mathlib.Core.Bool.{Bool, true, false, cond}
use mathlib.Core.List.{List, ◌++◌, map, filter_map, Option-to_list}
use mathlib.Core.Option
use mathlib.Core.Option.{Option, none, some}
use mathlib.Core.Path.{◌≡◌, refl, sym, ap, ap₂, ◌∙◌}
use Prim.Native.Nat.{ℕ, ◌+◌, ◌-◌, ◌<◌, min, max}
use native.Mathlib.Omega.{arith}
use lib.Dec.{ltb}
use lib.ListN.{length, take, drop, length-drop}
use lib.Seq.{length-take-le}
use borrow.Author.Tests.{ltb-true}
use Rattle.lists.proofs.Parts.{part-part}
use Rattle.lists.proofs.Lists.{all_map}
use Rattle.lists.proofs.Maps.{filter_map_cons}
use Rattle.lists.specs.Lists.{All, all_nil, all_cons}
use Rattle.piece_table.specs.Piece.{PieceRow, row_end, part, clip_row, rows_below, rows_inside, rows_above}
use Rattle.piece_table.specs.Shown.{shown, Stored}
use Rattle.history.specs.Words.{Piece, Stretch, above, below, clip, clip_piece, ends, inside}

-- ── one piece ──

module _ (store : List ℕ) (p : PieceRow) (s : Stored store p) where
  pub shown-size : length (take p.size (drop p.offset store)) ≡ p.size
  shown-size = length-take-le p.size (drop p.offset store) (omega (arith, length-drop p.offset store, s.has))

  shown-clip : (from to : ℕ) → clip_piece from to (shown store p) ≡ Option.map (shown store) (clip_row from to p)
  unfolding clip_piece clip clip_row
  shown-clip from to = rw shown-size (go (ltb (max from p.first) (min to (row_end p))) refl)
    where
      go : (q : Bool) → ltb (max from p.first) (min to (row_end p)) ≡ q
          → Option.map {B = Piece} (λ (z : Stretch). record { kind = p.owner; stretch = z; written = p.written })
          (cond q (some (record { first = max from p.first; bytes = take (min to (row_end p) - max from p.first) (drop (max from p.first - p.first) (take p.size (drop p.offset store))) })) none)
          ≡ Option.map (shown store) (cond q (some (part (max from p.first) (min to (row_end p)) p)) none)
      go false e = refl
      go true e =
          let lt : max from p.first < min to (row_end p) = ltb-true _ _ e in
          ap {B = Option Piece} (λ (bs : List ℕ). some (record { kind = p.owner; stretch = record { first = max from p.first; bytes = bs }; written = p.written }))
          (part-part p.offset p.size (max from p.first - p.first) (min to (row_end p) - max from p.first) store (omega arith))

-- ── lists ──

map_filter_map : {A B : Type 0} (g : A → B) (f : A → Option A) (h : B → Option B) {xs : List A} → All (λ (x : A). h (g x) ≡ Option.map g (f x)) xs → filter_map h (map g xs) ≡ map g (filter_map f xs)
unfolding filter_map Option-to_list
map_filter_map g f h all_nil = refl
map_filter_map {A} {B} g f h (all_cons {x} {xs} e es) =
    filter_map_cons h (g x) (map g xs) ∙ ap₂ (λ (o : Option B) (r : List B). Option-to_list o ++ r) e (map_filter_map g f h es) ∙ go (f x) ∙ ap (map g) (sym (filter_map_cons f x xs))
  where
    go : (o : Option A) → Option-to_list (Option.map g o) ++ map g (filter_map f xs) ≡ map g (Option-to_list o ++ filter_map f xs)
    go none = refl
    go (some y) = refl

module _ (store : List ℕ) (ps : List PieceRow) (s : All (Stored store) ps) where
  pub shown-below : (f : ℕ) → below f (map (shown store) ps) ≡ map (shown store) (rows_below f ps)
  unfolding below rows_below
  shown-below f = map_filter_map (shown store) (clip_row 0 f) (clip_piece 0 f) (all_map (λ p h. shown-clip store p h 0 f) s)

  pub shown-inside : (f e : ℕ) → inside f e (map (shown store) ps) ≡ map (shown store) (rows_inside f e ps)
  unfolding inside rows_inside
  shown-inside f e = map_filter_map (shown store) (clip_row f e) (clip_piece f e) (all_map (λ p h. shown-clip store p h f e) s)

  pub shown-above : (e : ℕ) → above e (map (shown store) ps) ≡ map (shown store) (rows_above e ps)
  unfolding above rows_above
  shown-above e =
      map_filter_map (shown store) (λ p. clip_row e (row_end p) p) (λ p. clip_piece e (ends p.stretch) p)
      (all_map (λ p h. ap (λ (n : ℕ). clip_piece e (p.first + n) (shown store p)) (shown-size store p h) ∙ shown-clip store p h e (row_end p)) s)
