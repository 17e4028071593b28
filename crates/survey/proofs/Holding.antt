-- Which bytes the pieces hold for a cell: that of the piece which has the cell, or none. Assumes nothing.
use mathlib.Core.Path.{◌≡◌, refl, ap, ap₂, ◌∙◌}
use mathlib.Core.Option.{Option}
use mathlib.Core.List.{List, [], ◌∷◌, ◌++◌, map, filter_map, filter_map-append, Option-to_list}
use Prim.Native.Nat.{ℕ, ◌+◌, ◌-◌, ◌≤◌, ◌<◌}
use lib.ListN.{get_or}
use Rattle.lists.specs.Lists.{All, all_nil, all_cons}
use Rattle.lists.proofs.Maps.{map-append, filter_map_cons}
use Rattle.history.specs.Words.{Piece, byte_at, held_at}
use Rattle.piece_table.specs.Piece.{PieceRow, row_end}
use Rattle.piece_table.specs.Shown.{shown, Stored}
use Rattle.piece_table.proofs.Cells.{Misses, byte_none, byte_some}

module _ (store : List ℕ) (c : ℕ) where
  held_cons : (p : PieceRow) (ps : List PieceRow) → held_at c (map (shown store) (p ∷ ps)) ≡ Option-to_list (byte_at c (shown store p).stretch) ++ held_at c (map (shown store) ps)
  unfolding held_at
  held_cons p ps = filter_map_cons (λ (q : Piece). byte_at c q.stretch) (shown store p) (map (shown store) ps)

  held-append : (ps qs : List PieceRow) → held_at c (map (shown store) (ps ++ qs)) ≡ held_at c (map (shown store) ps) ++ held_at c (map (shown store) qs)
  unfolding held_at
  held-append ps qs = ap (filter_map (λ (q : Piece). byte_at c q.stretch)) (map-append (shown store) ps qs) ∙ filter_map-append (λ (q : Piece). byte_at c q.stretch) (map (shown store) ps) (map (shown store) qs)

  -- where no piece has the cell, no byte is held
  pub held_none : {ps : List PieceRow} → All (Stored store) ps → All (Misses c) ps → held_at c (map (shown store) ps) ≡ []
  unfolding Option-to_list held_at filter_map
  held_none all_nil all_nil = refl
  held_none (all_cons {x = p} {xs = ps} s ss) (all_cons h hs) =
      held_cons p ps ∙ ap₂ (λ (o : Option ℕ) (r : List ℕ). Option-to_list o ++ r) (byte_none store c p s h) (held_none ss hs)

  -- where one has it, that one's
  pub held_one : (A : List PieceRow) (p : PieceRow) (B : List PieceRow) → All (Stored store) A → Stored store p → All (Stored store) B → All (Misses c) A → All (Misses c) B → p.first ≤ c → c < row_end p
      → held_at c (map (shown store) (A ++ p ∷ B)) ≡ get_or store (p.offset + (c - p.first)) 0 ∷ []
  unfolding Option-to_list
  held_one A p B s_a sp s_b mA mB lo hi =
      held-append A (p ∷ B)
      ∙ ap₂ (λ (l r : List ℕ). l ++ r) (held_none s_a mA)
      (held_cons p B ∙ ap₂ (λ (o : Option ℕ) (r : List ℕ). Option-to_list o ++ r) (byte_some store c p sp lo hi) (held_none s_b mB))
