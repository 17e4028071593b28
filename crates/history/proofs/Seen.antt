-- What a cell shows at a tick, through clipping: the pieces below an operation, inside it and above it. Assumes nothing.
use mathlib.Core.Path.{◌≡◌, refl, sym, ◌∙◌, ap}
use mathlib.Core.Logic.{◌⊎◌, inl, inr}
use mathlib.Core.Bool.{Bool, cond, true, false, ◌&&◌}
use mathlib.Core.Option
use mathlib.Core.Option.{Option, none, some, bind}
use mathlib.Core.List.{List, [], ◌∷◌, ◌++◌, map, filter_map, filter_map-map, filter_map-filter_map, filter_map-append, Option-to_list}
use Prim.Native.Nat.{ℕ, ◌-◌, ◌≤◌, ◌<◌}
use lib.Dec.{leb, ltb}
use lib.ListN.{get_or}
use borrow.Author.Tests.{lt-ltb, le-ltb}
use Rattle.history.specs.Words.{Holds, within, Stretch, Piece, Block, ends, byte_at, clip, clip_piece, block_of, below, inside, above}
use Rattle.history.specs.Reads.{shows, seen}
use Rattle.lists.proofs.Numbers.{lt_or_le, cond_same}
use Rattle.lists.proofs.Maps.{filter_map_ext, filter_map-cond, filter_map_cons}
use Rattle.history.proofs.Within.{within_in}
use Rattle.history.proofs.Clip.{byte_at_in, byte_at_high, clip_byte}

pub seen-append : (t c : ℕ) (xs ys : List Block) → seen t c (xs ++ ys) ≡ seen t c xs ++ seen t c ys
unfolding seen
seen-append t c xs ys = filter_map-append (shows t c) xs ys

pub seen_cons : (t c : ℕ) (b : Block) (bs : List Block) → seen t c (b ∷ bs) ≡ Option-to_list (shows t c b) ++ seen t c bs
unfolding seen
seen_cons t c b bs = filter_map_cons (shows t c) b bs

-- a block shows nothing where its stretch has nothing
pub shows-none : (t c : ℕ) (b : Block) → byte_at c b.stretch ≡ none → shows t c b ≡ none
unfolding shows
shows-none t c b e = rw e (cond_same (within b.created b.destroyed t) none)

-- a block that holds a cell shows the byte that it has there
pub holds_shows : (t c : ℕ) (b : Block) → Holds t c b → shows t c b ≡ some (get_or b.stretch.bytes (c - b.stretch.first) 0)
unfolding shows
holds_shows t c b h = rw (within_in b.created b.destroyed t h.born h.alive) (byte_at_in c b.stretch h.has.from h.has.below)

-- the pieces `ps`, seen as blocks that are destroyed at D
module _ (D t c : ℕ) where
  show : Piece → Option ℕ
  show p = shows t c (block_of D p)

  clip_show : (from to : ℕ) (p : Piece) → bind (clip_piece from to p) show ≡ (cond (within from to c) (show p) none)
  unfolding show shows clip_piece bind
  clip_show from to p = go (clip from to p.stretch) (clip_byte from to p.stretch c)
    where
      -- the tick's test w, which is the same for the piece and its part
      outer : (w : Bool) (b : Option ℕ) → b ≡ (cond (within from to c) (byte_at c p.stretch) none)
          → (cond w b none) ≡ (cond (within from to c) ((cond w (byte_at c p.stretch) none)) none)
      outer true b e = e
      outer false b e = sym (cond_same (within from to c) none)

      go : (o : Option Stretch) → bind o (byte_at c) ≡ (cond (within from to c) (byte_at c p.stretch) none)
          → bind (Option.map {B = Piece} (λ (s : Stretch). record { kind = p.kind; stretch = s; written = p.written }) o) show ≡ (cond (within from to c) (show p) none)
      go none e = sym (cond_same (within p.written D t) none) ∙ outer (within p.written D t) none e
      go (some s) e = outer (within p.written D t) (byte_at c s) e

  clip_show_above : (e : ℕ) (p : Piece) → bind (clip_piece e (ends p.stretch) p) show ≡ (cond (leb e c) (show p) none)
  unfolding show
  clip_show_above e p = clip_show e (ends p.stretch) p ∙ go (lt_or_le c (ends p.stretch)) (leb e c)
    where
      go : (c < ends p.stretch) ⊎ (ends p.stretch ≤ c) → (x : Bool) → (cond (x && ltb c (ends p.stretch)) (show p) none) ≡ (cond x (show p) none)
      go y false = refl
      go (inl h) true = rw (lt-ltb c (ends p.stretch) h)
      go (inr h) true = rw (le-ltb c (ends p.stretch) h) (sym (shows-none t c (block_of D p) (byte_at_high c p.stretch h)))

  seen_clipped : (f : Piece → Option Piece) (x : Bool) (ps : List Piece) → ((p : Piece) → bind (f p) show ≡ (cond x (show p) none))
      → seen t c (map (block_of D) (filter_map f ps)) ≡ (cond x (seen t c (map (block_of D) ps)) [])
  unfolding seen show
  seen_clipped f x ps h =
      filter_map-map (block_of D) (shows t c) (filter_map f ps)
      ∙ filter_map-filter_map f show ps
      ∙ filter_map_ext ps h
      ∙ filter_map-cond x show ps
      ∙ ap (λ (r : List ℕ). cond x r []) (sym (filter_map-map (block_of D) (shows t c) ps))

  pub seen_below : (f : ℕ) (ps : List Piece) → seen t c (map (block_of D) (below f ps)) ≡ (cond (within 0 f c) (seen t c (map (block_of D) ps)) [])
  unfolding below
  seen_below f ps = seen_clipped (clip_piece 0 f) (within 0 f c) ps (clip_show 0 f)

  pub seen-inside : (f e : ℕ) (ps : List Piece) → seen t c (map (block_of D) (inside f e ps)) ≡ (cond (within f e c) (seen t c (map (block_of D) ps)) [])
  unfolding inside
  seen-inside f e ps = seen_clipped (clip_piece f e) (within f e c) ps (clip_show f e)

  pub seen-above : (e : ℕ) (ps : List Piece) → seen t c (map (block_of D) (above e ps)) ≡ (cond (leb e c) (seen t c (map (block_of D) ps)) [])
  unfolding above
  seen-above e ps = seen_clipped (λ p. clip_piece e (ends p.stretch) p) (leb e c) ps (clip_show_above e)
