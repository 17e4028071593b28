-- The blocks that have a life, put one after the other: what a turn of `put_living` and of `put_blocks` adds, and a block's bytes. Assumes nothing.
use mathlib.Core.Path.{◌≡◌, refl, sym, ◌∙◌, ap}
use mathlib.Core.Bool.{Bool, true, false}
use mathlib.Core.List.{List, [], ◌∷◌, ◌++◌, map, flat_map, flatten, append_assoc, append-nil}
use Prim.Native.Nat.{ℕ, suc, ◌+◌, ◌-◌, ◌≤◌, ◌<◌}
use native.Mathlib.Numerals.{add-one}
use native.Mathlib.Omega.{arith}
use lib.ListN.{length, take, drop}
use Rattle.history.specs.Words.{line_of}
use Rattle.history.specs.File.{bytes_of, block_bytes}
use Rattle.block_table.specs.Blocks.{first_cell_at, length_at, offset_at, created_at, destroyed_at, owner_at, bytes_at, block_of_row, Stored}
use Rattle.block_table.proofs.Blocks.{bytes_length}
use Rattle.lists.specs.Puts.{Put}
use Rattle.file_put.specs.Living.{lives_at, lives, living}
use Rattle.file_put.specs.Parts.{row_bytes, PutBlock, PutBlocks}
use Rattle.lists.proofs.Puts.{put_none, put_append, put_same}

-- ── lists ──

module _ {A : Type 0} where
  pub flat_map_append : (f : A → List ℕ) (xs ys : List A) → flat_map f (xs ++ ys) ≡ flat_map f xs ++ flat_map f ys
  unfolding flat_map
  flat_map_append f [] ys = refl
  flat_map_append f (x ∷ xs) ys = rw (flat_map_append f xs ys, append_assoc (f x) (flat_map f xs) (flat_map f ys))

  pub flat_map_map : (f : A → List ℕ) (g : ℕ → A) (ks : List ℕ) → flat_map f (map g ks) ≡ flat_map (λ k. f (g k)) ks
  unfolding flat_map
  flat_map_map f g [] = refl
  flat_map_map f g (k ∷ ks) = ap (λ (r : List ℕ). f (g k) ++ r) (flat_map_map f g ks)

  pub flat_map_one : (f : A → List ℕ) (x : A) → flat_map f (x ∷ []) ≡ f x
  unfolding flat_map
  flat_map_one f x = append-nil (f x)

-- ── one block more ──

module _ (blocks : List ℕ) (kind n : ℕ) (t : Bool) (e : t ≡ lives_at blocks kind (n + 1)) where
  pub told : t ≡ lives blocks kind n
  told = rw (add-one n) at e

  pub living-one : t ≡ true → living blocks kind (n + 1) ≡ living blocks kind n ++ n ∷ []
  unfolding living
  living-one y = rw (add-one n, sym told ∙ y)

  pub living-none : t ≡ false → living blocks kind (n + 1) ≡ living blocks kind n
  unfolding living
  living-none y = rw (add-one n, sym told ∙ y) (append-nil (living blocks kind n))

  -- what is put of each that lives
  module _ (f : ℕ → List ℕ) (out o : List ℕ) (at next : ℕ) (a : Put out at (flat_map f (living blocks kind n)) o next) where
    lay_one : t ≡ true → {o' : List ℕ} {next' : ℕ} → Put o next (f n) o' next' → Put out at (flat_map f (living blocks kind (n + 1))) o' next'
    lay_one y b =
        put_same (sym (ap (flat_map f) (living-one y) ∙ flat_map_append f (living blocks kind n) (n ∷ []) ∙ ap (λ (r : List ℕ). flat_map f (living blocks kind n) ++ r) (flat_map_one f n)))
        (put_append a b)

    lay_none : t ≡ false → Put out at (flat_map f (living blocks kind (n + 1))) o next
    lay_none y = rw (living-none y) a

lay_start : (f : ℕ → List ℕ) (blocks out : List ℕ) (kind at : ℕ) → Put out at (flat_map f (living blocks kind 0)) out at
unfolding living flat_map
lay_start f blocks out kind at = put_none out at

-- ── the list of numbers: the turns of `put_living` ──

-- the numbers of those of the first n that have a life are put
unfoldable pub ListedTo : (blocks : List ℕ) (kind : ℕ) (out : List ℕ) (at n : ℕ) (o : List ℕ) (next : ℕ) → Type 0
ListedTo blocks kind out at n o next = Put out at (flat_map (bytes_of 8) (living blocks kind n)) o next

pub list_start : (blocks : List ℕ) (kind : ℕ) (out : List ℕ) (at : ℕ) → ListedTo blocks kind out at 0 out at
unfolding ListedTo
list_start blocks kind out at = lay_start (bytes_of 8) blocks out kind at

pub list_one : (blocks : List ℕ) (kind : ℕ) (out o o' : List ℕ) (at n next next' : ℕ) (t : Bool) → ListedTo blocks kind out at n o next
    → t ≡ lives_at blocks kind (n + 1) → t ≡ true → Put o next (bytes_of 8 n) o' next'
    → ListedTo blocks kind out at (n + 1) o' next'
unfolding ListedTo
list_one blocks kind out o o' at n next next' t a e y b = lay_one blocks kind n t e (bytes_of 8) out o at next a y b

pub list_none : (blocks : List ℕ) (kind : ℕ) (out o : List ℕ) (at n next : ℕ) (t : Bool) → ListedTo blocks kind out at n o next
    → t ≡ lives_at blocks kind (n + 1) → t ≡ false → ListedTo blocks kind out at (n + 1) o next
unfolding ListedTo
list_none blocks kind out o at n next t a e y = lay_none blocks kind n t e (bytes_of 8) out o at next a y

pub list_all : (blocks : List ℕ) (kind : ℕ) (out o : List ℕ) (at n count next : ℕ) → ListedTo blocks kind out at n o next → n ≤ count → count ≤ n
    → Put out at (flat_map (bytes_of 8) (living blocks kind count)) o next
unfolding ListedTo
list_all blocks kind out o at n count next a h g =
    let e : n ≡ count = omega arith in
    rw e at a

pub ruleset listing = (list_start, list_one, list_none, arith)

-- ── a block ──

pub block_parts : (store blocks : List ℕ) (link : ℕ) → offset_at blocks link + length_at blocks link ≤ length store
    → block_bytes (block_of_row store blocks link)
    ≡ row_bytes (owner_at blocks link) (first_cell_at blocks link) (length_at blocks link) (created_at blocks link) (destroyed_at blocks link) ++ bytes_at store blocks link
unfolding block_bytes block_of_row flatten
block_parts store blocks link h =
    let cell : line_of (owner_at blocks link) + first_cell_at blocks link - line_of (owner_at blocks link) ≡ first_cell_at blocks link = omega arith in
    rw (cell, bytes_length store blocks link h) (simp (append_assoc, append-nil))

pub put_block_long : (store blocks out : List ℕ) (link at many : ℕ) → many ≡ length_at blocks link → length store < many
    → PutBlock store blocks link out at out at
put_block_long store blocks out link at many e h = record { put = λ g. absurd (omega arith) }

pub put_block_past : (store blocks out : List ℕ) (link at many from : ℕ) → many ≡ length_at blocks link → from ≡ offset_at blocks link → many ≤ length store
    → length store - many < from → PutBlock store blocks link out at out at
put_block_past store blocks out link at many from e f g h = record { put = λ g. absurd (omega arith) }

pub put_block_whole : (store blocks out o₁ o₂ : List ℕ) (link at p₁ p₂ kind first many created destroyed from : ℕ) → kind ≡ owner_at blocks link
    → first ≡ first_cell_at blocks link → many ≡ length_at blocks link → created ≡ created_at blocks link → destroyed ≡ destroyed_at blocks link
    → from ≡ offset_at blocks link → Put out at (row_bytes kind first many created destroyed) o₁ p₁
    → Put o₁ p₁ (take (from + many - from) (drop from store)) o₂ p₂ → PutBlock store blocks link out at o₂ p₂
put_block_whole store blocks out o₁ o₂ link at p₁ p₂ kind first many created destroyed from a b c d e f row bytes =
    let k : from + many - from ≡ many = omega arith in
    record { put = λ h. rw (block_parts store blocks link h, ← a, ← b, ← c, ← d, ← e, ← f) (put_append row (rw k at bytes)) }

pub ruleset blocking = (put_block_long, put_block_past, put_block_whole, arith)

-- ── the turns of `put_blocks` ──

pub record BlocksTo (store blocks : List ℕ) (kind : ℕ) (out : List ℕ) (at n : ℕ) (o : List ℕ) (next : ℕ) : Type 0 where
  pub put : Stored (length store) blocks n → Put out at (flat_map (λ k. block_bytes (block_of_row store blocks (suc k))) (living blocks kind n)) o next

-- the bytes of fewer blocks
pub stored_fewer : {used n : ℕ} {blocks : List ℕ} (m : ℕ) → m ≤ n → Stored used blocks n → Stored used blocks m
stored_fewer m h s = record { inside = λ link a b. s.inside link a (omega arith) }

pub blocks_start : (store blocks : List ℕ) (kind : ℕ) (out : List ℕ) (at : ℕ) → BlocksTo store blocks kind out at 0 out at
blocks_start store blocks kind out at = record { put = λ s. lay_start _ blocks out kind at }

pub blocks_one : (store blocks : List ℕ) (kind : ℕ) (out o o' : List ℕ) (at n next next' : ℕ) (t : Bool) → BlocksTo store blocks kind out at n o next
    → t ≡ lives_at blocks kind (n + 1) → t ≡ true → PutBlock store blocks (n + 1) o next o' next'
    → BlocksTo store blocks kind out at (n + 1) o' next'
blocks_one store blocks kind out o o' at n next next' t a e y b =
    record {
      put = λ s.
          let one : Put o next (block_bytes (block_of_row store blocks (n + 1))) o' next' = b.put (s.inside (n + 1) (omega arith) (omega arith)) in
          lay_one blocks kind n t e _ out o at next (a.put (stored_fewer n (omega arith) s)) y (rw (add-one n) at one);
    }

pub blocks_none : (store blocks : List ℕ) (kind : ℕ) (out o : List ℕ) (at n next : ℕ) (t : Bool) → BlocksTo store blocks kind out at n o next
    → t ≡ lives_at blocks kind (n + 1) → t ≡ false → BlocksTo store blocks kind out at (n + 1) o next
blocks_none store blocks kind out o at n next t a e y = record { put = λ s. lay_none blocks kind n t e _ out o at next (a.put (stored_fewer n (omega arith) s)) y }

pub blocks_all : (store blocks : List ℕ) (kind : ℕ) (out o : List ℕ) (at n count next : ℕ) → BlocksTo store blocks kind out at n o next → n ≤ count → count ≤ n
    → PutBlocks store blocks kind count out at o next
blocks_all store blocks kind out o at n count next a h g =
    let e : n ≡ count = omega arith in
    record {
      put = λ s.
          put_same (sym (flat_map_map block_bytes (λ k. block_of_row store blocks (suc k)) (living blocks kind count)))
          (rw e at (a.put (rw (← e) at s)));
    }

pub ruleset laying = (blocks_start, blocks_one, blocks_none, blocks_all, arith)
