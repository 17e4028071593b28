-- Laws of appending blocks: none, one after the other, the count; and what stands in the table afterwards. Assumes nothing.
use mathlib.Core.Path.{◌≡◌, refl, sym, ap, ap₂, ◌∙◌}
use mathlib.Core.Logic.{◌⊎◌, inl, inr}
use mathlib.Core.List.{List, [], ◌∷◌, ◌++◌, map}
use Prim.Native.Nat.{ℕ, zero, suc, ◌+◌, ◌*◌, ◌≤◌, ◌<◌}
use native.Mathlib.Omega.{arith}
use lib.ListN.{length, get_or, set, length-set, length-append, get_or-append}
use lib.Seq.{sets, length-sets, set-set, set-get_or, get_or-set_same, get_or-set_other, get_or-append-add}
use Rattle.lists.specs.Lists.{count_from}
use Rattle.lists.proofs.Stores.{sets-append, get_d_sets_in, get_d_sets_out, set-sets}
use Rattle.history.specs.Lent.{row_width, block_head}
use Rattle.history.specs.Words.{Block}
use Rattle.tables.specs.Columns.{block_column, block_base, head_count, block_first, block_length, block_created, block_destroyed, block_offset, block_owner}
use Rattle.block_table.specs.Blocks.{BlockRow, no_row, shown_block, block_of_row, blocks_of, SameRows, block_at, head_place, block_count}
use Rattle.block_table.specs.Appended.{block_row, block_rows, appended, Countable, WroteRow, AppendedRow}
use Rattle.block_table.proofs.Blocks.{blocks_append}

-- ── rows ──

pub block_rows-length : (ps : List BlockRow) → length (block_rows ps) ≡ row_width * length ps
unfolding block_rows
block_rows-length [] = omega arith
block_rows-length (p ∷ ps) = omega (arith, block_rows-length ps)

pub block_rows-append : (ps qs : List BlockRow) → block_rows (ps ++ qs) ≡ block_rows ps ++ block_rows qs
unfolding block_rows
block_rows-append [] qs = refl
block_rows-append (p ∷ ps) qs = rw (block_rows-append ps qs)

-- ── appending ──

pub appended-length : (ps : List BlockRow) (b : List ℕ) → length (appended ps b) ≡ length b
unfolding appended
appended-length ps b = length-set (sets b (block_at (block_count b + 1)) (block_rows ps)) (head_place head_count) (block_count b + length ps) ∙ length-sets b (block_at (block_count b + 1)) (block_rows ps)

pub appended-none : (b : List ℕ) → appended [] b ≡ b
unfolding appended block_rows
appended-none b = let e : block_count b + 0 ≡ block_count b = omega arith in rw e (set-get_or b (head_place head_count) 0)

pub appended-count : (ps : List BlockRow) (b : List ℕ) → block_head ≤ length b → block_count (appended ps b) ≡ block_count b + length ps
unfolding appended
appended-count ps b h = get_or-set_same (sets b (block_at (block_count b + 1)) (block_rows ps)) (head_place head_count) (block_count b + length ps) 0 (rw (length-sets b (block_at (block_count b + 1)) (block_rows ps)) (omega arith))

-- by a count that is known
appended_at : (ps : List BlockRow) (b : List ℕ) (n : ℕ) → block_count b ≡ n
    → appended ps b ≡ set (sets b (block_at (n + 1)) (block_rows ps)) (head_place head_count) (n + length ps)
unfolding appended
appended_at ps b n e = ap (λ (k : ℕ). set (sets b (block_at (k + 1)) (block_rows ps)) (head_place head_count) (k + length ps)) e

-- some, and then more
pub appended-append : (ps qs : List BlockRow) (b : List ℕ) → block_head ≤ length b → appended qs (appended ps b) ≡ appended (ps ++ qs) b
appended-append ps qs b h =
    let n : ℕ = block_count b in
    let c : ℕ = head_place head_count in
    let m : ℕ = n + length ps in
    let first : List ℕ = sets b (block_at (n + 1)) (block_rows ps) in
    let at : block_at (m + 1) ≡ block_at (n + 1) + length (block_rows ps) = omega (arith, block_rows-length ps) in
    let many : m + length qs ≡ n + length (ps ++ qs) = omega (arith, length-append ps qs) in
    let rows : sets first (block_at (m + 1)) (block_rows qs) ≡ sets b (block_at (n + 1)) (block_rows (ps ++ qs))
    = ap (λ (i : ℕ). sets first i (block_rows qs)) at ∙ sym (sets-append b (block_at (n + 1)) (block_rows ps) (block_rows qs)) ∙ ap (sets b (block_at (n + 1))) (sym (block_rows-append ps qs)) in
    appended_at qs (appended ps b) m (appended-count ps b h)
    ∙ ap (λ (l : List ℕ). set (sets l (block_at (m + 1)) (block_rows qs)) c (m + length qs)) (appended_at ps b n refl)
    ∙ ap (λ (l : List ℕ). set l c (m + length qs)) (set-sets first c m (block_at (m + 1)) (block_rows qs) (omega arith))
    ∙ set-set (sets first (block_at (m + 1)) (block_rows qs)) c m (m + length qs)
    ∙ ap₂ (λ (l : List ℕ) (v : ℕ). set l c v) rows many
    ∙ sym (appended_at (ps ++ qs) b n refl)

-- ── what can be counted ──

-- fewer can be counted too
pub countable_less : {b : List ℕ} {m n : ℕ} → m ≤ n → Countable b n → Countable b m
countable_less h c = record { head = c.head; fits = omega (arith, c.fits) }

-- ── what stands in the table afterwards ──

-- a column of an earlier block, or of the head but for the count, is as it was
pub appended_other : (ps : List BlockRow) (b : List ℕ) (link c : ℕ) → c < row_width → link ≤ block_count b → (link ≡ 0 → c ≡ head_count → ⊥)
    → block_column (appended ps b) link c ≡ block_column b link c
unfolding appended
appended_other ps b link c h le n =
    get_or-set_other (sets b (block_at (block_count b + 1)) (block_rows ps)) (head_place head_count) (row_width * link + (block_base + c)) (block_count b + length ps) 0 (λ e. n (omega arith) (omega arith))
    ∙ get_d_sets_out (block_rows ps) b (block_at (block_count b + 1)) (row_width * link + (block_base + c)) (inl (omega arith))

-- the rows, one after the other
rows_at : (ps : List BlockRow) (q : BlockRow) (i c : ℕ) → i < length ps → c < row_width → get_or (block_rows ps) (row_width * i + c) 0 ≡ get_or (block_row (get_or ps i q)) c 0
unfolding block_rows
rows_at [] q i c h k = absurd (omega arith)
rows_at (p ∷ ps) q zero c h k =
    let e : row_width * 0 + c ≡ c = omega arith in
    ap (λ (j : ℕ). get_or (block_row p ++ block_rows ps) j 0) e ∙ get_or-append (block_row p) (block_rows ps) 0 c (omega arith)
rows_at (p ∷ ps) q (suc i) c h k =
    let e : row_width * suc i + c ≡ length (block_row p) + (row_width * i + c) = omega arith in
    ap (λ (j : ℕ). get_or (block_row p ++ block_rows ps) j 0) e ∙ get_or-append-add (block_row p) (block_rows ps) (row_width * i + c) 0 ∙ rows_at ps q i c (omega arith) k

-- the row of the i-th new block
pub appended_row : (ps : List BlockRow) (q : BlockRow) (b : List ℕ) (i c : ℕ) → block_at (block_count b + 1 + length ps) ≤ length b → i < length ps → c < row_width
    → block_column (appended ps b) (block_count b + 1 + i) c ≡ get_or (block_row (get_or ps i q)) c 0
unfolding appended
appended_row ps q b i c room h k =
    let n : length (block_rows ps) ≡ row_width * length ps = block_rows-length ps in
    let e : row_width * (block_count b + 1 + i) + (block_base + c) ≡ block_at (block_count b + 1) + (row_width * i + c) = omega arith in
    get_or-set_other (sets b (block_at (block_count b + 1)) (block_rows ps)) (head_place head_count) (row_width * (block_count b + 1 + i) + (block_base + c)) (block_count b + length ps) 0 (λ z. omega arith)
    ∙ ap (λ (j : ℕ). get_or (sets b (block_at (block_count b + 1)) (block_rows ps)) j 0) e
    ∙ get_d_sets_in (block_rows ps) b (block_at (block_count b + 1)) (row_width * i + c) (omega arith) (omega arith)
    ∙ rows_at ps q i c h k

-- nothing changes but the rows behind the count and the count
pub appended_out : (rs : List BlockRow) (b : List ℕ) (i : ℕ) → (i ≡ head_place head_count → ⊥)
    → (i < block_at (block_count b + 1)) ⊎ (block_at (block_count b + 1 + length rs) ≤ i) → get_or (appended rs b) i 0 ≡ get_or b i 0
unfolding appended
appended_out rs b i n h =
    get_or-set_other (sets b (block_at (block_count b + 1)) (block_rows rs)) (head_place head_count) i (block_count b + length rs) 0 n
    ∙ get_d_sets_out (block_rows rs) b (block_at (block_count b + 1)) i (outside h)
  where
    outside : (i < block_at (block_count b + 1)) ⊎ (block_at (block_count b + 1 + length rs) ≤ i)
        → (i < block_at (block_count b + 1)) ⊎ (block_at (block_count b + 1) + length (block_rows rs) ≤ i)
    outside (inl k) = inl k
    outside (inr k) = inr (omega (arith, block_rows-length rs))

pub appended_kept : (rs : List BlockRow) (b : List ℕ) → SameRows b (appended rs b) (block_count b)
appended_kept rs b = record { same = λ i lo hi. appended_out rs b i (λ e. omega arith) (inl (omega arith)) }

-- ── the blocks that they stand for ──

-- a row that holds these numbers stands for their block
row_shown : (store t : List ℕ) (link : ℕ) (r : BlockRow) → ((c : ℕ) → c < row_width → block_column t link c ≡ get_or (block_row r) c 0)
    → block_of_row store t link ≡ shown_block store r
unfolding block_of_row
row_shown store t link r f =
    rw (f block_first (omega arith), f block_length (omega arith), f block_created (omega arith), f block_destroyed (omega arith), f block_offset (omega arith), f block_owner (omega arith))

-- numbered rows that stand for the blocks of a list, one after the other
rows_of : (f : ℕ → Block) (g : BlockRow → Block) (q : BlockRow) (rs : List BlockRow) (k : ℕ)
    → ((i : ℕ) → i < length rs → f (k + i) ≡ g (get_or rs i q)) → map f (count_from k (length rs)) ≡ map g rs
unfolding count_from
rows_of f g q [] k h = refl
rows_of f g q (r ∷ rs) k h =
    let z : k + 0 ≡ k = omega arith in
    ap₂ (λ (x : Block) (l : List Block). x ∷ l) (ap f (sym z) ∙ h 0 (omega arith))
    (rows_of f g q rs (suc k) (λ i l. let e : suc k + i ≡ k + suc i = omega arith in ap f e ∙ h (suc i) (omega arith)))

-- the rows appended stand for their blocks
pub appended_blocks : (store : List ℕ) (rs : List BlockRow) (b : List ℕ) → block_at (block_count b + 1 + length rs) ≤ length b
    → blocks_of store (appended rs b) (block_count b + length rs) ≡ blocks_of store b (block_count b) ++ map (shown_block store) rs
appended_blocks store rs b room =
    blocks_append store (length rs) (appended_kept rs b)
    ∙ ap (λ (l : List Block). blocks_of store b (block_count b) ++ l)
    (rows_of (block_of_row store (appended rs b)) (shown_block store) no_row rs (suc (block_count b)) (λ i h.
    let e : suc (block_count b) + i ≡ block_count b + 1 + i = omega arith in
    ap (block_of_row store (appended rs b)) e
    ∙ row_shown store (appended rs b) (block_count b + 1 + i) (get_or rs i no_row) (λ c k. appended_row rs no_row b i c room h k)))

-- ── `append` ──

pub append_done : {b b₁ b₂ : List ℕ} {link : ℕ} {p : BlockRow} → link ≡ block_count b + 1 → WroteRow b b₁ link p → b₂ ≡ set b₁ (head_place head_count) link
    → AppendedRow b b₂ p
unfolding appended block_rows
append_done e w e₂ = record { done = λ c. rw (e₂, w.is, e) }
