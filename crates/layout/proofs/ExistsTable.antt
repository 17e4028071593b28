-- Tables made by a rule: a list given number by number, and rows given by their links. Assumes nothing.
use mathlib.Core.Path.{◌≡◌, ap, sym, ◌∙◌}
use mathlib.Core.List.{List, ◌++◌, map}
use Prim.Native.Nat.{ℕ, zero, suc, ◌+◌, ◌-◌, ◌*◌, ◌/◌, ◌%◌, ◌^◌, ◌≤◌, ◌<◌}
use native.Mathlib.Omega.{arith}
use lib.ListN.{length, get_or, take, drop, length-drop}
use lib.Seq.{take-append-le, drop-append-le}
use Rattle.lists.proofs.Counting.{all_count_from, count_from_pairs}
use Rattle.lists.specs.Lists.{All, all_nil, all_cons, Ascending, count_from}
use Rattle.lists.proofs.Lists.{all_of_map, count_from_length, count_from_at}
use Rattle.lists.proofs.Maps.{length_of_map, get_d_of_map}
use Rattle.history.specs.Lent.{row_width}
use Rattle.history.specs.Words.{Stretch, size}
use Rattle.history.specs.Sound as sound
use Rattle.tables.specs.Columns.{column}
use Rattle.layout.specs.Law.{Word}

-- ── numbers that follow one another ──

-- they ascend
pub count_from_ascending : (n many : ℕ) → Ascending (λ k. k) (count_from n many)
count_from_ascending n many = count_from_pairs n many (λ i j a b c. b)

-- ── lists ──

-- the numbers f 0, f 1, .. of them
unfoldable pub list_by : (many : ℕ) (f : ℕ → ℕ) → List ℕ
list_by many f = map f (count_from 0 many)

-- its length, its numbers, and what holds of all of them
pub list_by_length : (many : ℕ) (f : ℕ → ℕ) → length (list_by many f) ≡ many
unfolding list_by
list_by_length many f = length_of_map f (count_from 0 many) ∙ count_from_length 0 many

pub list_by_at : (many : ℕ) (f : ℕ → ℕ) (i : ℕ) → i < many → get_or (list_by many f) i 0 ≡ f i
unfolding list_by
list_by_at many f i h =
    let z : 0 + i ≡ i = omega arith in
    get_d_of_map f (count_from 0 many) i 0 0 (omega (arith, count_from_length 0 many)) ∙ ap f (count_from_at 0 many i h ∙ z)

pub list_by_all : {P : ℕ → Type 0} (many : ℕ) (f : ℕ → ℕ) → ((i : ℕ) → i < many → P (f i)) → All P (list_by many f)
unfolding list_by
list_by_all many f g = all_of_map f (all_count_from 0 many (λ i h l. g i (omega arith)))

-- ── rows ──

-- the row of link 0 stands at the base, those of the links 1, 2, .. behind it
unfoldable pub table_by : (base many : ℕ) (row : ℕ → List ℕ) → List ℕ
table_by base many row = list_by many (λ i. get_or (row ((i - base) / row_width)) ((i - base) % row_width) 0)

-- its length, and the columns of its rows
pub table_by_length : (base many : ℕ) (row : ℕ → List ℕ) → length (table_by base many row) ≡ many
unfolding table_by
table_by_length base many row = list_by_length many (λ i. get_or (row ((i - base) / row_width)) ((i - base) % row_width) 0)

pub table_by_at : (base many : ℕ) (row : ℕ → List ℕ) (link c : ℕ) → c < row_width → base + (row_width * link + row_width) ≤ many
    → column (table_by base many row) link (base + c) ≡ get_or (row link) c 0
unfolding table_by
table_by_at base many row link c h room =
    let i = row_width * link + (base + c) in
    let a : (i - base) / row_width ≡ link = omega arith in
    let b : (i - base) % row_width ≡ c = omega arith in
    list_by_at many (λ i. get_or (row ((i - base) / row_width)) ((i - base) % row_width) 0) i (omega arith) ∙ rw (a, b)

-- ── bytes ──

-- a stretch in the used part of a store, which may go on behind it
pub part_in : (store rest : List ℕ) (s : Stretch) (h : sound.Stored store s) → take (size s) (drop h.offset (store ++ rest)) ≡ s.bytes
part_in store rest s h =
    let inside = h.inside in
    rw (drop-append-le h.offset store rest (omega arith), take-append-le (size s) (drop h.offset store) rest (omega (arith, length-drop h.offset store)))
    (sym h.bytes)

-- ── numbers of 64 bits ──

-- what holds of all elements and of the default holds of each place
pub all_get : {A : Type 0} {P : A → Type 0} (d : A) → P d → {xs : List A} → All P xs → (i : ℕ) → P (get_or xs i d)
all_get d p all_nil i = p
all_get d p (all_cons q qs) zero = q
all_get d p (all_cons q qs) (suc i) = all_get d p qs i

-- in a list of words every place reads as a word, past its end too
pub word_at : {xs : List ℕ} → All Word xs → (i : ℕ) → get_or xs i 0 < 2 ^ 64
word_at a i = all_get 0 (omega arith) a i

-- rows of words make a table of words
pub table_by_words : (base many : ℕ) (row : ℕ → List ℕ) → ((link : ℕ) → All Word (row link)) → All Word (table_by base many row)
unfolding table_by
table_by_words base many row f =
    list_by_all many (λ i. get_or (row ((i - base) / row_width)) ((i - base) % row_width) 0) (λ i h. word_at (f ((i - base) / row_width)) ((i - base) % row_width))
