-- The file's size: the turns and returns of the functions of `plan`. Assumes nothing.
use mathlib.Core.Path.{◌≡◌, refl, sym, ◌∙◌, ap}
use mathlib.Core.Logic.{⊎_elim}
use mathlib.Core.Bool.{Bool, true, false, cond}
use mathlib.Core.List.{List, [], ◌∷◌, ◌++◌, map, append-nil}
use Prim.Native.Nat.{ℕ, zero, suc, ◌+◌, ◌*◌, ◌-◌, ◌≤◌, ◌<◌}
use native.Mathlib.Numerals.{add-one}
use native.Mathlib.Omega.{arith}
use lib.ListN.{length, length-append}
use borrow.Author.Tests.{le-leb, lt-leb, eq-eqb, ne_eqb}
use Rattle.lists.specs.Lists.{count_from, sum_of}
use Rattle.lists.proofs.Numbers.{le_or_lt}
use Rattle.lists.proofs.Lists.{sum-append}
use Rattle.lists.proofs.Maps.{map-append}
use Rattle.lists.proofs.Counting.{count_from_append}
use Rattle.tables.specs.Columns.{column, nodes_count}
use Rattle.block_table.specs.Blocks.{length_at}
use Rattle.segment_table.specs.Closed.{nodes_used, entries_used}
use Rattle.file_put.specs.Living.{lives_at, living, lives}
use Rattle.file_write.specs.Sizes.{blocks_size, block_count, nodes_at, part_size, parts_size, file_size, share_of, fitted}
use Rattle.std.specs.Prelude.{Option, Some, None}
use Rattle.file_put.proofs.Laying.{told, living-one, living-none}

-- ── one block more ──

module _ (blocks : List ℕ) (kind n : ℕ) (t : Bool) (e : t ≡ lives_at blocks kind (n + 1)) where
  size-one : t ≡ true → blocks_size blocks kind (n + 1) ≡ blocks_size blocks kind n + (33 + length_at blocks (n + 1))
  unfolding blocks_size
  size-one y = rw (add-one n, sym (told blocks kind n t e) ∙ y)

  size_none : t ≡ false → blocks_size blocks kind (n + 1) ≡ blocks_size blocks kind n
  unfolding blocks_size
  size_none y = rw (add-one n, sym (told blocks kind n t e) ∙ y) (omega arith)

size_step : (blocks : List ℕ) (kind n : ℕ) → blocks_size blocks kind n ≤ blocks_size blocks kind (suc n)
unfolding blocks_size
size_step blocks kind n = omega arith

-- more blocks are no shorter
size_more : (blocks : List ℕ) (kind m n : ℕ) → m ≤ n → blocks_size blocks kind m ≤ blocks_size blocks kind n
size_more blocks kind m zero h = let e : m ≡ 0 = omega arith in rw e (omega arith)
size_more blocks kind m (suc n) h =
    ⊎_elim (λ (k : m ≤ n). omega (arith, size_more blocks kind m n k, size_step blocks kind n)) (λ (k : n < m). let e : m ≡ suc n = omega arith in rw e (omega arith))
    (le_or_lt m n)

-- the list is shorter than the blocks
pub list_shorter : (blocks : List ℕ) (kind n : ℕ) → 8 * length (living blocks kind n) ≤ blocks_size blocks kind n
unfolding living blocks_size
list_shorter blocks kind zero = omega arith
list_shorter blocks kind (suc n) = go (lives blocks kind n) (list_shorter blocks kind n)
  where
    go : (t : Bool) → 8 * length (living blocks kind n) ≤ blocks_size blocks kind n
        → 8 * length (living blocks kind n ++ cond t (n ∷ []) []) ≤ blocks_size blocks kind n + cond t (33 + length_at blocks (suc n)) 0
    go true h = rw (length-append (living blocks kind n) (n ∷ [])) (omega arith)
    go false h = rw (append-nil (living blocks kind n)) (omega arith)

-- ── the turns of `measure_blocks` ──

-- those of the first n blocks go into the room: how many are of the kind and have a life, and the room behind them
pub record Measured (blocks : List ℕ) (kind room n many left : ℕ) : Type 0 where
  pub count : many ≡ length (living blocks kind n)
  pub few : many ≤ n
  pub place : nodes_at blocks kind n + left ≡ room

pub share_short : (blocks : List ℕ) (kind count room : ℕ) → room < 9 → None ≡ share_of blocks kind count room
unfolding share_of
share_short blocks kind count room h = rw (lt-leb (nodes_at blocks kind count) room (omega arith)) refl

pub share_start : (blocks : List ℕ) (kind room left : ℕ) → 9 + left ≡ room → Measured blocks kind room 0 0 left
unfolding living blocks_size
share_start blocks kind room left h = record { count = refl; few = omega arith; place = omega arith }

module _ (blocks : List ℕ) (kind room n many left : ℕ) (t : Bool) (m : Measured blocks kind room n many left)
    (e : t ≡ lives_at blocks kind (n + 1)) where
  pub share_one : (cells rest : ℕ) → t ≡ true → cells ≡ length_at blocks (n + 1) → rest + (33 + cells) ≡ left
      → Measured blocks kind room (n + 1) (many + 1) rest
  share_one cells rest y c h =
      record {
        count = rw (living-one blocks kind n t e y) (rw (length-append (living blocks kind n) (n ∷ [])) (omega (arith, m.count)));
        few = omega (arith, m.few);
        place = rw (size-one blocks kind n t e y) (omega (arith, m.place));
      }

  pub share_none : t ≡ false → Measured blocks kind room (n + 1) many left
  share_none y =
      record {
        count = rw (living-none blocks kind n t e y) m.count;
        few = omega (arith, m.few);
        place = rw (size_none blocks kind n t e y) m.place;
      }

  pub share_over : (count cells : ℕ) → t ≡ true → n < count → cells ≡ length_at blocks (n + 1) → left < 33 + cells → None ≡ share_of blocks kind count room
  unfolding share_of
  share_over count cells y less c h =
      rw (lt-leb (nodes_at blocks kind count) room (omega (arith, m.place, size-one blocks kind n t e y, size_more blocks kind (n + 1) count (omega arith)))) refl

pub share_fits : (blocks : List ℕ) (kind count room n many left : ℕ) → Measured blocks kind room n many left → n ≤ count → count ≤ n
    → Some (many, room - left) ≡ share_of blocks kind count room
unfolding share_of
share_fits blocks kind count room n many left m h g =
    let e : n ≡ count = omega arith in
    let p : room - left ≡ nodes_at blocks kind n = omega (arith, m.place) in
    rw (← e, le-leb (nodes_at blocks kind n) room (omega (arith, m.place)), ← m.count, ← p) refl

pub ruleset sharing = (share_short, share_start, share_one, share_none, share_over, share_fits, arith)

-- ── what an answer says ──

-- how many blocks a part has, and where its nodes begin
pub share_told : (blocks : List ℕ) (kind n room many next : ℕ) (r : Option (ℕ × ℕ)) → r ≡ share_of blocks kind n room → r ≡ Some (many, next)
    → (many ≡ length (living blocks kind n)) × (next ≡ nodes_at blocks kind n) × (next ≤ room)
unfolding share_of
share_told blocks kind n room many next r s f =
    ⊎_elim
    (λ (h : nodes_at blocks kind n ≤ room).
    let same : Some (many, next) ≡ Some (length (living blocks kind n), nodes_at blocks kind n) = sym f ∙ s ∙ rw (le-leb (nodes_at blocks kind n) room h) refl in
    let both : ◌≡◌ {A = ℕ × ℕ} (many, next) (length (living blocks kind n), nodes_at blocks kind n) = cc in
    let a : many ≡ length (living blocks kind n) = ap (λ (x : ℕ × ℕ). x.0) both in
    let b : next ≡ nodes_at blocks kind n = ap (λ (x : ℕ × ℕ). x.1) both in
    (a, b, omega arith))
    (λ (h : room < nodes_at blocks kind n).
    let same : Some (many, next) ≡ None = sym f ∙ s ∙ rw (lt-leb (nodes_at blocks kind n) room h) refl in
    absurd (cc))
    (le_or_lt (nodes_at blocks kind n) room)

pub share_long : (blocks : List ℕ) (kind n room : ℕ) (r : Option (ℕ × ℕ)) → r ≡ share_of blocks kind n room → r ≡ None → room < nodes_at blocks kind n
unfolding share_of
share_long blocks kind n room r s f =
    ⊎_elim
    (λ (h : nodes_at blocks kind n ≤ room).
    let same : None ≡ Some (length (living blocks kind n), nodes_at blocks kind n) = sym f ∙ s ∙ rw (le-leb (nodes_at blocks kind n) room h) refl in
    absurd (cc))
    (λ (h : room < nodes_at blocks kind n). h)
    (le_or_lt (nodes_at blocks kind n) room)

module _ (size room : ℕ) where
  fits_is : (n : ℕ) → n ≡ size → size ≤ room → Some n ≡ fitted size room
  unfolding fitted
  fits_is n e h = rw (le-leb size room h, e) refl

  long_is : room < size → None ≡ fitted size room
  unfolding fitted
  long_is h = rw (lt-leb size room h) refl

  pub fits_told : (r : Option ℕ) (n : ℕ) → r ≡ fitted size room → r ≡ Some n → (n ≡ size) × (size ≤ room)
  unfolding fitted
  fits_told r n s f =
      ⊎_elim
      (λ (h : size ≤ room).
      let same : Some n ≡ Some size = sym f ∙ s ∙ rw (le-leb size room h) refl in
      let a : n ≡ size = cc in
      (a, h))
      (λ (h : room < size).
      let same : Some n ≡ None = sym f ∙ s ∙ rw (lt-leb size room h) refl in
      absurd (cc))
      (le_or_lt size room)

  pub long_told : (r : Option ℕ) → r ≡ fitted size room → r ≡ None → room < size
  unfolding fitted
  long_told r s f =
      ⊎_elim
      (λ (h : size ≤ room).
      let same : None ≡ Some size = sym f ∙ s ∙ rw (le-leb size room h) refl in
      absurd (cc))
      (λ (h : room < size). h)
      (le_or_lt size room)

-- ── the returns of `measure_part` ──

-- the part of a kind without a root, and of one with a root
pub size_rootless : (blocks nodes : List ℕ) (kind : ℕ) → column nodes 0 kind ≡ 0 → part_size blocks nodes kind ≡ 0
unfolding part_size
size_rootless blocks nodes kind e = rw (eq-eqb (column nodes 0 kind) 0 e)

pub size_rooted : (blocks nodes : List ℕ) (kind : ℕ) → (column nodes 0 kind ≡ 0 → ⊥) → part_size blocks nodes kind ≡ nodes_at blocks kind (block_count blocks) + 1
unfolding part_size
size_rooted blocks nodes kind n = rw (ne_eqb (column nodes 0 kind) 0 n)

module _ (blocks nodes : List ℕ) (kind room root : ℕ) (at : root ≡ column nodes 0 kind) where
  pub part_none : root ≡ 0 → Some 0 ≡ fitted (part_size blocks nodes kind) room
  part_none z = fits_is (part_size blocks nodes kind) room 0 (sym (size_rootless blocks nodes kind (sym at ∙ z))) (omega (arith, size_rootless blocks nodes kind (sym at ∙ z)))

  module _ (some : root ≡ 0 → ⊥) (count : ℕ) (c : count ≡ block_count blocks) (r : Option (ℕ × ℕ)) (s : r ≡ share_of blocks kind count room) where
    size : part_size blocks nodes kind ≡ nodes_at blocks kind (block_count blocks) + 1
    size = size_rooted blocks nodes kind (λ z. some (at ∙ z))

    pub part_long : r ≡ None → None ≡ fitted (part_size blocks nodes kind) room
    part_long f = long_is (part_size blocks nodes kind) room (omega (arith, size, share_long blocks kind (block_count blocks) room r (rw c at s) f))

    module _ (many next : ℕ) (f : r ≡ Some (many, next)) where
      pub part_full : room ≤ next → None ≡ fitted (part_size blocks nodes kind) room
      part_full h = long_is (part_size blocks nodes kind) room (omega (arith, size, (share_told blocks kind (block_count blocks) room many next r (rw c at s) f).1))

      pub part-fits : next < room → Some (next + 1) ≡ fitted (part_size blocks nodes kind) room
      part-fits h =
          let k = share_told blocks kind (block_count blocks) room many next r (rw c at s) f in
          fits_is (part_size blocks nodes kind) room (next + 1) (omega (arith, size, k.1)) (omega (arith, size, k.1))

pub ruleset parting = (part_none, part_long, part_full, part-fits, arith)

-- ── the turns of `measure_parts` ──

pub parts_next : (blocks nodes : List ℕ) (k : ℕ) → parts_size blocks nodes (k + 1) ≡ parts_size blocks nodes k + part_size blocks nodes k
unfolding count_from sum_of
parts_next blocks nodes k =
    let start : 0 + k ≡ k = omega arith in
    let more : count_from 0 (k + 1) ≡ count_from 0 k ++ k ∷ [] = rw start at (count_from_append 0 k 1) in
    ap (λ (l : List ℕ). sum_of (map (part_size blocks nodes) l)) more
    ∙ ap sum_of (map-append (part_size blocks nodes) (count_from 0 k) (k ∷ []))
    ∙ sum-append (map (part_size blocks nodes) (count_from 0 k)) (part_size blocks nodes k ∷ [])
    ∙ omega arith

parts_more : (blocks nodes : List ℕ) (m n : ℕ) → m ≤ n → parts_size blocks nodes m ≤ parts_size blocks nodes n
parts_more blocks nodes m zero h = let e : m ≡ 0 = omega arith in rw e (omega arith)
parts_more blocks nodes m (suc n) h =
    let s : n + 1 ≡ suc n = omega arith in
    ⊎_elim (λ (k : m ≤ n). omega (arith, parts_more blocks nodes m n k, rw s at (parts_next blocks nodes n))) (λ (k : n < m). let e : m ≡ suc n = omega arith in rw e (omega arith))
    (le_or_lt m n)

-- the parts of the first k kinds go into the room
pub record PartsTo (blocks nodes : List ℕ) (room k used : ℕ) : Type 0 where
  pub sum : used ≡ parts_size blocks nodes k
  pub fits : used ≤ room

module _ (blocks nodes : List ℕ) (room : ℕ) where
  pub parts_start : PartsTo blocks nodes room 0 0
  unfolding count_from sum_of
  parts_start = record { sum = refl; fits = omega arith }

  module _ (k used : ℕ) (p : PartsTo blocks nodes room k used) (r : Option ℕ) (s : r ≡ fitted (part_size blocks nodes k) (room - used)) where
    pub parts_turn : (more : ℕ) → r ≡ Some more → PartsTo blocks nodes room (k + 1) (used + more)
    parts_turn more f =
        let t = fits_told (part_size blocks nodes k) (room - used) r more s f in
        record { sum = omega (arith, p.sum, t.0, parts_next blocks nodes k); fits = omega (arith, p.fits, t.0, t.1) }

    pub parts_long : r ≡ None → k < nodes_count → None ≡ fitted (parts_size blocks nodes nodes_count) room
    parts_long f h =
        long_is (parts_size blocks nodes nodes_count) room
        (omega (arith, p.sum, p.fits, long_told (part_size blocks nodes k) (room - used) r s f, parts_next blocks nodes k, parts_more blocks nodes (k + 1) nodes_count (omega arith)))

  pub parts_all : (k used kinds : ℕ) → PartsTo blocks nodes room k used → kinds ≡ nodes_count → k ≤ kinds → kinds ≤ k → Some used ≡ fitted (parts_size blocks nodes nodes_count) room
  parts_all k used kinds p five h g =
      let all : k ≡ nodes_count = omega arith in
      let sum : used ≡ parts_size blocks nodes nodes_count = rw all at p.sum in
      fits_is (parts_size blocks nodes nodes_count) room used sum (omega (arith, p.fits))

pub ruleset summing = (parts_start, parts_turn, parts_long, parts_all, refl, arith)

-- ── the returns of `measure` ──

module _ (blocks nodes entries : List ℕ) (room : ℕ) (r : Option ℕ) (s : r ≡ fitted (parts_size blocks nodes nodes_count) room) where
  pub plan_parts : r ≡ None → None ≡ fitted (file_size blocks nodes entries) room
  plan_parts f = long_is (file_size blocks nodes entries) room (omega (arith, long_told (parts_size blocks nodes nodes_count) room r s f))

  module _ (used : ℕ) (f : r ≡ Some used) (rows : ℕ) (p : rows ≡ nodes_used nodes) where
    pub plan_rows : room < used + 34 * rows → None ≡ fitted (file_size blocks nodes entries) room
    plan_rows h = long_is (file_size blocks nodes entries) room (omega (arith, fits_told (parts_size blocks nodes nodes_count) room r used s f))

    module _ (numbers : ℕ) (q : numbers ≡ entries_used entries) where
      pub plan_entries : room < used + 34 * rows + 8 * numbers → None ≡ fitted (file_size blocks nodes entries) room
      plan_entries h = long_is (file_size blocks nodes entries) room (omega (arith, fits_told (parts_size blocks nodes nodes_count) room r used s f))

      pub plan_fits : (spare : ℕ) → used + 34 * rows + 8 * numbers + spare ≡ room → Some (room - spare) ≡ fitted (file_size blocks nodes entries) room
      plan_fits spare h =
          let k = fits_told (parts_size blocks nodes nodes_count) room r used s f in
          fits_is (file_size blocks nodes entries) room (room - spare) (omega (arith, k)) (omega (arith, k))

pub ruleset planning = (plan_parts, plan_rows, plan_entries, plan_fits, arith)
